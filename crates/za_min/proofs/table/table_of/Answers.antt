use Rattle.std.proofs.Common.{ℕ, List, map, ◌<◌, ap, subst, ◌∙◌, sym}
use Rattle.std.specs.Prelude.{All}
use Rattle.za_dfa.specs.Tables.{CompleteDfa, accepts_at, table_with}
use Rattle.za_min.proofs.TableSteps.{states-below, table-complete, table-renumbers}
use Rattle.za_min.proofs.Minimised.{IsMinimised, minimised}
use Rattle.za_min.proofs.table.table_of.Goals as goal
use Rattle.za_min.proofs.table.table_of.Goals.{After-of_table}

pub accepting_of-requires : goal.accepting_of-requires
accepting_of-requires c =
    let P : List ℕ → Type 0 = λ xs. All (λ q. q < c.args.dfa.now.states) xs in
    subst P (sym c.deref.ensures.value)
    (states-below c.args.dfa.now c.args.classes.now c.requires.classes c.args.found.now.words.items c.args.found.now.states.items c.requires.found)

pub of_table-requires : goal.of_table-requires
of_table-requires c =
    table-complete c.args.dfa.now c.args.classes.now c.requires.classes c.args.found.now.words.items c.args.found.now.states.items c.requires.found
    c.in_ok-alphabet.alphabet (c.in_ok-alphabet.ensures ∙ c.alphabet.ensures)
    c.in_ok-accepting.accepting.items (c.in_ok-accepting.ensures ∙ ap (map (accepts_at c.args.dfa.now)) c.deref.ensures.value) c.in_ok-targets.targets.items
    c.in_ok-targets.ensures

-- what is found is the minimal table
pub returns : goal.returns
returns c =
    let dfa = c.args.dfa.now in
    let classes = c.args.classes.now in
    let words = c.args.found.now.words.items in
    let states = c.args.found.now.states.items in
    let same = c.in_ok-alphabet.ensures ∙ c.alphabet.ensures in
    let answers = c.in_ok-accepting.ensures ∙ ap (map (accepts_at dfa)) c.deref.ensures.value in
    let targets = c.in_ok-targets.targets.items in
    let P : CompleteDfa → Type 0 = λ table. IsMinimised dfa words table in
    let m = subst P (sym c.of_table.ensures)
    (minimised dfa classes c.requires.classes words states c.requires.found
    (table_with c.in_ok-alphabet.alphabet 0 c.in_ok-accepting.accepting.items targets)
    (table-complete dfa classes c.requires.classes words states c.requires.found c.in_ok-alphabet.alphabet same c.in_ok-accepting.accepting.items answers
    targets c.in_ok-targets.ensures) same
    (table-renumbers dfa classes c.requires.classes words states c.requires.found c.in_ok-alphabet.alphabet same c.in_ok-accepting.accepting.items answers
    targets c.in_ok-targets.ensures)) in
    record { minimal = m.minimal; numbered = m.numbered; no_larger = m.no_larger }
