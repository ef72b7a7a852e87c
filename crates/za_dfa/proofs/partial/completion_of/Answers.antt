use Rattle.std.proofs.Common.{◌≡◌, ◌∙◌, ◌+◌, true, false, ◌++◌, ◌∷◌, [], length, map, replicate, sym, subst, rules, length-append}
use Rattle.std.specs.Prelude.{unwrap_or}
use Rattle.za_dfa.specs.Tables.{table_with, IsComplete}
use Rattle.za_dfa.specs.Private.Views.{table_with_cells}
use Rattle.za_dfa.specs.Partials.{completion}
use Rattle.za_dfa.proofs.Completing.{completion_by, completion_complete}
use Rattle.za_dfa.proofs.partial.completion_of.Goals as goal

pub of_table-requires : goal.of_table-requires
of_table-requires c =
    let partial = table_with_cells c.args.alphabet c.args.start c.args.accepting.items c.args.cells.now in
    let same : completion partial ≡ table_with c.args.alphabet c.args.start c.args.accepting.items c.in_ok-targets.targets.items =
    completion_by partial true (sym c.are_whole.ensures ∙ c.if-are_whole.true) ∙ search rules in
    subst IsComplete same (completion_complete partial c.requires)

pub of_table-requires-2 : goal.of_table-requires-2
of_table-requires-2 c =
    let partial = table_with_cells c.args.alphabet c.args.start c.args.accepting.items c.args.cells.now in
    let whole = sym c.are_whole.ensures ∙ c.if-are_whole.false in
    let accepting : c.push.new.self.items ≡ c.args.accepting.items ++ false ∷ [] = search rules in
    let targets : c.extend_from_slice.new.self.items ≡ map (λ cell. unwrap_or cell partial.states) c.args.cells.now
    ++ replicate (length c.args.alphabet.letters) partial.states = search rules in
    let states : partial.states + 1 ≡ length c.push.new.self.items = rw accepting (sym (length-append c.args.accepting.items (false ∷ []))) in
    let same : completion partial ≡ table_with c.args.alphabet c.args.start c.push.new.self.items c.extend_from_slice.new.self.items =
    completion_by partial false whole ∙ search (rules, states, accepting, targets) in
    subst IsComplete same (completion_complete partial c.requires)
