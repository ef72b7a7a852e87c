use Rattle.std.proofs.Common.{◌≡◌, ◌<◌, ◌^◌, ◌∙◌, suc, ℕ, Bool, List, length, map, ap, sym, subst}
use Rattle.std.specs.Prelude.{All}
use Rattle.za_dfa.specs.Tables.{CompleteDfa}
use Rattle.za_form.specs.Automata.{IsValueDfa}
use Rattle.za_form.specs.Private.Numbers.{positions_of}
use Rattle.za_form.proofs.Values.{states_below, table_complete, value_dfa}
use Rattle.za_form.proofs.dfa.dfa_of.Goals as goal

pub accepting_of-requires : goal.accepting_of-requires
accepting_of-requires c =
    let signs = c.args.form.now in
    let letters = length c.as_slice.result.now in
    let found = c.in_ok-found.ensures in
    let states = c.in_ok-found.found.states.items in
    let P : List ℕ → Type 0 = λ xs. All (λ m. m < 2 ^ suc (length signs)) xs in
    subst P (sym c.as_slice-2.ensures.value) (states_below signs letters found.0 found.1.0 states c.in_ok-found.found.targets.items found.1.1)

-- there is a mask for each letter
mask_each : (letters count : ℕ) (masks items : List ℕ) → count ≡ letters → length items ≡ count → masks ≡ items → letters ≡ length masks
mask_each letters count masks items e size is = sym e ∙ sym size ∙ ap length (sym is)

pub of_table-requires : goal.of_table-requires
of_table-requires c =
    let signs = c.args.form.now in
    let letters = length c.as_slice.result.now in
    let found = c.in_ok-found.ensures in
    let states = c.in_ok-found.found.states.items in
    let f : ℕ → Bool = (positions_of signs letters).accepts in
    table_complete signs letters found.0 found.1.0 states c.in_ok-found.found.targets.items found.1.1 c.args.alphabet c.letters.ensures.whole
    (mask_each (length c.args.alphabet.letters) c.letters.result c.as_slice.result.now c.in_ok-masks.masks.items c.letters.ensures.value
    c.in_ok-masks.ensures.size c.as_slice.ensures.value)
    c.in_ok-accepting.accepting.items (c.in_ok-accepting.ensures ∙ ap (map f) c.as_slice-2.ensures.value)

pub returns : goal.returns
returns c =
    let signs = c.args.form.now in
    let letters = length c.as_slice.result.now in
    let found = c.in_ok-found.ensures in
    let states = c.in_ok-found.found.states.items in
    let f : ℕ → Bool = (positions_of signs letters).accepts in
    let P : CompleteDfa → Type 0 = λ d. IsValueDfa c.args.alphabet signs d in
    subst P (sym c.of_table.ensures)
    (value_dfa signs letters found.0 found.1.0 states c.in_ok-found.found.targets.items found.1.1 c.args.alphabet c.letters.ensures.whole
    (mask_each (length c.args.alphabet.letters) c.letters.result c.as_slice.result.now c.in_ok-masks.masks.items c.letters.ensures.value
    c.in_ok-masks.ensures.size c.as_slice.ensures.value)
    c.in_ok-accepting.accepting.items (c.in_ok-accepting.ensures ∙ ap (map f) c.as_slice-2.ensures.value))
