use Rattle.std.proofs.Common.{◌≡◌, ℕ, zero, suc, ◌*◌, ◌/◌, ◌%◌, ◌^◌, ◌<◌, List, length, get_or, map, sym, ap, subst, ◌∙◌, arith}
use Rattle.std.specs.List.{range_with_len}
use Rattle.std.proofs.Math.Nat.{mod-lt}
use Rattle.std.proofs.lemmas.Nat.{div-add-mod', div_below}
use Rattle.std.proofs.lemmas.List.FromFn.{length-map-range_with_len, fill_by_all}
use Rattle.std.specs.Vec.{with_items}
use Rattle.std.proofs.lemmas.List.{with_items_is}
use Rattle.std.proofs.lemmas.List.FromFn.{get_or-map-range_with_len}
use Rattle.za_dfa.proofs.GridLemmas.{row_of_cell}
use Rattle.za_residue.specs.Functions.{identities}
use Rattle.za_residue.proofs.residues.Residues.blank.Goals as goal
use Rattle.za_residue.proofs.residues.Residues.blank.Goals.{After-write_identities}

-- the values that were written
values : (c : After-write_identities) →
    (with_items c.in_ok-values.values c.write_identities.new.block).items ≡ map (λ i. i % c.args.states) (range_with_len 0 (2 ^ c.args.n * c.args.states))
values c =
    let k : ℕ = c.args.states in
    let block = c.write_identities.new.block in
    let size : length c.in_ok-values.values.items ≡ 2 ^ c.args.n * k =
    sym c.in_ok-values.values.ok.0 ∙ c.in_ok-values.ensures.len ∙ ap (λ m. m * k) c.set_count.ensures.value in
    let long : length block ≡ 2 ^ c.args.n * k = c.write_identities.auto.block ∙ ap length c.as_mut_slice.ensures.value ∙ size in
    with_items_is c.in_ok-values.values block (c.write_identities.auto.block ∙ ap length c.as_mut_slice.ensures.value ∙ sym c.in_ok-values.values.ok.0)
    ∙ fill_by_all (λ i. i % k) block (2 ^ c.args.n * k) 0 long (λ i l.
    let some : 0 < k = positive (2 ^ c.args.n) k i l in
    ap (λ j. get_or block j 0) (sym (div-add-mod' i k)) ∙ c.write_identities.ensures (i / k) (i % k) (div_below i k (2 ^ c.args.n) some l) (mod-lt i some))
  where
    positive : (m k i : ℕ) → i < m * k → 0 < k
    positive m zero i l = absurd (omega arith)
    positive m (suc k) i l = omega arith

pub invariant_of-result : goal.invariant_of-result
invariant_of-result c =
    let b = (goal.at.invariant_of-result c).After-write_identities in
    let f : ℕ → ℕ = λ i. i % c.args.states in
    let size : ℕ = 2 ^ c.args.n * c.args.states in
    let long = ap length (values b) ∙ length-map-range_with_len f 0 size in
    record {
      few_processes = c.requires.processes;
      few_states = c.requires.states;
      values_length = long;
      values_below = λ k d l.
          let P : ℕ → Type 0 = λ v. v < c.args.states in
          subst P (sym (ap (λ xs. get_or xs k d) (values b) ∙ get_or-map-range_with_len f 0 size k k d (omega arith) (omega arith)))
          (row_of_cell k (2 ^ c.args.n) c.args.states (omega arith)).1;
    }

functions : (c : After-write_identities) →
    record { processes = c.args.n; states = c.args.states; values = (with_items c.in_ok-values.values c.write_identities.new.block).items }
    ≡ identities c.args.n c.args.states
functions c = ap (λ (xs : List ℕ). record { processes = c.args.n; states = c.args.states; values = xs }) (values c)

pub returns-clause-functions : goal.returns-clause-functions
returns-clause-functions c = functions (goal.at.returns-clause-functions c).After-write_identities

pub returns-clause-opening : goal.returns-clause-opening
returns-clause-opening c = λ loc d p e. functions (goal.at.returns-clause-opening c).After-write_identities ∙ ap (identities c.args.n) (sym e)
