use Rattle.std.proofs.Common.{◌≡◌, ◌≢◌, ◌<◌, ℕ, List, length, slice_index, subst, arith}
use Rattle.std.specs.Prelude.{MatchOption}
use Rattle.za_min.specs.Private.Exploring.{merged_of}
use Rattle.za_min.proofs.FoundSteps.{words-few}
use Rattle.za_min.proofs.TableSteps.{some-place, at-place, target-found, target-is, states-long}
use Rattle.za_min.proofs.table.target.Goals as goal
use Rattle.za_min.proofs.table.target.Goals.{After-unwrap}

pub unwrap-requires : goal.unwrap-requires
unwrap-requires c =
    let states = c.args.found.now.states.items in
    let P : List ℕ → Type 0 = λ xs. MatchOption c.place_of.result ((k : ℕ) → k < length xs → slice_index xs k ≢ c.next-next.result)
    (λ k. (k < length xs) × (slice_index xs k ≡ c.next-next.result)) in
    let found = target-found (merged_of c.args.dfa.now c.args.classes.now) c.args.found.now.words.items states c.requires.found c.args.k c.args.a.0
    c.next-next.result c.requires.place c.requires.letter c.next-next.ensures in
    some-place c.place_of.result states c.next-next.result (subst P c.deref.ensures.value c.place_of.ensures) found.0 found.1 found.2

there : (c : After-unwrap) → (c.unwrap.result < length c.args.found.now.states.items)
    × (slice_index c.args.found.now.states.items c.unwrap.result ≡ c.next-next.result)
there c =
    let P : List ℕ → Type 0 = λ xs. (c.unwrap.result < length xs) × (slice_index xs c.unwrap.result ≡ c.next-next.result) in
    subst P c.deref.ensures.value (at-place c.place_of.result c.deref.result.now c.next-next.result c.unwrap.result c.place_of.ensures c.unwrap.ensures)

pub overflow_cast-result : goal.overflow_cast-result
overflow_cast-result c =
    let d = merged_of c.args.dfa.now c.args.classes.now in
    let words = c.args.found.now.words.items in
    let states = c.args.found.now.states.items in
    let few = words-few c.args.dfa.now c.args.classes.now c.requires.classes c.requires.found.done 0 words states c.requires.found.found in
    let long = states-long d words states c.requires.found in
    let most = c.requires.classes.whole.few_states in
    let within = (there c).0 in omega arith

pub returns : goal.returns
returns c =
    let t = there c in
    target-is (merged_of c.args.dfa.now c.args.classes.now) c.args.found.now.words.items c.args.found.now.states.items c.requires.found c.args.k c.args.a.0
    c.next-next.result c.unwrap.result c.next-next.ensures t.0 t.1
