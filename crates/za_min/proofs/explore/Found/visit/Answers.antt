use Rattle.std.proofs.Common.{◌≡◌, ◌≢◌, ◌<◌, ℕ, List, subst, length, slice_index}
use Rattle.za_min.specs.Private.Exploring.{merged_of}
use Rattle.za_min.proofs.FoundSteps.{visited-there, visited-new}
use Rattle.za_min.proofs.explore.Found.visit.Goals as goal

pub returns-in-Some-clause-found : goal.returns-in-Some-clause-found
returns-in-Some-clause-found c =
    let states = c.args.self.now.states.items in
    let k = c.in-Some.field-0 in
    let P : List ℕ → Type 0 = λ xs. (k < length xs) × (slice_index xs k ≡ c.next-next.result) in
    let there = subst P c.deref.ensures.value c.in-Some.ensures in
    visited-there (merged_of c.args.dfa.now c.args.classes.now) c.args.at c.args.a.0 c.args.self.now.words.items states c.next-next.result k c.requires.found
    c.requires.place c.next-next.ensures there.0 there.1

pub returns-in_ok-add-in-None-clause-found : goal.returns-in_ok-add-in-None-clause-found
returns-in_ok-add-in-None-clause-found c =
    let states = c.args.self.now.states.items in
    let P : List ℕ → Type 0 = λ xs. (k : ℕ) → k < length xs → slice_index xs k ≢ c.next-next.result in
    let nowhere = subst P c.deref.ensures.value c.in-None.ensures in
    visited-new (merged_of c.args.dfa.now c.args.classes.now) c.args.at c.args.a.0 c.args.self.now.words.items c.add.new.self.words.items states
    c.add.new.self.states.items c.next-next.result
    c.requires.found c.requires.place c.requires.letter c.next-next.ensures nowhere c.in_ok-add-in-None.ensures.words c.in_ok-add-in-None.ensures.states
