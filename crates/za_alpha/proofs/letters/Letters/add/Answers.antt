use Rattle.std.proofs.Common.{◌≡◌, ℕ, ◌+◌, ◌++◌, ◌∷◌, [], List, map, length, slice_index, slice_set, rules, sym, ap, subst, ◌∙◌, arith}
use Rattle.std.proofs.lemmas.List.{length-map, map-append}
use Rattle.za_alpha.specs.Alphabet.{DistributedAlphabet, NamedLetter}
use Rattle.za_alpha.specs.declared.letters.Entry.{Entry}
use Rattle.za_alpha.specs.Private.Index.{key_of, key_at, AreChains}
use Rattle.za_alpha.specs.Private.Begun.{letter_of_entry, letters_of, IsBegun}
use Rattle.za_alpha.proofs.Growing.{IsNextLetter, begun-more, index-more}
use Rattle.za_alpha.proofs.letters.Letters.add.Goals as goal

pub invariant_of-self-2 : goal.invariant_of-self-2
invariant_of-self-2 c =
    let entries : List Entry = c.self.inside.entries.items in
    let letters : List NamedLetter = map letter_of_entry entries in
    let l : NamedLetter = record { name = c.args.name.items; loc = c.args.procs } in
    let alphabet : DistributedAlphabet = letters_of c.self.inside in
    let items = c.in_ok-push.ensures.items in
    let more : map letter_of_entry c.push.new.self.items ≡ letters ++ l ∷ [] = ap (map letter_of_entry) items ∙ map-append letter_of_entry entries _ in
    let place : c.len-place.result ≡ length entries = search rules in
    let at : c.len-place.result ≡ length letters = omega (arith, length-map entries letter_of_entry) in
    let P : DistributedAlphabet → Type 0 = λ a. IsNextLetter a l in
    let asked : IsNextLetter c.args.self.now l =
    record { named = c.requires.named; room = c.requires.room; some = c.requires.some; below = c.requires.below; small = search rules } in
    let next : IsNextLetter alphabet l = subst P (sym c.self.view_is) asked in
    let key : c.key_of-key.result ≡ key_of l.name = c.key_of-key.ensures.value ∙ ap key_of c.as_slice.ensures.value in
    let room = next.room in
    let indexed = index-more letters l c.self.inside.index.first c.self.inside.index.next c.key_of-key.result c.self.invariant.indexed room key
    c.key_of-key.ensures.small in
    let made : List NamedLetter → DistributedAlphabet = λ ls. record { processes = c.self.inside.processes; letters = ls } in
    let B : List NamedLetter → Type 0 = λ ls. IsBegun (made ls) in
    let I : List NamedLetter → List ℕ → List ℕ → Type 0 = λ ls first next. AreChains (key_at ls) (length ls) first next in
    let first : c.add.new.self.first ≡ slice_set c.self.inside.index.first c.key_of-key.result (length letters + 1) =
    c.add.ensures.first ∙ ap (λ n. slice_set c.self.inside.index.first c.key_of-key.result (n + 1)) at in
    let after : c.add.new.self.next ≡ slice_set c.self.inside.index.next (length letters) (slice_index c.self.inside.index.first c.key_of-key.result) =
    c.add.ensures.next ∙ ap (λ n. slice_set c.self.inside.index.next n (slice_index c.self.inside.index.first c.key_of-key.result)) at in
    record {
      begun = subst B (sym more) (begun-more alphabet l c.self.invariant.begun next);
      indexed =
          subst (λ ls. I ls c.add.new.self.first c.add.new.self.next) (sym more)
          (subst (λ f. I (letters ++ l ∷ []) f c.add.new.self.next) (sym first)
          (subst (λ n. I (letters ++ l ∷ []) (slice_set c.self.inside.index.first c.key_of-key.result (length letters + 1)) n) (sym after) indexed));
    }
