-- Lists with an entry for each process, after an event.
use Rattle.std.proofs.Common.{◌≡◌, ℕ, ◌<◌, ◌&&◌, not, Bool, false, List, length, sym, ◌∙◌, arith, [], ◌∷◌, ◌++◌, ap}
use Rattle.std.proofs.lemmas.List.{ext_get_or, map-append}
use Rattle.za_alpha.specs.Words.{has}
use Rattle.za_alpha.specs.declared.word.Letter.{Letter}
use Rattle.za_alpha.specs.Letters.{numbers}
use Rattle.za_machine.specs.Machine.{is_in, without}
use Rattle.za_machine.proofs.States.{at-without, length-without}

pub without_is : (ps : List ℕ) (bs cs : List Bool) → length cs ≡ length bs → ((p : ℕ) → p < length bs → is_in cs p ≡ (is_in bs p && not (has ps p))) →
    cs ≡ without ps 0 bs
without_is ps bs cs e h = ext_get_or false cs (without ps 0 bs) (e ∙ sym (length-without ps bs)) (λ p l. h p (omega arith) ∙ sym (at-without ps bs p))

pub journal-more : (xs ys : List Letter) (a : Letter) → ys ≡ xs ++ a ∷ [] → numbers ys ≡ numbers xs ++ a.0 ∷ []
journal-more xs ys a e = ap numbers e ∙ map-append (λ (l : Letter). l.0) xs (a ∷ [])
