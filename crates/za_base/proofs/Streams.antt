-- One more read after what was taken, and one more write after what was appended.
use Rattle.std.proofs.Common.{◌≡◌, ℕ, ◌+◌, ◌-◌, ◌≤◌, List, ◌++◌, length, take, drop, Option, sym, ap, subst, ◌∙◌, length-append}
use Rattle.std.proofs.lemmas.List.{length-take-le}
use Rattle.std.proofs.Math.Seq.{take-add}
use Rattle.std.specs.Io.KnownBytes.{Consumes, Appends}
use Rattle.std.proofs.KnownBytes.{Consumes-trans, Appends-trans}
use Rattle.za_base.specs.Read.{Took}
use Rattle.za_base.proofs.Bytes.{rest_of}

-- after `text` was taken, a read took the first n bytes of its buffer
pub took_more : (a b c : Option (List ℕ)) (text into : List ℕ) (n : ℕ) (P : ℕ → Type 0)
    → Consumes a b text → Consumes b c (take n into) → n ≤ length into → P (length text + n) → Took a c P
took_more a b c text into n P before now h p =
    let long : length text + n ≡ length (text ++ take n into) = sym (length-append text (take n into) ∙ ap (λ k. length text + k) (length-take-le n into h)) in
    (text ++ take n into, (Consumes-trans a b c text (take n into) before now, subst P long p))

-- after the text up to `at` was appended, a write of the rest appended n bytes
pub appends_more : (a b c : Option (List ℕ)) (text : List ℕ) (at n : ℕ)
    → Appends a b (take at text) → Appends b c (take n (take (length text - at) (drop at text))) → Appends a c (take (at + n) text)
appends_more a b c text at n before now =
    let rest : Appends b c (take n (drop at text)) = subst (λ (l : List ℕ). Appends b c (take n l)) (rest_of at text) now in
    rw (take-add at n text) (Appends-trans a b c (take at text) (take n (drop at text)) before rest)
