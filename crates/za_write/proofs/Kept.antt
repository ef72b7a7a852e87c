-- A text that is cut back to what it was.
use Rattle.std.proofs.Common.{◌≡◌, ℕ, List, ◌++◌, length, take, ap, ◌∙◌}
use Rattle.std.proofs.Math.Seq.{take-append_seam}

pub cut_back : (len : ℕ) (old more text : List ℕ) → len ≡ length old → text ≡ old ++ more → take len text ≡ old
cut_back len old more text long grown = ap (λ k. take k text) long ∙ ap (take (length old)) grown ∙ take-append_seam old more
