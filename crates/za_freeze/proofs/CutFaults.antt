-- The refusal of a text whose document is right.
use Rattle.std.proofs.Common.{◌≡◌, ◌∙◌, ap, ℕ, zero, suc, ◌+◌, ◌≤◌, not, List, [], ◌∷◌, Option, Some, None, length, arith}
use Rattle.std.specs.Prelude.{slice_get}
use Rattle.std.specs.Option.{option_or, option_map}
use Rattle.std.proofs.lemmas.List.{take_all}
use Rattle.std.proofs.lemmas.List.Sums.{prefix_len-le-length}
use Rattle.za_text.specs.Lines.{RawLine, lines_of}
use Rattle.za_text.specs.Divided.{lines_through}
use Rattle.za_text.specs.declared.kind.Kind.{Kind}
use Rattle.za_text.specs.declared.kind.Kind.TheVariants.{NoEnd}
use Rattle.za_lang.specs.Documents as document
use Rattle.za_lang.specs.Documents.{next_fault}
use Rattle.za_freeze.specs.Frozen.{woven_of}
use Rattle.za_freeze.specs.Thawing.{is_cut_line, bytes_before, frozen_job, cut_place, cut_line, cut_line_fault, cut_fault, reading_fault}

past-all : (ls : List RawLine) (n : ℕ) → slice_get ls n ≡ None → length ls ≤ n
past-all [] n h = omega arith
past-all (l ∷ ls) zero h = cc
past-all (l ∷ ls) (suc n) h = let k = past-all ls n h in omega arith

module _ (bytes : List ℕ) (right : document.fault_of (bytes_before bytes) ≡ None) where
  abbrev most : ℕ
  most = length (woven_of (frozen_job bytes))

  read-to : reading_fault bytes ≡ cut_fault most (cut_place bytes) (cut_line bytes)
  read-to = ap (λ f. option_or f (cut_fault most (cut_place bytes) (cut_line bytes))) right

  -- without a cut line the end is missing
  pub read-none : (k : ℕ) → cut_line bytes ≡ None → k ≡ length (lines_through is_cut_line (lines_of bytes)) →
      reading_fault bytes ≡ Some (record { line = k + 1; kind = NoEnd })
  read-none k none count =
      let ls = lines_of bytes in
      let past = past-all ls (cut_place bytes) none in
      let few = prefix_len-le-length (λ l. not (is_cut_line l)) ls in
      let all = ap length (take_all (cut_place bytes + 1) ls (omega arith)) in
      let same : cut_place bytes ≡ k = omega arith in
      read-to ∙ ap (cut_fault most (cut_place bytes)) none ∙ ap (λ n. Some (next_fault n NoEnd)) same

  -- with one it is that of this line
  pub read-some : (l : RawLine) (m : ℕ) (fault : Option Kind) → cut_line bytes ≡ Some l → most ≡ m → cut_line_fault m l ≡ fault →
      reading_fault bytes ≡ option_map (next_fault (cut_place bytes)) fault
  read-some l m fault some count is =
      read-to ∙ ap (cut_fault most (cut_place bytes)) some
      ∙ ap (λ n. option_map (next_fault (cut_place bytes)) (cut_line_fault n l)) count ∙ ap (option_map (next_fault (cut_place bytes))) is
