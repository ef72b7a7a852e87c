-- What the steps of a firing know of records.
use Rattle.std.proofs.Common.{◌≡◌, ℕ, ◌<◌, ◌==◌, Bool, true, List, Some, ap, ◌∙◌, arith, eq-eqb}
use Rattle.std.specs.Prelude.{count_by}
use Rattle.std.specs.Map.{lookup}
use Rattle.std.proofs.lemmas.Bool.{or_left, or_right}
use Rattle.za_alpha.specs.Words.{has}
use Rattle.za_records.specs.Shelf.{count}
use Rattle.za_cache.specs.Lines.{LineKey, is_key}
use Rattle.za_shared.specs.Records.{Records, AreRecords}
use Rattle.za_shared.proofs.Carrying.{names}
use Rattle.za_shared.proofs.LineLists.{split-found, count-found, key-is}

pub line-counts : (test : LineKey → Bool) (ls : List (LineKey × ℕ)) (key : ℕ) → lookup test ls ≡ Some key → 0 < count_by (names key) ls
line-counts test ls key h =
    let s = split-found test ls key h in count-found test (names key) ls s.0 (or_left (s.0.value == key) (has s.0.key.inputs key) (eq-eqb s.0.value key s.1))

-- the output of a line is live
pub line-live : (r : Records) → AreRecords r → (test : LineKey → Bool) (key : ℕ) → lookup test r.lines ≡ Some key → 0 < count r.shelf key
line-live r ok test key h = let n = line-counts test r.lines key h in let q = ok.counts key in omega arith

-- so are its inputs
pub inputs-named : (letter : ℕ) (inputs : List ℕ) (ls : List (LineKey × ℕ)) (key : ℕ) → lookup (is_key letter inputs) ls ≡ Some key → (k : ℕ) →
    has inputs k ≡ true →
    0 < count_by (names k) ls
inputs-named letter inputs ls key h k m =
    let s = split-found (is_key letter inputs) ls key h in
    count-found (is_key letter inputs) (names k) ls s.0
    (or_right (s.0.value == k) (has s.0.key.inputs k) (ap (λ (l : LineKey). has l.inputs k) (key-is letter inputs s.0.key s.0.passes) ∙ m))
