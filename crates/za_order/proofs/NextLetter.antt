-- A word with one letter more.
use Rattle.std.proofs.Common.{◌≡◌, ℕ, suc, ◌<◌, List, [], ◌∷◌, ◌++◌, length, slice_index, ap, arith, length-append}
use Rattle.std.proofs.Math.Seq.{get_or-append_seam}
use Rattle.std.proofs.lemmas.List.{get_or_append_left}
use Rattle.std.proofs.lemmas.List.Elements.{All-push}
use Rattle.za_alpha.specs.Words.{has, IsWord}
use Rattle.za_order.specs.Views.{participants}

pub length-next : (w : List ℕ) (a : ℕ) → length (w ++ a ∷ []) ≡ suc (length w)
length-next w a = omega (arith, length-append w (a ∷ []))

pub word-next : (letters : ℕ) (w : List ℕ) (a : ℕ) → IsWord letters w → a < letters → IsWord letters (w ++ a ∷ [])
word-next letters w a word small = All-push (λ b. b < letters) w a word small

-- it agrees with the word at each position of the word
pub agrees : (w : List ℕ) (a j : ℕ) → j < length w → slice_index (w ++ a ∷ []) j ≡ slice_index w j
agrees w a j k = get_or_append_left w (a ∷ []) 0 j k

-- and the letter is the last
pub seam : (w : List ℕ) (a : ℕ) → slice_index (w ++ a ∷ []) (length w) ≡ a
seam w a = get_or-append_seam w a [] 0

pub at-seam : (loc : ℕ → List ℕ) (w : List ℕ) (a p : ℕ) → has (participants loc (w ++ a ∷ []) (length w)) p ≡ has (loc a) p
at-seam loc w a p = ap (λ v. has (loc v) p) (seam w a)
