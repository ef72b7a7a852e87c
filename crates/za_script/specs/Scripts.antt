-- Scripts, and the words that weave them. The script of a process is the word that its projection has to
-- be; `scripts p` is the script of the process p.
use Rattle.std.specs.Prelude.{◌≡◌, ℕ, zero, suc, ◌+◌, ◌<◌, Bool, true, false}
use Rattle.std.specs.Prelude.{◌&&◌, List, [], ◌∷◌, ◌++◌, ◌==◌, IsFalse, nat_lt, slice_index, length}
use Rattle.std.specs.List.{list_all}
use Rattle.za_alpha.specs.Words.{IsWord, projection}
use Rattle.za_alpha.specs.Search.{least}

-- whether the script has the letter a at the place n
abbrev pub comes_next : List ℕ → ℕ → ℕ → Bool
comes_next script n a = nat_lt n (length script) && (slice_index script n == a)

-- whether the letter is enabled after the word: it is the next letter of each of its processes
abbrev pub is_enabled : (ℕ → List ℕ) → (ℕ → List ℕ) → List ℕ → ℕ → Bool
is_enabled loc scripts w a = list_all (λ p. comes_next (scripts p) (length (projection loc p w)) a) (loc a)

-- the word w, and then the least enabled letter as long as there is one, at most so many times
abbrev pub weave_from : (ℕ → List ℕ) → ℕ → (ℕ → List ℕ) → ℕ → List ℕ → List ℕ
weave_from loc letters scripts zero w = w
weave_from loc letters scripts (suc more) w =
    let a = least (is_enabled loc scripts w) letters in
    elim (nat_lt a letters) [ true ↦ weave_from loc letters scripts more (w ++ a ∷ []) | false ↦ w ]

-- the lengths of the first n scripts together
abbrev pub total : (ℕ → List ℕ) → ℕ → ℕ
total scripts zero = 0
total scripts (suc n) = total scripts n + length (scripts n)

-- the weave: from the empty word on, the least enabled letter until none is enabled
abbrev pub weave : (ℕ → List ℕ) → ℕ → ℕ → (ℕ → List ℕ) → List ℕ
weave loc letters processes scripts = weave_from loc letters scripts (total scripts processes) []

-- the word weaves the scripts: its projection on each process is the script of that process
pub record Weaves (loc : ℕ → List ℕ) (letters : ℕ) (scripts : ℕ → List ℕ) (w : List ℕ) : Type 0 where
  pub word : IsWord letters w
  pub whole : (p : ℕ) → projection loc p w ≡ scripts p

-- the word fits the scripts: its projection on each process begins the script of that process
pub record Fits (loc : ℕ → List ℕ) (letters : ℕ) (scripts : ℕ → List ℕ) (w : List ℕ) : Type 0 where
  pub word : IsWord letters w
  pub prefix : (p : ℕ) → (rest : List ℕ) × (projection loc p w ++ rest ≡ scripts p)

-- the word fits the scripts, and no letter is enabled after it
pub record FitsMaximally (loc : ℕ → List ℕ) (letters : ℕ) (scripts : ℕ → List ℕ) (w : List ℕ) : Type 0 where
  pub fits : Fits loc letters scripts w
  pub stuck : (a : ℕ) → a < letters → IsFalse (is_enabled loc scripts w a)
