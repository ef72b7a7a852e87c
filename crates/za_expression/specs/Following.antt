-- First, last and following occurrences, and the values that they give (McNaughton and Yamada 1960; Glushkov 1961).
use Rattle.std.specs.Prelude.{ℕ, zero, suc, Bool, true, false, not, ◌&&◌, ◌||◌, ◌==◌, List, [], ◌∷◌, filter}
use Rattle.std.specs.List.{list_any, range_with_len}
use Rattle.za_dfa.specs.Automata.{walk}
use Rattle.za_expression.specs.Plain.{Plain, One, Occurrence, Sequence, Or, Star}
use Rattle.za_expression.specs.Forms.{Form, Part, And, Not}

-- whether the empty word is in the meaning
abbrev pub nullable : Plain → Bool
nullable One = true
nullable (Occurrence p) = false
nullable (Sequence a b) = nullable a && nullable b
nullable (Or a b) = nullable a || nullable b
nullable (Star a) = true

-- whether a marked word begins with q
abbrev pub is_first : Plain → ℕ → Bool
is_first One q = false
is_first (Occurrence p) q = p == q
is_first (Sequence a b) q = is_first a q || (nullable a && is_first b q)
is_first (Or a b) q = is_first a q || is_first b q
is_first (Star a) q = is_first a q

-- whether a marked word ends with p
abbrev pub is_last : Plain → ℕ → Bool
is_last One p = false
is_last (Occurrence q) p = q == p
is_last (Sequence a b) p = is_last b p || (nullable b && is_last a p)
is_last (Or a b) p = is_last a p || is_last b p
is_last (Star a) p = is_last a p

-- whether q stands directly after p in a marked word
abbrev pub follows : Plain → ℕ → ℕ → Bool
follows One p q = false
follows (Occurrence r) p q = false
follows (Sequence a b) p q = follows a p q || (follows b p q || (is_last a p && is_first b q))
follows (Or a b) p q = follows a p q || follows b p q
follows (Star a) p q = follows a p q || (is_last a p && is_first a q)

-- whether q may stand next after p, where 0 stands for the start
abbrev pub leads : Plain → ℕ → ℕ → Bool
leads e zero q = is_first e q
leads e (suc p) q = follows e (suc p) q

-- whether a marked word may end at p
abbrev pub ends : Plain → ℕ → Bool
ends e zero = nullable e
ends e (suc p) = is_last e (suc p)

-- whether q may stand next after p in one of the plain parts
abbrev pub goes : Form → ℕ → ℕ → Bool
goes (Part e) p q = leads e p q
goes (And a b) p q = goes a p q || goes b p q
goes (Not a) p q = goes a p q

-- whether words of this value are in the meaning
abbrev pub accepts : Form → List ℕ → Bool
accepts (Part e) places = list_any (λ p. ends e p) places
accepts (And a b) places = accepts a places && accepts b places
accepts (Not a) places = not (accepts a places)

-- the places from 1 to n with this letter, after one of these places
abbrev pub step : (ℕ → ℕ → Bool) → (ℕ → ℕ) → ℕ → List ℕ → ℕ → List ℕ
step leads letter n places a =
    filter (λ q. letter q == a && list_any (λ p. leads p q) places) (range_with_len 1 n)

-- the value of a word by following places; the empty word's is the start alone
abbrev pub following_value : (ℕ → ℕ → Bool) → (ℕ → ℕ) → ℕ → List ℕ → List ℕ
following_value leads letter n u = walk (step leads letter n) (0 ∷ []) u
