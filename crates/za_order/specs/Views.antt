-- What the processes know of the events of a word: views (Mukund and Sohoni 1997; Mukund 2012). `who i` are the
-- processes of the event at position i, and the first n events have happened.
use Rattle.std.specs.Prelude.{◌≡◌, ℕ, zero, suc, ◌<◌, Bool, false, ◌||◌, List, [], ◌∷◌, ◌++◌, if◌then◌else◌, ◌==◌}
use Rattle.std.specs.Prelude.{IsTrue, slice_index}
use Rattle.za_alpha.specs.Words.{has, meets}

-- the participants of the event at position i of the word: the processes of its letter
abbrev pub participants : (ℕ → List ℕ) → List ℕ → ℕ → List ℕ
participants loc w i = loc (slice_index w i)

-- whether the event i is in the view of the processes ps after the first n events
abbrev pub in_view : (ℕ → List ℕ) → ℕ → List ℕ → ℕ → Bool
in_view who zero ps i = false
in_view who (suc n) ps i =
    if meets (who n) ps
    then i == n || in_view who n (ps ++ who n) i
    else in_view who n ps i

-- whether the event i is in the past of the event e: in the view of its participants just after it
abbrev pub in_past : (ℕ → List ℕ) → ℕ → ℕ → Bool
in_past who e i = in_view who (suc e) (who e) i

-- a chain of events leads from i up to k, in which neighbours share a process
pub data Chain (who : ℕ → List ℕ) : ℕ → ℕ → Type 0 where
  Here : {i : ℕ} → Chain who i i
  Then :
      {i j k : ℕ} (p : ℕ) → Chain who i j → j < k → IsTrue (has (who j) p) → IsTrue (has (who k) p) → Chain who i k

-- f is in the views of p and of q, and is in the past of no other event that is in both
pub record IsMaximalInBoth (who : ℕ → List ℕ) (n p q f : ℕ) : Type 0 where
  pub in_one : IsTrue (in_view who n (p ∷ []) f)
  pub in_other : IsTrue (in_view who n (q ∷ []) f)
  pub maximal :
      (g : ℕ) → IsTrue (in_view who n (p ∷ []) g) → IsTrue (in_view who n (q ∷ []) g) → IsTrue (in_past who g f) → g ≡ f
