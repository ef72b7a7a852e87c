-- A bench without local states is that of no letter's processes.
use Rattle.std.proofs.Common.{◌≡◌, ℕ, true, false, List, [], ◌∷◌, map}
use Rattle.za_alpha.specs.Words.{has}
use Rattle.za_alpha.specs.Alphabet.{loc_of}
use Rattle.za_dfa.specs.Tables.{CompleteDfa}
use Rattle.za_local.specs.Locals.{LocalState, local_after}
use Rattle.za_shared.specs.Records.{IsTransition}

no-processes : (f : ℕ → LocalState) (ps : List ℕ) (x : ℕ) → [] ≡ map f ps → has ps x ≡ true → ⊥
no-processes f [] x e h = let z : false ≡ true = h in cc
no-processes f (p ∷ ps) x e h = cc

pub of-none : (d : CompleteDfa) (a : ℕ) (made : LocalState) → IsTransition d a [] made
of-none d a made = λ w h x m. absurd (no-processes (local_after d w) (loc_of d.alphabet a) x h.locals m)
