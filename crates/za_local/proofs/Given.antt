-- What local states after a word hold.
use Rattle.std.proofs.Common.{◌≡◌, ℕ, ◌<◌, List, [], ◌∷◌, length, get_or, map, refl, ap, ◌∙◌, arith}
use Rattle.std.proofs.lemmas.List.FromFn.{fill_by_all, get_or-map-range_with_len, length-map-range_with_len}
use Rattle.za_alpha.specs.Words.{IsWord}
use Rattle.za_alpha.specs.Alphabet.{loc_of}
use Rattle.za_dfa.specs.Tables.{CompleteDfa}
use Rattle.za_gossip.specs.Rows.{rows_after}
use Rattle.za_residue.specs.Residues.{table_residues}
use Rattle.za_local.specs.Locals.{LocalState, local_after, AreLocalsAfter, AreAllLocalsAfter}
use Rattle.za_local.specs.Benches.{gossips_of, residues_of}

module _ (d : CompleteDfa) (w : List ℕ) where
  gossips-of-map : (xs : List ℕ) → gossips_of (map (local_after d w) xs) ≡ map (rows_after (loc_of d.alphabet) d.alphabet.processes w) xs
  gossips-of-map [] = refl
  gossips-of-map (x ∷ xs) = ap (λ gs. rows_after (loc_of d.alphabet) d.alphabet.processes w x ∷ gs) (gossips-of-map xs)

  residues-of-map : (xs : List ℕ) → residues_of (map (local_after d w) xs) ≡ map (table_residues d w) xs
  residues-of-map [] = refl
  residues-of-map (x ∷ xs) = ap (λ rs. table_residues d w x ∷ rs) (residues-of-map xs)

  -- their rows
  pub given-gossips : (xs : List ℕ) (locals : List LocalState) → AreLocalsAfter d w xs locals → gossips_of locals
      ≡ map (rows_after (loc_of d.alphabet) d.alphabet.processes w) xs
  given-gossips xs locals given = ap gossips_of given.locals ∙ gossips-of-map xs

  -- and their residues
  pub given-residues : (xs : List ℕ) (locals : List LocalState) → AreLocalsAfter d w xs locals → residues_of locals ≡ map (table_residues d w) xs
  given-residues xs locals given = ap residues_of given.locals ∙ residues-of-map xs

-- the local states of all processes one by one
module _ (d : CompleteDfa) (w : List ℕ) (locals : List LocalState) where
  pub locals-length : AreAllLocalsAfter d w locals → length locals ≡ d.alphabet.processes
  locals-length given = ap length given.locals ∙ length-map-range_with_len (local_after d w) 0 d.alphabet.processes

  pub local-at : AreAllLocalsAfter d w locals → (k : ℕ) (e : LocalState) → k < d.alphabet.processes → get_or locals k e ≡ local_after d w k
  local-at given k e l = ap (λ ls. get_or ls k e) given.locals ∙ get_or-map-range_with_len (local_after d w) 0 d.alphabet.processes k k e l (omega arith)

  -- and all by each
  pub locals-by-each : IsWord (length d.alphabet.letters) w → length locals ≡ d.alphabet.processes → (e : LocalState) →
      ((k : ℕ) → k < d.alphabet.processes → get_or locals k e ≡ local_after d w k) → AreAllLocalsAfter d w locals
  locals-by-each word long e h = record { word = word; locals = fill_by_all (local_after d w) locals d.alphabet.processes e long h }
