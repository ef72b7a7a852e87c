-- What a bench gives to the calls on rows and on residues.
use Rattle.std.proofs.Common.{◌≡◌, ℕ, List, Option, sym, subst, ◌∙◌}
use Rattle.za_alpha.specs.declared.word.Letter.{Letter}
use Rattle.za_alpha.specs.Alphabet.{DistributedAlphabet}
use Rattle.za_dfa.specs.Tables.{CompleteDfa}
use Rattle.za_gossip.specs.Rows.{Rows, AreRowsAfter}
use Rattle.za_residue.specs.declared.masks.Masks.{Masks}
use Rattle.za_residue.specs.Functions.{Functions}
use Rattle.za_residue.specs.Masks.{AreResiduesAfter, AreMasksAfter}
use Rattle.za_local.specs.Locals.{LocalState, AreLocalsAfter}
use Rattle.za_local.specs.Benches.{gossips_of, residues_of}
use Rattle.za_local.specs.Private.Shared.{meeting_of}
use Rattle.za_local.proofs.Given.{given-gossips, given-residues}

module _ (d : CompleteDfa) (alphabet : DistributedAlphabet) (same : alphabet ≡ d.alphabet) (a : Option Letter) (locals : List LocalState) where
  -- the rows
  pub rows-given : (gossips : List Rows) → gossips ≡ gossips_of locals → (w : List ℕ) → AreLocalsAfter d w (meeting_of d.alphabet a) locals →
      AreRowsAfter alphabet w (meeting_of alphabet a) gossips
  rows-given gossips are w given =
      subst (λ al. AreRowsAfter al w (meeting_of al a) gossips) (sym same)
      (record { word = given.word; rows = are ∙ given-gossips d w (meeting_of d.alphabet a) locals given })

  -- the residues
  pub residues-given : (residues : List Functions) → residues ≡ residues_of locals → (w : List ℕ) → AreLocalsAfter d w (meeting_of d.alphabet a) locals →
      AreResiduesAfter d w (meeting_of d.alphabet a) residues
  residues-given residues are w given = record { word = given.word; residues = are ∙ given-residues d w (meeting_of d.alphabet a) locals given }

  -- and the masks
  pub masks-given : (gossips : List Rows) → gossips ≡ gossips_of locals → (masks : Masks) →
      ((w : List ℕ) → AreRowsAfter alphabet w (meeting_of alphabet a) gossips → AreMasksAfter alphabet w (meeting_of alphabet a) masks) →
      (w : List ℕ) → AreLocalsAfter d w (meeting_of d.alphabet a) locals → AreMasksAfter d.alphabet w (meeting_of d.alphabet a) masks
  masks-given gossips are masks has w given = subst (λ al. AreMasksAfter al w (meeting_of al a) masks) same (has w (rows-given gossips are w given))
