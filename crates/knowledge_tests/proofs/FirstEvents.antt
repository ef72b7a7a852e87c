-- Before any event nothing is shared.
use Rattle.std.proofs.Common.{◌≡◌, ℕ, not, false, List, [], map, replicate, refl, sym, ◌∙◌, arith}
use Rattle.std.proofs.lemmas.Bool.{and_right}
use Rattle.za_alpha.specs.Limits.{most_processes}
use Rattle.za_alpha.specs.Words.{has}
use Rattle.za_alpha.specs.Alphabet.{DistributedAlphabet}
use Rattle.za_alpha.specs.Procs.{no_process}
use Rattle.za_dfa.specs.Tables.{CompleteDfa}
use Rattle.za_residue.specs.declared.masks.Masks.{Masks}
use Rattle.za_residue.specs.Functions.{Functions}
use Rattle.za_residue.specs.Residues.{table_residues}
use Rattle.za_residue.specs.Masks.{AreResiduesAfter, AreMasksAfter}
use Rattle.za_residue.proofs.Nobody.{nobody-earlier, nobody-under}

abbrev pub nothing : Masks
nothing = record { earlier = replicate most_processes no_process; under = replicate most_processes (replicate most_processes no_process) }

pub first-residues : (d : CompleteDfa) (xs : List ℕ) (inputs : List Functions) → inputs ≡ map (table_residues d []) xs → AreResiduesAfter d [] xs inputs
first-residues d xs inputs e = record { word = λ k d l. absurd (omega arith); residues = e }

pub first-masks : (alphabet : DistributedAlphabet) (xs : List ℕ) → AreMasksAfter alphabet [] xs nothing
first-masks alphabet xs = record {
  earlier = λ i s l. nobody-earlier most_processes i s;
  under = λ i r s l k. nobody-under most_processes most_processes i r s ∙ sym (and_right (not (has xs r)) false refl);
}
