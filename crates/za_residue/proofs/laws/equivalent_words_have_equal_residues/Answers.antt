use Rattle.za_residue.proofs.SameTrace.{residue_words_agree}
use Rattle.za_residue.proofs.laws.equivalent_words_have_equal_residues.Goals as goal

pub returns-clause-words : goal.returns-clause-words
returns-clause-words c = residue_words_agree
