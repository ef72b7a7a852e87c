-- The job that a states line begins.
use Rattle.std.proofs.Common.{◌≡◌, ℕ, List, [], length, refl, sym, subst, arith, Some}
use Rattle.std.proofs.lemmas.List.{append-nil, get_or-replicate}
use Rattle.za_alpha.specs.Alphabet.{DistributedAlphabet}
use Rattle.za_dfa.proofs.EnteredLemmas.{entered_blank}
use Rattle.za_script.proofs.Totals.{total_of-empty}
use Rattle.za_lang.specs.declared.order.Head.TheVariants as head
use Rattle.za_lang.specs.declared.order.Place.TheVariants.{AtStart}
use Rattle.za_lang.specs.Documents.{Said, first_number}
use Rattle.za_lang.specs.Namings.{Naming}
use Rattle.za_lang.specs.Letters.{blank_job}
use Rattle.za_lang.specs.Gathering.{more_said, Tells}
use Rattle.za_lang.specs.Reading.{letters_told}
use Rattle.za_lang.proofs.Marks.{marked_none}

-- the job that a states line begins has what the lines say
pub blank_told : (naming : Naming) (alphabet : DistributedAlphabet) (words : List (List ℕ)) (n : ℕ) → length naming.names ≡ alphabet.processes →
    first_number words ≡ Some n →
    Tells (blank_job naming alphabet n) (more_said (letters_told naming alphabet) head.States words)
blank_told naming alphabet words n size e =
    let job = blank_job naming alphabet n in
    let t : Said = record { place = AtStart; naming = naming; letters = alphabet.letters; states = n; start = 0; accepts = []; rows = []; steps = [] } in
    let same : t ≡ more_said (letters_told naming alphabet) head.States words = rw e (simp append-nil) in
    let own : Tells job t = record {
      naming = refl;
      processes = sym size;
      letters = refl;
      states = refl;
      start = refl;
      accepting = sym (marked_none n);
      rows = entered_blank alphabet n;
      steps = λ p k. get_or-replicate alphabet.processes p [] [] (omega arith);
      total = total_of-empty alphabet.processes;
    } in
    subst (Tells job) same own
