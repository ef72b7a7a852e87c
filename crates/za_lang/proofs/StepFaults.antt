-- The tests of script lines, one item after another.
use Rattle.std.proofs.Common.{◌≡◌, ℕ, ◌+◌, ◌≤◌, ◌==◌, arith, true, false, Bool, not, cond, List, length, refl, sym, ap, subst, Option, Some, None}
use Rattle.std.specs.Prelude.{nat_lt, unwrap_or, is_some}
use Rattle.std.proofs.lemmas.Bool.{not-false}
use Rattle.std.proofs.lemmas.Bool.Decides.{nat_tests}
use Rattle.std.proofs.lemmas.List.{length-replicate}
use Rattle.za_text.specs.declared.kind.Kind.{Kind}
use Rattle.za_text.specs.declared.kind.Kind.TheVariants.{NotOfProcess, ScriptsFull, BadRepeat}
use Rattle.za_alpha.specs.Words.{has}
use Rattle.za_alpha.specs.Procs.{members}
use Rattle.za_alpha.specs.declared.word.Letter.{Letter}
use Rattle.za_alpha.specs.Alphabet.{DistributedAlphabet, NamedLetter, loc_of, procs_at}
use Rattle.za_alpha.proofs.RowLemmas.{none_of_cond}
use Rattle.za_script.specs.declared.fault.ScriptFault.{ScriptFault}
use Rattle.za_script.specs.declared.fault.ScriptFault.TheVariants.{Foreign, Full, OutOfMemory}
use Rattle.za_script.specs.ScriptLists.{total_of, add_fault, add_run_fault}
use Rattle.za_script.specs.Limits.{most_script_letters}
use Rattle.za_lang.specs.Answers.{refusal_of_step}
use Rattle.za_lang.specs.Items.{run_of}
use Rattle.za_lang.specs.Gathering.{IsWrong}
use Rattle.za_lang.specs.Tests.{step_fault}

-- a run of a letter of the process, where there is room, has no fault
pub step_right : (letters : List NamedLetter) (p read a count : ℕ) → has (members (procs_at letters a)) p ≡ true →
    nat_lt most_script_letters (read + count) ≡ false →
    step_fault letters p read (Some a) (Some count) ≡ None
step_right letters p read a count own room = rw (own, room) refl

some_of_cond : (b : Bool) (x y : Kind) → cond b (Some x) (Some y) ≡ None → ⊥
some_of_cond true x y h = let t : true ≡ false = ap is_some h in cc
some_of_cond false x y h = let t : true ≡ false = ap is_some h in cc

-- a letter without a number is wrong
pub step_some : (letters : List NamedLetter) (p read a : ℕ) → step_fault letters p read (Some a) None ≡ None → ⊥
step_some letters p read a h = some_of_cond (not (has (members (procs_at letters a)) p)) NotOfProcess BadRepeat h

-- a right run has as many letters as it says
pub step_size : (letters : List NamedLetter) (p read : ℕ) (o count : Option ℕ) → step_fault letters p read o count ≡ None →
    length (run_of o count) ≡ unwrap_or count 0
step_size letters p read None count h = absurd (let t : true ≡ false = ap is_some h in cc)
step_size letters p read (Some a) None h = absurd (step_some letters p read a h)
step_size letters p read (Some a) (Some count) h = length-replicate count a

-- a run that can be appended
pub run_right : (alphabet : DistributedAlphabet) (old : List (List ℕ)) (p : ℕ) (a : Letter) (count : ℕ) → add_run_fault alphabet old p a count ≡ None →
    (has (loc_of alphabet a.0) p ≡ true) × (nat_lt most_script_letters (total_of old + count) ≡ false)
run_right alphabet old p a count none =
    let own = none_of_cond (not (has (loc_of alphabet a.0) p)) _ _ none in
    let room = none_of_cond (nat_lt most_script_letters (total_of old + count)) _ _ own.1 in
    (not-false (has (loc_of alphabet a.0) p) own.0, room.0)

-- why a run can't be appended is the item's fault
pub wrong_run : (alphabet : DistributedAlphabet) (scripts : List (List ℕ)) (p : ℕ) (a : Letter) (count : ℕ) (e : ScriptFault) →
    e ≡ unwrap_or (add_run_fault alphabet scripts p a count) OutOfMemory →
    IsWrong (step_fault alphabet.letters p (total_of scripts) (Some a.0) (Some count)) (refusal_of_step e)
wrong_run alphabet scripts p a count e is =
    subst (λ e. IsWrong (step_fault alphabet.letters p (total_of scripts) (Some a.0) (Some count)) (refusal_of_step e)) (sym is)
    (by_tests (has (loc_of alphabet a.0) p) (nat_lt most_script_letters (total_of scripts + count)))
  where
    by_tests : (own full : Bool) →
        IsWrong (cond (not own) (Some NotOfProcess) (cond full (Some ScriptsFull) None))
        (refusal_of_step (unwrap_or (cond (not own) (Some (Foreign p a)) (cond full (Some Full) None)) OutOfMemory))
    by_tests false full = refl
    by_tests true true = refl
    by_tests true false = tt

-- a letter alone is a run of one
pub one_run : (alphabet : DistributedAlphabet) (scripts : List (List ℕ)) (p : ℕ) (a : Letter) → total_of scripts ≤ most_script_letters →
    add_fault alphabet scripts p a ≡ add_run_fault alphabet scripts p a 1
one_run alphabet scripts p a few =
    let full : (total_of scripts == most_script_letters) ≡ nat_lt most_script_letters (total_of scripts + 1) = grind (arith, nat_tests) in
    rw full refl
