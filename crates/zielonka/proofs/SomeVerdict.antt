-- Each claim about a job whose language is trace-closed has a verdict.
use Rattle.std.proofs.Common.{◌≡◌, ◌≢◌, ℕ, zero, suc, ◌≤◌, ◌⊎◌, true, false, nat_lt, inl, inr, length, refl, subst, arith, Option}
use Rattle.std.proofs.lemmas.Bool.{cases_Bool, cases_eq, cases_lt, le-ltb}
use Rattle.za_alpha.specs.Search.{least}
use Rattle.za_alpha.proofs.Least.{least-below, least-true}
use Rattle.za_script.specs.declared.answer.Answer.{Answer}
use Rattle.za_script.specs.declared.answer.Answer.TheVariants.{Accept, Reject, Stuck}
use Rattle.za_lang.specs.Jobs.{JobData, IsJob}
use Rattle.za_min.specs.declared.live.Hope.{Hope}
use Rattle.za_dfa.proofs.Completing.{completion_complete}
use Rattle.za_hope.specs.Jobs.{HasHope}
use Rattle.za_hope.proofs.Hoping.{hopes_exist}
use Rattle.za_script.specs.ScriptLists.{script_of}
use Rattle.za_claim.specs.Claims.{ClaimData, claimed_label, event_letters}
use Rattle.za_audit.specs.declared.verdict.Audit.{Audit}
use Rattle.za_audit.specs.declared.verdict.Audit.TheVariants.{Yes, BadLetter, BadLabel, NotMaximal, WrongAnswer}
use Rattle.za_audit.specs.Verdicts.{can_fire, event_letter, letters_before, defined_label, IsRight, AreRight, AreWhole, IsAnswerOf, IsVerdict}
use Rattle.zielonka.specs.Output.{is_yes, given}
use Rattle.zielonka.specs.Shown.{IsClosed}

-- a hope goes with each answer to a job, or none
pub hope-exists : (job : JobData) → IsJob job → IsClosed job → (answer : Answer) → (hope : Option Hope) × HasHope job answer hope
hope-exists job fine closed answer = hopes_exist (given job) (script_of job.scripts) answer (completion_complete job.lang fine.lang) closed

-- what is a run of the job to its end, with the job's answer, has the verdict yes
pub yes-is : (job : JobData) → IsJob job → IsClosed job → (claim : ClaimData) → AreWhole job claim.events → IsAnswerOf job claim.answer →
    (audit : Audit) × IsVerdict job claim audit × (is_yes audit ≡ true)
yes-is job fine closed claim whole right = let h = hope-exists job fine closed claim.answer in (Yes h.0, (whole, right, h.1), refl)

same-answers : (a b : Answer) → (a ≡ b) ⊎ (a ≢ b)
same-answers Accept Accept = inl refl
same-answers Accept Reject = inr (λ e. cc)
same-answers Accept Stuck = inr (λ e. cc)
same-answers Reject Accept = inr (λ e. cc)
same-answers Reject Reject = inl refl
same-answers Reject Stuck = inr (λ e. cc)
same-answers Stuck Accept = inr (λ e. cc)
same-answers Stuck Reject = inr (λ e. cc)
same-answers Stuck Stuck = inl refl

module _ (job : JobData) (fine : IsJob job) (closed : IsClosed job) (claim : ClaimData) where
  abbrev HasVerdict : Type 0
  HasVerdict = (audit : Audit) × IsVerdict job claim audit

  -- the first events are right, or one of them is the first that isn't
  right-or-not : (n : ℕ) → n ≤ length claim.events → AreRight job claim.events n ⊎ HasVerdict
  right-or-not zero h = inl (λ i l. absurd (omega arith))
  right-or-not (suc n) h =
      elim (right-or-not n (omega arith)) [
        | inr found ↦ inr found
        | inl right ↦ elim (cases_Bool (can_fire job (letters_before claim.events n) (event_letter claim.events n))) [
          | inr f ↦ inr (BadLetter n, record { within = omega arith; before = right; letter = f })
          | inl t ↦ elim (cases_eq (claimed_label claim.events n) (defined_label job claim.events n)) [
            | inr other ↦ inr (BadLabel n, record { within = omega arith; before = right; letter = t; label = other })
            | inl same ↦ inl (λ i l. elim (cases_lt i n) [
              | inl lower ↦ right i lower
              | inr ge ↦ let e : n ≡ i = omega arith in subst (IsRight job claim.events) e (record { letter = t; label = same })
            ])
          ]
        ]
      ]

  -- no letter can fire after them, or the least that can is left
  whole-or-not : AreRight job claim.events (length claim.events) → AreWhole job claim.events ⊎ HasVerdict
  whole-or-not right =
      let m = length job.lang.alphabet.letters in
      let fires = can_fire job (event_letters claim.events) in
      let a = least fires m in
      elim (cases_lt a m) [
        | inl l ↦ inr (NotMaximal (record { 0 = a }), record { right = right; fires = least-true fires m l; below = λ b k. least-below fires m b k })
        | inr none ↦ inl (record {
          right = right;
          none = λ b. elim (cases_lt b a) [
            | inl k ↦ least-below fires m b k
            | inr ge ↦ let past : nat_lt b m ≡ false = le-ltb b m (omega arith) in
                rw past refl
          ];
        })
      ]

  pub verdict-exists : (answer : Answer) → IsAnswerOf job answer → HasVerdict
  verdict-exists answer right =
      elim (right-or-not (length claim.events) (omega arith)) [
        | inr found ↦ found
        | inl events ↦ elim (whole-or-not events) [
          | inr found ↦ found
          | inl whole ↦ elim (same-answers answer claim.answer) [
            | inl same ↦ let yes = yes-is job fine closed claim whole (subst (IsAnswerOf job) same right) in (yes.0, yes.1)
            | inr other ↦ (WrongAnswer answer, (whole, right, other))
          ]
        ]
      ]
