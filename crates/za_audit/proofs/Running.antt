-- Right events are a run of the job: their letters fit its scripts, and where no letter can fire, they answer as the job.
use Rattle.std.proofs.Common.{◌≡◌, ℕ, zero, suc, ◌+◌, ◌<◌, ◌≤◌, ◌&&◌, Bool, ◌↔◌, List, [], ◌∷◌, ◌++◌, length, get_or, take, slice_index, nat_lt, sym, ap, subst}
use Rattle.std.proofs.Common.{◌∙◌, arith, ltb-true}
use Rattle.std.specs.Prelude.{IsTrue, Option, if◌then◌else◌}
use Rattle.std.proofs.lemmas.List.{length-take-le, take_all}
use Rattle.std.proofs.lemmas.Bool.{and_parts, lt-ltb}
use Rattle.std.proofs.Math.Seq.{take-suc}
use Rattle.za_alpha.specs.Words.{IsAlphabet}
use Rattle.za_alpha.specs.Alphabet.{DistributedAlphabet, loc_of}
use Rattle.za_views.specs.Marks.{MarkedWord}
use Rattle.za_dfa.specs.Automata.{is_accepted, walk, IsTraceClosed}
use Rattle.za_order.specs.Labels.{label}
use Rattle.za_min.specs.declared.live.Hope.{Hope}
use Rattle.za_min.specs.Live.{IsHope}
use Rattle.za_hope.specs.Hopes.{IsHopeOf, GoesWith}
use Rattle.za_hope.proofs.Hoping.{goes-map, hope_is_of_the_state}
use Rattle.za_script.specs.declared.answer.Answer.{Answer}
use Rattle.za_script.specs.declared.answer.Answer.TheVariants.{Accept, Reject, Stuck}
use Rattle.za_script.specs.Scripts.{is_enabled, Fits, FitsMaximally}
use Rattle.za_script.specs.ScriptLists.{script_of, FitAlphabet}
use Rattle.za_script.specs.Woven.{WovenWord}
use Rattle.za_script.proofs.Answers.{maximal_words_have_the_answer}
use Rattle.za_script.proofs.Confluence.{empty-fits, fits-more}
use Rattle.za_script.proofs.Standing.{used-up}
use Rattle.za_lang.specs.Jobs.{JobData}
use Rattle.za_claim.specs.declared.claim.Event.{Event}
use Rattle.za_claim.specs.Claims.{event_letters, blank_event}
use Rattle.za_claim.proofs.EventLetters.{events-length, event-letter, letters-more}
use Rattle.za_audit.specs.Private.Standing.{AreCounts, AreUsedUp, NoneIsNext, IsLeastNext, is_next}
use Rattle.za_audit.specs.Verdicts.{automaton, can_fire, defined_label, event_letter, letters_before, AreRight, AreWhole, IsLeastLeft, IsAnswerOf}
use Rattle.za_hope.specs.Jobs.{HasHope}
use Rattle.za_audit.proofs.Counting.{next-is-enabled}

-- the label that a push answers is the defined one
pub pushed-label : (job : JobData) (events : List Event) (i : ℕ) → i < length events →
    label (loc_of job.lang.alphabet) job.lang.alphabet.processes (letters_before events i ++ (get_or events i blank_event).letter.0 ∷ [])
    (length (letters_before events i))
    ≡ defined_label job events i
pushed-label job events i l =
    let loc = loc_of job.lang.alphabet in
    let n = events-length events in
    let short = length-take-le i (event_letters events) (omega arith) in
    ap (λ w. label loc job.lang.alphabet.processes w (length (letters_before events i))) (sym (letters-more events i l))
    ∙ ap (label loc job.lang.alphabet.processes (letters_before events (i + 1))) short

-- what marks answer
pub label-is : (job : JobData) (events : List Event) (i : ℕ) (marks : MarkedWord) (k : ℕ) → i < length events →
    marks ≡ record { alphabet = job.lang.alphabet; word = letters_before events i; room = length events } →
    k ≡ label (loc_of marks.alphabet) marks.alphabet.processes (marks.word ++ (get_or events i blank_event).letter.0 ∷ []) (length marks.word)
    → k ≡ defined_label job events i
label-is job events i marks k l is e =
    e ∙ ap (λ (m : MarkedWord). label (loc_of m.alphabet) m.alphabet.processes (m.word ++ (get_or events i blank_event).letter.0 ∷ []) (length m.word)) is
    ∙ pushed-label job events i l

-- and whether an event's letter is next
pub fires-so : (job : JobData) (events : List Event) (i : ℕ) (counts : List ℕ) (alphabet : DistributedAlphabet) (b : Bool) → i < length events →
    IsAlphabet (loc_of job.lang.alphabet) (length job.lang.alphabet.letters) job.lang.alphabet.processes →
    AreCounts job.lang.alphabet (letters_before events i) counts →
    alphabet ≡ job.lang.alphabet → b ≡ is_next alphabet job.scripts counts (get_or events i blank_event).letter.0 →
    can_fire job (letters_before events i) (event_letter events i) ≡ b
fires-so job events i counts alphabet b l al c same e =
    let a = (get_or events i blank_event).letter.0 in
    sym (e ∙ ap (λ x. is_next x job.scripts counts a) same ∙ next-is-enabled job.lang.alphabet job.scripts (letters_before events i) counts al c a
    ∙ ap (can_fire job (letters_before events i)) (sym (event-letter events i l)))

module _ (job : JobData) (events : List Event) where
  -- the first letters of right events fit the scripts
  pub right-fit : (n : ℕ) → n ≤ length events → AreRight job events n →
      Fits (loc_of job.lang.alphabet) (length job.lang.alphabet.letters) (script_of job.scripts) (letters_before events n)
  right-fit zero h r = empty-fits (loc_of job.lang.alphabet) (length job.lang.alphabet.letters) (script_of job.scripts)
  right-fit (suc n) h r =
      let w = event_letters events in
      let loc = loc_of job.lang.alphabet in
      let m = events-length events in
      let long : n < length w = omega arith in
      let fires = and_parts (nat_lt (slice_index w n) (length job.lang.alphabet.letters))
      (is_enabled loc (script_of job.scripts) (take n w) (slice_index w n)) (r n (omega arith)).letter in
      let f = right-fit n (omega arith) (λ i l. r i (omega arith)) in
      subst (Fits loc (length job.lang.alphabet.letters) (script_of job.scripts)) (sym (take-suc w n 0 long))
      (fits-more loc (length job.lang.alphabet.letters) (script_of job.scripts) (take n w) (slice_index w n)
      (ltb-true (slice_index w n) (length job.lang.alphabet.letters) fires.0) f fires.1)

  pub all-fit : AreRight job events (length events) →
      Fits (loc_of job.lang.alphabet) (length job.lang.alphabet.letters) (script_of job.scripts) (event_letters events)
  all-fit right =
      let m = events-length events in
      subst (Fits (loc_of job.lang.alphabet) (length job.lang.alphabet.letters) (script_of job.scripts))
      (take_all (length events) (event_letters events) (omega arith))
      (right-fit (length events) (omega arith) right)

  -- a run to the end fits maximally
  pub whole-maximal : AreWhole job events →
      FitsMaximally (loc_of job.lang.alphabet) (length job.lang.alphabet.letters) (script_of job.scripts) (event_letters events)
  whole-maximal h =
      record {
        fits = all-fit h.right;
        stuck = λ a la.
            let on = is_enabled (loc_of job.lang.alphabet) (script_of job.scripts) (event_letters events) a in
            sym (ap (λ b. b && on) (lt-ltb a (length job.lang.alphabet.letters) la)) ∙ h.none a;
      }

  module _ (counts : List ℕ) (al : IsAlphabet (loc_of job.lang.alphabet) (length job.lang.alphabet.letters) job.lang.alphabet.processes)
      (c : AreCounts job.lang.alphabet (event_letters events) counts) where
    pub whole-from : AreRight job events (length events) → NoneIsNext job.lang.alphabet job.scripts counts → AreWhole job events
    whole-from right none = record {
      right = right;
      none = λ a. sym (next-is-enabled job.lang.alphabet job.scripts (event_letters events) counts al c a)
          ∙ none a;
    }

    pub left-from : AreRight job events (length events) → (a : ℕ) → IsLeastNext job.lang.alphabet job.scripts counts a → IsLeastLeft job events a
    left-from right a n =
        let same = next-is-enabled job.lang.alphabet job.scripts (event_letters events) counts al c in
        record { right = right; fires = sym (same a) ∙ n.next; below = λ b l. sym (same b) ∙ n.below b l }

    -- so it has the answer
    pub answer-from : FitAlphabet job.lang.alphabet job.scripts → IsTraceClosed (loc_of job.lang.alphabet) (automaton job) → AreWhole job events →
        (used accepted : Bool) →
        (IsTrue used ↔ AreUsedUp job.scripts counts) → accepted ≡ is_accepted (automaton job) (event_letters events) →
        IsAnswerOf job (if used then (if accepted then Accept else Reject) else Stuck)
    answer-from fit closed whole used accepted u e =
        let w = event_letters events in
        let woven : WovenWord = record { word = w; counts = counts; whole = used } in
        let full = whole-maximal whole in
        let weaves = used-up job.lang.alphabet job.scripts fit counts w full.fits c.each in
        subst (λ b. IsAnswerOf job (if used then (if b then Accept else Reject) else Stuck)) (sym e)
        (maximal_words_have_the_answer (loc_of job.lang.alphabet) job.lang.alphabet.processes (automaton job) (script_of job.scripts) woven al closed full
        (λ t. weaves.0 (u.0 t), λ k. u.1 (weaves.1 k)))

  -- and the hope of the state to which it leads
  pub hope-from : IsAlphabet (loc_of job.lang.alphabet) (length job.lang.alphabet.letters) job.lang.alphabet.processes →
      IsTraceClosed (loc_of job.lang.alphabet) (automaton job) → AreWhole job events → (answer : Answer) (hope : Option Hope) →
      GoesWith (IsHope (automaton job) (walk (automaton job).step (automaton job).start (event_letters events))) answer hope → HasHope job answer hope
  hope-from al closed whole answer hope goes =
      let loc = loc_of job.lang.alphabet in
      let d = automaton job in
      let scripts = script_of job.scripts in
      goes-map (IsHope d (walk d.step d.start (event_letters events))) (IsHopeOf loc job.lang.alphabet.processes d scripts) answer hope
      (λ h. (hope_is_of_the_state loc job.lang.alphabet.processes d scripts (event_letters events) h al closed (whole-maximal whole)).1) goes
