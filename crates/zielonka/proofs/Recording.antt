-- The events of a word, and the journal of a run of a job.
use Rattle.std.proofs.Common.{◌≡◌, ℕ, ◌∙◌, List, length, get_or, refl, sym, ap}
use Rattle.std.specs.List.{range_with_len}
use Rattle.std.proofs.lemmas.List.FromFn.{fill_by_all}
use Rattle.std.proofs.lemmas.Simd.{map-map}
use Rattle.za_alpha.specs.Alphabet.{DistributedAlphabet}
use Rattle.za_claim.specs.declared.claim.Event.{Event}
use Rattle.za_claim.specs.Claims.{event_letters}
use Rattle.za_lang.specs.Jobs.{JobData}
use Rattle.za_table.specs.Ends.{EndedState, answer_in}
use Rattle.zielonka.specs.Journals.{fired_event, fired_events, journal_text}
use Rattle.zielonka.specs.Shown.{IsRunOf, journal_text_of}

-- their letters are those of the word
pub letters-of-events : (alphabet : DistributedAlphabet) (w : List ℕ) → event_letters (fired_events alphabet w) ≡ w
letters-of-events alphabet w =
    map-map (λ (e : Event). e.letter.0) (fired_event alphabet w) (range_with_len 0 (length w))
    ∙ sym (fill_by_all (λ k. get_or w k 0) w (length w) 0 refl (λ k h. refl))

-- the journal of a run of a job, over the job's alphabet
pub journal-of-job : (job : JobData) (run : EndedState) → IsRunOf job run →
    journal_text_of run ≡ journal_text job.lang.alphabet run.state.journal (answer_in run)
journal-of-job job run of = ap (λ (a : DistributedAlphabet). journal_text a run.state.journal (answer_in run)) of.minimal.alphabet
