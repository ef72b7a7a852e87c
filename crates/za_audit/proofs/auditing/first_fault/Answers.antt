use Rattle.std.proofs.Common.{◌≡◌, ℕ, ◌<◌, ◌+◌, ◌∷◌, [], ◌++◌, true, false, length, get_or, slice_index, sym, ap, subst, ◌∙◌, arith, below_more, cond}
use Rattle.std.proofs.lemmas.List.{length-take-le}
use Rattle.za_alpha.specs.Words.{has}
use Rattle.za_alpha.specs.Alphabet.{DistributedAlphabet, loc_of}
use Rattle.za_views.specs.Marks.{MarkedWord}
use Rattle.za_lang.specs.Answers.{data_of}
use Rattle.za_claim.specs.Claims.{event_letters, blank_event}
use Rattle.za_claim.proofs.EventLetters.{events-length, letters-more}
use Rattle.za_audit.specs.Private.Standing.{AreCounts}
use Rattle.za_audit.specs.Verdicts.{IsRight, letters_before}
use Rattle.za_audit.proofs.Counting.{count-le, count-more}
use Rattle.za_audit.proofs.Running.{fires-so, label-is}
use Rattle.za_audit.proofs.auditing.first_fault.Goals as goal

pub returns-then-not-is_next : goal.returns-then-not-is_next
returns-then-not-is_next c =
    let job = data_of c.args.job.now in
    let events = c.args.events.now in
    record {
      within = c.loop-at-test.true;
      before = c.loop-at.invariant.right;
      letter =
          fires-so job events c.loop-at.at c.loop-at.counts c.alphabet-alphabet.result.now false c.loop-at-test.true c.requires.alphabet.located
          c.loop-at.invariant.counts
          c.alphabet-alphabet.ensures c.if-not-is_next.ensures;
    }

pub returns-then-label-event : goal.returns-then-label-event
returns-then-label-event c =
    let job = data_of c.args.job.now in
    let events = c.args.events.now in
    let label = label-is job events c.loop-at.at c.loop-at.marks c.push-label.result c.loop-at-test.true c.loop-at.invariant.marks c.push-label.ensures.label in
    record {
      within = c.loop-at-test.true;
      before = c.loop-at.invariant.right;
      letter =
          fires-so job events c.loop-at.at c.loop-at.counts c.alphabet-alphabet.result.now true c.loop-at-test.true c.requires.alphabet.located
          c.loop-at.invariant.counts
          c.alphabet-alphabet.ensures c.if-not-is_next.ensures;
      label = λ e. c.if-label-event.true (label ∙ sym e);
    }

pub count-requires-clause-room : goal.count-requires-clause-room
count-requires-clause-room c p lp =
    let job = data_of c.args.job.now in
    let events = c.args.events.now in
    let at = c.loop-at.at in
    let n = events-length events in
    let s = length-take-le at (event_letters events) (omega arith) in
    let inside = subst (λ (al : DistributedAlphabet). p < al.processes) c.alphabet-alphabet.ensures lp in
    let k = count-le job.lang.alphabet job.scripts
    (letters_before events at) c.loop-at.counts c.requires.alphabet.located c.loop-at.invariant.counts p inside in
    let short = c.requires.short in omega arith

pub loop-at-preserved : goal.loop-at-preserved
loop-at-preserved c =
    let job = data_of c.args.job.now in
    let events = c.args.events.now in
    let at = c.loop-at.at in
    let lt = c.loop-at-test.true in
    let a = (get_or events at blank_event).letter.0 in
    let label = label-is job events at c.loop-at.marks c.push-label.result lt c.loop-at.invariant.marks c.push-label.ensures.label in
    let counted = subst (λ (al : DistributedAlphabet). (p : ℕ) → p < al.processes
    → slice_index c.count.new.counts p ≡ slice_index c.loop-at.counts p + cond (has (loc_of al a) p) 1 0)
    c.alphabet-alphabet.ensures c.count.ensures.counted in
    record {
      right =
          below_more (IsRight job events) at c.loop-at.invariant.right
          (record {
            letter =
                fires-so job events at c.loop-at.counts c.alphabet-alphabet.result.now true lt c.requires.alphabet.located c.loop-at.invariant.counts
                c.alphabet-alphabet.ensures c.if-not-is_next.ensures;
            label = sym c.if-label-event.false ∙ label;
          });
      counts =
          subst (λ w. AreCounts job.lang.alphabet w c.count.new.counts) (sym (letters-more events at lt))
          (count-more job.lang.alphabet job.scripts
          (letters_before events at) c.loop-at.counts c.requires.alphabet.located c.loop-at.invariant.counts a c.count.new.counts c.count.ensures.size counted);
      marks =
          c.push-label.ensures.word ∙ ap (λ (m : MarkedWord). record m { word = m.word ++ a ∷ [] }) c.loop-at.invariant.marks
          ∙ ap (λ w. record { alphabet = job.lang.alphabet; word = w; room = length events }) (sym (letters-more events at lt));
    }
