use Rattle.std.proofs.Common.{◌≡◌, ℕ, ◌++◌, ◌∷◌, [], List, length, take, get_or, sym, ap, ◌∙◌, arith, cond, refl}
use Rattle.std.specs.List.{range_with_len}
use Rattle.std.proofs.lemmas.List.{length-take-le}
use Rattle.std.proofs.lemmas.List.FromFn.{length-map-range_with_len}
use Rattle.za_alpha.specs.Words.{has}
use Rattle.za_alpha.specs.Procs.{members}
use Rattle.za_alpha.specs.Alphabet.{DistributedAlphabet, loc_of}
use Rattle.za_order.specs.Locals.{ids}
use Rattle.za_gossip.specs.Rows.{Rows, AreRowsAfter, blank_rows, rows_after}
use Rattle.za_payload.specs.Private.Meeting.{circle_with}
use Rattle.za_payload.proofs.Handing.{gathered-rows, circle-after}
use Rattle.za_payload.proofs.meeting.meet_over.Goals as goal
use Rattle.za_payload.proofs.meeting.meet_over.Goals.{After-gather}

-- the rows of the participants after a word stand side by side
rows : (c : After-gather) (w : List ℕ) → AreRowsAfter c.args.alphabet.now w (range_with_len 0 c.args.alphabet.now.processes) c.args.rows.now →
    AreRowsAfter c.args.alphabet.now w (loc_of c.args.alphabet.now c.args.a.0) (take c.list_participants-count.result c.gather.new.inputs)
rows c w given =
    let count : ℕ = c.list_participants-count.result in
    let listed : List ℕ = take count c.list_participants-count.new.into in
    let long : length listed ≡ count = length-take-le count c.list_participants-count.new.into c.list_participants-count.ensures.within in
    gathered-rows c.args.alphabet.now w c.args.a.0 c.args.rows.now (take count c.gather.new.inputs) listed given c.list_participants-count.ensures.listed
    c.list_participants-count.ensures.below (ap (λ k. take k c.gather.new.inputs) (sym long) ∙ c.gather.ensures.copied)

-- rows after a word are for as many processes
size-after : (alphabet : DistributedAlphabet) (w : List ℕ) (p : ℕ) → length (rows_after (loc_of alphabet) alphabet.processes w p).primary ≡ alphabet.processes
size-after alphabet w p = length-map-range_with_len (ids (loc_of alphabet) alphabet.processes w (length w) p).primary 0 alphabet.processes

pub advance-label-requires-clause-rows : goal.advance-label-requires-clause-rows
advance-label-requires-clause-rows c =
    let circle = c.requires.circle in (circle.0, rows (goal.at.advance-label-requires-clause-rows c).After-gather circle.0 circle.2.rows)

pub heard-heard-requires-clause-rows : goal.heard-heard-requires-clause-rows
heard-heard-requires-clause-rows c =
    let circle = c.requires.circle in (circle.0, rows (goal.at.heard-heard-requires-clause-rows c).After-gather circle.0 circle.2.rows)

pub hand_out-requires-clause-next_for : goal.hand_out-requires-clause-next_for
hand_out-requires-clause-next_for c =
    let alphabet = c.args.alphabet.now in
    let circle = c.requires.circle in
    let given = rows (goal.at.hand_out-requires-clause-next_for c).After-gather circle.0 circle.2.rows in
    let p = c.list_participants-count.ensures.whole.located.some c.args.a.0 c.requires.letter in
    ap (λ (r : Rows). length r.primary) (c.advance-label.ensures.rows circle.0 given p.0 p.1) ∙ size-after alphabet (circle.0 ++ c.args.a.0 ∷ []) p.0
    ∙ sym c.requires.rows

pub returns-clause-next_for : goal.returns-clause-next_for
returns-clause-next_for c =
    let alphabet = c.args.alphabet.now in
    let circle = c.requires.circle in
    let given = rows (goal.at.returns-clause-next_for c).After-gather circle.0 circle.2.rows in
    let p = c.list_participants-count.ensures.whole.located.some c.args.a.0 c.requires.letter in
    ap (λ (r : Rows). length r.primary) (c.advance-label.ensures.rows circle.0 given p.0 p.1) ∙ size-after alphabet (circle.0 ++ c.args.a.0 ∷ []) p.0

pub returns-clause-label : goal.returns-clause-label
returns-clause-label c = λ w values before. c.advance-label.ensures.label w (rows (goal.at.returns-clause-label c).After-gather w before.rows)

pub returns-clause-after : goal.returns-clause-after
returns-clause-after c = λ w values before.
    let alphabet = c.args.alphabet.now in
    let a = c.args.a.0 in
    let given = rows (goal.at.returns-clause-after c).After-gather w before.rows in
    let set : members c.loc.result ≡ loc_of alphabet a = ap members c.loc.ensures in
    let size = c.requires.rows in
    circle-after alphabet w values a c.args.value (circle_with alphabet c.args.rows.now c.args.known.now)
    (circle_with alphabet c.hand_out.new.rows c.hand_out.new.known) c.advance-label.new.into c.heard-heard.result
    c.list_participants-count.ensures.whole c.requires.letter before
    (record {
      processes = refl;
      size = omega arith;
      next_is = c.advance-label.ensures.rows w given;
      heard_is = c.heard-heard.ensures w given;
      rows = λ p l. c.hand_out.ensures.rows p (omega arith) ∙ ap (λ ps. cond (has ps p) c.advance-label.new.into (get_or c.args.rows.now p (blank_rows 0))) set;
      known = λ p l. c.hand_out.ensures.known p (omega arith) ∙ ap (λ ps. cond (has ps p) c.heard-heard.result (get_or c.args.known.now p [])) set;
    })

pub returns-clause-circle : goal.returns-clause-circle
returns-clause-circle c =
    let circle = c.requires.circle in
    (circle.0 ++ c.args.a.0 ∷ [], circle.1 ++ c.args.value ∷ [], returns-clause-after c circle.0 circle.1 circle.2)
