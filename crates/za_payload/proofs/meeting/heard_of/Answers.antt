use Rattle.std.proofs.Common.{◌≡◌, ℕ, ap, ◌∙◌}
use Rattle.std.specs.Prelude.{slice_get, slice_index_or, Some}
use Rattle.std.proofs.lemmas.Option.{get_or_from_slice_get}
use Rattle.za_payload.specs.Circles.{known_in}
use Rattle.za_payload.specs.Private.Meeting.{best_of}
use Rattle.za_payload.proofs.meeting.heard_of.Goals as goal

pub returns : goal.returns
returns c = λ w after.
    let best : ℕ = best_of c.args.alphabet.now w c.args.a.0 c.args.q in
    let there : slice_get c.args.participants.now c.newest.result ≡ Some best =
    ap (λ xs. slice_get xs c.newest.result) c.requires.participants ∙ c.newest.ensures.best w after in
    let is : slice_index_or c.args.participants.now c.newest.result 0 ≡ best = get_or_from_slice_get c.args.participants.now c.newest.result best 0 there in
    ap (λ p. known_in c.args.known.now p c.args.q) is
