-- What an event does to the local states, and that they depend on the trace alone.
use Rattle.std.proofs.Common.{◌≡◌, [], ◌∷◌, ◌++◌, sym, ap, ◌∙◌}
use Rattle.za_order.proofs.Equivalent.{ids_agree}
use Rattle.za_gossip.specs.Rows.{Rows, rows_of}
use Rattle.za_gossip.proofs.Updates.{rows-after, rows-kept}
use Rattle.za_residue.specs.Functions.{Functions}
use Rattle.za_residue.proofs.AfterWords.{residues-kept, residues-joined, residues-of-trace}
use Rattle.za_local.specs.Locals.{LocalState, local_state}
use Rattle.za_local.specs.Laws.{OthersKeepLocals, ParticipantsAgreeOnLocals, SameTraceSameLocals}

-- local states are the same by their parts
pub same-locals : (a b : LocalState) → a.gossip ≡ b.gossip → a.residues ≡ b.residues → a ≡ b
same-locals a b g r =
    let made : Rows → Functions → LocalState = λ gossip residues. record { gossip = gossip; residues = residues } in
    ap (λ v. made v a.residues) g ∙ ap (made b.gossip) r

pub others_keep_locals : OthersKeepLocals
others_keep_locals loc n d w a p alphabet word small h =
    same-locals (local_state loc n d (w ++ a ∷ []) p) (local_state loc n d w p)
    (sym (rows-kept loc d.letters n w a alphabet word small p h))
    (residues-kept loc n d alphabet w a word small p h)

pub participants_agree_on_locals : ParticipantsAgreeOnLocals
participants_agree_on_locals loc n d w a p q alphabet word small hp hq =
    let rows = rows-after loc d.letters n w a alphabet word small in
    same-locals (local_state loc n d (w ++ a ∷ []) p) (local_state loc n d (w ++ a ∷ []) q) (sym (rows p hp) ∙ rows q hq)
    (residues-joined loc n d alphabet w a word small p q hp hq)

pub same_trace_same_locals : SameTraceSameLocals
same_trace_same_locals loc n d u v p alphabet total diamonds wu wv e =
    same-locals (local_state loc n d u p) (local_state loc n d v p)
    (ap (rows_of n) (ids_agree loc d.letters n u v p alphabet wu wv e))
    (residues-of-trace loc n d alphabet total diamonds u v p wu wv e)
