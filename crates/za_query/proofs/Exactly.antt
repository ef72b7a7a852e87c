-- When the status is 4, and when 5.
use Rattle.std.proofs.Common.{arith, refl}
use Rattle.za_query.specs.declared.query.Query.TheVariants.{News, Freeze}
use Rattle.za_query.specs.Replies.{Refused, Open, Built, Told, Frozen}
use Rattle.za_query.specs.Laws.{RepliesRefusedExactly, RepliesOpenExactly}
use Rattle.za_query.proofs.OneReply.{not-read, not-built, not-both}

pub refused_exactly : RepliesRefusedExactly
refused_exactly query bytes status text (Refused q b fault wrong) = (λ e. (fault, wrong), λ h. refl)
refused_exactly query bytes status text (Open q b job k right least) = (λ e. absurd (omega arith), λ h. absurd (not-read query bytes h.0 job h.1 right))
refused_exactly query bytes status text (Built b x built) = (λ e. absurd (omega arith), λ h. absurd (not-built bytes h.0 h.1 built.right))
refused_exactly query bytes status text (Told b job right closed) = (λ e. absurd (omega arith), λ h. absurd (not-read News bytes h.0 job h.1 right))
refused_exactly query bytes status text (Frozen b job cut d right au) = (λ e. absurd (omega arith), λ h. absurd (not-read (Freeze cut) bytes h.0 job h.1 right))

pub open_exactly : RepliesOpenExactly
open_exactly query bytes status text (Refused q b fault wrong) = (λ e. absurd (omega arith), λ h. absurd (not-read query bytes fault h.0 wrong h.1))
open_exactly query bytes status text (Open q b job k right least) = (λ e. (job, right, (k, least.is)), λ h. refl)
open_exactly query bytes status text (Built b x built) = (λ e. absurd (omega arith), λ h. absurd h.1)
open_exactly query bytes status text (Told b job right closed) =
    (λ e. absurd (omega arith), λ h. absurd (not-both News bytes h.0 job h.2.0 h.1 right h.2.1 closed))
open_exactly query bytes status text (Frozen b job cut d right au) =
    (λ e. absurd (omega arith), λ h. absurd (not-both (Freeze cut) bytes h.0 job h.2.0 h.1 right h.2.1 au.closed))
