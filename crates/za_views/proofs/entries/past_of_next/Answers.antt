use Rattle.std.proofs.Common.{◌<◌, ◌≢◌, ◌∙◌, ℕ, length-set, List, Option, None, length, sym, subst, arith, below_more, get_or-set_same, get_or-set_other}
use Rattle.za_alpha.specs.Procs.{members}
use Rattle.za_views.specs.Private.Events.{known_by}
use Rattle.za_views.specs.Private.Newest.{IsJoined}
use Rattle.za_views.proofs.entries.past_of_next.Goals as goal

pub loop-q-preserved : goal.loop-q-preserved
loop-q-preserved c =
    let q : ℕ = c.loop-q.q in
    let past : List (Option ℕ) = c.loop-q.past in
    let holds : ℕ → Option ℕ → Type 0 =
    λ r o. IsJoined (members c.args.takes) c.args.processes (length c.args.events.now) r (known_by c.args.events.now c.args.own.now r) o in
    record {
      long = length-set past q c.joined.result ∙ c.loop-q.invariant.long;
      made =
          below_more _ _
          (λ r h. let other : r ≢ q = omega arith in subst (holds r) (sym (get_or-set_other past q r c.joined.result None other)) (c.loop-q.invariant.made r h))
          (let there : q < length past = omega arith in subst (holds q) (sym (get_or-set_same past q c.joined.result None there)) c.joined.ensures);
    }
