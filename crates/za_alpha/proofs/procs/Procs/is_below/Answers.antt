use Rattle.std.proofs.Common.{◌≡◌, true, false, inl, inr, sym, ◌∙◌, arith}
use Rattle.std.proofs.lemmas.Bool.{cases_lt}
use Rattle.za_alpha.proofs.RoundTrip.{small_member}
use Rattle.za_alpha.proofs.procs.Procs.is_below.Goals as goal

pub returns-then-has : goal.returns-then-has
returns-then-has c = (λ h. absurd (cc), λ all. absurd (let below = all c.loop-p.p (sym c.has.ensures ∙ c.if-has.true) in omega arith))

pub returns : goal.returns
returns c = (
  λ h p inside.
      elim (cases_lt p c.args.n) [
        | inl below ↦ below
        | inr above ↦
            let small = small_member c.args.self p inside in
            absurd (let e : true ≡ false = sym inside ∙ c.loop-p.invariant p above (omega arith) in cc)
      ],
  λ all. search,
)
