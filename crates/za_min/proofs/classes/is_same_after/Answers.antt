use Rattle.za_dfa.specs.Tables.{accepts_at}
use Rattle.za_min.proofs.RoundSteps.{same-beq}
use Rattle.za_min.proofs.classes.is_same_after.Goals as goal

pub returns-in-None : goal.returns-in-None
returns-in-None c =
    rw (c.in-None.is, c.accepting.ensures, c.accepting-in-None.ensures) (same-beq (accepts_at c.args.dfa.now c.args.q) (accepts_at c.args.dfa.now c.args.r))
