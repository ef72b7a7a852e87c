use Rattle.za_local.proofs.firing.fire_on.Goals as goal

pub hand_out-requires-clause-fresh : goal.hand_out-requires-clause-fresh
hand_out-requires-clause-fresh c =
    let w = c.requires.locals.0 in
    let given = c.requires.locals.1 in
    (w, c.gather.ensures.others w given, λ x part. c.transit-label.ensures.local w (c.gather.ensures.participants w given) x part)

pub returns-clause-label : goal.returns-clause-label
returns-clause-label c = λ w h. c.transit-label.ensures.label w (c.gather.ensures.participants w h)

pub returns-clause-locals : goal.returns-clause-locals
returns-clause-locals c = λ w h. c.hand_out.ensures.locals w (c.gather.ensures.others w h)
    (λ x part. c.transit-label.ensures.local w (c.gather.ensures.participants w h) x part)
