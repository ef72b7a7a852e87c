use Rattle.std.proofs.Common.{◌≡◌, ◌+◌, ◌≤◌, length, ◌∙◌, arith}
use Rattle.std.proofs.lemmas.List.{length-take}
use Rattle.za_base.proofs.Streams.{took_more}
use Rattle.za_base.proofs.reading.read_all.Goals as goal

-- this turn took one byte more than the limit
pub returns-then-n-limit : goal.returns-then-n-limit
returns-then-n-limit g c =
    let within = c.in-Ok.ensures.within in
    let one_more : length c.turns.text.items + c.in-Ok.n ≡ c.args.limit + 1 = omega (arith, within, length-take c.min-room.result c.turns.piece) in (
      took_more _ _ _ c.turns.text.items c.read.new.into c.in-Ok.n (λ k. k ≡ c.args.limit + 1)
          c.turns.invariant.taken c.in-Ok.ensures.bytes.0 (omega (arith, within)) one_more,
      c.in-Ok.ensures.stays ∙ c.turns.invariant.stays,
    )

-- what this turn took was within the limit
pub returns-then-is_err : goal.returns-then-is_err
returns-then-is_err g c = (
  took_more _ _ _ c.turns.text.items c.read.new.into c.in-Ok.n (λ k. k ≤ c.args.limit)
      c.turns.invariant.taken c.in-Ok.ensures.bytes.0 (omega (arith, c.in-Ok.ensures.within)) (omega arith),
  c.in-Ok.ensures.stays ∙ c.turns.invariant.stays,
)
