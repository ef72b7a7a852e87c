use Rattle.std.proofs.Common.{◌≡◌, ℕ, ◌+◌, ◌-◌, ◌||◌, List, Bool, length, map, ap, sym, ◌∙◌, arith}
use Rattle.std.specs.List.{range_with_len}
use Rattle.za_alpha.specs.Letters.{numbers}
use Rattle.za_alpha.specs.Words.{has, meets}
use Rattle.za_alpha.specs.Procs.{members}
use Rattle.za_alpha.specs.Alphabet.{loc_of}
use Rattle.za_alpha.proofs.Projections.{numbers-length}
use Rattle.za_order.specs.Views.{participants, in_past}
use Rattle.za_order.proofs.Marking.{marking-init, marking-met, marking-apart, marking-end}
use Rattle.za_order.proofs.pasts.past.Goals as goal

pub loop-i-init : goal.loop-i-init
loop-i-init c =
    let letters = c.letters-letters.result.now in
    let fresh = c.in_ok-marks.ensures.items_if_clones_equal (λ y e. e) in
    marking-init (participants (loc_of c.args.alphabet.now) (numbers letters)) c.args.at (length letters) (c.args.at + 1)
    (members c.participants_at-known.result) c.in_ok-marks.marks.items
    (omega arith) fresh c.participants_at-known.ensures

pub loop-i-preserved-then-meets : goal.loop-i-preserved-then-meets
loop-i-preserved-then-meets c =
    let letters = c.letters-letters.result.now in
    let who = participants (loc_of c.args.alphabet.now) (numbers letters) in
    let n : ℕ = c.loop-i.i - 1 in
    let known : List ℕ = members c.loop-i.known in
    let size : length letters ≡ length c.args.w.now = sym (numbers-length letters) ∙ ap length c.letters-letters.ensures in
    let takes : members c.participants_at-takes.result ≡ who n = c.participants_at-takes.ensures in
    marking-met who c.args.at (length letters) n c.loop-i.i known (members c.union-known.result) c.loop-i.marks.items (omega arith) c.loop-i.invariant
    (omega (arith, size))
    (sym (ap (λ ps. meets ps known) takes) ∙ sym c.meets.ensures ∙ c.if-meets.true)
    (λ p. c.union-known.ensures p ∙ ap (λ ps. has known p || has ps p) takes)

pub loop-i-preserved : goal.loop-i-preserved
loop-i-preserved c =
    let letters = c.letters-letters.result.now in
    let who = participants (loc_of c.args.alphabet.now) (numbers letters) in
    let n : ℕ = c.loop-i.i - 1 in
    let known : List ℕ = members c.loop-i.known in
    marking-apart who c.args.at (length letters) n c.loop-i.i known c.loop-i.marks.items (omega arith) c.loop-i.invariant
    (sym (ap (λ ps. meets ps known) c.participants_at-takes.ensures) ∙ sym c.meets.ensures ∙ c.if-meets.false)

pub returns : goal.returns
returns c =
    let letters = c.letters-letters.result.now in
    let row : List ℕ → ℕ → List Bool = λ w size. map (in_past (participants (loc_of c.args.alphabet.now) w) c.args.at) (range_with_len 0 size) in
    c.of.ensures
    ∙ marking-end (participants (loc_of c.args.alphabet.now) (numbers letters)) c.args.at (length letters) c.loop-i.i
    (members c.loop-i.known) c.loop-i.marks.items (omega arith) c.loop-i.invariant
    ∙ ap (row (numbers letters)) (sym (numbers-length letters)) ∙ ap (λ w. row w (length w)) c.letters-letters.ensures
