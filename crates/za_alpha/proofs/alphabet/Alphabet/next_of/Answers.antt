use Rattle.std.proofs.Common.{◌≡◌, ◌<◌, length, false, ap, sym, ◌∙◌, arith, get_or}
use Rattle.za_alpha.specs.Words.{has}
use Rattle.za_alpha.specs.Letters.{numbers}
use Rattle.za_alpha.specs.Procs.{members}
use Rattle.za_alpha.specs.Alphabet.{loc_of}
use Rattle.za_alpha.specs.declared.procs.Procs.{Procs}
use Rattle.za_alpha.proofs.Projections.{letter-within, number-at, numbers-length, projection-skip}
use Rattle.za_alpha.proofs.alphabet.Alphabet.next_of.Goals as goal

pub loc-requires : goal.loc-requires
loc-requires c = letter-within (length c.args.self.now.letters) c.args.letters.now c.loop-i.i _ c.requires.word (omega arith)

pub loop-i-preserved : goal.loop-i-preserved
loop-i-preserved c =
    let alphabet = c.args.self.now in
    let here : c.loop-i.i < length c.args.letters.now = omega arith in
    let at = number-at c.args.letters.now c.loop-i.i _ here in
    let off : has (loc_of alphabet (get_or (numbers c.args.letters.now) c.loop-i.i 0)) c.args.p ≡ false =
    ap (λ a. has (loc_of alphabet a) c.args.p) at ∙ sym (ap (λ (s : Procs). has (members s) c.args.p) c.loc.ensures) ∙ sym c.has.ensures ∙ c.if-has.false in
    c.loop-i.invariant ∙ projection-skip (loc_of alphabet) c.args.p (numbers c.args.letters.now) c.loop-i.i (omega (arith, numbers-length c.args.letters.now))
    off
