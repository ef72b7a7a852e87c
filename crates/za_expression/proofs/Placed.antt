-- The letters of a form stand in the order of the text.
use Rattle.std.proofs.Common.{ℕ, ◌+◌, ◌≤◌, List, [], ◌∷◌, length, ap, arith, length-append}
use Rattle.za_expression.specs.declared.sign.Sign.{Sign}
use Rattle.za_expression.specs.declared.sign.Sign.TheVariants.{Close, End, Bar, Times, Ampersand}
use Rattle.za_expression.specs.Plain.{Plain}
use Rattle.za_expression.specs.Forms.{Form, Part, And, Not}
use Rattle.za_expression.specs.Private.Ordered.{Within, Spans}
use Rattle.za_expression.proofs.FormValues.{within_wider}
use Rattle.za_expression.specs.Grammar.{Rank, Atom, Item, Product, Sum, Reads, Named, EmptyWord, Group, Bare, Starred, Single, Next, Alone, Other, Level, Unary}
use Rattle.za_expression.specs.Grammar.{Whole, Derives, Plainly as IsPlain, Denied, Braced, Only, Joined}

pub spans_wider : (low low2 : ℕ) (f : Form) (high high2 : ℕ) → low2 ≤ low → high ≤ high2 → Spans low f high → Spans low2 f high2
spans_wider low low2 (Part e) high high2 a b h = within_wider low low2 e high high2 a b h
spans_wider low low2 (And c d) high high2 a b h =
    (h.0, spans_wider low low2 c h.0 h.0 a (omega arith) h.1, spans_wider h.0 h.0 d high high2 (omega arith) b h.2)
spans_wider low low2 (Not c) high high2 a b h = spans_wider low low2 c high high2 a b h

pub reads_within : (r : Rank) (at : ℕ) (ts : List Sign) (e : Plain) → Reads r at ts e → Within at e (at + length ts)
reads_within r at ts e (Named a) = (omega arith, omega arith)
reads_within r at ts e EmptyWord = omega arith
reads_within r at ts e (Group us h z) =
    let n = length-append us (Close ∷ []) in
    let s = ap length z in
    within_wider (at + 1) at e (at + 1 + length us) (at + length ts) (omega arith) (omega arith) (reads_within Sum (at + 1) us e h)
reads_within r at ts e (Bare h) = reads_within Atom at ts e h
reads_within r at ts e (Starred {e = d} us h z) =
    let n = length-append us (Times ∷ []) in
    let s = ap length z in
    within_wider at at d (at + length us) (at + length ts) (omega arith) (omega arith) (reads_within Item at us d h)
reads_within r at ts e (Single h) = reads_within Item at ts e h
reads_within r at ts e (Next {d = c} {e = d} us vs h k z) =
    let n = length-append us vs in
    let s = ap length z in (
      at + length us,
      reads_within Product at us c h,
      within_wider (at + length us) (at + length us) d (at + length us + length vs) (at + length ts)
          (omega arith) (omega arith) (reads_within Item (at + length us) vs d k),
    )
reads_within r at ts e (Alone h) = reads_within Product at ts e h
reads_within r at ts e (Other {d = c} {e = d} us vs h k z) =
    let n = length-append us (Bar ∷ vs) in
    let s = ap length z in (
      at + length us,
      reads_within Sum at us c h,
      within_wider (at + length us + 1) (at + length us) d (at + length us + 1 + length vs) (at + length ts)
          (omega arith) (omega arith) (reads_within Product (at + length us + 1) vs d k),
    )

pub derives_span : (r : Level) (at : ℕ) (ts : List Sign) (f : Form) → Derives r at ts f → Spans at f (at + length ts)
derives_span r at ts f (IsPlain {e = e} h) = reads_within Sum at ts e h
derives_span r at ts f (Denied {f = g} us h z) =
    let s = ap length z in
    spans_wider (at + 1) at g (at + 1 + length us) (at + length ts) (omega arith) (omega arith) (derives_span Unary (at + 1) us g h)
derives_span r at ts f (Braced us h z) =
    let n = length-append us (End ∷ []) in
    let s = ap length z in
    spans_wider (at + 1) at f (at + 1 + length us) (at + length ts) (omega arith) (omega arith) (derives_span Whole (at + 1) us f h)
derives_span r at ts f (Only h) = derives_span Unary at ts f h
derives_span r at ts f (Joined {f = c} {g = d} us vs h k z) =
    let n = length-append us (Ampersand ∷ vs) in
    let s = ap length z in (
      at + length us,
      derives_span Whole at us c h,
      spans_wider (at + length us + 1) (at + length us) d (at + length us + 1 + length vs) (at + length ts)
          (omega arith) (omega arith) (derives_span Unary (at + length us + 1) vs d k),
    )
