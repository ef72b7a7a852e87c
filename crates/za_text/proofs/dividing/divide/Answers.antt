use Rattle.std.proofs.Common.{◌+◌, ap, sym, ◌∙◌, arith}
use Rattle.za_text.specs.Lines.{LeftLines, lines_of}
use Rattle.za_text.proofs.DividingLemmas as lemma
use Rattle.za_text.proofs.dividing.divide.Goals as goal

pub lines-init : goal.lines-init
lines-init g c = lemma.searched-start c.new-lines.ensures.rest c.new-lines.ensures.passed

pub overflow_add-end : goal.overflow_add-end
overflow_add-end g c =
    let w =
    lemma.line-within c.next.new.self.rest c.lines.invariant c.in-Some.ensures.first
    (ap (λ n. c.lines.len + n) c.len_of.ensures) c.in-Some.ensures.passed in
    let few = c.requires in omega arith

pub slice_bounds-result-end : goal.slice_bounds-result-end
slice_bounds-result-end g c =
    lemma.before-cut c.next.new.self.rest c.lines.invariant c.in-Some.ensures.first
    (ap (λ n. c.lines.len + n) c.len_of.ensures) c.in-Some.ensures.passed

pub slice_bounds-result-end-then-passes : goal.slice_bounds-result-end-then-passes
slice_bounds-result-end-then-passes g c =
    lemma.line-cut c.next.new.self.rest c.lines.invariant c.in-Some.ensures.first
    (ap (λ n. c.lines.len + n) c.len_of.ensures) c.in-Some.ensures.passed

pub returns-then-passes-clause-before : goal.returns-then-passes-clause-before
returns-then-passes-clause-before g c =
    lemma.found-before c.next.new.self.rest c.lines.invariant c.in-Some.ensures.first
    (ap (λ n. c.lines.len + n) c.len_of.ensures) c.in-Some.ensures.passed (sym c.if-passes.ensures)

pub returns-then-passes-clause-through : goal.returns-then-passes-clause-through
returns-then-passes-clause-through g c =
    lemma.found-through c.next.new.self.rest c.lines.invariant c.in-Some.ensures.first
    (ap (λ n. c.lines.len + n) c.len_of.ensures) c.in-Some.ensures.passed (sym c.if-passes.ensures)

pub returns-then-passes-clause-after : goal.returns-then-passes-clause-after
returns-then-passes-clause-after g c =
    lemma.found-after c.next.new.self.rest c.lines.invariant c.in-Some.ensures.first
    (ap (λ n. c.lines.len + n) c.len_of.ensures) c.in-Some.ensures.passed (sym c.if-passes.ensures)

pub returns-then-passes-clause-passed : goal.returns-then-passes-clause-passed
returns-then-passes-clause-passed g c =
    lemma.found-passed c.next.new.self.rest c.lines.invariant c.in-Some.ensures.first
    (ap (λ n. c.lines.len + n) c.len_of.ensures) c.in-Some.ensures.passed (sym c.if-passes.ensures)

pub returns-then-passes-clause-line : goal.returns-then-passes-clause-line
returns-then-passes-clause-line g c =
    lemma.found-line c.next.new.self.rest c.lines.invariant c.in-Some.ensures.first
    (ap (λ n. c.lines.len + n) c.len_of.ensures) c.in-Some.ensures.passed (sym c.if-passes.ensures)

pub returns-then-passes-clause-number : goal.returns-then-passes-clause-number
returns-then-passes-clause-number g c =
    c.in-Some.ensures.number ∙ sym c.in-Some.ensures.passed ∙
    lemma.found-number c.next.new.self.rest c.lines.invariant c.in-Some.ensures.first
    (ap (λ n. c.lines.len + n) c.len_of.ensures) c.in-Some.ensures.passed (sym c.if-passes.ensures)

pub lines-preserved : goal.lines-preserved
lines-preserved g c =
    lemma.searched-more c.next.new.self.rest c.lines.invariant c.in-Some.ensures.first
    (ap (λ n. c.lines.len + n) c.len_of.ensures) c.in-Some.ensures.passed (sym c.if-passes.ensures)

pub returns-clause-before : goal.returns-clause-before
returns-clause-before g c = lemma.none-before c.lines.invariant c.in_default.ensures.none

pub returns-clause-through : goal.returns-clause-through
returns-clause-through g c = lemma.none-through c.lines.invariant c.in_default.ensures.none

pub returns-clause-line : goal.returns-clause-line
returns-clause-line g c = lemma.none-line c.lines.invariant c.in_default.ensures.none

pub returns-clause-after : goal.returns-clause-after
returns-clause-after g c =
    ap (λ (s : LeftLines). lines_of s.rest) c.in_default.ensures.same
    ∙ lemma.none-after c.lines.invariant c.in_default.ensures.none

pub returns-clause-passed : goal.returns-clause-passed
returns-clause-passed g c =
    ap (λ (s : LeftLines). s.passed) c.in_default.ensures.same
    ∙ lemma.none-passed c.lines.invariant c.in_default.ensures.none
