use Rattle.std.proofs.Common.{◌≡◌, ◌++◌, map, ap, ◌∙◌, arith}
use Rattle.za_alpha.specs.Letters.{numbers}
use Rattle.za_alpha.specs.Alphabet.{DistributedAlphabet}
use Rattle.za_dfa.specs.Tables.{CompleteDfa}
use Rattle.za_local.proofs.Given.{locals-length, local-at}
use Rattle.za_write.proofs.Lines.{one-more, text_of-more}
use Rattle.std.specs.List.{range_with_len}
use Rattle.za_text.specs.Printed.{line, text_of}
use Rattle.za_freeze.specs.Frozen.{at_words, at_line}
use Rattle.za_freeze.proofs.freezing.push_processes.Goals as goal
use Rattle.za_freeze.proofs.freezing.push_processes.Goals.{After-processes-p-end}

-- how many processes there are
many : (c : After-processes-p-end) → c.processes-p-end.result ≡ c.args.closed.now.alphabet.processes
many c =
    c.processes-p-end.ensures.value
    ∙ ap (λ (a : DistributedAlphabet). a.processes) (c.alphabet.ensures ∙ ap (λ (d : CompleteDfa). d.alphabet) c.dfa.ensures.value)

pub bounds-locals-p : goal.bounds-locals-p
bounds-locals-p c =
    let at = goal.at.bounds-locals-p c in
    let d = c.args.closed.now in
    let n = many at.After-processes-p-end in
    let long = locals-length d (numbers c.args.letters.now) c.args.locals.now c.requires.locals in
    omega arith

pub push_process-requires-clause-local : goal.push_process-requires-clause-local
push_process-requires-clause-local c =
    let at = goal.at.push_process-requires-clause-local c in
    let n = many at.After-processes-p-end in
    c.index-locals-p.is ∙ local-at c.args.closed.now (numbers c.args.letters.now) c.args.locals.now c.requires.locals c.loop-p.p c.index-locals-p.result
    (omega arith)

pub loop-p-preserved : goal.loop-p-preserved
loop-p-preserved c =
    let w = numbers c.args.letters.now in
    let d = c.args.closed.now in
    one-more _ _ _ _ _ _ c.loop-p.invariant
    (c.in_ok-push_process.ensures ∙ ap (λ name. c.loop-p.text.items ++ line (at_words d w c.loop-p.p name)) c.of.ensures)
    (text_of-more (at_line c.args.names.now d w) c.loop-p.p)

pub returns : goal.returns
returns c =
    let at = goal.at.returns c in
    let n = many at.After-processes-p-end in
    let all : c.loop-p.p ≡ c.args.closed.now.alphabet.processes = omega arith in
    c.loop-p.invariant
    ∙ ap (λ n. c.args.text.now.items ++ text_of (map (at_line c.args.names.now c.args.closed.now (numbers c.args.letters.now)) (range_with_len 0 n))) all
