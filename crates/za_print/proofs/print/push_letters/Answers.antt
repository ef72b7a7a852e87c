use Rattle.std.proofs.Common.{◌≡◌, ◌++◌, ◌∷◌, ◌∙◌, ap, map, length, take, codes, List, ℕ, arith}
use Rattle.std.proofs.Math.Seq.{take-length}
use Rattle.za_alpha.specs.declared.procs.Procs.{Procs}
use Rattle.za_alpha.specs.Procs.{members}
use Rattle.za_alpha.specs.Alphabet.{name_at}
use Rattle.za_text.specs.Printed.{line, text_of}
use Rattle.za_text.specs.ProcessNames.{name_of}
use Rattle.za_print.specs.Printed.{letter_line}
use Rattle.za_write.proofs.Lines.{one-more}
use Rattle.za_print.proofs.LineLemmas.{letters-more}
use Rattle.za_print.proofs.print.push_letters.Goals as goal

pub loop-a-preserved : goal.loop-a-preserved
loop-a-preserved c =
    let ls = c.args.alphabet.now.letters in
    let a = c.loop-a.a in
    let said : List ℕ → Procs → List ℕ = λ name s. c.loop-a.text.items ++ line (codes "letter" ∷ name ∷ map (name_of c.args.names.now) (members s)) in
    one-more _ _ _ _ _ _ c.loop-a.invariant
    (c.in_ok-push_letter.ensures ∙ ap (λ name. said name c.loc.result) c.name.ensures ∙ ap (λ s. said (name_at ls a) s) c.loc.ensures)
    (letters-more c.args.names.now ls a (omega arith))

pub returns : goal.returns
returns c =
    let ls = c.args.alphabet.now.letters in
    let all : c.loop-a.a ≡ length ls = omega arith in
    c.loop-a.invariant ∙ ap (λ n. c.args.text.now.items ++ text_of (map (letter_line c.args.names.now) (take n ls))) all
    ∙ ap (λ xs. c.args.text.now.items ++ text_of (map (letter_line c.args.names.now) xs)) (take-length ls)
