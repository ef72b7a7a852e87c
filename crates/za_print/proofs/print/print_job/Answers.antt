use Rattle.std.proofs.Common.{◌≡◌, ◌++◌, ◌∷◌, [], ◌∙◌, ap, map, codes, subst, sym, None, List, ℕ}
use Rattle.std.specs.List.{range_with_len}
use Rattle.za_alpha.specs.Alphabet.{DistributedAlphabet}
use Rattle.za_text.specs.Printed.{line, text_of, number_line}
use Rattle.za_lang.specs.Answers.{data_of}
use Rattle.za_lang.specs.Documents.{fault_of, job_of}
use Rattle.za_lang.specs.Jobs.{IsJob}
use Rattle.za_print.specs.Printed.{version_word, processes_line, letter_line, script_line, script_lines, accept_line, row_lines, printed}
use Rattle.za_print.proofs.LineLemmas.{nine_pieces}
use Rattle.za_print.proofs.ReadBack.{read_back}
use Rattle.za_print.proofs.print.print_job.Goals as goal

pub returns : goal.returns
returns c =
    let naming = c.args.job.now.lang.naming in
    let lang = c.args.job.now.lang.table in
    let scripts = c.args.job.now.scripts in
    let size = c.processes.ensures.value ∙ c.requires.processes in
    let said = c.states.ensures.whole in
    let text : c.extend_from_slice.new.self.items ≡ printed (data_of c.args.job.now) =
    nine_pieces (codes "zla" ∷ version_word naming.version ∷ []) (processes_line naming) (number_line (codes "states") lang.states)
    (number_line (codes "start") lang.start) (accept_line lang)
    (codes "end" ∷ []) (map (letter_line naming.names) lang.alphabet.letters) (row_lines lang) (script_lines naming lang.alphabet scripts) _ _ _ _ _ _ _ _ _
    (c.in_ok-text.ensures.items ∙ c.header.ensures)
    c.in_ok-push_processes_line.ensures
    (c.in_ok-push_letters.ensures ∙ ap
    (λ (a : DistributedAlphabet). c.push_processes_line.new.text.items ++ text_of (map (letter_line c.names.result.now) a.letters)) c.alphabet.ensures
    ∙ ap (λ ns. c.push_processes_line.new.text.items ++ text_of (map (letter_line ns) lang.alphabet.letters)) c.names.ensures.value)
    (c.in_ok-push_number_line.ensures.ok ∙ ap (λ n. c.push_letters.new.text.items ++ line (number_line (codes "states") n)) c.states.ensures.value)
    (c.in_ok-push_number_line-2.ensures.ok ∙ ap (λ n. c.push_number_line.new.text.items ++ line (number_line (codes "start") n)) c.start.ensures.value)
    c.in_ok-push_accept_line.ensures
    c.in_ok-push_rows.ensures
    (c.in_ok-push_scripts.ensures ∙ ap
    (λ n. c.push_rows.new.text.items ++ text_of (map (script_line naming lang.alphabet.letters scripts) (range_with_len 0 n))) size)
    c.in_ok-extend_from_slice.ensures.items in
    let whole : IsJob (data_of c.args.job.now) =
    record { naming = said.naming; lang = said.whole; limits = said.limits; scripts = c.processes.ensures.limits; fit = c.requires } in
    record {
      text = text;
      read_back = subst (λ (bytes : List ℕ). (fault_of bytes ≡ None) × (job_of bytes ≡ data_of c.args.job.now)) (sym text)
          (read_back (data_of c.args.job.now) whole);
    }
