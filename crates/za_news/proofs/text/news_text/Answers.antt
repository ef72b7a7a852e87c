use Rattle.std.proofs.Common.{◌≡◌, ◌∙◌, ◌++◌, length, map, ap, sym, subst}
use Rattle.std.specs.List.{range_with_len}
use Rattle.za_alpha.specs.Words.{IsWord}
use Rattle.za_alpha.specs.Letters.{numbers}
use Rattle.za_alpha.specs.Alphabet.{DistributedAlphabet, loc_of}
use Rattle.za_script.specs.ScriptLists.{script_of}
use Rattle.za_script.specs.Woven.{weave_of}
use Rattle.za_script.proofs.Confluence.{weave_is_maximal}
use Rattle.za_text.specs.Printed.{text_of}
use Rattle.za_text.specs.ProcessNames.{name_of}
use Rattle.za_payload.specs.Circles.{known_in}
use Rattle.za_news.specs.Texts.{line_of_known}
use Rattle.za_news.specs.Private.Weaving.{IsNewsAfter}
use Rattle.za_news.proofs.Knowing.{lines_are}
use Rattle.za_news.proofs.text.news_text.Goals as goal

pub circle_after-requires : goal.circle_after-requires
circle_after-requires c =
    let a = c.alphabet-alphabet.result.now in
    let woven = (weave_is_maximal (loc_of a) (length a.letters) a.processes (script_of c.args.job.now.job.scripts)
    c.processes-processes.ensures.whole.located).fits.word in
    subst (IsWord (length a.letters)) (sym (c.letters.ensures ∙ c.word.ensures ∙ c.in_ok-woven.ensures.weave.word)) woven

pub returns : goal.returns
returns c =
    let job = c.args.job.now.job in
    let readings = c.args.job.now.readings in
    let a = c.alphabet-alphabet.result.now in
    let alphabet = job.lang.table.alphabet in
    let same : a ≡ alphabet = c.alphabet-alphabet.ensures in
    let circle = c.in_ok-circle.circle in
    let word : numbers c.letters.result.now ≡ weave_of a job.scripts = c.letters.ensures ∙ c.word.ensures ∙ c.in_ok-woven.ensures.weave.word in
    let h : IsNewsAfter alphabet readings (weave_of alphabet job.scripts) circle =
    subst (λ (b : DistributedAlphabet). IsNewsAfter b readings (weave_of b job.scripts) circle) same
    (subst (λ u. IsNewsAfter a readings u circle) word c.in_ok-circle.ensures) in
    let names = job.lang.naming.names in
    let n = c.processes-processes.result in
    let size : n ≡ alphabet.processes = c.processes-processes.ensures.value ∙ ap (λ (b : DistributedAlphabet). b.processes) same in
    c.in_ok-push_lines.ensures
    ∙ ap (λ xs. xs ++ text_of (map (λ p. line_of_known (name_of c.names.result.now p) n (known_in circle.known p)) (range_with_len 0 n)))
    c.new-text.ensures.items
    ∙ ap (λ ns. text_of (map (λ p. line_of_known (name_of ns p) n (known_in circle.known p)) (range_with_len 0 n))) c.names.ensures.value
    ∙ lines_are alphabet readings (weave_of alphabet job.scripts) circle h names n size
