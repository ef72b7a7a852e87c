use Rattle.std.proofs.Common.{◌∙◌, length, subst, sym}
use Rattle.za_alpha.specs.Words.{IsWord}
use Rattle.za_alpha.specs.Alphabet.{loc_of}
use Rattle.za_script.specs.ScriptLists.{script_of}
use Rattle.za_script.proofs.Confluence.{weave_is_maximal}
use Rattle.za_report.proofs.answer.push_stuck.Goals as goal

pub push_names_line-requires : goal.push_names_line-requires
push_names_line-requires c =
    let a = c.args.alphabet.now in
    let woven = (weave_is_maximal (loc_of a) (length a.letters) a.processes (script_of c.args.scripts.now) c.processes.ensures.whole.located).fits.word in
    subst (IsWord (length a.letters)) (sym (c.letters.ensures ∙ c.word.ensures ∙ c.requires.woven.word)) woven
