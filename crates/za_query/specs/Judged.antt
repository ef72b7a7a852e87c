-- What the language of a job comes to: it is trace-closed, or it has a break, and what is said of this.
use Rattle.std.specs.Prelude.{◌≡◌}
use Rattle.za_alpha.specs.Alphabet.{loc_of}
use Rattle.za_dfa.specs.Partials.{completion}
use Rattle.za_dfa.specs.Tables.{automaton_of}
use Rattle.za_closure.specs.Breaks.{Break, IsLeastBreak, left_word, right_word}
use Rattle.za_lang.specs.Jobs.{JobData}
use Rattle.za_freeze.specs.Frozen.{IsAutomatonOf}
use Rattle.za_report.specs.Texts.{open_text}
use Rattle.za_query.specs.declared.query.Said.{Said}
use Rattle.za_query.specs.declared.judging.Judged.{Judged}
use Rattle.za_query.specs.declared.judging.Judged.TheVariants.{Open, Closed}

-- the language has a break: the status is 5, and the text says the two words of the least break
abbrev pub SaysBreak : JobData → Said → Type 0
SaysBreak job said =
    (k : Break) × IsLeastBreak (loc_of job.lang.alphabet) (automaton_of (completion job.lang)) k × (said.status ≡ 5)
    × (said.text.items ≡ open_text job.lang.alphabet (left_word k) (right_word k))

-- that is said, or the language is trace-closed, and this is its minimal automaton
abbrev pub IsJudgement : JobData → Judged → Type 0
IsJudgement job (Open said) = SaysBreak job said
IsJudgement job (Closed closed) = IsAutomatonOf job closed
