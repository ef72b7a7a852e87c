-- The definitions of texts with readings, held against small texts.
use Rattle.std.proofs.Common.{◌≡◌, ℕ, ◌++◌, List, [], ◌∷◌, Some, None, refl}
use Rattle.std.specs.Prelude.{codes, decimal}
use Rattle.za_text.specs.Printed.{text_of}
use Rattle.za_text.specs.declared.kind.Kind.TheVariants.{Cut, OutOfOrder, WordCount, NoEnd, Trailing, NoSuchProcess, BadNumber}
use Rattle.za_alpha.specs.Procs.{members_below}
use Rattle.za_lang.specs.Tests.{new_row_fault}
use Rattle.za_lang.specs.Documents.{said, line_fault}
use Rattle.za_news.specs.Grammar.{read_line_kind}
use Rattle.za_news.specs.NewsTexts.{news_fault, news_job, news_readings}
use Rattle.za_news.specs.Texts.{news_text}

-- two processes, letters a, b and c, and two scripts: 17 lines
two : List ℕ
two = codes "zla 2\nprocesses left right\nletter a left\nletter b right\nletter c left right\nstates 2\nstart 0\naccept 0\nrow 0 a 1\nrow 0 b 0\nrow 0 c 0\nrow 1 a 0\nrow 1 b 1\nrow 1 c 1\nscript left a c a\nscript right b c\nend\n"

with_readings : List ℕ
with_readings = two ++ codes "readings\nread left 10 20 30\n# five\nread right 5\nend\n"

right : news_fault with_readings ≡ None
unfolding two with_readings said line_fault new_row_fault members_below read_line_kind
right = refl

readings_gathered : news_readings with_readings ≡ (10 ∷ 20 ∷ 30 ∷ []) ∷ (5 ∷ []) ∷ []
unfolding two with_readings said
readings_gathered = refl

news_told : news_text (news_job with_readings) (news_readings with_readings)
    ≡ text_of ((codes "known" ∷ codes "left" ∷ decimal 30 ∷ decimal 20 ∷ []) ∷ (codes "known" ∷ codes "right" ∷ decimal 20 ∷ decimal 20 ∷ []) ∷ [])
unfolding two with_readings said members_below
news_told = refl

-- several lines of one process are joined
readings_joined : news_readings (two ++ codes "readings\nread right 1 2\nread left\nread right 3\nend\n") ≡ [] ∷ (1 ∷ 2 ∷ 3 ∷ []) ∷ []
unfolding two said
readings_joined = refl

-- no line divides the text
not_divided : news_fault two ≡ Some (record { line = 18; kind = NoEnd })
unfolding two said line_fault new_row_fault members_below
not_divided = refl

no_process : news_fault (two ++ codes "readings\nread both 1\nend\n") ≡ Some (record { line = 19; kind = NoSuchProcess })
unfolding two said line_fault new_row_fault members_below read_line_kind
no_process = refl

-- the document is refused first
no_document : news_fault (codes "zla 1\nreadings\nread 2 1\n") ≡ Some (record { line = 2; kind = NoEnd })
unfolding said line_fault
no_document = refl

-- the line that divides the text is cut
divided_cut : news_fault (two ++ codes "\treadings ") ≡ Some (record { line = 18; kind = Cut })
unfolding two said line_fault new_row_fault members_below
divided_cut = refl

-- only the first such line divides it
divided_twice : news_fault (two ++ codes "readings\nreadings\n") ≡ Some (record { line = 19; kind = OutOfOrder })
unfolding two said line_fault new_row_fault members_below read_line_kind
divided_twice = refl

-- the process is tested before the numbers
process_first : news_fault (two ++ codes "readings\nread 2 x\n") ≡ Some (record { line = 19; kind = NoSuchProcess })
unfolding two said line_fault new_row_fault members_below read_line_kind
process_first = refl

bad_number : news_fault (two ++ codes "readings\nread left 1 x 01\n") ≡ Some (record { line = 19; kind = BadNumber })
unfolding two said line_fault new_row_fault members_below read_line_kind
bad_number = refl

word_count : news_fault (two ++ codes "readings\nread\n") ≡ Some (record { line = 19; kind = WordCount })
unfolding two said line_fault new_row_fault members_below read_line_kind
word_count = refl

trailing : news_fault (two ++ codes "readings\nend\n\nend\n") ≡ Some (record { line = 21; kind = Trailing })
unfolding two said line_fault new_row_fault members_below read_line_kind
trailing = refl

no_end : news_fault (two ++ codes "readings\nread left 1\n\n") ≡ Some (record { line = 21; kind = NoEnd })
unfolding two said line_fault new_row_fault members_below read_line_kind
no_end = refl
