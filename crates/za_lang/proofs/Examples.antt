-- The definitions of documents, held against small texts.
use Rattle.std.proofs.Common.{◌≡◌, ℕ, ◌++◌, List, [], ◌∷◌, Some, None, refl}
use Rattle.std.specs.Prelude.{codes}
use Rattle.za_text.specs.declared.kind.Kind.TheVariants.{Cut, BadByte, OutOfOrder, WordCount, NoEnd, Trailing, NoSuchState, TwoTargets, NotOfProcess}
use Rattle.za_text.specs.declared.kind.Kind.TheVariants.{NoSuchProcess, NoSuchLetter, ScriptsFull, BadRepeat, Header, RepeatedProcess, BadName}
use Rattle.za_alpha.specs.Procs.{members_below}
use Rattle.za_lang.specs.Tests.{new_row_fault}
use Rattle.za_lang.specs.Documents.{said, line_fault, fault_of, job_of}

-- two processes, letters a, b and c, two states and two rows: ten lines
head : List ℕ
head = codes "zla 1\nprocesses 2\nletter a 0\nletter b 1\nletter c 0 1 0\nstates 2\nstart 0\naccept 0\nrow 0 a 1\nrow 1 a 0\n"

no_bytes : fault_of [] ≡ Some (record { line = 1; kind = NoEnd })
unfolding said
no_bytes = refl

-- blank lines and tabs, and two script lines of one process
right : fault_of (head ++ codes "script 0 a c\n\t \nscript 1\tb\nscript 0 a\nend\n\n") ≡ None
unfolding head said line_fault new_row_fault members_below
right = refl

scripts_joined : (job_of (head ++ codes "script 0 a c\n\t \nscript 1\tb\nscript 0 a\nend\n\n")).scripts ≡ (0 ∷ 2 ∷ 0 ∷ []) ∷ (1 ∷ []) ∷ []
unfolding head said
scripts_joined = refl

-- a row that is given again changes nothing
given_again : fault_of (head ++ codes "row 0 a 1\nend\n") ≡ None
unfolding head said line_fault new_row_fault
given_again = refl

targets_gathered : (job_of (head ++ codes "row 0 a 1\nend\n")).lang.targets ≡ Some 1 ∷ None ∷ None ∷ Some 0 ∷ None ∷ None ∷ []
unfolding head said
targets_gathered = refl

two_targets : fault_of (head ++ codes "row 0 a 0\nend\n") ≡ Some (record { line = 11; kind = TwoTargets })
unfolding head said line_fault new_row_fault
two_targets = refl

foreign_letter : fault_of (head ++ codes "script 0 a b a\nend\n") ≡ Some (record { line = 11; kind = NotOfProcess })
unfolding head said line_fault new_row_fault members_below
foreign_letter = refl

-- the line is cut, whatever it holds
cut_end : fault_of (head ++ codes "end") ≡ Some (record { line = 11; kind = Cut })
unfolding head said line_fault new_row_fault
cut_end = refl

bad_byte : fault_of (head ++ codes "end\r\n") ≡ Some (record { line = 11; kind = BadByte })
unfolding head said line_fault new_row_fault
bad_byte = refl

-- the place is tested before the number of words
out_of_order : fault_of (head ++ codes "accept 0 0 0\n") ≡ Some (record { line = 11; kind = OutOfOrder })
unfolding head said line_fault new_row_fault
out_of_order = refl

word_count : fault_of (head ++ codes "row 7 a\n") ≡ Some (record { line = 11; kind = WordCount })
unfolding head said line_fault new_row_fault
word_count = refl

-- the first of a row's tests that fails
first_state : fault_of (head ++ codes "row 2 d x\n") ≡ Some (record { line = 11; kind = NoSuchState })
unfolding head said line_fault new_row_fault
first_state = refl

no_end : fault_of (head ++ codes "script 0 a\n\n") ≡ Some (record { line = 13; kind = NoEnd })
unfolding head said line_fault new_row_fault members_below
no_end = refl

trailing : fault_of (head ++ codes "end\n\nend\n") ≡ Some (record { line = 13; kind = Trailing })
unfolding head said line_fault new_row_fault
trailing = refl

-- version 2: the same language with names, a comment and repeats; line 2 is the comment
named : List ℕ
named = codes "zla 2\n# two sides\nprocesses left right\nletter a left\nletter b right\nletter c left right\nstates 2\nstart 0\naccept 0\nrow 0 a 1\nrow 1 a 0\n"

repeats : fault_of (named ++ codes "script left a*2 c\nscript right b c\nend\n") ≡ None
unfolding named said line_fault new_row_fault members_below
repeats = refl

repeats_said : (job_of (named ++ codes "script left a*2 c\nscript right b c\nend\n")).scripts ≡ (0 ∷ 0 ∷ 2 ∷ []) ∷ (1 ∷ 2 ∷ []) ∷ []
unfolding named said
repeats_said = refl

names_said : (job_of (named ++ codes "end\n")).naming.names ≡ codes "left" ∷ codes "right" ∷ []
unfolding named said
names_said = refl

bad_repeat : fault_of (named ++ codes "script left a*0\nend\n") ≡ Some (record { line = 12; kind = BadRepeat })
unfolding named said line_fault new_row_fault members_below
bad_repeat = refl

-- the letter is tested before the repeat, and the process before both
letter_first : fault_of (named ++ codes "script left b*0\nend\n") ≡ Some (record { line = 12; kind = NotOfProcess })
unfolding named said line_fault new_row_fault members_below
letter_first = refl

process_first : fault_of (named ++ codes "script 0 d*0\nend\n") ≡ Some (record { line = 12; kind = NoSuchProcess })
unfolding named said line_fault new_row_fault members_below
process_first = refl

too_long : fault_of (named ++ codes "script left a*65537\nend\n") ≡ Some (record { line = 12; kind = ScriptsFull })
unfolding named said line_fault new_row_fault members_below
too_long = refl

-- in version 1 a comment is a line out of order, and a repeat the name of no letter
no_comments : fault_of (codes "zla 1\n# two sides\n") ≡ Some (record { line = 2; kind = OutOfOrder })
unfolding said line_fault
no_comments = refl

no_repeats : fault_of (head ++ codes "script 0 a*2\nend\n") ≡ Some (record { line = 11; kind = NoSuchLetter })
unfolding head said line_fault new_row_fault members_below
no_repeats = refl

-- a comment stands only after the header
early_comment : fault_of (codes "# x\nzla 2\n") ≡ Some (record { line = 1; kind = Header })
unfolding said line_fault
early_comment = refl

other_version : fault_of (codes "\nzla 3\n") ≡ Some (record { line = 2; kind = Header })
unfolding said line_fault
other_version = refl

-- a comment has no byte that a line may not hold
bad_comment : fault_of (codes "zla 2\n#\r\n") ≡ Some (record { line = 2; kind = BadByte })
unfolding said line_fault
bad_comment = refl

twice_named : fault_of (codes "zla 2\nprocesses p q p 0\n") ≡ Some (record { line = 2; kind = RepeatedProcess })
unfolding said line_fault
twice_named = refl

number_as_name : fault_of (codes "zla 2\nprocesses 2\n") ≡ Some (record { line = 2; kind = BadName })
unfolding said line_fault
number_as_name = refl
