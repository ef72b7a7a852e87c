-- The texts that name the kinds of refusal.
use Rattle.std.specs.Prelude.{ℕ, List, codes}
use Rattle.za_text.specs.declared.kind.Kind.{Kind}
use Rattle.za_text.specs.declared.kind.Kind.TheVariants.{Cut, BadByte, Header, OutOfOrder, WordCount, NoEnd, Trailing}
use Rattle.za_text.specs.declared.kind.Kind.TheVariants.{BadNumber, BadName, ProcessCount, LetterCount, RepeatedName}
use Rattle.za_text.specs.declared.kind.Kind.TheVariants.{EmptyLoc, NoSuchProcess, StateCount, NoSuchState}
use Rattle.za_text.specs.declared.kind.Kind.TheVariants.{NoSuchLetter, TwoTargets, NotOfProcess, ScriptsFull}
use Rattle.za_text.specs.declared.kind.Kind.TheVariants.{NoSuchAnswer, ClaimFull, BadEvent, NoSuchLabel}
use Rattle.za_text.specs.declared.kind.Kind.TheVariants.{WideProcesses, RepeatedProcess, WideLetters, WideStates}
use Rattle.za_text.specs.declared.kind.Kind.TheVariants.{BadRepeat, ExprHeader, ExprFull, BadExpr, ExprStates}
use Rattle.za_text.specs.declared.kind.Kind.TheVariants.{NoSuchCut, NotOwn}

-- the text of a kind
abbrev pub kind_text : Kind → List ℕ
kind_text Cut = codes "line is cut"
kind_text BadByte = codes "bad byte"
kind_text Header = codes "header is not zla 1 or 2"
kind_text OutOfOrder = codes "line is out of order"
kind_text WordCount = codes "wrong number of words"
kind_text NoEnd = codes "end is missing"
kind_text Trailing = codes "text after end"
kind_text BadNumber = codes "bad number"
kind_text BadName = codes "bad name"
kind_text ProcessCount = codes "processes not in 1 to 6"
kind_text LetterCount = codes "more than 32 letters"
kind_text RepeatedName = codes "name is repeated"
kind_text EmptyLoc = codes "letter without process"
kind_text NoSuchProcess = codes "no such process"
kind_text StateCount = codes "states not in 1 to 32"
kind_text NoSuchState = codes "no such state"
kind_text NoSuchLetter = codes "no such letter"
kind_text TwoTargets = codes "two targets"
kind_text NotOfProcess = codes "letter not of this process"
kind_text ScriptsFull = codes "more than 65536 script letters"
kind_text NoSuchAnswer = codes "no such answer"
kind_text ClaimFull = codes "more than 65536 events"
kind_text BadEvent = codes "bad event"
kind_text NoSuchLabel = codes "no such label"
kind_text WideProcesses = codes "processes not in 1 to 10"
kind_text RepeatedProcess = codes "process is repeated"
kind_text WideLetters = codes "more than 128 letters"
kind_text WideStates = codes "states not in 1 to 128"
kind_text BadRepeat = codes "bad repeat"
kind_text ExprHeader = codes "header is not zla expr"
kind_text ExprFull = codes "more than 64 expression words"
kind_text BadExpr = codes "bad expression"
kind_text ExprStates = codes "more than 128 states"
kind_text NoSuchCut = codes "no such cut"
kind_text NotOwn = codes "not the frozen text"
