-- The order of the lines of a document.
use Rattle.std.specs.Prelude.{ℕ, List, codes, Option, Some, None, if◌then◌else◌}
use Rattle.std.specs.Str.{bytes_eq}
use Rattle.za_text.specs.declared.kind.Kind.{Kind}
use Rattle.za_text.specs.declared.kind.Kind.TheVariants.{Header, OutOfOrder, Trailing}
use Rattle.za_lang.specs.declared.order.Head.{Head}
use Rattle.za_lang.specs.declared.order.Head.TheVariants.{Zla, Processes, Letter, States, Start}
use Rattle.za_lang.specs.declared.order.Head.TheVariants.{Accept, Row, Script, End, Other}
use Rattle.za_lang.specs.declared.order.Place.{Place}
use Rattle.za_lang.specs.declared.order.Place.TheVariants.{AtHeader, AtProcesses, AtFirstLetter, AtLetters}
use Rattle.za_lang.specs.declared.order.Place.TheVariants.{AtStart, AtAccept, AtRows, AtScripts, AfterEnd}

-- what a first word says
abbrev pub head_of : List ℕ → Head
head_of word =
    if bytes_eq word (codes "zla") then Zla
    else (if bytes_eq word (codes "processes") then Processes
    else (if bytes_eq word (codes "letter") then Letter
    else (if bytes_eq word (codes "states") then States
    else (if bytes_eq word (codes "start") then Start
    else (if bytes_eq word (codes "accept") then Accept
    else (if bytes_eq word (codes "row") then Row
    else (if bytes_eq word (codes "script") then Script
    else (if bytes_eq word (codes "end") then End else Other))))))))

-- the place after a line with this first word
abbrev pub next_place : Place → Head → Place
next_place place Zla = AtProcesses
next_place place Processes = AtFirstLetter
next_place place Letter = AtLetters
next_place place States = AtStart
next_place place Start = AtAccept
next_place place Accept = AtRows
next_place place Row = AtRows
next_place place Script = AtScripts
next_place place End = AfterEnd
next_place place Other = place

-- the fault of a line with this first word at a place, where it may not stand there
abbrev pub order_fault : Place → Head → Option Kind
order_fault AtHeader Zla = None
order_fault AtHeader _ = Some Header
order_fault AtProcesses Processes = None
order_fault AtProcesses _ = Some OutOfOrder
order_fault AtFirstLetter Letter = None
order_fault AtFirstLetter _ = Some OutOfOrder
order_fault AtLetters Letter = None
order_fault AtLetters States = None
order_fault AtLetters _ = Some OutOfOrder
order_fault AtStart Start = None
order_fault AtStart _ = Some OutOfOrder
order_fault AtAccept Accept = None
order_fault AtAccept _ = Some OutOfOrder
order_fault AtRows Row = None
order_fault AtRows Script = None
order_fault AtRows End = None
order_fault AtRows _ = Some OutOfOrder
order_fault AtScripts Script = None
order_fault AtScripts End = None
order_fault AtScripts _ = Some OutOfOrder
order_fault AfterEnd _ = Some Trailing
