use Rattle.std.proofs.Common.{◌≡◌, ◌++◌, take, map}
use Rattle.za_ids.specs.Numbers.{event_numbers}
use Rattle.za_text.specs.Printed.{spaced}
use Rattle.za_write.specs.Events.{number_word}
use Rattle.za_write.proofs.events.push_entries.Given as goal

-- the text has the events so far
abbrev pub invariant-loop-id : goal.invariant-loop-id
invariant-loop-id l = l.text.items ≡ l.initial.text.items ++ spaced (map (number_word l.alphabet) (event_numbers (take l.id-index l.ids)))
