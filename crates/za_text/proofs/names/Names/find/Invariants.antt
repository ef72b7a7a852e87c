use Rattle.std.proofs.Common.{◌≡◌, drop}
use Rattle.std.specs.List.{position_from}
use Rattle.std.specs.Str.{bytes_eq}
use Rattle.za_text.specs.ProcessNames.{process_named}
use Rattle.za_text.proofs.names.Names.find.Given as goal

abbrev pub invariant-loop-p : goal.invariant-loop-p
invariant-loop-p l = position_from (λ name. bytes_eq name l.word) l.p (drop l.p l.self) ≡ process_named l.self l.word
