use Rattle.std.proofs.Common.{◌≡◌, ◌+◌, ◌*◌, ◌%◌, ◌<◌, drop}
use Rattle.std.specs.Prelude.{fold}
use Rattle.za_alpha.specs.Private.Index.{keys, key_of}
use Rattle.za_alpha.proofs.index.key_of_all.Given as goal

-- the rest of the name makes the key of the whole
abbrev pub invariant-loop-b : goal.invariant-loop-b
invariant-loop-b l = record {
  rest : fold (λ key b. (key * 37 + b) % keys) l.key (drop l.b-index l.name) ≡ key_of l.name;
  small : l.key < keys;
}
