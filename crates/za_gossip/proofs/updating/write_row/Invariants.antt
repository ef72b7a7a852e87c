use Rattle.std.proofs.Common.{◌≡◌, ℕ, ◌*◌, ◌<◌, ◌≤◌, [], length, get_or, map}
use Rattle.za_ids.specs.Numbers.{event_numbers}
use Rattle.za_gossip.specs.Private.Levels.{level_of}
use Rattle.za_gossip.specs.Private.Sources.{joined_entry}
use Rattle.za_gossip.proofs.updating.write_row.Given as goal

-- the first blocks are written, and the others are those of the first input
abbrev pub invariant-loop-q : goal.invariant-loop-q
invariant-loop-q l = record {
  done : (k : ℕ) → k < l.q * l.width →
      (get_or l.into k (record { 0 = 0 })).0 ≡ joined_entry (event_numbers l.own) l.sources (map (level_of l.level) l.inputs) k;
  rest : (k : ℕ) → l.q * l.width ≤ k → k < length l.into → (get_or l.into k (record { 0 = 0 })).0 ≡ get_or (get_or (map (level_of l.level) l.inputs) 0 []) k 0;
}
