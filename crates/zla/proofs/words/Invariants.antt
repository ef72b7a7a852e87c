use Rattle.std.proofs.Common.{◌≡◌, ◌++◌, drop, length}
use Rattle.std.specs.Vec.Iter.{into_iter_items, into_iter_len}
use Rattle.zla.proofs.words.Given as goal

-- the words so far and those to come are all but the first
abbrev pub invariant-words : goal.invariant-words
invariant-words l = record {
  words : l.words.items ++ into_iter_items l.rest ≡ drop 1 (into_iter_items l.fn.args);
  len : into_iter_len l.rest ≡ length (into_iter_items l.rest);
}

abbrev pub decreases-words : goal.decreases-words
decreases-words l = into_iter_len l.rest
