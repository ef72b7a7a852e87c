use Rattle.std.proofs.Common.{◌≡◌, length, replicate, vec_len, nat_lt}
use Rattle.za_script.specs.ScriptLists.{script_of}
use Rattle.za_script.proofs.Firing.{AreMarked}
use Rattle.za_script.proofs.weaving.Weaving.start.Given as goal

abbrev pub invariant-loop-p : goal.invariant-loop-p
invariant-loop-p l =
    record {
      places : l.weaving.places.items ≡ replicate (length l.scripts) 0;
      letters : vec_len l.weaving.sets ≡ length l.alphabet.letters;
      marked : AreMarked (λ q. nat_lt q l.p) (script_of l.scripts) l.weaving.places.items l.weaving.sets.items;
    }
