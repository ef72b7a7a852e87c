use Rattle.std.proofs.Common.{◌≡◌, vec_len}
use Rattle.za_alpha.specs.Alphabet.{loc_of}
use Rattle.za_script.specs.ScriptLists.{script_of}
use Rattle.za_script.proofs.Firing.{IsFiring}
use Rattle.za_script.proofs.weaving.Weaving.fire.Given as goal

abbrev pub invariant-loop-p : goal.invariant-loop-p
invariant-loop-p l =
    record {
      letters : vec_len l.self.sets ≡ vec_len l.fn.self.sets;
      firing : IsFiring (script_of l.scripts) (loc_of l.alphabet l.fn.a.0) l.fn.self.places.items l.self.places.items l.self.sets.items l.p;
    }
