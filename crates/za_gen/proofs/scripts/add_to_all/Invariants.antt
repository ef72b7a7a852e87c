use Rattle.std.proofs.Common.{◌≡◌, ℕ, ◌<◌, ◌≤◌, ◌+◌, ◌++◌, ◌∷◌, [], length, cond}
use Rattle.za_alpha.specs.Words.{has}
use Rattle.za_alpha.specs.Alphabet.{loc_of}
use Rattle.za_script.specs.ScriptLists.{script_of, total_of}
use Rattle.za_gen.proofs.scripts.add_to_all.Given as goal

abbrev pub invariant-loop-p : goal.invariant-loop-p
invariant-loop-p l =
    record {
      size : length l.scripts ≡ length l.fn.scripts;
      done : (q : ℕ) → q < l.p → script_of l.scripts q ≡ script_of l.fn.scripts q ++ cond (has (loc_of l.alphabet l.fn.a.0) q) (l.fn.a.0 ∷ []) [];
      left : (q : ℕ) → l.p ≤ q → script_of l.scripts q ≡ script_of l.fn.scripts q;
      total : total_of l.scripts ≤ total_of l.fn.scripts + l.p;
    }
