use Rattle.std.proofs.Common.{◌≡◌, length, map, take}
use Rattle.za_expression.specs.Following.{accepts}
use Rattle.za_form.specs.Private.Numbers.{form_of, places_of}
use Rattle.za_form.proofs.dfa.accepting_of.Given as goal

-- the answers of the values so far
abbrev pub invariant-loop-m : goal.invariant-loop-m
invariant-loop-m l = l.accepting.items ≡ map (λ m. accepts (form_of l.form) (places_of (length l.form) m)) (take l.m-index l.states)
