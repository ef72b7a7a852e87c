-- The definition of plans, held against small lists of words.
use Rattle.std.proofs.Common.{◌≡◌, [], ◌∷◌, Some, None, refl, codes}
use Rattle.za_command.specs.Plans.{plan_of}
use Rattle.za_command.specs.declared.plan.Plan.TheVariants.{Solo, Run, Audit, Gen}

no_words : plan_of [] ≡ None
no_words = refl

one_command : plan_of (codes "solo" ∷ []) ≡ Some (Solo 0)
one_command = refl

another_word : plan_of (codes "solo" ∷ codes "extra" ∷ []) ≡ None
another_word = refl

too_many_rows : plan_of (codes "run" ∷ codes "--cache" ∷ codes "65" ∷ []) ≡ None
too_many_rows = refl

most_rows : plan_of (codes "--cache" ∷ codes "64" ∷ codes "run" ∷ []) ≡ Some (Run 64)
most_rows = refl

option_twice : plan_of (codes "run" ∷ codes "--cache" ∷ codes "1" ∷ codes "--cache=1" ∷ []) ≡ None
option_twice = refl

option_with_audit : plan_of (codes "audit" ∷ codes "--cache" ∷ codes "1" ∷ []) ≡ None
option_with_audit = refl

audit_alone : plan_of (codes "audit" ∷ []) ≡ Some Audit
audit_alone = refl

leading_zero : plan_of (codes "gen" ∷ codes "07" ∷ []) ≡ None
leading_zero = refl

greatest_number : plan_of (codes "gen" ∷ codes "4294967295" ∷ []) ≡ Some (Gen 4294967295)
greatest_number = refl

help : plan_of (codes "--help" ∷ []) ≡ None
help = refl

joined_option : plan_of (codes "--cache=4" ∷ codes "solo" ∷ []) ≡ Some (Solo 4)
joined_option = refl
