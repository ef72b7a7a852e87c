-- The test whether two local states are the same in all numbers.
use Rattle.std.specs.Prelude.{Bool, nat_eq}
use Rattle.std.specs.Cmp.{IsEquivalence, and_equiv, on_equiv, nat_eq_equiv}
use Rattle.std.specs.Cmp.Lexicographic.{pointwise, nat_list_eq_equiv}
use Rattle.std.specs.Ordering.{on, eq_of_both}
use Rattle.za_local.specs.Locals.{LocalState}

abbrev pub same_gossip : LocalState → LocalState → Bool
same_gossip =
    eq_of_both (on (λ l. l.gossip.primary) (pointwise nat_eq))
    (eq_of_both (on (λ l. l.gossip.secondary) (pointwise nat_eq)) (on (λ l. l.gossip.tertiary) (pointwise nat_eq)))

abbrev pub same_residues : LocalState → LocalState → Bool
same_residues =
    eq_of_both (on (λ l. l.residues.processes) nat_eq)
    (eq_of_both (on (λ l. l.residues.states) nat_eq) (on (λ l. l.residues.values) (pointwise nat_eq)))

abbrev pub same_local : LocalState → LocalState → Bool
same_local = eq_of_both same_gossip same_residues

pub same_local_equiv : IsEquivalence same_local
same_local_equiv =
    and_equiv
    (and_equiv (on_equiv (λ l. l.gossip.primary) nat_list_eq_equiv)
    (and_equiv (on_equiv (λ l. l.gossip.secondary) nat_list_eq_equiv)
    (on_equiv (λ l. l.gossip.tertiary) nat_list_eq_equiv)))
    (and_equiv (on_equiv (λ l. l.residues.processes) nat_eq_equiv)
    (and_equiv (on_equiv (λ l. l.residues.states) nat_eq_equiv)
    (on_equiv (λ l. l.residues.values) nat_list_eq_equiv)))
