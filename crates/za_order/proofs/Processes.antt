-- Primary entries among the secondary ones, and whose the entries of a word are.
use Rattle.std.proofs.Common.{◌≡◌, ℕ, ◌<◌, ◌≤◌, List, length, Some, arith}
use Rattle.za_order.specs.Views.{participants, Here}
use Rattle.za_order.specs.Entries.{primary, last_in_past, secondary, tertiary}
use Rattle.za_order.proofs.Options.{some-then}
use Rattle.za_order.proofs.Chains.{chain-le}
use Rattle.za_order.proofs.Participants.{IsOver}
use Rattle.za_order.proofs.Entries.{primary-sound, primary-below, last_in_past-complete, secondary-sound, secondary-below, tertiary-sound, tertiary-below}

-- a primary entry is a secondary one of the same process
pub primary-secondary : (who : ℕ → List ℕ) (n p q e : ℕ) → primary who n p q ≡ Some e → secondary who n p q q ≡ Some e
primary-secondary who n p q e h =
    some-then (λ g. last_in_past who g q) (primary who n p q) e e h
    (last_in_past-complete who e q e (record { chain = Here; takes = (primary-sound who n p q e h).takes; last = λ i c t. chain-le who c }))

-- entries are of processes below the number of processes
module _ (loc : ℕ → List ℕ) (letters processes : ℕ) (w : List ℕ) (over : IsOver loc letters processes w) (n : ℕ) (l : n ≤ length w) where
  pub primary-process : (p q e : ℕ) → primary (participants loc w) n p q ≡ Some e → q < processes
  primary-process p q e h =
      let s = primary-sound (participants loc w) n p q e h in
      let b = primary-below (participants loc w) n p q e s in
      over.below e q (omega arith) s.takes

  pub secondary-processes : (p q r e : ℕ) → secondary (participants loc w) n p q r ≡ Some e → (q < processes) × (r < processes)
  secondary-processes p q r e h =
      let s = secondary-sound (participants loc w) n p q r e h in
      let b = secondary-below (participants loc w) n p q r e s in
      let c = primary-below (participants loc w) n p q s.event s.first in
      (over.below s.event q (omega arith) s.first.takes, over.below e r (omega arith) s.past.takes)

  pub tertiary-processes : (p q r s e : ℕ) → tertiary (participants loc w) n p q r s ≡ Some e → (q < processes) × (r < processes) × (s < processes)
  tertiary-processes p q r s e h =
      let t = tertiary-sound (participants loc w) n p q r s e h in
      let b = tertiary-below (participants loc w) n p q r s e t in
      let c = secondary-below (participants loc w) n p q r t.event t.second in
      let d = primary-below (participants loc w) n p q t.second.event t.second.first in (
        over.below t.second.event q (omega arith) t.second.first.takes,
        over.below t.event r (omega arith) t.second.past.takes,
        over.below e s (omega arith) t.past.takes,
      )
