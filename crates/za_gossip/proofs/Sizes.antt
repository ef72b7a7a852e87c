-- The lengths of the rows that a process keeps.
use Rattle.std.proofs.Common.{◌≡◌, ℕ, ◌*◌, List, length, sym, ap, ◌∙◌, arith}
use Rattle.std.proofs.Math.Nat.{mul_assoc}
use Rattle.std.proofs.lemmas.List.{length-map}
use Rattle.za_ids.specs.declared.ids.EventId.{EventId}
use Rattle.za_gossip.specs.declared.gossip.Gossip.TheInside.{Inside}
use Rattle.za_gossip.specs.declared.gossip.Level.{Level}
use Rattle.za_gossip.specs.declared.gossip.Level.TheVariants.{Primary, Secondary, Tertiary}
use Rattle.za_gossip.specs.Rows.{Rows, AreShaped}
use Rattle.za_gossip.specs.Private.Inside.{rows_in}
use Rattle.za_gossip.proofs.LevelRows.{width}

-- the row of a level
abbrev pub items_of : Level → Inside → List EventId
items_of Primary inside = inside.primary.items
items_of Secondary inside = inside.secondary.items
items_of Tertiary inside = inside.tertiary.items

module _ (n : ℕ) (inside : Inside) (rows : Rows) (view_is : rows_in inside ≡ rows) (shaped : AreShaped (rows_in inside)) (size : length rows.primary ≡ n) where
  first-size : length (rows_in inside).primary ≡ n
  first-size = ap (λ (r : Rows). length r.primary) view_is ∙ size

  -- of n processes, as many as blocks of its width
  pub level-size : (level : Level) → length (items_of level inside) ≡ n * width level n
  level-size Primary = sym (length-map inside.primary.items (λ (id : EventId). id.0)) ∙ first-size ∙ (let e : n ≡ n * 1 = omega arith in e)
  level-size Secondary = sym (length-map inside.secondary.items (λ (id : EventId). id.0)) ∙ shaped.secondary ∙ ap (λ m. m * m) first-size
  level-size Tertiary = sym (length-map inside.tertiary.items (λ (id : EventId). id.0)) ∙ shaped.tertiary ∙ ap (λ m. m * m * m) first-size ∙ mul_assoc n n n
