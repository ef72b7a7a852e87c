use Rattle.std.proofs.Common.{refl, ℕ, ◌≤◌, [], ◌∷◌, ◌++◌, map, length, slice_index, sym, ap, ◌∙◌, arith}
use Rattle.std.proofs.lemmas.List.{length-map, map-append}
use Rattle.za_alpha.specs.Procs.{members_below}
use Rattle.za_alpha.proofs.Members.{members_below-zero, members_below-next, members_below-all}
use Rattle.za_order.proofs.Rising.{length-members_below-le}
use Rattle.za_shared.proofs.seats.choose.Goals as goal

pub members-init : goal.members-init
members-init c = (
  omega arith,
  c.requires.empty
      ∙ sym (ap (map (λ p. slice_index c.args.keys.now p)) (members_below-zero c.args.processes)),
  refl,
)

pub push_reserved-requires : goal.push_reserved-requires
push_reserved-requires c =
    let f : ℕ → ℕ = λ p. slice_index c.args.keys.now p in
    let s = c.args.processes in
    let next = c.in-Some.ensures.least in
    let here = c.requires.within c.in-Some.p next.inside in
    let after = next.after in
    let few = c.requires.few in
    let len = ap length c.members.invariant.1 ∙ length-map (members_below s c.members.start) f in
    let le : length (members_below s c.members.start) ≤ c.members.start = length-members_below-le s c.members.start c.members.invariant.0 in
    let cap = c.members.invariant.2 in
    let room = c.requires.room in
    omega arith

pub members-preserved : goal.members-preserved
members-preserved c =
    let f : ℕ → ℕ = λ p. slice_index c.args.keys.now p in
    let s = c.args.processes in
    let small = c.in-Some.ensures.small in
    let so_far = members_below s c.members.start in (
      omega arith,
      c.push_reserved.ensures.items ∙ ap (λ xs. xs ++ f c.in-Some.p ∷ []) c.members.invariant.1
          ∙ sym (ap (map f) (members_below-next s c.members.start c.in-Some.p small c.in-Some.ensures.least) ∙ map-append f so_far (c.in-Some.p ∷ [])),
      c.push_reserved.ensures.capacity ∙ c.members.invariant.2,
    )

pub returns : goal.returns
returns c =
    let f : ℕ → ℕ = λ p. slice_index c.args.keys.now p in
    c.members.invariant.1 ∙ ap (map f) (members_below-all c.args.processes c.members.start c.members.invariant.0 c.in_default.ensures.least)
