use Rattle.std.proofs.Common.{◌≡◌, ◌∙◌, ◌<◌, ◌+◌, ◌++◌, ◌∷◌, [], length, map, take, slice_index, ap, sym, arith, Bool, ℕ, List}
use Rattle.std.proofs.lemmas.List.{map-append, take_more}
use Rattle.za_expression.specs.Following.{accepts}
use Rattle.za_form.specs.Private.Trees.{form}
use Rattle.za_form.specs.Private.Numbers.{form_of, places_of}
use Rattle.za_form.proofs.Sets.{below_form, form_is}
use Rattle.za_form.proofs.dfa.accepting_of.Goals as goal

pub accepts-requires : goal.accepts-requires
accepts-requires c = below_form c.args.form.now (form c.tree-tree.result.now) c.tree-tree.ensures.is c.tree-tree.ensures.few

-- one answer more
answers_more : (f : ℕ → Bool) (states : List ℕ) (i : ℕ) (answer : Bool) (before after : List Bool) → i < length states →
    after ≡ before ++ answer ∷ [] → before ≡ map f (take i states) → answer ≡ f (slice_index states i) → after ≡ map f (take (i + 1) states)
answers_more f states i answer before after here e b a =
    e ∙ ap (λ xs. xs ++ answer ∷ []) b ∙ ap (λ x. map f (take i states) ++ x ∷ []) a ∙
    sym (map-append f (take i states) (slice_index states i ∷ [])) ∙ ap (map f) (sym (take_more states i 0 here))

pub loop-m-preserved : goal.loop-m-preserved
loop-m-preserved c =
    let signs = c.args.form.now in
    let states = c.args.states.now in
    let i = c.loop-m.m-index in
    let here : i < length states = omega arith in
    let is = form_is signs (form c.tree-tree.result.now) c.tree-tree.ensures.is in
    answers_more (λ m. accepts (form_of signs) (places_of (length signs) m)) states i c.accepts.result c.loop-m.accepting.items c.push.new.self.items
    here c.in_ok-push.ensures.items c.loop-m.invariant
    (c.accepts.ensures (length signs) (c.requires i 0 here) ∙ ap (λ g. accepts g (places_of (length signs) (slice_index states i))) (sym is))
