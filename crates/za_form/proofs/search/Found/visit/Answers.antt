use Rattle.std.proofs.Common.{rules, ◌≡◌, subst, length, slice_index, arith, ◌∙◌, bit_and}
use Rattle.std.proofs.lemmas.List.{get_or_default}
use Rattle.za_form.specs.Automata.{IsWide}
use Rattle.za_form.specs.Private.Numbers.{positions_of}
use Rattle.za_form.specs.Private.Searching.{HasSearched}
use Rattle.za_form.proofs.Searches.{value_is, entered, same_at, search_row, wide_of}
use Rattle.za_form.proofs.search.Found.visit.Goals as goal

pub enter-requires : goal.enter-requires
enter-requires c = let few = c.loop-a.invariant.found.1.few in omega arith

pub loop-a-preserved : goal.loop-a-preserved
loop-a-preserved c =
    let d = positions_of c.args.form.now (length c.args.masks.now) in
    let i = c.args.at in
    let a = c.loop-a.a in
    let states = c.loop-a.self.states.items in
    let states' = c.enter.new.self.states.items in
    let targets = c.loop-a.self.targets.items in
    let value = bit_and (slice_index c.args.masks.now a) c.after-all.result in
    let k = c.in_ok-enter.ensures.0 in
    let s = same_at states states' value k i c.in_ok-enter.ensures.1 c.loop-a.invariant.within in
    record {
      within = s.0;
      same = s.1 ∙ c.loop-a.invariant.same;
      found = entered d i a c.loop-a.invariant.found.0 states targets c.enter.new.self.targets.items value k c.loop-a.invariant.found.1
          c.loop-a.invariant.within c.loop-a-test.true
          (value_is c.args.form.now (length c.args.masks.now) c.args.masks.now c.args.self.now.states.items c.loop-a.self.states.items c.args.at c.loop-a.a
          c.index.result.now c.after-all.result c.requires.masks c.loop-a-test.true (c.index.ensures ∙
          get_or_default c.args.self.now.states.items c.args.at c.index.result.now 0 c.requires.place) c.loop-a.invariant.same c.after-all.ensures)
          c.in_ok-enter.ensures.2 states' c.in_ok-enter.ensures.1;
    }

pub returns-in_err-enter : goal.returns-in_err-enter
returns-in_err-enter c =
    let signs = c.args.form.now in
    let letters = length c.args.masks.now in
    let a = c.loop-a.a in
    let states = c.loop-a.self.states.items in
    let value = bit_and (slice_index c.args.masks.now a) c.after-all.result in
    let h : IsWide signs letters c.in_err-enter.field-0.0 =
    wide_of signs letters c.args.at a states c.loop-a.self.targets.items value c.in_err-enter.field-0.0 c.requires.form c.loop-a.invariant.found
    c.loop-a.invariant.within c.loop-a-test.true
    (value_is c.args.form.now (length c.args.masks.now) c.args.masks.now c.args.self.now.states.items c.loop-a.self.states.items c.args.at c.loop-a.a
    c.index.result.now c.after-all.result c.requires.masks c.loop-a-test.true (c.index.ensures ∙
    get_or_default c.args.self.now.states.items c.args.at c.index.result.now 0 c.requires.place) c.loop-a.invariant.same c.after-all.ensures)
    c.in_err-enter.ensures in
    search (rules, h)

pub returns : goal.returns
returns c =
    let d = positions_of c.args.form.now (length c.args.masks.now) in
    let all : c.loop-a.a ≡ length c.args.masks.now = omega arith in (
      c.loop-a.invariant.within,
      search_row d c.args.at c.loop-a.self.states.items c.loop-a.self.targets.items
          (subst (λ a. HasSearched d c.args.at a c.loop-a.self.states.items c.loop-a.self.targets.items) all c.loop-a.invariant.found),
    )
