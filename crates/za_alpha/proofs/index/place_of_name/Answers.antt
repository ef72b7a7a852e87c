use Rattle.std.proofs.Common.{◌≡◌, ◌≢◌, ℕ, suc, ◌-◌, ◌<◌, true, false, List, length, map, sym, ap, subst, ◌∙◌, arith}
use Rattle.std.specs.Str.{bytes_eq}
use Rattle.std.proofs.lemmas.List.{length-map}
use Rattle.std.proofs.lemmas.Slice.Eq.{bytes_eq-Decides}
use Rattle.za_alpha.specs.Alphabet.{name_at}
use Rattle.za_alpha.proofs.RowLemmas.{name_at-map}
use Rattle.za_alpha.proofs.Indexed.{IsOnChain, found-on-chain, off-chain, chain-goes-on, taken-at, taken-none}
use Rattle.za_alpha.proofs.index.place_of_name.Given.{Over}
use Rattle.za_alpha.proofs.index.place_of_name.Goals as goal

-- the name stands at the place
named : (g : Over) (c : goal.Then-eq g) → (c.chain.at - 1 < length c.args.items.now)
    × (name_at (map g.N.Named.letter c.args.items.now) (c.chain.at - 1) ≡ c.args.name.now)
named g c =
    let long = length-map c.args.items.now g.N.Named.letter in
    let i : ℕ = c.chain.at - 1 in
    let low = c.chain.invariant.low in
    let t = c.chain-test.true in
    let here : i < length c.args.items.now = omega arith in (
      here,
      name_at-map g.N.Named.letter c.args.items.now i c.index-items-i.result here ∙ sym (ap (λ x. (g.N.Named.letter x).name) c.index-items-i.is)
          ∙ sym c.name.ensures ∙ (bytes_eq-Decides c.name.result.now c.args.name.now).0 (sym c.eq.ensures ∙ c.if-eq.true),
    )

pub returns-then-eq-clause-taken : goal.returns-then-eq-clause-taken
returns-then-eq-clause-taken g c =
    let long = length-map c.args.items.now g.N.Named.letter in
    let here : c.chain.at - 1 < length c.args.items.now = (named g c).0 in
    sym (taken-at (map g.N.Named.letter c.args.items.now) c.args.name.now (c.chain.at - 1) (omega arith) (named g c).1)

pub returns-then-eq-clause-first : goal.returns-then-eq-clause-first
returns-then-eq-clause-first g c = λ apart.
    let long = length-map c.args.items.now g.N.Named.letter in
    let here : c.chain.at - 1 < length c.args.items.now = (named g c).0 in
    found-on-chain (map g.N.Named.letter c.args.items.now) c.args.name.now (c.chain.at - 1) apart (omega arith) (named g c).1

pub chain-preserved : goal.chain-preserved
chain-preserved g c =
    let letters = map g.N.Named.letter c.args.items.now in
    let long = length-map c.args.items.now g.N.Named.letter in
    let i : ℕ = c.chain.at - 1 in
    let name : List ℕ = c.args.name.now in
    let low = c.chain.invariant.low in
    let t = c.chain-test.true in
    let here : i < length c.args.items.now = omega arith in
    let step : c.chain.at ≡ suc i = omega arith in
    let on : IsOnChain letters name (suc i) = subst (IsOnChain letters name) step c.chain.invariant in
    let other : name_at letters i ≢ name = λ h.
    let t : bytes_eq c.name.result.now name ≡ true =
    (bytes_eq-Decides c.name.result.now name).1 (c.name.ensures ∙ ap (λ x. (g.N.Named.letter x).name) c.index-items-i.is
    ∙ sym (name_at-map g.N.Named.letter c.args.items.now i c.index-items-i.result here) ∙ h) in
    let f : bytes_eq c.name.result.now name ≡ false = sym c.eq.ensures ∙ c.if-eq.false in
    let z : true ≡ false = sym t ∙ f in cc in
    chain-goes-on letters c.args.index.now.first c.args.index.now.next c.requires name i on other

pub returns-clause-first : goal.returns-clause-first
returns-clause-first g c = λ _.
    let letters = map g.N.Named.letter c.args.items.now in
    let t = c.chain-test.false in
    let end : c.chain.at ≡ 0 = omega arith in
    off-chain letters c.args.name.now (subst (IsOnChain letters c.args.name.now) end c.chain.invariant)

pub returns-clause-taken : goal.returns-clause-taken
returns-clause-taken g c =
    let letters = map g.N.Named.letter c.args.items.now in
    let t = c.chain-test.false in
    let end : c.chain.at ≡ 0 = omega arith in
    let none = off-chain letters c.args.name.now (subst (IsOnChain letters c.args.name.now) end c.chain.invariant) in
    sym (taken-none letters c.args.name.now 0 (sym none))
