use Rattle.std.proofs.Common.{◌≡◌, ◌++◌, ◌∷◌, [], List, ℕ, length, take, get_or, ap, subst, sym, ◌∙◌, arith}
use Rattle.std.proofs.lemmas.List.{map_more, take_all}
use Rattle.za_alpha.specs.declared.word.Letter.{Letter}
use Rattle.za_alpha.specs.Words.{IsWord}
use Rattle.za_alpha.specs.Letters.{numbers}
use Rattle.za_alpha.specs.Alphabet.{DistributedAlphabet, loc_of}
use Rattle.za_alpha.proofs.Projections.{letter-within}
use Rattle.za_views.specs.Marks.{MarkedWord}
use Rattle.za_order.specs.Views.{participants}
use Rattle.za_order.specs.Entries.{primary}
use Rattle.callers.proofs.views.news.Goals as goal

pub push-requires-clause-letter : goal.push-requires-clause-letter
push-requires-clause-letter c =
    let m = length c.args.alphabet.now.letters in
    let P : List ℕ → Type 0 = λ w. IsWord m w in
    let within = letter-within m c.letters-letters.result.now c.loop-a.a-index (record { 0 = 0 }) (subst P (sym c.letters-letters.ensures) c.requires.word)
    (omega arith) in
    rw c.loop-a.invariant.alphabet within

pub loop-a-preserved : goal.loop-a-preserved
loop-a-preserved c =
    let letters = c.letters-letters.result.now in
    record {
      alphabet = ap (λ (m : MarkedWord). m.alphabet) c.push.ensures.word ∙ c.loop-a.invariant.alphabet;
      room = ap (λ (m : MarkedWord). m.room) c.push.ensures.word ∙ c.loop-a.invariant.room;
      word = ap (λ (m : MarkedWord). m.word) c.push.ensures.word
          ∙ ap (λ w. w ++ (get_or letters c.loop-a.a-index (record { 0 = 0 })).0 ∷ []) c.loop-a.invariant.word
          ∙ sym (map_more (λ (l : Letter). l.0) letters c.loop-a.a-index (record { 0 = 0 }) (omega arith));
    }

pub returns : goal.returns
returns c =
    let letters = c.letters-letters.result.now in
    let alphabet = c.args.alphabet.now in
    let w = c.args.w.now in
    let all : take c.loop-a.a-index letters ≡ letters = take_all c.loop-a.a-index letters (omega arith) in
    let word : c.loop-a.marks.word ≡ w = c.loop-a.invariant.word ∙ ap numbers all ∙ c.letters-letters.ensures in
    c.latest.ensures ∙ ap (λ (a : DistributedAlphabet). primary (participants (loc_of a) c.loop-a.marks.word) (length c.loop-a.marks.word) c.args.p c.args.q)
    c.loop-a.invariant.alphabet
    ∙ ap (λ v. primary (participants (loc_of alphabet) v) (length v) c.args.p c.args.q) word
