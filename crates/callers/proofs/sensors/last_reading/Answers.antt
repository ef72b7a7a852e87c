use Rattle.std.proofs.Common.{◌≡◌, ℕ, ◌+◌, List, [], ◌∷◌, ◌++◌, length, take, slice_index, get_or, sym, ap, subst, ◌∙◌, arith}
use Rattle.std.proofs.lemmas.List.{get_or-map, length-map, take_more, take_all}
use Rattle.za_alpha.specs.declared.word.Letter.{Letter}
use Rattle.za_alpha.specs.Letters.{numbers}
use Rattle.za_alpha.specs.Alphabet.{loc_of}
use Rattle.za_payload.specs.Knowledge.{known_after}
use Rattle.za_payload.specs.Circles.{IsCircleAfter}
use Rattle.callers.proofs.sensors.last_reading.Goals as goal

pub meet-requires-clause-letter : goal.meet-requires-clause-letter
meet-requires-clause-letter c =
    let letters : List Letter = c.letters-letters.result.now in
    let i : ℕ = c.loop-i.i in
    let t = c.loop-i-test.true in
    let long = length-map letters (λ (a : Letter). a.0) in
    let same = ap length c.letters-letters.ensures in
    let e = get_or-map (λ (a : Letter). a.0) letters i (record { 0 = 0 }) 0 (omega arith) in
    let w = ap (λ ns. get_or ns i 0) c.letters-letters.ensures in
    let k = c.requires.word i 0 (omega arith) in omega arith

pub loop-i-preserved : goal.loop-i-preserved
loop-i-preserved c =
    let letters : List Letter = c.letters-letters.result.now in
    let i : ℕ = c.loop-i.i in
    let ns : List ℕ = numbers letters in
    let readings : List ℕ = c.args.readings.now in
    let t = c.loop-i-test.true in
    let long = length-map letters (λ (a : Letter). a.0) in
    let same = ap length c.letters-letters.ensures in
    let each = c.requires.one_each in
    let e = get_or-map (λ (a : Letter). a.0) letters i (record { 0 = 0 }) 0 (omega arith) in
    let next : take (i + 1) ns ≡ take i ns ++ (get_or letters i (record { 0 = 0 })).0 ∷ [] =
    take_more ns i 0 (omega arith) ∙ ap (λ (a : ℕ). take i ns ++ a ∷ []) e in
    let more : take (i + 1) readings ≡ take i readings ++ get_or readings i 0 ∷ [] = take_more readings i 0 (omega arith) in
    subst (λ us. IsCircleAfter c.args.alphabet.now us (take (i + 1) readings) c.meet.new.self) (sym next)
    (subst (λ vs. IsCircleAfter c.args.alphabet.now (take i ns ++ (get_or letters i (record { 0 = 0 })).0 ∷ []) vs c.meet.new.self) (sym more)
    (c.meet.ensures.after (take i ns) (take i readings) c.loop-i.invariant))

pub returns : goal.returns
returns c =
    let letters : List Letter = c.letters-letters.result.now in
    let i : ℕ = c.loop-i.i in
    let ns : List ℕ = numbers letters in
    let readings : List ℕ = c.args.readings.now in
    let t = c.loop-i-test.false in
    let long = length-map letters (λ (a : Letter). a.0) in
    let same = ap length c.letters-letters.ensures in
    let each = c.requires.one_each in
    let all : take i ns ≡ c.args.meetings.now = take_all i ns (omega arith) ∙ c.letters-letters.ensures in
    let values : take i readings ≡ readings = take_all i readings (omega arith) in
    c.known.ensures.after c.args.alphabet.now (take i ns) (take i readings) c.loop-i.invariant
    ∙ ap (λ us. known_after (loc_of c.args.alphabet.now) us (slice_index (take i readings)) c.args.p c.args.q) all
    ∙ ap (λ vs. known_after (loc_of c.args.alphabet.now) c.args.meetings.now (slice_index vs) c.args.p c.args.q) values
