use Rattle.std.proofs.Common.{◌≡◌, ◌∙◌, ℕ, ◌+◌, ◌<◌, ◌++◌, ◌∷◌, [], cond, not, length, take, get_or, slice_index, refl, sym, ap, subst, arith}
use Rattle.std.proofs.lemmas.List.{length-take-le, take_all, take_more}
use Rattle.std.proofs.lemmas.List.Filters.{length-filter_both, length-filter_more}
use Rattle.za_alpha.specs.Words.{has, projection}
use Rattle.za_alpha.specs.Search.{least}
use Rattle.za_alpha.specs.Letters.{numbers}
use Rattle.za_alpha.specs.Procs.{members}
use Rattle.za_alpha.specs.Alphabet.{loc_of}
use Rattle.za_alpha.proofs.Least.{least-le}
use Rattle.za_alpha.proofs.Projections.{letter-within, number-at, numbers-length}
use Rattle.za_news.specs.Readings.{reading_at}
use Rattle.za_news.specs.Private.Weaving.{IsNewsAfter}
use Rattle.za_news.proofs.Following.{news_after, next_reading}
use Rattle.za_news.proofs.weaving.circle_after.Goals as goal

pub next_reading-value-requires : goal.next_reading-value-requires
next_reading-value-requires c =
    letter-within (length c.args.alphabet.now.letters) c.args.word.now c.loop-i.i (record { 0 = 0 }) c.requires c.loop-i-test.true

pub meet-requires-clause-letter : goal.meet-requires-clause-letter
meet-requires-clause-letter c =
    letter-within (length c.args.alphabet.now.letters) c.args.word.now c.loop-i.i (record { 0 = 0 }) c.requires c.loop-i-test.true

pub loc-requires : goal.loc-requires
loc-requires c =
    letter-within (length c.args.alphabet.now.letters) c.args.word.now c.loop-i.i (record { 0 = 0 }) c.requires c.loop-i-test.true

pub count_event-requires : goal.count_event-requires
count_event-requires c = λ p l.
    let ws = numbers c.args.word.now in
    let test = λ (b : ℕ). has (loc_of c.args.alphabet.now b) p in
    let within = c.loop-i-test.true in
    let size = numbers-length c.args.word.now in
    let count = c.loop-i.invariant.counts p l in
    let both = length-filter_both test (λ b. not (test b)) (λ b. refl) (take c.loop-i.i ws) in
    let long = length-take-le c.loop-i.i ws (omega arith) in
    omega arith

pub loop-i-preserved : goal.loop-i-preserved
loop-i-preserved c =
    let alphabet = c.args.alphabet.now in
    let loc = loc_of alphabet in
    let readings = c.args.readings.now in
    let word = c.args.word.now in
    let ws = numbers word in
    let i = c.loop-i.i in
    let w = take i ws in
    let a = (get_or word i (record { 0 = 0 })).0 in
    let h = c.loop-i.invariant.news in
    let size = numbers-length word in
    let within = c.loop-i-test.true in
    let long : i < length ws = omega arith in
    let letter : get_or ws i 0 ≡ a = number-at word i (record { 0 = 0 }) within in
    let small : a < length alphabet.letters = letter-within (length alphabet.letters) word i (record { 0 = 0 }) c.requires within in
    let step : take (i + 1) ws ≡ w ++ a ∷ [] = take_more ws i 0 long ∙ ap (λ x. w ++ x ∷ []) letter in
    let whole = c.next_reading-value.ensures.whole in
    let some = whole.located.some a small in
    let below = whole.located.below a some.0 small some.1 in
    let first = least (λ q. has (loc a) q) alphabet.processes in
    let le = least-le (λ q. has (loc a) q) alphabet.processes some.0 some.1 in
    let few = whole.few_processes in
    let reads : c.next_reading-value.result ≡ next_reading loc alphabet.processes readings a w =
    c.next_reading-value.ensures.value ∙ ap (reading_at readings first) (c.loop-i.invariant.counts first (omega arith)) in
    record {
      news =
          subst (λ u. IsNewsAfter alphabet readings u c.meet.new.self) (sym step)
          (news_after alphabet readings w a c.next_reading-value.result c.loop-i.circle c.meet.new.self h reads (c.meet.ensures.after w h.values h.after));
      counts = λ p l.
          c.count_event.ensures p l ∙ ap (λ s. slice_index c.loop-i.counts p + cond (has (members s) p) 1 0) c.loc.ensures
          ∙ ap (λ n. n + cond (has (loc a) p) 1 0) (c.loop-i.invariant.counts p l)
          ∙ ap (λ b. length (projection loc p w) + cond (has (loc b) p) 1 0) (sym letter)
          ∙ sym (length-filter_more (λ b. has (loc b) p) ws i 0 long);
    }

pub returns : goal.returns
returns c =
    let ws = numbers c.args.word.now in
    let size = numbers-length c.args.word.now in
    let all = c.loop-i-test.false in
    subst (λ u. IsNewsAfter c.args.alphabet.now c.args.readings.now u c.loop-i.circle) (take_all c.loop-i.i ws (omega arith)) c.loop-i.invariant.news
