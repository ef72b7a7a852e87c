-- After n rounds states are in one class exactly if no word of at most n letters tells them apart.
use Rattle.std.proofs.Common.{◌≡◌, ℕ, zero, suc, ◌<◌, ◌≤◌, Bool, true, false, ◌↔◌, List, [], ◌∷◌, ◌==◌, Option, Some, None, length, slice_index, refl, sym, ap}
use Rattle.std.proofs.Common.{subst, ◌∙◌, arith, eqb-true, eq-eqb, cond}
use Rattle.std.specs.List.{list_all, range_with_len}
use Rattle.std.specs.Cmp.{both_ways}
use Rattle.std.proofs.lemmas.Bool.{and_parts, and_from}
use Rattle.std.proofs.lemmas.List.FromFn.{get_or-map-range_with_len, length-map-range_with_len}
use Rattle.std.proofs.lemmas.List.Elements.{All-head, All-tail, All-cons, All-nil}
use Rattle.za_alpha.specs.Words.{IsWord}
use Rattle.za_alpha.specs.Search.{least}
use Rattle.za_alpha.proofs.Least.{least-true, least-le}
use Rattle.za_dfa.proofs.GridLemmas.{range_elim, range_intro}
use Rattle.za_dfa.specs.Automata.{Automaton, IsTotal, walk}
use Rattle.za_min.specs.Private.Rounds.{AreAlike, are_same, classes_by, same_end, same_next, same_after, refine, rounds}

-- tests that agree have one least number
least-agree : (s t : ℕ → Bool) (n : ℕ) → ((k : ℕ) → s k ≡ t k) → least s n ≡ least t n
least-agree s t zero h = refl
least-agree s t (suc n) h =
    ap (λ b. cond b 0 (suc (least (λ k. s (suc k)) n))) (h 0)
    ∙ ap (λ m. cond (t 0) 0 (suc m)) (least-agree (λ k. s (suc k)) (λ k. t (suc k)) n (λ k. h (suc k)))

-- an equivalence
record IsTest (E : ℕ → ℕ → Bool) : Type 0 where
  own : (q : ℕ) → E q q ≡ true
  turned : (q r : ℕ) → E q r ≡ true → E r q ≡ true
  joined : (q r s : ℕ) → E q r ≡ true → E r s ≡ true → E q s ≡ true

-- the class of a state is the least state that is the same
class-at : (n : ℕ) (E : ℕ → ℕ → Bool) (q : ℕ) → q < n → slice_index (classes_by n E) q ≡ least (λ r. E r q) n
class-at n E q l = get_or-map-range_with_len (λ q. least (λ r. E r q) n) 0 n q q 0 l (omega arith)

-- states that are the same are in one class, and back
class-same : (n : ℕ) (E : ℕ → ℕ → Bool) (q r : ℕ) → IsTest E → q < n → r < n → E q r ≡ true → slice_index (classes_by n E) q ≡ slice_index (classes_by n E) r
class-same n E q r t ql rl h =
    class-at n E q ql
    ∙ least-agree (λ x. E x q) (λ x. E x r) n (λ x. both_ways (E x q) (E x r) (λ k. t.joined x q r k h) (λ k. t.joined x r q k (t.turned q r h)))
    ∙ sym (class-at n E r rl)

class-back : (n : ℕ) (E : ℕ → ℕ → Bool) (q r : ℕ) → IsTest E → q < n → r < n → slice_index (classes_by n E) q ≡ slice_index (classes_by n E) r → E q r ≡ true
class-back n E q r t ql rl h =
    let e : least (λ x. E x q) n ≡ least (λ x. E x r) n = sym (class-at n E q ql) ∙ h ∙ class-at n E r rl in
    let m = least (λ x. E x q) n in
    let lq = least-le (λ x. E x q) n q (t.own q) in
    let lr = least-le (λ x. E x r) n r (t.own r) in
    let a = least-true (λ x. E x q) n (omega arith) in
    let b : E m r ≡ true = subst (λ x. E x r ≡ true) (sym e) (least-true (λ x. E x r) n (omega arith)) in
    t.joined q m r (t.turned m q a) b

-- what it is to be the same
pub same-accepts : (a b : Bool) → are_same a b ≡ true → a ≡ b
same-accepts true true h = refl
same-accepts true false h = cc
same-accepts false true h = cc
same-accepts false false h = refl

pub accepts-same : (a b : Bool) → a ≡ b → are_same a b ≡ true
accepts-same true true h = refl
accepts-same true false h = cc
accepts-same false true h = cc
accepts-same false false h = refl

module _ (d : Automaton) where
  -- both tests are equivalences
  test-first : IsTest (same_end d)
  test-first =
      record {
        own = λ q. accepts-same (d.accepts q) (d.accepts q) refl;
        turned = λ q r h. accepts-same (d.accepts r) (d.accepts q) (sym (same-accepts (d.accepts q) (d.accepts r) h));
        joined = λ q r s h k. accepts-same (d.accepts q) (d.accepts s)
            (same-accepts (d.accepts q) (d.accepts r) h ∙ same-accepts (d.accepts r) (d.accepts s) k);
      }

  -- what the test of a round says
  pub next-parts : (c : List ℕ) (q r : ℕ) → same_next d c q r ≡ true → (slice_index c q ≡ slice_index c r)
      × ((a : ℕ) → a < d.letters → slice_index c (d.step q a) ≡ slice_index c (d.step r a))
  next-parts c q r h =
      let k = and_parts (slice_index c q == slice_index c r)
      (list_all (λ a. slice_index c (d.step q a) == slice_index c (d.step r a)) (range_with_len 0 d.letters)) h in (
        eqb-true (slice_index c q) (slice_index c r) k.0,
        λ a l. eqb-true (slice_index c (d.step q a)) (slice_index c (d.step r a))
            (range_elim (λ a. slice_index c (d.step q a) == slice_index c (d.step r a)) d.letters a k.1 l),
      )

  pub next-from : (c : List ℕ) (q r : ℕ) → slice_index c q ≡ slice_index c r →
      ((a : ℕ) → a < d.letters → slice_index c (d.step q a) ≡ slice_index c (d.step r a)) → same_next d c q r ≡ true
  next-from c q r e f =
      and_from (slice_index c q == slice_index c r) (list_all (λ a. slice_index c (d.step q a) == slice_index c (d.step r a)) (range_with_len 0 d.letters))
      (eq-eqb (slice_index c q) (slice_index c r) e)
      (range_intro (λ a. slice_index c (d.step q a) == slice_index c (d.step r a)) d.letters
      (λ a l. eq-eqb (slice_index c (d.step q a)) (slice_index c (d.step r a)) (f a l)))

  test-next : (c : List ℕ) → IsTest (same_next d c)
  test-next c =
      record {
        own = λ q. next-from c q q refl (λ a l. refl);
        turned = λ q r h. let k = next-parts c q r h in next-from c r q (sym k.0) (λ a l. sym (k.1 a l));
        joined = λ q r s h k. let x = next-parts c q r h in let y = next-parts c r s k in next-from c q s (x.0 ∙ y.0) (λ a l. x.1 a l ∙ y.1 a l);
      }

-- a state is in its class of the next round
pub after-own : (d : Automaton) (before : Option (List ℕ)) (q : ℕ) → same_after d before q q ≡ true
after-own d None q = (test-first d).own q
after-own d (Some classes) q = (test-next d classes).own q

module _ (d : Automaton) (total : IsTotal d) where
  -- no short word tells the states of a class apart
  pub rounds-sound : (k q r : ℕ) → q < d.states → r < d.states → slice_index (rounds d k) q ≡ slice_index (rounds d k) r →
      (w : List ℕ) → IsWord d.letters w → length w ≤ k → d.accepts (walk d.step q w) ≡ d.accepts (walk d.step r w)
  rounds-sound zero q r ql rl e [] h l = same-accepts (d.accepts q) (d.accepts r) (class-back d.states (same_end d) q r (test-first d) ql rl e)
  rounds-sound zero q r ql rl e (a ∷ w) h l = absurd (omega arith)
  rounds-sound (suc k) q r ql rl e [] h l =
      rounds-sound k q r ql rl (next-parts d (rounds d k) q r (class-back d.states (same_next d (rounds d k)) q r (test-next d (rounds d k)) ql rl e)).0 [] h
      (omega arith)
  rounds-sound (suc k) q r ql rl e (a ∷ w) h l =
      let al = All-head (λ c. c < d.letters) a w h in
      let n = next-parts d (rounds d k) q r (class-back d.states (same_next d (rounds d k)) q r (test-next d (rounds d k)) ql rl e) in
      rounds-sound k (d.step q a) (d.step r a) (total.steps q a ql al) (total.steps r a rl al) (n.1 a al) w (All-tail (λ c. c < d.letters) a w h) (omega arith)

  -- states that no short word tells apart are in one class
  pub rounds-complete : (k q r : ℕ) → q < d.states → r < d.states →
      ((w : List ℕ) → IsWord d.letters w → length w ≤ k → d.accepts (walk d.step q w) ≡ d.accepts (walk d.step r w)) →
      slice_index (rounds d k) q ≡ slice_index (rounds d k) r
  rounds-complete zero q r ql rl f =
      class-same d.states (same_end d) q r (test-first d) ql rl (accepts-same (d.accepts q) (d.accepts r) (f [] (All-nil (λ c. c < d.letters)) (omega arith)))
  rounds-complete (suc k) q r ql rl f =
      class-same d.states (same_next d (rounds d k)) q r (test-next d (rounds d k)) ql rl
      (next-from d (rounds d k) q r
      (rounds-complete k q r ql rl (λ w h l. f w h (omega arith)))
      (λ a al. rounds-complete k (d.step q a) (d.step r a) (total.steps q a ql al) (total.steps r a rl al)
      (λ w h l. f (a ∷ w) (All-cons (λ c. c < d.letters) a w al h) (omega arith))))

  -- where a round changes nothing, no word tells the states of a class apart
  pub stable-alike : (k : ℕ) → refine d (rounds d k) ≡ rounds d k → (w : List ℕ) (q r : ℕ) → q < d.states → r < d.states →
      slice_index (rounds d k) q ≡ slice_index (rounds d k) r →
      IsWord d.letters w → d.accepts (walk d.step q w) ≡ d.accepts (walk d.step r w)
  stable-alike k s [] q r ql rl e h = rounds-sound k q r ql rl e [] h (omega arith)
  stable-alike k s (a ∷ w) q r ql rl e h =
      let al = All-head (λ c. c < d.letters) a w h in
      let e' = subst (λ c. slice_index c q ≡ slice_index c r) (sym s) e in
      let n = next-parts d (rounds d k) q r (class-back d.states (same_next d (rounds d k)) q r (test-next d (rounds d k)) ql rl e') in
      stable-alike k s w (d.step q a) (d.step r a) (total.steps q a ql al) (total.steps r a rl al) (n.1 a al) (All-tail (λ c. c < d.letters) a w h)

-- so the classes of a stable round are those of states that no word tells apart
pub stable_classes : (d : Automaton) (k q r : ℕ) → IsTotal d → q < d.states → r < d.states → refine d (rounds d k) ≡ rounds d k →
    (slice_index (rounds d k) q ≡ slice_index (rounds d k) r) ↔ AreAlike d q r
stable_classes d k q r t ql rl s = (λ e w h. stable-alike d t k s w q r ql rl e h, λ f. rounds-complete d t k q r ql rl (λ w h l. f w h))

-- a class's least state is of the class
class-le : (n : ℕ) (E : ℕ → ℕ → Bool) (q : ℕ) → IsTest E → q < n → slice_index (classes_by n E) q ≤ q
class-le n E q t l = let a = class-at n E q l in let b = least-le (λ r. E r q) n q (t.own q) in omega arith

class-own : (n : ℕ) (E : ℕ → ℕ → Bool) (q : ℕ) → IsTest E → q < n →
    slice_index (classes_by n E) (slice_index (classes_by n E) q) ≡ slice_index (classes_by n E) q
class-own n E q t l =
    let m = least (λ r. E r q) n in
    let e = class-at n E q l in
    let b = least-le (λ r. E r q) n q (t.own q) in
    let s = class-same n E m q t (omega arith) l (least-true (λ r. E r q) n (omega arith)) in
    ap (slice_index (classes_by n E)) e ∙ s

-- a class is named by a state that is no greater, and that is of the class
pub rounds-le : (d : Automaton) (k q : ℕ) → q < d.states → slice_index (rounds d k) q ≤ q
rounds-le d zero q l = class-le d.states (same_end d) q (test-first d) l
rounds-le d (suc k) q l = class-le d.states (same_next d (rounds d k)) q (test-next d (rounds d k)) l

pub rounds-own : (d : Automaton) (k q : ℕ) → q < d.states → slice_index (rounds d k) (slice_index (rounds d k) q) ≡ slice_index (rounds d k) q
rounds-own d zero q l = class-own d.states (same_end d) q (test-first d) l
rounds-own d (suc k) q l = class-own d.states (same_next d (rounds d k)) q (test-next d (rounds d k)) l

-- a round makes no class's least state less
pub rounds-grow : (d : Automaton) (k q : ℕ) → q < d.states → slice_index (rounds d k) q ≤ slice_index (rounds d (suc k)) q
rounds-grow d k q l =
    let E = same_next d (rounds d k) in
    let m = least (λ r. E r q) d.states in
    let e = class-at d.states E q l in
    let b = least-le (λ r. E r q) d.states q ((test-next d (rounds d k)).own q) in
    let p = next-parts d (rounds d k) m q (least-true (λ r. E r q) d.states (omega arith)) in
    let x = p.0 in
    let le = rounds-le d k m (omega arith) in
    omega arith

-- there is a class for each state
pub length-rounds : (d : Automaton) (k : ℕ) → length (rounds d k) ≡ d.states
length-rounds d zero = length-map-range_with_len (λ q. least (λ r. same_end d r q) d.states) 0 d.states
length-rounds d (suc k) = length-map-range_with_len (λ q. least (λ r. same_next d (rounds d k) r q) d.states) 0 d.states

-- states of one class that each letter leads into one class stay in one class
pub rounds-back : (d : Automaton) (k q r : ℕ) → q < d.states → r < d.states → slice_index (rounds d k) q ≡ slice_index (rounds d k) r →
    ((a : ℕ) → a < d.letters → slice_index (rounds d k) (d.step q a) ≡ slice_index (rounds d k) (d.step r a)) →
    slice_index (rounds d (suc k)) q ≡ slice_index (rounds d (suc k)) r
rounds-back d k q r ql rl e f = class-same d.states (same_next d (rounds d k)) q r (test-next d (rounds d k)) ql rl (next-from d (rounds d k) q r e f)
