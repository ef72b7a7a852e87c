-- The least break of a minimal automaton that is numbered by access words.
use Rattle.std.proofs.Common.{◌≡◌, ℕ, ◌<◌, inl, inr, List, ◌∷◌, refl, sym, ap, subst, ◌∙◌, arith}
use Rattle.std.proofs.lemmas.Bool.{cases_eq, cases_lt}
use Rattle.std.proofs.lemmas.List.Elements.{All-append, All-cons}
use Rattle.za_alpha.specs.Words.{IsWord}
use Rattle.za_dfa.specs.Automata.{Automaton, IsTotal, walk, is_accepted}
use Rattle.za_dfa.specs.Diamonds.{IsBrokenAt, IsFirstBroken}
use Rattle.za_dfa.proofs.Diamonds.{walk-append, walk-below}
use Rattle.za_min.specs.Minimal.{word_at, IsNumberedBy, IsLeastApart, TellsApart, HaveSameLanguage}
use Rattle.za_min.proofs.Order.{before-same, not-before}
use Rattle.za_closure.specs.Breaks.{Break, left_word, right_word, IsBreak, IsLeastBreak}
use Rattle.za_closure.specs.Laws.{LeastBreaksAreOne}

-- a break by its parts
break-same : (k l : Break) → k.before ≡ l.before → k.left ≡ l.left → k.right ≡ l.right → k.after ≡ l.after → k ≡ l
break-same k l eb el er ea =
    let make : List ℕ → ℕ → ℕ → List ℕ → Break = λ u a b v. record { before = u; left = a; right = b; after = v } in
    let one : k ≡ make l.before k.left k.right k.after = ap (λ x. make x k.left k.right k.after) eb in
    let two : k ≡ make l.before l.left k.right k.after = one ∙ ap (λ x. make l.before x k.right k.after) el in
    let three : k ≡ make l.before l.left l.right k.after = two ∙ ap (λ x. make l.before l.left x k.after) er in
    three ∙ ap (make l.before l.left l.right) ea

-- each is the least of both
pub least_breaks_are_one : LeastBreaksAreOne
least_breaks_are_one loc d k l a b =
    let eb = before-same k.before l.before (b.before k a.is) (a.before l b.is) in
    let l1 = a.left l b.is (sym eb) in
    let l2 = b.left k a.is eb in
    let el : k.left ≡ l.left = omega arith in
    let r1 = a.right l b.is (sym eb) (sym el) in
    let r2 = b.right k a.is eb el in
    let er : k.right ≡ l.right = omega arith in
    let ea = before-same k.after l.after (b.after k a.is eb el er) (a.after l b.is (sym eb) (sym el) (sym er)) in
    break-same k l eb el er ea

module _ (loc : ℕ → List ℕ) (d : Automaton) (total : IsTotal d) where
  -- where both words of a break lead
  left-walk : (k : Break) (q : ℕ) → walk d.step d.start k.before ≡ q →
      is_accepted d (left_word k) ≡ d.accepts (walk d.step (d.step (d.step q k.left) k.right) k.after)
  left-walk k q e = ap d.accepts (walk-append d.step d.start k.before (k.left ∷ k.right ∷ k.after)
      ∙ ap (λ x. walk d.step (d.step (d.step x k.left) k.right) k.after) e)

  right-walk : (k : Break) (q : ℕ) → walk d.step d.start k.before ≡ q →
      is_accepted d (right_word k) ≡ d.accepts (walk d.step (d.step (d.step q k.right) k.left) k.after)
  right-walk k q e = ap d.accepts
      (walk-append d.step d.start k.before (k.right ∷ k.left ∷ k.after) ∙ ap (λ x. walk d.step (d.step (d.step x k.right) k.left) k.after) e)

  -- the word after the letters of a break tells apart where they lead
  break-tells : (k : Break) → IsBreak loc d k → (q : ℕ) → walk d.step d.start k.before ≡ q →
      TellsApart d (d.step (d.step q k.left) k.right) (d.step (d.step q k.right) k.left) k.after
  break-tells k b q e = record { word = b.after_word; apart = λ s. b.tells (left-walk k q e ∙ s ∙ sym (right-walk k q e)) }

  -- the letters of a break have a broken diamond
  break-breaks : (k : Break) → IsBreak loc d k → (q : ℕ) → walk d.step d.start k.before ≡ q → IsBrokenAt loc d q k.left k.right
  break-breaks k b q e =
      record { order = b.order; letter = b.letter; apart = b.apart; parted = λ s. (break-tells k b q e).apart (ap (λ x. d.accepts (walk d.step x k.after)) s) }

  -- the first broken diamond, between the access word of its state and the least word that tells it, is the least break
  pub first-is-least : (words : List (List ℕ)) → IsNumberedBy d words → (q a b : ℕ) (v : List ℕ) → IsFirstBroken loc d q a b →
      IsLeastApart d (d.step (d.step q a) b) (d.step (d.step q b) a) v →
      IsLeastBreak loc d (record { before = word_at words q; left = a; right = b; after = v })
  first-is-least words num q a b v first apart =
      let u = word_at words q in
      let lu = num.access q first.state in
      let at : walk d.step d.start u ≡ q = lu.holds.there in
      let k : Break = record { before = u; left = a; right = b; after = v } in
      let is = first.is in
      record {
        is = record {
          before_word = lu.holds.word;
          after_word = apart.holds.word;
          order = is.order;
          letter = is.letter;
          apart = is.apart;
          tells = λ e. apart.holds.apart (sym (left-walk k q at) ∙ e ∙ right-walk k q at);
        };
        before = λ l bl.
            let r = walk d.step d.start l.before in
            let rl = walk-below d total d.start l.before total.starts bl.before_word in
            elim (cases_lt r q) [
              | inl less ↦ absurd (first.least_state r l.left l.right less (break-breaks l bl r refl))
              | inr more ↦ elim (cases_eq r q) [
                | inl same ↦ lu.least l.before (record { word = bl.before_word; there = same })
                | inr ne ↦ not-before l.before u (word_at words r) (num.rising q r (omega arith) rl)
                    ((num.access r rl).least l.before (record { word = bl.before_word; there = refl }))
              ]
            ];
        left = λ l bl e. elim (cases_lt l.left a) [
          | inl less ↦ absurd (first.least_left l.left l.right less (break-breaks l bl q (ap (walk d.step d.start) e ∙ at)))
          | inr more ↦ more
        ];
        right = λ l bl e s. elim (cases_lt l.right b) [
          | inl less ↦ absurd (first.least_right l.right less
              (subst (λ x. IsBrokenAt loc d q x l.right) s (break-breaks l bl q (ap (walk d.step d.start) e ∙ at))))
          | inr more ↦ more
        ];
        after = λ l bl e s r.
            let t = break-tells l bl q (ap (walk d.step d.start) e ∙ at) in
            apart.least l.after (subst (λ y. TellsApart d (d.step (d.step q a) y) (d.step (d.step q y) a) l.after) r
            (subst (λ x. TellsApart d (d.step (d.step q x) l.right) (d.step (d.step q l.right) x) l.after) s t));
      }

-- automata of one language have the same breaks
both-words : (d e : Automaton) → d.letters ≡ e.letters → HaveSameLanguage d e → (loc : ℕ → List ℕ) (k : Break) → IsBreak loc d k →
    (is_accepted d (left_word k) ≡ is_accepted e (left_word k)) × (is_accepted d (right_word k) ≡ is_accepted e (right_word k))
both-words d e letters language loc k b =
    let o = b.order in
    let l = b.letter in
    let first : k.left < d.letters = omega arith in (
      language (left_word k) (All-append (λ c. c < d.letters) k.before (k.left ∷ k.right ∷ k.after) b.before_word
          (All-cons (λ c. c < d.letters) k.left (k.right ∷ k.after) first (All-cons (λ c. c < d.letters) k.right k.after l b.after_word))),
      language (right_word k) (All-append (λ c. c < d.letters) k.before (k.right ∷ k.left ∷ k.after) b.before_word
          (All-cons (λ c. c < d.letters) k.right (k.left ∷ k.after) l (All-cons (λ c. c < d.letters) k.left k.after first b.after_word))),
    )

break-moves : (d e : Automaton) → d.letters ≡ e.letters → HaveSameLanguage d e → (loc : ℕ → List ℕ) (k : Break) → IsBreak loc d k → IsBreak loc e k
break-moves d e letters language loc k b =
    let same = both-words d e letters language loc k b in
    record {
      before_word = subst (λ n. IsWord n k.before) letters b.before_word;
      after_word = subst (λ n. IsWord n k.after) letters b.after_word;
      order = b.order;
      letter = subst (λ n. k.right < n) letters b.letter;
      apart = b.apart;
      tells = λ s. b.tells (same.0 ∙ s ∙ sym same.1);
    }

pub least-moves : (d e : Automaton) → d.letters ≡ e.letters → HaveSameLanguage d e → (loc : ℕ → List ℕ) (k : Break) → IsLeastBreak loc d k →
    IsLeastBreak loc e k
least-moves d e letters language loc k b =
    let back : (l : Break) → IsBreak loc e l → IsBreak loc d l =
    λ l bl. break-moves e d (sym letters) (λ w h. sym (language w (subst (λ n. IsWord n w) (sym letters) h))) loc l bl in
    record {
      is = break-moves d e letters language loc k b.is;
      before = λ l bl. b.before l (back l bl);
      left = λ l bl. b.left l (back l bl);
      right = λ l bl. b.right l (back l bl);
      after = λ l bl. b.after l (back l bl);
    }
