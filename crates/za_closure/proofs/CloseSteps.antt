-- Steps of the closure test as it is computed.
use Rattle.std.proofs.Common.{◌≡◌, ◌≢◌, ℕ, List, ◌∷◌, ◌++◌, length, Option, Some, sym, ap, subst, ◌∙◌}
use Rattle.std.specs.Prelude.{MatchOption}
use Rattle.za_alpha.specs.Alphabet.{DistributedAlphabet, loc_of}
use Rattle.za_alpha.specs.Words.{IsWord, AreEquivalent}
use Rattle.za_dfa.specs.Automata.{IsTraceClosed, HasDiamonds}
use Rattle.za_dfa.specs.Diamonds.{IsFirstBroken}
use Rattle.za_dfa.specs.Tables.{CompleteDfa, automaton_of, step_of, IsComplete}
use Rattle.za_dfa.proofs.Diamonds.{diamonds_close_the_language}
use Rattle.za_dfa.proofs.TableLemmas.{total_of_complete}
use Rattle.za_min.specs.Minimal.{MinimalDfa, IsMinimalDfa, IsMinimalOf, IsLeastApart, word_at}
use Rattle.za_closure.specs.Breaks.{AreBreakWords, IsLeastBreak}
use Rattle.za_closure.proofs.BreakLemmas.{first-is-least, least-moves}

-- where the minimal table has all diamonds, the language of the table that was minimised is closed
pub closed_of_diamonds : (dfa minimal : CompleteDfa) → IsMinimalOf minimal dfa → HasDiamonds (loc_of minimal.alphabet) (automaton_of minimal) →
    IsTraceClosed (loc_of dfa.alphabet) (automaton_of dfa)
closed_of_diamonds dfa minimal of diamonds u v hu hv alike =
    let letters : length dfa.alphabet.letters ≡ length minimal.alphabet.letters = ap (λ x. length x.letters) (sym of.alphabet) in
    let closed = diamonds_close_the_language (loc_of minimal.alphabet) minimal.alphabet.processes (automaton_of minimal) of.complete.distributed.located
    (total_of_complete minimal of.complete) diamonds in
    let mu : IsWord (length minimal.alphabet.letters) u = subst (λ n. IsWord n u) letters hu in
    let mv : IsWord (length minimal.alphabet.letters) v = subst (λ n. IsWord n v) letters hv in
    sym (of.language u mu) ∙ closed u v mu mv (subst (λ (x : DistributedAlphabet). AreEquivalent (loc_of x) u v) (sym of.alphabet) alike) ∙ of.language v mv

-- tables that are equal have the same diamonds
pub diamonds-along : (d e f : CompleteDfa) → d ≡ e → f ≡ e → HasDiamonds (loc_of d.alphabet) (automaton_of d) → HasDiamonds (loc_of f.alphabet) (automaton_of f)
diamonds-along d e f same same' = subst (λ (t : CompleteDfa). HasDiamonds (loc_of t.alphabet) (automaton_of t)) (same ∙ sym same')

-- a word by its parts
pub joined_is : (w u u' v v' : List ℕ) (a b : ℕ) → w ≡ u ++ a ∷ b ∷ v → u ≡ u' → v ≡ v' → w ≡ u' ++ a ∷ b ∷ v'
joined_is w u u' v v' a b e ue ve = e ∙ ap (λ x. x ++ a ∷ b ∷ v) ue ∙ ap (λ x. u' ++ a ∷ b ∷ x) ve

-- the words of the first broken diamond are those of the least break
pub words_of_broken : (m : MinimalDfa) (dfa : CompleteDfa) → IsComplete m.dfa → IsMinimalDfa m → dfa ≡ m.dfa → (q a b x' x y' y : ℕ) → x' ≡ step_of dfa q a →
    x ≡ step_of dfa x' b → y' ≡ step_of dfa q b → y ≡ step_of dfa y' a →
    IsFirstBroken (loc_of m.dfa.alphabet) (automaton_of m.dfa) q a b → (o : Option (List ℕ)) (v : List ℕ) →
    MatchOption o (x ≡ y) (λ w. (x ≢ y) × IsLeastApart (automaton_of m.dfa) x y w) → o ≡ Some v →
    (left right : List ℕ) → left ≡ word_at m.access q ++ a ∷ b ∷ v → right ≡ word_at m.access q ++ b ∷ a ∷ v → AreBreakWords m.dfa left right
words_of_broken m dfa whole minimal same q a b x' x y' y xe' xe ye' ye first o v found is left right le re =
    let d = automaton_of m.dfa in
    let P : Option (List ℕ) → Type 0 = λ o. MatchOption o (x ≡ y) (λ w. (x ≢ y) × IsLeastApart d x y w) in
    let apart = (subst P is found).1 in
    let xd : x ≡ d.step (d.step q a) b = xe ∙ ap (λ t. step_of t x' b) same ∙ ap (λ z. step_of m.dfa z b) (xe' ∙ ap (λ t. step_of t q a) same) in
    let yd : y ≡ d.step (d.step q b) a = ye ∙ ap (λ t. step_of t y' a) same ∙ ap (λ z. step_of m.dfa z a) (ye' ∙ ap (λ t. step_of t q b) same) in
    let apart' = subst (λ i. IsLeastApart d i (d.step (d.step q b) a) v) xd (subst (λ j. IsLeastApart d x j v) yd apart) in (
      record { before = word_at m.access q; left = a; right = b; after = v },
      first-is-least (loc_of m.dfa.alphabet) d (total_of_complete m.dfa whole) m.access minimal.numbered q a b v first apart',
      le,
      re,
    )

-- and of the language of the table that was minimised
pub words_of_given : (dfa minimal : CompleteDfa) (left right : List ℕ) → IsMinimalOf minimal dfa → AreBreakWords minimal left right →
    AreBreakWords dfa left right
words_of_given dfa minimal left right of words =
    let letters : length minimal.alphabet.letters ≡ length dfa.alphabet.letters = ap (λ x. length x.letters) of.alphabet in
    let moved = least-moves (automaton_of minimal) (automaton_of dfa) letters of.language (loc_of minimal.alphabet) words.0 words.1 in
    (words.0, subst (λ (x : DistributedAlphabet). IsLeastBreak (loc_of x) (automaton_of dfa) words.0) of.alphabet moved, words.2, words.3)
