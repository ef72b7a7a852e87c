-- Steps of the search for values.
use Rattle.std.proofs.Common.{◌≡◌, ℕ, suc, ◌+◌, ◌*◌, ◌<◌, Bool, true, false, ◌&&◌, ◌==◌, nat_lt, ◌⊎◌, inl, inr, List, [], ◌∷◌, ◌++◌, length, slice_index}
use Rattle.std.proofs.Common.{bit_and, refl, sym, ap, subst, ◌∙◌, arith, length-append}
use Rattle.std.specs.List.{list_any}
use Rattle.std.proofs.lemmas.Bool.{cases_eq, cases_lt, lt-ltb, le-ltb}
use Rattle.std.proofs.lemmas.List.{get_or-map, length-map, get_or_append_left}
use Rattle.std.proofs.lemmas.Nat.{mul-add-lt}
use Rattle.std.proofs.Math.Seq.{get_or-append_seam}
use Rattle.za_dfa.specs.Limits.{most_states}
use Rattle.za_dfa.specs.Automata.{Automaton}
use Rattle.za_min.specs.Minimal.{word_at}
use Rattle.za_min.specs.Private.Exploring.{state_of, IsDone, AreFound, AreFoundStates}
use Rattle.za_min.proofs.Found.{grows}
use Rattle.za_min.proofs.FoundSteps.{visited-there, visited-new, visited-row, visited-start}
use Rattle.za_expression.specs.declared.sign.Sign.{Sign}
use Rattle.za_expression.specs.Grammar.{IsForm}
use Rattle.za_expression.specs.Following.{goes}
use Rattle.za_expression.specs.Values.{HaveDifferentValues, HasMoreValues}
use Rattle.za_form.specs.Expressions.{letter_at}
use Rattle.za_form.specs.declared.fault.Wide.{Wide}
use Rattle.za_form.specs.declared.fault.Wide.TheVariants.{States, OutOfMemory}
use Rattle.za_form.specs.Automata.{IsWide}
use Rattle.za_form.specs.Private.Numbers.{has_bit, bits_of, places_of, form_of, positions_of}
use Rattle.za_form.specs.Private.Sets.{IsAfter, AreMasks, stands_at}
use Rattle.za_form.specs.Private.Searching.{IsCell, AreCells, IsSearch, HasSearched, IsKnown, IsAdded, IsPlaced, IsLeftOut}
use Rattle.za_form.proofs.Bits.{bits-below, has-bits}
use Rattle.za_form.proofs.BitSets.{has_bit-and, above_bit, same_bits}
use Rattle.za_form.proofs.Positions.{state_of_value}

-- a step of the automaton by sets
inside : (x y l any : Bool) → l ≡ true → ((x && (l && y)) && any) ≡ (x && (y && any))
inside true y l any h = ap (λ v. (v && y) && any) h
inside false y l any h = refl

outside : (x y l any : Bool) → l ≡ false → ((x && (l && y)) && any) ≡ false
outside true y l any h = ap (λ v. (v && y) && any) h
outside false y l any h = refl

pub step_is : (signs : List Sign) (letters : ℕ) (masks : List ℕ) (m a all : ℕ) → AreMasks signs letters masks → a < letters → IsAfter signs m all →
    bit_and (slice_index masks a) all ≡ (positions_of signs letters).step m a
step_is signs letters masks m a all are l after =
    same_bits (bit_and (slice_index masks a) all) ((positions_of signs letters).step m a) (λ q.
    has_bit-and (slice_index masks a) all q ∙ ap (λ x. x && has_bit all q) (are.each a q l) ∙ ap (λ x. stands_at signs a q && x) (after.bits q) ∙
    elim (cases_lt q (suc (length signs))) [
      | inl x ↦ inside (nat_lt 0 q) (letter_at signs q == a) (nat_lt q (suc (length signs))) (any q) (lt-ltb q (suc (length signs)) x) ∙
          sym (has-bits test (suc (length signs)) q x)
      | inr x ↦ outside (nat_lt 0 q) (letter_at signs q == a) (nat_lt q (suc (length signs))) (any q) (le-ltb q (suc (length signs)) x) ∙
          sym (above_bit (bits_of test (suc (length signs))) (suc (length signs)) q (bits-below test (suc (length signs))) x)
    ])
  where
    any : ℕ → Bool
    any q = list_any (λ p. goes (form_of signs) p q) (places_of (length signs) m)

    test : ℕ → Bool
    test q = nat_lt 0 q && (letter_at signs q == a && any q)

-- cells stay as states are added
cell_more : (d : Automaton) (states states' : List ℕ) (value k b t : ℕ) → k < length states → states' ≡ states ++ value ∷ [] → IsCell d states k b t →
    IsCell d states' k b t
cell_more d states states' value k b t kl e c =
    let long = ap length e in
    let long' = length-append states (value ∷ []) in
    let w = c.within in
    let at : (j : ℕ) → j < length states → slice_index states' j ≡ slice_index states j = λ j l. ap (λ xs. slice_index xs j) e ∙
    get_or_append_left states (value ∷ []) 0 j l in
    record { within = omega arith; there = at t w ∙ c.there ∙ ap (λ q. d.step q b) (sym (at k kl)) }

-- one cell more
cells_more : (d : Automaton) (i a t : ℕ) (states targets targets' : List ℕ) → AreCells d i a states targets → IsCell d states i a t → a < d.letters →
    targets' ≡ targets ++ t ∷ [] → AreCells d i (a + 1) states targets'
cells_more d i a t states targets targets' c new al e =
    let many = c.many in
    let long = ap length e in
    let long' = length-append targets (t ∷ []) in
    record {
      many = omega arith;
      each = λ k b done bl. elim (cases k b done) [
        | inl old ↦
            let l = c.many in
            let within : k * d.letters + b < length targets = elim old [
              | inl x ↦ let m = mul-add-lt k d.letters b i x bl in let z : d.letters * i ≡ i * d.letters = omega arith in omega arith
              | inr x ↦ let m = ap (λ j. j * d.letters) x.0 in let n = x.1 in omega arith
            ] in
            subst (λ x. IsCell d states k b x) (sym (ap (λ xs. slice_index xs (k * d.letters + b)) e ∙
            get_or_append_left targets (t ∷ []) 0 (k * d.letters + b) within)) (c.each k b old bl)
        | inr z ↦
            let last : slice_index targets' (i * d.letters + a) ≡ t = ap (λ xs. slice_index xs (i * d.letters + a)) e ∙
            ap (λ j. slice_index (targets ++ t ∷ []) j) (sym many) ∙ get_or-append_seam targets t [] 0 in
            subst (λ x. IsCell d states x b (slice_index targets' (x * d.letters + b))) (sym z.0)
            (subst (λ y. IsCell d states i y (slice_index targets' (i * d.letters + y))) (sym z.1) (subst (λ x. IsCell d states i a x) (sym last) new))
      ];
    }
  where
    cases : (k b : ℕ) → IsDone i (a + 1) k b → (IsDone i a k b) ⊎ ((k ≡ i) × (b ≡ a))
    cases k b h = elim h [
      | inl l ↦ inl (inl l)
      | inr r ↦ elim (cases_eq b a) [ inl x ↦ inr (r.0, x) | inr n ↦ let l = r.1 in inl (inr (r.0, omega arith)) ]
    ]

cells_grow : (d : Automaton) (i a : ℕ) (states states' targets : List ℕ) (value : ℕ) → i < length states → states' ≡ states ++ value ∷ [] →
    AreCells d i a states targets → AreCells d i a states' targets
cells_grow d i a states states' targets value il e c = record {
  many = c.many;
  each = λ k b done bl.
      let l : k < length states = elim done [ inl x ↦ omega arith | inr x ↦ let z = x.0 in omega arith ] in
      cell_more d states states' value k b (slice_index targets (k * d.letters + b)) l e (c.each k b done bl);
}

-- the words of a search stand for its states
pub states_long : (d : Automaton) (i a : ℕ) (words : List (List ℕ)) (states : List ℕ) → AreFoundStates d i a words states → length states ≡ length words
states_long d i a words states f = ap length f.states_each ∙ length-map words (state_of d)

pub state_is : (d : Automaton) (i a : ℕ) (words : List (List ℕ)) (states : List ℕ) → AreFoundStates d i a words states → (k : ℕ) → k < length words →
    slice_index states k ≡ state_of d (word_at words k)
state_is d i a words states f k l = ap (λ xs. slice_index xs k) f.states_each ∙ get_or-map (state_of d) words k [] 0 l

module _ (d : Automaton) (i a : ℕ) (words : List (List ℕ)) (states targets targets' : List ℕ) (value k : ℕ) (s : IsSearch d i a words states targets)
    (il : i < length states) (al : a < d.letters) (v : value ≡ d.step (slice_index states i) a) (te : targets' ≡ targets ++ k ∷ []) where
  at_word : value ≡ d.step (state_of d (word_at words i)) a
  at_word = let long = states_long d i a words states s.found in v ∙ ap (λ q. d.step q a) (state_is d i a words states s.found i (omega arith))

  -- a value that is known
  pub entered_known : (states' : List ℕ) → IsKnown states states' value k → HasSearched d i (a + 1) states' targets'
  entered_known states' p =
      let long = states_long d i a words states s.found in
      let found = visited-there d i a words states value k s.found (omega arith) at_word p.within p.there in
      subst (λ xs. HasSearched d i (a + 1) xs targets') (sym p.same) (
        words,
        record {
          found = found;
          few = s.few;
          cells = cells_more d i a k states targets targets' s.cells (record { within = p.within; there = p.there ∙ v }) al te;
        },
      )

  -- a value that is added
  pub entered_added : (states' : List ℕ) → IsAdded states states' value k → HasSearched d i (a + 1) states' targets'
  entered_added states' p =
      let long = states_long d i a words states s.found in
      let more = ap length p.more in
      let more' = length-append states (value ∷ []) in
      let room = p.room in
      let last = p.last in
      let words' = words ++ (word_at words i ++ a ∷ []) ∷ [] in
      let found = visited-new d i a words words' states states' value s.found (omega arith) al at_word p.nowhere refl p.more in
      let here : slice_index states' k ≡ value = ap (slice_index states') last ∙ ap (λ xs. slice_index xs (length states)) p.more ∙
      get_or-append_seam states value [] 0 in
      let from : slice_index states' i ≡ slice_index states i = ap (λ xs. slice_index xs i) p.more ∙ get_or_append_left states (value ∷ []) 0 i il in
      let grown = cells_grow d i a states states' targets value il p.more s.cells in (
        words',
        record {
          found = found;
          few = omega arith;
          cells = cells_more d i a k states' targets targets' grown (record { within = omega arith; there = here ∙ v ∙ ap (λ q. d.step q a) (sym from) }) al te;
        },
      )

  pub entered : (states' : List ℕ) → IsPlaced states states' value k → HasSearched d i (a + 1) states' targets'
  entered states' p = elim p [ inl x ↦ entered_known states' x | inr x ↦ entered_added states' x ]

-- the state at a place stays
pub same_at : (states states' : List ℕ) (value k i : ℕ) → IsPlaced states states' value k → i < length states →
    (i < length states') × (slice_index states' i ≡ slice_index states i)
same_at states states' value k i (inl p) l = let e = ap length p.same in (omega arith, ap (λ xs. slice_index xs i) p.same)
same_at states states' value k i (inr p) l =
    let e = ap length p.more in
    let n = length-append states (value ∷ []) in
    (omega arith, ap (λ xs. slice_index xs i) p.more ∙ get_or_append_left states (value ∷ []) 0 i l)

-- where all letters of a place are done
pub search_row : (d : Automaton) (i : ℕ) (states targets : List ℕ) → HasSearched d i d.letters states targets → HasSearched d (i + 1) 0 states targets
search_row d i states targets h =
    let s = h.1 in
    let m : (i + 1) * d.letters + 0 ≡ i * d.letters + d.letters = omega arith in (
      h.0,
      record {
        found = visited-row d i h.0 states s.found;
        few = s.few;
        cells = record {
          many = s.cells.many ∙ sym m;
          each = λ k b done bl. s.cells.each k b (elim done [
            | inl x ↦ elim (cases_eq k i) [ inl e ↦ inr (e, bl) | inr n ↦ inl (omega arith) ]
            | inr x ↦ absurd (let z = x.1 in omega arith)
          ]) bl;
        };
      },
    )

-- at first there is the start
pub search_start : (d : Automaton) (states targets : List ℕ) → states ≡ d.start ∷ [] → targets ≡ [] → HasSearched d 0 0 states targets
search_start d states targets se te =
    let long = ap length se in
    let none = ap length te in (
      [] ∷ [],
      record {
        found = visited-start d ([] ∷ []) states d.start refl se refl;
        few = omega arith;
        cells = record {
          many = none ∙ (let z : 0 ≡ 0 * d.letters + 0 = omega arith in z);
          each = λ k b done bl. absurd (elim done [ inl x ↦ omega arith | inr x ↦ let z = x.1 in omega arith ]);
        };
      },
    )

-- words that lead to different states have different values
pub found_apart : (signs : List Sign) (letters i a : ℕ) (words : List (List ℕ)) → IsForm 1 signs (form_of signs) →
    AreFound (positions_of signs letters) i a words → HaveDifferentValues (letter_at signs) (form_of signs) letters words
found_apart signs letters i a words h f = record {
  each = f.word;
  apart = λ j k jk kl same. f.apart j k jk kl (state_of_value signs letters h (word_at words j) (word_at words k) (f.word j (omega arith)) (f.word k kl) same);
}

-- a value without room is one value more
pub left_out : (signs : List Sign) (letters i a : ℕ) (states targets : List ℕ) (value : ℕ) → IsForm 1 signs (form_of signs) →
    HasSearched (positions_of signs letters) i a states targets → i < length states → a < letters →
    value ≡ (positions_of signs letters).step (slice_index states i) a → IsLeftOut states value →
    HasMoreValues (letter_at signs) (form_of signs) letters most_states
left_out signs letters i a states targets value h searched il al v out =
    let d = positions_of signs letters in
    let words = searched.0 in
    let s = searched.1 in
    let long = states_long d i a words states s.found in
    let iw : i < length words = omega arith in
    let full = out.full in
    let v' : value ≡ d.step (state_of d (word_at words i)) a = v ∙ ap (λ q. d.step q a) (state_is d i a words states s.found i iw) in
    let new = word_at words i ++ a ∷ [] in
    let grown = grows d i a words s.found.found iw al (λ k kl same. out.nowhere k (omega arith) (state_is d i a words states s.found k kl ∙ same ∙ sym v')) in
    let more = length-append words (new ∷ []) in
    (words ++ new ∷ [], found_apart signs letters i (suc a) (words ++ new ∷ []) h grown, (let z : most_states < length (words ++ new ∷ []) = omega arith in z))

-- what is said where a value is left out
pub wide_of : (signs : List Sign) (letters i a : ℕ) (states targets : List ℕ) (value : ℕ) (e : Wide) → IsForm 1 signs (form_of signs) →
    HasSearched (positions_of signs letters) i a states targets → i < length states → a < letters →
    value ≡ (positions_of signs letters).step (slice_index states i) a → (e ≡ States → IsLeftOut states value) → IsWide signs letters e
wide_of signs letters i a states targets value States h searched il al v out =
    (form_of signs, h, left_out signs letters i a states targets value h searched il al v (out refl))
wide_of signs letters i a states targets value OutOfMemory h searched il al v out = tt

-- the value that a letter leads to from the state at a place, which has stayed
pub value_is : (signs : List Sign) (letters : ℕ) (masks before states : List ℕ) (i a m all : ℕ) → AreMasks signs letters masks → a < letters →
    m ≡ slice_index before i → slice_index states i ≡ slice_index before i → IsAfter signs m all →
    bit_and (slice_index masks a) all ≡ (positions_of signs letters).step (slice_index states i) a
value_is signs letters masks before states i a m all are l there stays after =
    step_is signs letters masks (slice_index states i) a all are l (subst (λ x. IsAfter signs x all) (there ∙ sym stays) after)
