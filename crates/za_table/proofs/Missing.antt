-- Who is missing at each letter: at the start, and after events.
use Rattle.std.proofs.Common.{◌≡◌, ◌≢◌, ℕ, ◌<◌, ◌==◌, ◌&&◌, not, nat_lt, Bool, true, false, List, [], ◌∷◌, ◌++◌, Some, length, slice_index, slice_index_or}
use Rattle.std.proofs.Common.{refl, sym}
use Rattle.std.proofs.Common.{ap, subst, ◌∙◌, arith, inl, inr, eqb-true, eq-eqb, get_or-set_same, get_or-set_other}
use Rattle.std.specs.Prelude.{◌⊎◌}
use Rattle.std.specs.List.{slice_get, slice_set}
use Rattle.std.proofs.lemmas.Bool.{cases_Bool, cases_eq, and_parts, lt-ltb}
use Rattle.std.proofs.lemmas.List.{length-set}
use Rattle.std.proofs.lemmas.Option.{slice_get-get_or, slice_get_within}
use Rattle.za_alpha.specs.declared.procs.Procs.{Procs}
use Rattle.za_alpha.specs.Words.{has}
use Rattle.za_alpha.specs.Procs.{members, no_process}
use Rattle.za_alpha.specs.Alphabet.{DistributedAlphabet, loc_of}
use Rattle.za_alpha.proofs.Members.{and-true, and-false}
use Rattle.za_script.specs.Scripts.{comes_next}
use Rattle.za_script.proofs.Lists.{all-at}
use Rattle.za_machine.specs.Machine.{Machine, State, initial, arrive, fire, is_in, fired_by, next, is_complete}
use Rattle.za_machine.proofs.States.{at-initial, at-without, fired_by-other}
use Rattle.za_alpha.specs.declared.word.Letter.{Letter}
use Rattle.za_table.specs.declared.arrival.Arrival.{Arrival}
use Rattle.za_table.specs.declared.arrival.Arrival.TheVariants.{Complete, Short}
use Rattle.za_table.specs.Answers.{waits_at, AreMissing, IsArrival}
use Rattle.za_table.proofs.Complete.{none-missing}
use Rattle.za_table.specs.Private.Steps.{AreLocated, AreAllMissing}

-- who doesn't wait is missing
all-missing : (m : Machine) (c : State) (a : ℕ) (s : Procs) → members s ≡ m.loc a → ((p : ℕ) → has (m.loc a) p ≡ true → is_in c.arrived p ≡ false) →
    AreMissing m c a s
all-missing m c a s e none = λ p. ap (λ ps. has ps p) e ∙ elim (cases_Bool (has (m.loc a) p)) [
  | inl t ↦
      let w : waits_at m c a p ≡ false = ap (λ b. b && comes_next (m.scripts p) (fired_by m c.journal p) a) (none p t) in
      sym (ap (λ b. has (m.loc a) p && not b) w ∙ and-true (has (m.loc a) p))
  | inr f ↦ f ∙ sym (ap (λ b. b && not (waits_at m c a p)) f)
]

-- nobody has arrived
pub missing-first : (m : Machine) (al : DistributedAlphabet) (sets : List Procs) → m.loc ≡ loc_of al → m.letters ≡ length al.letters →
    AreLocated al (length al.letters) sets → AreAllMissing m (initial m) sets
missing-first m al sets e n h = record {
  size = h.size ∙ sym n;
  each = λ a l. all-missing m (initial m) a (slice_index_or sets a no_process) (h.each a (omega arith) ∙ ap (λ f. f a) (sym e))
      (λ p t. at-initial m.processes p);
}

-- a letter that comes next is the one
comes-one : (xs : List ℕ) (k a b : ℕ) → slice_get xs k ≡ Some a → comes_next xs k b ≡ (a == b)
comes-one xs k a b h =
    let l = slice_get_within xs k a h in
    let e : slice_index xs k ≡ a = let s = slice_get-get_or xs k 0 l in let z : Some (slice_index xs k) ≡ Some a = sym s ∙ h in cc in
    ap (λ x. x && (slice_index xs k == b)) (lt-ltb k (length xs) l) ∙ ap (λ x. x == b) e

-- a process arrives at its next letter
module _ (m : Machine) (c : State) (p a : ℕ) (is : next m c.journal p ≡ Some a) (free : is_in c.arrived p ≡ false) (inside : p < length c.arrived)
    (sets : List Procs)
    (ok : AreAllMissing m c sets) (less : Procs)
    (without : (q : ℕ) → has (members less) q ≡ (has (members (slice_index_or sets a no_process)) q && not (q == p))) (la : a < m.letters) where
  -- whoever else waits does so as before
  other : (b q : ℕ) → q ≢ p → waits_at m (arrive p c) b q ≡ waits_at m c b q
  other b q n = ap (λ x. x && comes_next (m.scripts q) (fired_by m c.journal q) b) (get_or-set_other c.arrived p q true false n)

  here : (b : ℕ) → waits_at m (arrive p c) b p ≡ (a == b)
  here b = ap (λ x. x && comes_next (m.scripts p) (fired_by m c.journal p) b) (get_or-set_same c.arrived p true false inside)
      ∙ comes-one (m.scripts p) (fired_by m c.journal p) a b is

  before : (b : ℕ) → waits_at m c b p ≡ false
  before b = ap (λ x. x && comes_next (m.scripts p) (fired_by m c.journal p) b) free

  mine : AreMissing m (arrive p c) a less
  mine = λ q. without q ∙ ap (λ x. x && not (q == p)) (ok.each a la q) ∙ elim (cases_eq q p) [
    | inl e ↦
        let t : (q == p) ≡ true = eq-eqb q p e in
        let w : waits_at m (arrive p c) a q ≡ true = ap (waits_at m (arrive p c) a) e ∙ here a ∙ eq-eqb a a refl in
        ap (λ x. (has (m.loc a) q && not (waits_at m c a q)) && not x) t ∙ and-false (has (m.loc a) q && not (waits_at m c a q))
        ∙ sym (ap (λ x. has (m.loc a) q && not x) w ∙ and-false (has (m.loc a) q))
    | inr n ↦
        let f : (q == p) ≡ false = unequal q p n in
        ap (λ x. (has (m.loc a) q && not (waits_at m c a q)) && not x) f ∙ and-true (has (m.loc a) q && not (waits_at m c a q))
        ∙ ap (λ x. has (m.loc a) q && not x) (sym (other a q n))
  ]
    where
      unequal : (x y : ℕ) → x ≢ y → (x == y) ≡ false
      unequal x y n = elim (cases_Bool (x == y)) [
        | inl t ↦ absurd (n (eqb-true x y t))
        | inr f ↦ f
      ]

  theirs : (b : ℕ) → b < m.letters → b ≢ a → AreMissing m (arrive p c) b (slice_index_or sets b no_process)
  theirs b l n = λ q. ok.each b l q ∙ ap (λ x. has (m.loc b) q && not x) (sym (elim (cases_eq q p) [
    | inl e ↦
        let f : (a == b) ≡ false = elim (cases_Bool (a == b)) [ inl t ↦ absurd (n (sym (eqb-true a b t))) | inr g ↦ g ] in
        ap (waits_at m (arrive p c) b) e ∙ here b ∙ f ∙ sym (ap (waits_at m c b) e ∙ before b)
    | inr d ↦ other b q d
  ]))

  pub missing-arrived : AreAllMissing m (arrive p c) (slice_set sets a less)
  missing-arrived = record {
    size = length-set sets a less ∙ ok.size;
    each = λ b l. elim (cases_eq b a) [
      | inl e ↦ subst (λ (i : ℕ). AreMissing m (arrive p c) i (slice_index_or (slice_set sets a less) i no_process)) (sym e)
          (subst (AreMissing m (arrive p c) a) (sym (get_or-set_same sets a less no_process (let s = ok.size in omega arith))) mine)
      | inr n ↦ subst (AreMissing m (arrive p c) b) (sym (get_or-set_other sets a b less no_process n)) (theirs b l n)
    ];
  }

-- a complete letter is fired
module _ (m : Machine) (c : State) (a : ℕ) (complete : is_complete m c a ≡ true) (sets : List Procs) (ok : AreAllMissing m c sets) (all : Procs)
    (are : members all ≡ m.loc a) (la : a < m.letters) where
  gone : (q : ℕ) → has (m.loc a) q ≡ true → is_in (fire m.loc a c).arrived q ≡ false
  gone q t = at-without (m.loc a) c.arrived q ∙ ap (λ x. is_in c.arrived q && not x) t ∙ and-false (is_in c.arrived q)

  left : (b : ℕ) → b < m.letters → b ≢ a → AreMissing m (fire m.loc a c) b (slice_index_or sets b no_process)
  left b l n = λ q. ok.each b l q ∙ ap (λ x. has (m.loc b) q && not x) (sym (same q))
    where
      same : (q : ℕ) → waits_at m (fire m.loc a c) b q ≡ waits_at m c b q
      same q = elim (cases_Bool (has (m.loc a) q)) [
        | inl t ↦
            let w = and_parts (is_in c.arrived q) (comes_next (m.scripts q) (fired_by m c.journal q) a)
            (all-at (λ p. is_in c.arrived p && comes_next (m.scripts p) (fired_by m c.journal p) a) (m.loc a) q complete t) in
            let k = and_parts (nat_lt (fired_by m c.journal q) (length (m.scripts q))) (slice_index (m.scripts q) (fired_by m c.journal q) == a) w.1 in
            let at : slice_index (m.scripts q) (fired_by m c.journal q) ≡ a = eqb-true (slice_index (m.scripts q) (fired_by m c.journal q)) a k.1 in
            let f : (slice_index (m.scripts q) (fired_by m c.journal q) == b) ≡ false =
            elim (cases_Bool (slice_index (m.scripts q) (fired_by m c.journal q) == b)) [
              | inl y ↦ absurd (n (sym (eqb-true (slice_index (m.scripts q) (fired_by m c.journal q)) b y) ∙ at))
              | inr g ↦ g
            ] in
            ap (λ x. x && comes_next (m.scripts q) (fired_by m (c.journal ++ a ∷ []) q) b) (gone q t)
            ∙ sym (ap (λ x. is_in c.arrived q && (nat_lt (fired_by m c.journal q) (length (m.scripts q)) && x)) f
            ∙ ap (λ x. is_in c.arrived q && x) (and-false (nat_lt (fired_by m c.journal q) (length (m.scripts q)))) ∙ and-false (is_in c.arrived q))
        | inr d ↦
            ap (λ x. x && comes_next (m.scripts q) (fired_by m (c.journal ++ a ∷ []) q) b)
            (at-without (m.loc a) c.arrived q ∙ ap (λ x. is_in c.arrived q && not x) d ∙ and-true (is_in c.arrived q))
            ∙ ap (λ (w : List ℕ). is_in c.arrived q && comes_next (m.scripts q) (length w) b) (fired_by-other m c.journal a q d)
      ]

  pub missing-fired : AreAllMissing m (fire m.loc a c) (slice_set sets a all)
  missing-fired = record {
    size = length-set sets a all ∙ ok.size;
    each = λ b l. elim (cases_eq b a) [
      | inl e ↦ subst (λ (i : ℕ). AreMissing m (fire m.loc a c) i (slice_index_or (slice_set sets a all) i no_process)) (sym e)
          (subst (AreMissing m (fire m.loc a c) a) (sym (get_or-set_same sets a all no_process (let s = ok.size in omega arith)))
          (all-missing m (fire m.loc a c) a all are gone))
      | inr n ↦ subst (AreMissing m (fire m.loc a c) b) (sym (get_or-set_other sets a b all no_process n)) (left b l n)
    ];
  }

-- what an arrival answers
empty-or : (xs : List ℕ) → (xs ≡ []) ⊎ (xs ≡ [] → ⊥)
empty-or [] = inl refl
empty-or (x ∷ xs) = inr (λ e. cc)

pub arrived-answer : (m : Machine) (c : State) (p : ℕ) (letter : Letter) (missing : Procs) (answer : Arrival) → next m c.journal p ≡ Some letter.0 →
    AreMissing m c letter.0 missing → (members missing ≡ [] → answer ≡ Complete letter) → ((members missing ≡ [] → ⊥) → answer ≡ Short letter missing) →
    IsArrival m c p answer
arrived-answer m c p letter missing answer is are none some =
    let all = none-missing (waits_at m c letter.0) (m.loc letter.0) (members missing) are in
    elim (empty-or (members missing)) [
      | inl e ↦ subst (IsArrival m c p) (sym (none e)) (is, all.0 e)
      | inr n ↦ subst (IsArrival m c p) (sym (some n)) (is, unless (is_complete m c letter.0) (λ t. n (all.1 t)), are, n)
    ]
  where
    unless : (b : Bool) → (b ≡ true → ⊥) → b ≡ false
    unless true h = absurd (h refl)
    unless false h = refl
