-- The sets of the letters while processes are put into them.
use Rattle.std.proofs.Common.{◌≡◌, ◌≢◌, ℕ, ◌+◌, ◌<◌, ◌≤◌, Bool, true, false, not, ◌&&◌, ◌||◌, inl, inr, List, ◌==◌, length, slice_index, nat_lt, set}
use Rattle.std.proofs.Common.{length-set, cond, add-zero, refl, sym, ap, ◌∙◌, arith, lt-ltb, le-ltb, ltb-true}
use Rattle.std.proofs.lemmas.Bool.{cases_eq, and_parts}
use Rattle.std.proofs.lemmas.Bool.Decides.{eqb_tells, nat_tests}
use Rattle.std.proofs.lemmas.List.{get_or-set_same, get_or-set_other}
use Rattle.za_alpha.specs.declared.procs.Procs.{Procs}
use Rattle.za_alpha.specs.Words.{has}
use Rattle.za_script.specs.Scripts.{comes_next}
use Rattle.za_script.specs.Private.Weaving.{set_at, IsReady}

-- the processes of `marked` are in the sets of their next letters, and no others are in any
pub record AreMarked (marked : ℕ → Bool) (scripts : ℕ → List ℕ) (places : List ℕ) (sets : List Procs) : Type 0 where
  pub next : (a q : ℕ) → a < length sets → has (set_at sets a) q ≡ (marked q && comes_next (scripts q) (slice_index places q) a)

-- one process more is marked
pub marked-more : (marked after : ℕ → Bool) (scripts : ℕ → List ℕ) (places moved : List ℕ) (sets more : List Procs) (p : ℕ) →
    AreMarked marked scripts places sets → marked p ≡ false → after p ≡ true →
    ((q : ℕ) → q ≢ p → after q ≡ marked q) → ((q : ℕ) → q ≢ p → slice_index moved q ≡ slice_index places q) → length more ≡ length sets →
    ((a q : ℕ) → a < length sets → has (set_at more a) q ≡ (has (set_at sets a) q || (q == p && comes_next (scripts p) (slice_index moved p) a))) →
    AreMarked after scripts moved more
marked-more marked after scripts places moved sets more p were off on others still size joined =
    record {
      next = λ a q l.
          let la : a < length sets = omega arith in
          elim (eqb_tells q p) [
            | inl s ↦
                joined a q la ∙ ap (λ b. b || (q == p && comes_next (scripts p) (slice_index moved p) a))
                (were.next a q la ∙ ap (λ b. b && comes_next (scripts q) (slice_index places q) a) (ap marked s.1 ∙ off))
                ∙ ap (λ b. b && comes_next (scripts p) (slice_index moved p) a) (s.0 ∙ sym (ap after s.1 ∙ on))
                ∙ ap (λ n. after q && comes_next (scripts n) (slice_index moved n) a) (sym s.1)
            | inr s ↦
                joined a q la ∙ ap (λ b. has (set_at sets a) q || (b && comes_next (scripts p) (slice_index moved p) a)) s.0 ∙ or-false (has (set_at sets a) q)
                ∙ were.next a q la ∙ ap (λ b. b && comes_next (scripts q) (slice_index places q) a) (sym (others q s.1))
                ∙ ap (λ n. after q && comes_next (scripts q) n a) (sym (still q s.1))
          ];
    }
  where
    or-false : (x : Bool) → (x || false) ≡ x
    or-false true = refl
    or-false false = refl

-- the same processes are marked
pub marked-same : (marked after : ℕ → Bool) (scripts : ℕ → List ℕ) (places : List ℕ) (sets : List Procs) → AreMarked marked scripts places sets →
    ((q : ℕ) → after q ≡ marked q) → AreMarked after scripts places sets
marked-same marked after scripts places sets were same =
    record { next = λ a q l. were.next a q l ∙ ap (λ b. b && comes_next (scripts q) (slice_index places q) a) (sym (same q)) }

-- whether a firing of a letter of these processes has marked q, when it has come to n
abbrev pub marked_at : List ℕ → ℕ → ℕ → Bool
marked_at loc n q = nat_lt q n || not (has loc q)

-- the next process is marked, or was marked before since the letter isn't its own
marked_at-same : (loc : List ℕ) (n q : ℕ) → q ≢ n → marked_at loc (n + 1) q ≡ marked_at loc n q
marked_at-same loc n q ne = ap (λ t. t || not (has loc q)) (grind (arith, nat_tests))

marked_at-here : (loc : List ℕ) (n : ℕ) → marked_at loc (n + 1) n ≡ true
marked_at-here loc n = ap (λ t. t || not (has loc n)) (lt-ltb n (n + 1) (omega arith))

marked_at-before : (loc : List ℕ) (n : ℕ) → marked_at loc n n ≡ not (has loc n)
marked_at-before loc n = ap (λ t. t || not (has loc n)) (le-ltb n n (omega arith))

-- where the loop over the processes of a firing stands: those below n have been passed
pub record IsFiring (scripts : ℕ → List ℕ) (loc old places : List ℕ) (sets : List Procs) (n : ℕ) : Type 0 where
  pub size : length places ≡ length old
  pub done : (q : ℕ) → q < n → slice_index places q ≡ slice_index old q + cond (has loc q) 1 0
  pub left : (q : ℕ) → n ≤ q → slice_index places q ≡ slice_index old q
  pub marked : AreMarked (marked_at loc n) scripts places sets

-- the letter isn't one of the next process
pub firing-skip : (scripts : ℕ → List ℕ) (loc old places : List ℕ) (sets : List Procs) (n : ℕ) → IsFiring scripts loc old places sets n → has loc n ≡ false →
    IsFiring scripts loc old places sets (n + 1)
firing-skip scripts loc old places sets n f out =
    record {
      size = f.size;
      done = λ q l. elim (cases_eq q n) [
        | inl e ↦ f.left q (omega arith) ∙ sym (ap (λ b. slice_index old q + cond b 1 0) (ap (has loc) e ∙ out) ∙ add-zero (slice_index old q))
        | inr ne ↦ f.done q (omega arith)
      ];
      left = λ q l. f.left q (omega arith);
      marked = marked-same (marked_at loc n) (marked_at loc (n + 1)) scripts places sets f.marked (λ q. elim (cases_eq q n) [
        | inl e ↦ ap (marked_at loc (n + 1)) e ∙ marked_at-here loc n ∙ sym (ap (marked_at loc n) e ∙ marked_at-before loc n ∙ ap not out)
        | inr ne ↦ marked_at-same loc n q ne
      ]);
    }

-- the next process goes one place on, and is put into the set of its next letter
pub firing-move : (scripts : ℕ → List ℕ) (loc old places : List ℕ) (sets more : List Procs) (n : ℕ) → IsFiring scripts loc old places sets n →
    has loc n ≡ true → n < length places →
    length more ≡ length sets →
    ((a q : ℕ) → a < length sets → has (set_at more a) q
    ≡ (has (set_at sets a) q || (q == n && comes_next (scripts n) (slice_index (set places n (slice_index places n + 1)) n) a))) →
    IsFiring scripts loc old (set places n (slice_index places n + 1)) more (n + 1)
firing-move scripts loc old places sets more n f own within size joined =
    let moved = set places n (slice_index places n + 1) in
    let here : slice_index moved n ≡ slice_index places n + 1 = get_or-set_same places n (slice_index places n + 1) 0 within in
    record {
      size = length-set places n (slice_index places n + 1) ∙ f.size;
      done = λ q l. elim (cases_eq q n) [
        | inl e ↦
            ap (slice_index moved) e ∙ here ∙ ap (λ k. k + 1) (f.left n (omega arith)) ∙ ap (λ k. slice_index old k + 1) (sym e)
            ∙ sym (ap (λ b. slice_index old q + cond b 1 0) (ap (has loc) e ∙ own))
        | inr ne ↦ get_or-set_other places n q (slice_index places n + 1) 0 ne ∙ f.done q (omega arith)
      ];
      left = λ q l. get_or-set_other places n q (slice_index places n + 1) 0 (omega arith) ∙ f.left q (omega arith);
      marked = marked-more (marked_at loc n) (marked_at loc (n + 1)) scripts places moved sets more n f.marked (marked_at-before loc n ∙ ap not own)
          (marked_at-here loc n)
          (λ q ne. marked_at-same loc n q ne) (λ q ne. get_or-set_other places n q (slice_index places n + 1) 0 ne) size joined;
    }

-- a process of a complete letter is not at the end of its script
pub place-below : (scripts : ℕ → List ℕ) (loc places : List ℕ) (sets : List Procs) (a p : ℕ) → IsReady scripts places sets →
    ((q : ℕ) → has (set_at sets a) q ≡ has loc q) → a < length sets →
    has loc p ≡ true → slice_index places p < length (scripts p)
place-below scripts loc places sets a p ready complete la own =
    let here : comes_next (scripts p) (slice_index places p) a ≡ true = sym (ready.next a p la) ∙ complete p ∙ own in
    ltb-true (slice_index places p) (length (scripts p))
    (and_parts (nat_lt (slice_index places p) (length (scripts p))) (slice_index (scripts p) (slice_index places p) == a) here).0
