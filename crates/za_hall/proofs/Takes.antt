-- A try keeps the rule.
use Rattle.std.proofs.Common.{◌≡◌, ◌≢◌, ◌⊎◌, ℕ, zero, suc, ◌<◌, true, false, eqb, List, [], ◌∷◌, length, set, sym, refl, ap, ◌∙◌, subst, inl, inr, ⊎_elim}
use Rattle.std.proofs.Common.{arith, Some, length-set, get_or-set_same}
use mathlib.Core.Option.{none, some, some-injective, some-ne-none}
use lib.ListN.{get_elem?}
use lib.Seq.{set-get_or}
use prog.Atomic.{either}
use Rattle.atomic_table.specs.Table.{State, Act, keeps, takes, stepped, carried_after, Valid, Allows}
use Rattle.atomic_table.proofs.Lists.{at_set, set_here, set_else}
use Rattle.za_table.specs.Tables.{Given, machine_of}
use Rattle.za_hall.specs.Rule.{Slot, NoteOk, EachNote, Apart, Knows, Kept, IsFit}
use Rattle.za_hall.specs.Steps.{tried, TookHand}
use Rattle.za_hall.specs.Views.{View, Note}

false_true : false ≡ true → ⊥
false_true e = cc

-- what holds of each view after a step of the seat `me`, whose view is w then
pub each_after : (K : ℕ → View → Type 0) (vs : List View) (me : ℕ) (w : View) → K me w → ((j : ℕ) (v : View) → j ≢ me → get_elem? vs j ≡ some v → K j v) →
    (j : ℕ) (v : View) → get_elem? (set vs me w) j ≡ some v → K j v
each_after K vs me w mine others j v e = ⊎_elim (λ (t : (j ≡ me) × (w ≡ v)). subst (λ (x : ℕ × View). K x.0 x.1) (λ i. (sym t.0 i, t.1 i)) mine)
    (λ (t : (j ≢ me) × (get_elem? vs j ≡ some v)). others j v t.0 t.1) (at_set vs me j w v e)

pub here_length : (vs : List View) (i : ℕ) (v : View) → get_elem? vs i ≡ some v → i < length vs
here_length [] i v e = absurd (some-ne-none v (sym e))
here_length (x ∷ vs) zero v e = omega arith
here_length (x ∷ vs) (suc i) v e = let h = here_length vs i v e in omega arith

abbrev named : View → Given → Type 0
named v job = (v.notes ≡ []) ⊎ (v.given ≡ job)

-- a try that takes nothing: the word stays
pub stays : (job : Given) (s : State Slot View) (r : Kept job s) (id : ℕ) (v w : View) → get_elem? s.views id ≡ some v → v.holds ≡ false → w.holds ≡ false
    → w.notes ≡ v.notes → w.given ≡ v.given → (w.over ≡ true → r.word ≡ 2)
    → Kept job record { words = set s.words 0 r.word; homes = s.homes; views = set s.views id w }
stays job s r id v w here free free' notes of_job over =
    let P : List ℕ → Type 0 = λ ws. Kept job record { words = ws; homes = s.homes; views = set s.views id w } in
    let words : set s.words 0 r.word ≡ s.words = ap (set s.words 0) (sym r.word_is) ∙ set-get_or s.words 0 0 in
    subst P (sym words) record {
      table = r.table;
      word = r.word;
      turn = r.turn;
      owner = r.owner;
      word_is = r.word_is;
      one_word = r.one_word;
      one_slot = r.one_slot;
      small = r.small;
      home = r.home;
      out = r.out;
      holder = λ e. let h = r.holder e in (
        h.0,
        set_else s.views id r.turn w (λ same. let P : ℕ → Type 0 = λ k. get_elem? s.views k ≡ some h.0 in
            false_true (sym free ∙ (ap (λ u. u.holds) (some-injective v h.0 (sym here ∙ subst P same h.1)) ∙ h.2))) ∙ h.1,
        h.2,
        h.3,
      );
      of_job = r.of_job;
      fit = r.fit;
      reached = r.reached;
      covered = r.covered;
      is_over = r.is_over;
      not_over = r.not_over;
      each = each_after (Knows job r.table r.word r.turn r.owner) s.views id w (known (r.each id v here)) (λ j u other e. r.each j u e);
    }
  where
    known : Knows job r.table r.word r.turn r.owner id v → Knows job r.table r.word r.turn r.owner id w
    known k = record {
      job_is = ⊎_elim (λ e. inl (notes ∙ e)) (λ e. inr (of_job ∙ e)) k.job_is;
      holds = λ e. absurd (false_true (sym free' ∙ e));
      notes = subst (EachNote (NoteOk r.table)) (sym notes) k.notes;
      owned = subst (EachNote (λ n. r.owner n.number ≡ id)) (sym notes) k.owned;
      apart = subst Apart (sym notes) k.apart;
      over = over;
    }

-- a try that takes the table
pub goes_out : (job : Given) (s : State Slot View) (r : Kept job s) (id : ℕ) (v w : View) (n : Note) (ns : List Note) → w.notes ≡ n ∷ ns
    → get_elem? s.views id ≡ some v → r.word ≡ 0 → w.took ≡ r.table → w.notes ≡ v.notes → w.given ≡ v.given → w.holds ≡ true → w.over ≡ false
    → Kept job record { words = set s.words 0 1; homes = set s.homes 0 none; views = set s.views id w }
goes_out job s r id v w n ns some_note here is_free took notes of_job holds over = record {
  table = r.table;
  word = 1;
  turn = id;
  owner = r.owner;
  word_is = get_or-set_same s.words 0 1 0 (let l = r.one_word in omega arith);
  one_word = length-set s.words 0 1 ∙ r.one_word;
  one_slot = length-set s.homes 0 none ∙ r.one_slot;
  small = omega arith;
  home = λ ne. absurd (ne refl);
  out = λ e. set_here s.homes 0 none (let l = r.one_slot in omega arith);
  holder = λ e. (w, set_here s.views id w (here_length s.views id v here), holds, (n, (ns, some_note)));
  of_job = r.of_job;
  fit = r.fit;
  reached = r.reached;
  covered = r.covered;
  is_over = λ e. absurd (omega (arith, e));
  not_over = λ e. absurd (omega (arith, e));
  each = each_after (Knows job r.table 1 id r.owner) s.views id w (mine (r.each id v here)) (λ j u other e. theirs j u (r.each j u e));
}
  where
    mine : Knows job r.table r.word r.turn r.owner id v → Knows job r.table 1 id r.owner id w
    mine k = record {
      job_is = ⊎_elim (λ e. inl (notes ∙ e)) (λ e. inr (of_job ∙ e)) k.job_is;
      holds = λ e. (refl, refl, took);
      notes = subst (EachNote (NoteOk r.table)) (sym notes) k.notes;
      owned = subst (EachNote (λ n. r.owner n.number ≡ id)) (sym notes) k.owned;
      apart = subst Apart (sym notes) k.apart;
      over = λ e. absurd (false_true (sym over ∙ e));
    }

    theirs : (j : ℕ) (u : View) → Knows job r.table r.word r.turn r.owner j u → Knows job r.table 1 id r.owner j u
    theirs j u k = record {
      job_is = k.job_is;
      holds = λ e. let h = (k.holds e).0 in absurd (omega (arith, is_free, h));
      notes = k.notes;
      owned = k.owned;
      apart = k.apart;
      over = λ e. let h = k.over e in absurd (omega (arith, is_free, h));
    }

-- the turn is tried
pub try_allowed : (job : Given) (slots id : ℕ) (v : View) (n : Note) (ns : List Note) → v.notes ≡ n ∷ ns → v.holds ≡ false
    → Allows (Kept job) slots id (v, []) 0 (λ x. either (eqb x 0) 1 x) (TookHand (v, []))
try_allowed job slots id v n ns some_note free s r deep here bound = subst G (sym r.word_is) (go r.word refl)
  where
    G : ℕ → Type 0
    G x = (w : View) × (a : Act Slot) × Valid s.homes [] a × Kept job (stepped s 0 (either (eqb x 0) 1 x) id [] w a)
        × TookHand (v, []) x (w, carried_after [] a)

    known : Knows job r.table r.word r.turn r.owner id v
    known = r.each id v here

    of_job : v.given ≡ job
    of_job = ⊎_elim (λ e. absurd (cc)) (λ e. e) known.job_is

    go : (x : ℕ) → r.word ≡ x → G x
    go zero e = (
      tried 0 r.table v,
      takes 0 (Some r.table),
      r.home (omega (arith, e)),
      goes_out job s r id v (tried 0 r.table v) n ns some_note here e refl refl refl refl refl,
      (
        omega arith,
        (
          r.table,
          refl,
          λ _. record {
            of_job = r.of_job ∙ sym of_job;
            fit = subst (λ (j : Given). IsFit (machine_of j))
                (sym r.of_job) r.fit;
            reached = r.reached;
            covered = r.covered;
            not_over = r.not_over e;
            notes = known.notes;
          },
        ),
      ),
    )
    go (suc zero) e = (
      tried 1 r.table v,
      keeps,
      tt,
      subst (λ (m : ℕ). Kept job record { words = set s.words 0 m; homes = s.homes; views = set s.views id (tried 1 r.table v) }) e
          (stays job s r id v (tried 1 r.table v) here free refl refl refl (λ f. absurd (false_true f))),
      (omega arith, (r.table, refl, λ z. absurd (omega (arith, z)))),
    )
    go (suc (suc zero)) e = (
      tried 2 r.table v,
      keeps,
      tt,
      subst (λ (m : ℕ). Kept job record { words = set s.words 0 m; homes = s.homes; views = set s.views id (tried 2 r.table v) }) e
          (stays job s r id v (tried 2 r.table v) here free refl refl refl (λ f. e)),
      (omega arith, (r.table, refl, λ z. absurd (omega (arith, z)))),
    )
    go (suc (suc (suc k))) e = let l = r.small in absurd (omega arith)
