-- Opening cuts the first number off a view, and closing puts two views together.
use Rattle.std.proofs.Common.{◌≡◌, ◌≢◌, ◌⊎◌, ℕ, zero, suc, Bool, true, false, cond, List, [], ◌∷◌, ◌++◌, length, set, sym, refl, ap, ◌∙◌, subst, inl, inr}
use Rattle.std.proofs.Common.{⊎_elim, length-set}
use mathlib.Core.Option.{some, some-injective, some-ne-none}
use native.Mathlib.Decide.{ℕ_discrete}
use lib.ListN.{get_elem?}
use Rattle.atomic_table.specs.Table.{State, Splits, Joins}
use Rattle.atomic_table.proofs.Lists.{set_else, at_longer}
use Rattle.za_table.specs.Tables.{Given}
use Rattle.za_hall.specs.Rule.{Slot, NoteOk, EachNote, Apart, Knows, Kept}
use Rattle.za_hall.specs.Steps.{left_of, right_of, both_of, spent_view, other_notes, head}
use Rattle.za_hall.specs.Views.{View, Note}
use Rattle.za_hall.proofs.Takes.{each_after}
use Rattle.za_hall.proofs.Gives.{note_zip}

false_true : false ≡ true → ⊥
false_true e = cc

abbrev pick : {P : Type 0} → Dec P → ℕ → ℕ → ℕ
pick (yes _) a b = a
pick (no _) a b = b

pick_yes : {P : Type 0} (d : Dec P) (a b : ℕ) → P → pick d a b ≡ a
pick_yes (yes _) a b p = refl
pick_yes (no n) a b p = absurd (n p)

pick_no : {P : Type 0} (d : Dec P) (a b : ℕ) → ¬ P → pick d a b ≡ b
pick_no (yes p) a b n = absurd (n p)
pick_no (no _) a b n = refl

put : (ℕ → ℕ) → ℕ → ℕ → ℕ → ℕ
put f i c j = pick (ℕ_discrete j i) c (f j)

put_here : (f : ℕ → ℕ) (i c : ℕ) → put f i c i ≡ c
unfolding put
put_here f i c = pick_yes (ℕ_discrete i i) c (f i) refl

put_else : (f : ℕ → ℕ) (i c j : ℕ) → j ≢ i → put f i c j ≡ f j
unfolding put
put_else f i c j other = pick_no (ℕ_discrete j i) c (f j) other

-- what f sends to `from` goes to `to`
moved : (ℕ → ℕ) → ℕ → ℕ → ℕ → ℕ
moved f from to j = pick (ℕ_discrete (f j) from) to (f j)

moved_here : (f : ℕ → ℕ) (from to j : ℕ) → f j ≡ from → moved f from to j ≡ to
unfolding moved
moved_here f from to j e = pick_yes (ℕ_discrete (f j) from) to (f j) e

moved_else : (f : ℕ → ℕ) (from to j : ℕ) → f j ≢ from → moved f from to j ≡ f j
unfolding moved
moved_else f from to j n = pick_no (ℕ_discrete (f j) from) to (f j) n

at_snoc_where : (vs : List View) (a b : View) (j : ℕ) → get_elem? (vs ++ a ∷ []) j ≡ some b → (get_elem? vs j ≡ some b) ⊎ ((j ≡ length vs) × (a ≡ b))
at_snoc_where [] a b zero e = inr (refl, some-injective a b e)
at_snoc_where [] a b (suc j) e = absurd (some-ne-none b (sym e))
at_snoc_where (v ∷ vs) a b zero e = inl e
at_snoc_where (v ∷ vs) a b (suc j) e = ⊎_elim inl (λ t. inr (ap suc t.0, t.1)) (at_snoc_where vs a b j e)

note_map : (A C : Note → Type 0) → ((n : Note) → A n → C n) → (ns : List Note) → EachNote A ns → EachNote C ns
note_map A C f [] a = tt
note_map A C f (n ∷ ns) a = (f n a.0, note_map A C f ns a.1)

note_append : (A : Note → Type 0) (ns ms : List Note) → EachNote A ns → EachNote A ms → EachNote A (ns ++ ms)
note_append A [] ms a b = b
note_append A (n ∷ ns) ms a b = (a.0, note_append A ns ms a.1 b)

module _ (job : Given) (s : State Slot View) (r : Kept job s) where
  -- the seat that holds the turn is no seat whose view does not
  holder_kept : (id : ℕ) (v w : View) → get_elem? s.views id ≡ some v → v.holds ≡ false → r.word ≡ 1 → (h : View) ×
      (get_elem? (set s.views id w) r.turn ≡ some h) × (h.holds ≡ true) × ((n : Note) × ((ns : List Note) × (h.notes ≡ n ∷ ns))) × (r.turn ≢ id) ×
      (get_elem? s.views r.turn ≡ some h)
  holder_kept id v w here free is = let h = r.holder is in
      let apart : r.turn ≢ id = λ same. let P : ℕ → Type 0 = λ k. get_elem? s.views k ≡ some h.0 in false_true
      (sym free ∙ (ap (λ u. u.holds) (some-injective v h.0 (sym here ∙ subst P same h.1)) ∙ h.2)) in
      (h.0, set_else s.views id r.turn w apart ∙ h.1, h.2, h.3, apart, h.1)

-- a seat is split
pub splits : (job : Given) (id : ℕ) (v : View) (n : Note) (ns : List Note) → v.notes ≡ n ∷ ns → v.holds ≡ false → Splits (Kept job) id v (left_of v)
    (right_of v)
splits job id v n ns some_note free s r here = record {
  table = r.table;
  word = r.word;
  turn = r.turn;
  owner = owner;
  word_is = r.word_is;
  one_word = r.one_word;
  one_slot = r.one_slot;
  small = r.small;
  home = r.home;
  out = r.out;
  holder = λ e. let h = holder_kept job s r id v (left_of v) here free e in (
    h.0,
    at_longer (set s.views id (left_of v)) (right_of v ∷ []) r.turn h.0 h.1,
    h.2,
    h.3,
  );
  of_job = r.of_job;
  fit = r.fit;
  reached = r.reached;
  covered = r.covered;
  is_over = r.is_over;
  not_over = r.not_over;
  each = λ j u e. ⊎_elim (λ old. each_after (Knows job r.table r.word r.turn owner) s.views id (left_of v) mine
      (λ k w other at. theirs k w other (r.each k w at)) j u old)
      (λ new. subst (λ (z : ℕ × View). Knows job r.table r.word r.turn owner z.0 z.1) (λ i. (sym (new.0 ∙ length-set s.views id (left_of v)) i, new.1 i)) its)
      (at_snoc_where (set s.views id (left_of v)) (right_of v) u j e);
}
  where
    owner : ℕ → ℕ
    owner = put r.owner n.number (length s.views)

    known : Knows job r.table r.word r.turn r.owner id v
    known = r.each id v here

    of_job : v.given ≡ job
    of_job = ⊎_elim (λ e. absurd (cc)) (λ e. e) known.job_is

    all : EachNote (NoteOk r.table) (n ∷ ns)
    all = subst (EachNote (NoteOk r.table)) some_note known.notes

    owned : EachNote (λ k. r.owner k.number ≡ id) (n ∷ ns)
    owned = subst (EachNote (λ k. r.owner k.number ≡ id)) some_note known.owned

    apart : Apart (n ∷ ns)
    apart = subst Apart some_note known.apart

    mine : Knows job r.table r.word r.turn owner id (left_of v)
    mine = record {
      job_is = inr of_job;
      holds = λ e. absurd (false_true (sym free ∙ e));
      notes = let P : List Note → Type 0 = λ l. EachNote (NoteOk r.table) (other_notes l) in subst P (sym some_note) all.1;
      owned = let P : List Note → Type 0 = λ l. EachNote (λ k. owner k.number ≡ id) (other_notes l) in
          subst P (sym some_note) (note_zip (λ k. r.owner k.number ≡ id) (λ k. n.number ≢ k.number) (λ k. owner k.number ≡ id)
          (λ k o other. put_else r.owner n.number (length s.views) k.number (λ e. other (sym e)) ∙ o) ns owned.1 apart.0);
      apart = let P : List Note → Type 0 = λ l. Apart (other_notes l) in subst P (sym some_note) apart.1;
      over = known.over;
    }

    its : Knows job r.table r.word r.turn owner (length s.views) (right_of v)
    its = record {
      job_is = inr of_job;
      holds = λ e. absurd (false_true e);
      notes = let P : List Note → Type 0 = λ l. EachNote (NoteOk r.table) (head l) in subst P (sym some_note) (all.0, tt);
      owned = let P : List Note → Type 0 = λ l. EachNote (λ k. owner k.number ≡ length s.views) (head l) in subst P (sym some_note)
          (put_here r.owner n.number (length s.views), tt);
      apart = let P : List Note → Type 0 = λ l. Apart (head l) in subst P (sym some_note) (tt, tt);
      over = known.over;
    }

    theirs : (j : ℕ) (u : View) → j ≢ id → Knows job r.table r.word r.turn r.owner j u → Knows job r.table r.word r.turn owner j u
    theirs j u other k = record {
      job_is = k.job_is;
      holds = k.holds;
      notes = k.notes;
      owned = note_map (λ q. r.owner q.number ≡ j) (λ q. owner q.number ≡ j) (λ q o. put_else r.owner n.number (length s.views) q.number
          (λ e. other (sym o ∙ (ap r.owner e ∙ owned.0))) ∙ o) u.notes k.owned;
      apart = k.apart;
      over = k.over;
    }

apart_append : (f : ℕ → ℕ) (i j : ℕ) → i ≢ j → (ns ms : List Note) → EachNote (λ k. f k.number ≡ i) ns → EachNote (λ k. f k.number ≡ j) ms → Apart ns
    → Apart ms → Apart (ns ++ ms)
apart_append f i j other [] ms a b x y = y
apart_append f i j other (n ∷ ns) ms a b x y = (
  note_append (λ m. n.number ≢ m.number) ns ms x.0 (note_map (λ k. f k.number ≡ j) (λ m. n.number ≢ m.number)
      (λ m o e. other (sym a.0 ∙ (ap f e ∙ o))) ms b),
  apart_append f i j other ns ms a.1 b x.1 y,
)

either_over : (x y : Bool) {P : Type 0} → cond x true y ≡ true → (x ≡ true → P) → (y ≡ true → P) → P
either_over true y e f g = f refl
either_over false y e f g = g e

-- two seats are joined
pub joins : (job : Given) (id : ℕ) (v : View) (n : Note) (ns : List Note) (other : ℕ) (w : View) → v.notes ≡ n ∷ ns → v.holds ≡ false → w.holds ≡ false
    → Joins (Kept job) id v other w (both_of v w) spent_view
joins job id v n ns other w some_note free free' s r here apart there' = record {
  table = r.table;
  word = r.word;
  turn = r.turn;
  owner = owner;
  word_is = r.word_is;
  one_word = r.one_word;
  one_slot = r.one_slot;
  small = r.small;
  home = r.home;
  out = r.out;
  holder = λ e. let h = holder_kept job s r id v (both_of v w) here free e in let k = holder_kept job s r other w spent_view there free' e in
      (h.0, set_else (set s.views id (both_of v w)) other r.turn spent_view k.4 ∙ h.1, h.2, h.3);
  of_job = r.of_job;
  fit = r.fit;
  reached = r.reached;
  covered = r.covered;
  is_over = r.is_over;
  not_over = r.not_over;
  each = each_after K (set s.views id (both_of v w)) other spent_view spent (λ j u ne e. middle j u ne e);
}
  where
    there : get_elem? s.views other ≡ some w
    there = sym (set_else s.views id other (both_of v w) apart) ∙ there'

    owner : ℕ → ℕ
    owner = moved r.owner other id

    K : ℕ → View → Type 0
    K = Knows job r.table r.word r.turn owner

    one : Knows job r.table r.word r.turn r.owner id v
    one = r.each id v here

    two : Knows job r.table r.word r.turn r.owner other w
    two = r.each other w there

    of_job : v.given ≡ job
    of_job = ⊎_elim (λ e. absurd (cc)) (λ e. e) one.job_is

    stays : (i : ℕ) → i ≢ other → (l : List Note) → EachNote (λ k. r.owner k.number ≡ i) l → EachNote (λ k. owner k.number ≡ i) l
    stays i ne l = note_map (λ k. r.owner k.number ≡ i) (λ k. owner k.number ≡ i) (λ k o. moved_else r.owner other id k.number (λ e. ne (sym o ∙ e)) ∙ o) l

    spent : K other spent_view
    spent = record { job_is = inl refl; holds = λ e. absurd (false_true e); notes = tt; owned = tt; apart = tt; over = λ e. absurd (false_true e) }

    mine : K id (both_of v w)
    mine = record {
      job_is = inr of_job;
      holds = λ e. absurd (false_true (sym free ∙ e));
      notes = note_append (NoteOk r.table) v.notes w.notes one.notes two.notes;
      owned = note_append (λ k. owner k.number ≡ id) v.notes w.notes (stays id (λ e. apart (sym e)) v.notes one.owned)
          (note_map (λ k. r.owner k.number ≡ other) (λ k. owner k.number ≡ id) (λ k o. moved_here r.owner other id k.number o) w.notes two.owned);
      apart = apart_append r.owner id other (λ e. apart (sym e)) v.notes w.notes one.owned two.owned one.apart two.apart;
      over = λ e. either_over v.over w.over e one.over two.over;
    }

    middle : (j : ℕ) (u : View) → j ≢ other → get_elem? (set s.views id (both_of v w)) j ≡ some u → K j u
    middle j u ne e = each_after (λ k x. k ≢ other → K k x) s.views id (both_of v w) (λ _. mine) (λ k x k_ne f o. let z = r.each k x f in record {
      job_is = z.job_is;
      holds = z.holds;
      notes = z.notes;
      owned = stays k o x.notes z.owned;
      apart = z.apart;
      over = z.over;
    }) j u e ne
