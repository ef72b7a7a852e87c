-- Giving the table back keeps the rule.
use Rattle.std.proofs.Common.{◌≡◌, ◌≢◌, ℕ, ◌<◌, true, false, eqb, ne_eqb, List, [], ◌∷◌, map, set, sym, refl, ap, ◌∙◌, subst, inr, ⊎_elim, arith, Some}
use Rattle.std.proofs.Common.{length-set, get_or-set_same}
use mathlib.Core.Option.{some}
use mathlib.Core.Logic.{dite}
use native.Mathlib.Decide.{ℕ_discrete}
use Rattle.atomic_table.specs.Table.{gives, Allows}
use Rattle.atomic_table.proofs.Lists.{set_here}
use Rattle.za_machine.specs.Machine.{IsOver}
use Rattle.za_table.specs.Tables.{Given, TableState, machine_of}
use Rattle.za_hall.specs.Own.{machine, Own}
use Rattle.za_hall.specs.Rule.{NoteOk, EachNote, Apart, Knows, Kept, IsFit, IsCovered}
use Rattle.za_hall.specs.Steps.{noted, given_back, Gave}
use Rattle.za_hall.specs.Views.{View, Note}
use Rattle.za_hall.proofs.Events.{own_keeps, own_reached, own_covered, own_given, note_own}
use Rattle.za_hall.proofs.Takes.{each_after}

false_true : false ≡ true → ⊥
false_true e = cc

pub note_zip : (A B C : Note → Type 0) → ((n : Note) → A n → B n → C n) → (ns : List Note) → EachNote A ns → EachNote B ns → EachNote C ns
note_zip A B C f [] a b = tt
note_zip A B C f (n ∷ ns) a b = (f n a.0 b.0, note_zip A B C f ns a.1 b.1)

is_two : (m : ℕ) → eqb m 2 ≡ true → m ≡ 2
is_two m e = dite (ℕ_discrete m 2) (λ h. h) (λ ne. absurd (false_true (sym (ne_eqb m 2 ne) ∙ e)))

-- the turn is given back
pub give_allowed : (job : Given) (slots id : ℕ) (v : View) (n : Note) (d : TableState) (m : ℕ) → v.holds ≡ true → v.notes ≡ n ∷ [] → Own n.number v.took d
    → m < 3 → m ≢ 1 → (m ≡ 2 → IsOver (machine d) d.state) → (m ≡ 0 → ¬ IsOver (machine d) d.state) → Allows (Kept job) slots id (v, (0, Some d) ∷ []) 0
    (λ _. m) (λ _. Gave (v, (0, Some d) ∷ []) m)
give_allowed job slots id v n d m holds one own small free is_over not_over s r deep here bound = (w, gives, tt, after, refl)
  where
    w : View
    w = given_back m d v

    known : Knows job r.table r.word r.turn r.owner id v
    known = r.each id v here

    held : (r.word ≡ 1) × (id ≡ r.turn) × (v.took ≡ r.table)
    held = known.holds holds

    fit : IsFit (machine r.table)
    fit = subst (λ (j : Given). IsFit (machine_of j)) (sym r.of_job) r.fit

    own' : Own n.number r.table d
    own' = subst (λ (c : TableState). Own n.number c d) held.2 own

    cov : IsCovered d
    cov = own_covered n.number r.table d fit r.covered own'

    owned : r.owner n.number ≡ id
    owned = (subst (EachNote (λ (k : Note). r.owner k.number ≡ id)) one known.owned).0

    mine : Knows job d m id r.owner id w
    mine = record {
      job_is = ⊎_elim (λ e. absurd (cc)) (λ e. inr e) known.job_is;
      holds = λ e. absurd (false_true e);
      notes = let P : List Note → Type 0 = λ ns. EachNote (NoteOk d) (map (noted d) ns) in subst P (sym one) (
        note_own d n cov (subst (λ (j : Given). n.number < (machine_of j).processes) (sym (own_given n.number r.table d own'))
            (subst (EachNote (NoteOk r.table)) one known.notes).0.inside),
        tt,
      );
      owned = let P : List Note → Type 0 = λ ns. EachNote (λ k. r.owner k.number ≡ id) (map (noted d) ns) in subst P (sym one) (owned, tt);
      apart = let P : List Note → Type 0 = λ ns. Apart (map (noted d) ns) in subst P (sym one) (tt, tt);
      over = λ e. is_two m e;
    }

    theirs : (j : ℕ) (u : View) → j ≢ id → Knows job r.table r.word r.turn r.owner j u → Knows job d m id r.owner j u
    theirs j u other k = record {
      job_is = k.job_is;
      holds = λ e. absurd (other ((k.holds e).1 ∙ sym held.1));
      notes = note_zip (λ q. r.owner q.number ≡ j) (NoteOk r.table) (NoteOk d) (λ q o. own_keeps n.number r.table d fit r.covered r.reached own' q
          (λ same. other (sym o ∙ (ap r.owner same ∙ owned)))) u.notes k.owned k.notes;
      owned = k.owned;
      apart = k.apart;
      over = λ e. let h = k.over e in let z = held.0 in absurd (omega arith);
    }

    after : Kept job record { words = set s.words 0 m; homes = set s.homes 0 (some (Some d)); views = set s.views id w }
    after = record {
      table = d;
      word = m;
      turn = id;
      owner = r.owner;
      word_is = get_or-set_same s.words 0 m 0 (let l = r.one_word in omega arith);
      one_word = length-set s.words 0 m ∙ r.one_word;
      one_slot = length-set s.homes 0 (some (Some d)) ∙ r.one_slot;
      small = small;
      home = λ e. set_here s.homes 0 (some (Some d)) (let l = r.one_slot in omega arith);
      out = λ e. absurd (free e);
      holder = λ e. absurd (free e);
      of_job = own_given n.number r.table d own' ∙ r.of_job;
      fit = r.fit;
      reached = own_reached n.number r.table d fit r.covered r.reached own';
      covered = cov;
      is_over = is_over;
      not_over = not_over;
      each = each_after (Knows job d m id r.owner) s.views id w mine (λ j u other e. theirs j u other (r.each j u e));
    }
