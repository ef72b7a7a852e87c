-- Each state of a table is alive, or it isn't: marks that spread backwards find it by recursion on how many are missing.
use Rattle.std.proofs.Common.{◌≡◌, ℕ, zero, suc, ◌<◌, ◌≤◌, ◌⊎◌, true, false, inl, inr, Bool, List, set, refl, sym, ◌∙◌, arith}
use Rattle.std.proofs.lemmas.Bool.{cases_Bool}
use Rattle.za_dfa.specs.Automata.{Automaton, IsTotal}
use Rattle.za_dfa.specs.Tables.{CompleteDfa, IsComplete, automaton_of}
use Rattle.za_dfa.proofs.TableLemmas.{total_of_complete}
use Rattle.za_min.specs.declared.live.Hope.{Hope}
use Rattle.za_min.specs.declared.live.Hope.TheVariants.{Alive, Dead}
use Rattle.za_min.specs.Live.{is_marked, AreLive, IsHope}
use Rattle.za_min.specs.Private.Spreading.{LeadsOn, IsNext, AreSpread, AreSound}
use Rattle.za_min.proofs.Spreading.{missing, missing-falls, accepting-sound, next-sound, spread-live}
use Rattle.za_min.proofs.Existence.{first_of}

module _ (d : Automaton) (total : IsTotal d) where
  -- a letter leads from the state to a marked one, or none does
  leads_or_not : (marks : List Bool) (q : ℕ) → LeadsOn d marks q ⊎ (LeadsOn d marks q → ⊥)
  leads_or_not marks q =
      elim (first_of (λ a. is_marked marks (d.step q a) ≡ true) (λ a. is_marked marks (d.step q a) ≡ false) d.letters
      (λ a. cases_Bool (is_marked marks (d.step q a)))) [
        | inl r ↦ inl (record { by = r.0; letter = r.1; there = r.2 })
        | inr none ↦ inr (λ on. let both : true ≡ false = sym on.there ∙ none on.by on.letter in absurd (cc))
      ]

  -- marks that spread on, or that have spread
  next_or_spread : (marks : List Bool) → ((q : ℕ) × IsNext d marks q) ⊎ AreSpread d marks
  next_or_spread marks =
      elim (first_of (λ q. (is_marked marks q ≡ false) × LeadsOn d marks q) (λ q. LeadsOn d marks q → is_marked marks q ≡ true) d.states
      (λ q. elim (cases_Bool (is_marked marks q)) [
        | inl marked ↦ inr (λ on. marked)
        | inr unmarked ↦ elim (leads_or_not marks q) [ inl on ↦ inl (unmarked, on) | inr none ↦ inr (λ on. absurd (none on)) ]
      ])) [
        | inl r ↦ inl (r.0, record { state = r.1; unmarked = r.2.0; on = r.2.1 })
        | inr all ↦ inr all
      ]

  fewer : (marks : List Bool) (q : ℕ) → AreSound d marks → IsNext d marks q → missing (set marks q true) < missing marks
  fewer marks q sound next = missing-falls marks q (let e = sound.one_each in let l = next.state in omega arith) next.unmarked

  -- they spread until nothing changes
  spread : (fuel : ℕ) (marks : List Bool) → missing marks ≤ fuel → AreSound d marks → (all : List Bool) × AreLive d all
  spread zero marks few sound = elim (next_or_spread marks) [
    | inl next ↦ absurd (let less = fewer marks next.0 sound next.1 in omega arith)
    | inr all ↦ (marks, spread-live d marks total sound all)
  ]
  spread (suc fuel) marks few sound = elim (next_or_spread marks) [
    | inl next ↦
        let less = fewer marks next.0 sound next.1 in
        spread fuel (set marks next.0 true) (omega arith) (next-sound d marks next.0 total sound next.1)
    | inr all ↦ (marks, spread-live d marks total sound all)
  ]

-- so each state of a table has a hope
pub hope_exists : (d : CompleteDfa) (q : ℕ) → IsComplete d → q < d.states → (hope : Hope) × IsHope (automaton_of d) q hope
hope_exists d q whole l =
    let live = spread (automaton_of d) (total_of_complete d whole) (missing d.accepting) d.accepting (omega arith) (accepting-sound d d.accepting whole refl) in
    elim (cases_Bool (is_marked live.0 q)) [
      | inl marked ↦ (Alive, (live.1.each q l).0 marked)
      | inr unmarked ↦ (Dead, λ alive. let both : true ≡ false = sym ((live.1.each q l).1 alive) ∙ unmarked in absurd (cc))
    ]
