-- Who waits at a letter has it as its next one.
use Rattle.std.proofs.Common.{◌≡◌, ℕ, ◌<◌, ◌≤◌, ◌==◌, ◌⊎◌, nat_lt, Bool, true, false, inl, inr, List, length, slice_index, sym, ap, subst, ◌∙◌, arith, Option}
use Rattle.std.proofs.Common.{Some, None, ltb-true, eqb-true}
use Rattle.std.specs.Option.{option_map, IfSome, IsSome, IsNone}
use Rattle.std.specs.List.{slice_get}
use Rattle.std.proofs.lemmas.Option.{slice_get_past, slice_get-get_or, none-some}
use Rattle.std.proofs.lemmas.Bool.{cases_Bool, cases_lt, and_parts}
use Rattle.std.proofs.lemmas.List.Elements.{All-get_or}
use Rattle.za_alpha.specs.declared.word.Letter.{Letter}
use Rattle.za_alpha.specs.Words.{has, projection}
use Rattle.za_alpha.specs.Search.{least}
use Rattle.za_alpha.proofs.Least.{least-is, least-none}
use Rattle.za_script.specs.Scripts.{comes_next}
use Rattle.za_script.specs.ScriptLists.{script_of, IsLetterOf}
use Rattle.za_script.proofs.Lists.{all-at}
use Rattle.za_machine.specs.Machine.{Machine, State, is_in, fired_by, next, is_complete}
use Rattle.za_machine.proofs.States.{none_left, reached-sound}
use Rattle.za_alpha.specs.Alphabet.{loc_of}
use Rattle.za_table.specs.Tables.{TableState, IsTable, machine_of}
use Rattle.za_table.specs.Answers.{waits_at}

waits-next : (m : Machine) (c : State) (a p : ℕ) → waits_at m c a p ≡ true → next m c.journal p ≡ Some a
waits-next m c a p h =
    let script = m.scripts p in
    let k = fired_by m c.journal p in
    let b = and_parts (is_in c.arrived p) (comes_next script k a) h in
    let d = and_parts (nat_lt k (length script)) (slice_index script k == a) b.1 in
    slice_get-get_or script k 0 (ltb-true k (length script) d.0) ∙ ap Some (eqb-true (slice_index script k) a d.1)

pub complete-next : (m : Machine) (c : State) (a p : ℕ) → is_complete m c a ≡ true → has (m.loc a) p ≡ true → next m c.journal p ≡ Some a
complete-next m c a p h k = waits-next m c a p (all-at (waits_at m c a) (m.loc a) p h k)

pub found-is : (o : Option Letter) (l : Letter) (a : ℕ) → o ≡ Some l → option_map (λ (x : Letter). x.0) o ≡ Some a → l.0 ≡ a
found-is o l a e h = let k : Some l.0 ≡ Some a = ap (option_map (λ (x : Letter). x.0)) (sym e) ∙ h in cc

pub found-none : (o : Option Letter) (a : ℕ) → o ≡ None → option_map (λ (x : Letter). x.0) o ≡ Some a → ⊥
found-none o a e h = let k : None ≡ Some a = ap (option_map (λ (x : Letter). x.0)) (sym e) ∙ h in cc

pub some-below : (xs : List ℕ) (k a : ℕ) → slice_get xs k ≡ Some a → k < length xs
some-below xs k a h = elim (cases_lt k (length xs)) [
  | inl l ↦ l
  | inr g ↦ absurd (none-some a (sym (slice_get_past xs k g) ∙ h))
]

-- the next letter of a process is one of its letters
pub next-own : (t : TableState) → IsTable t → (p a : ℕ) → p < t.given.dfa.alphabet.processes → next (machine_of t.given) t.state.journal p ≡ Some a →
    IsLetterOf t.given.dfa.alphabet p a
next-own t ok p a l h =
    let script = script_of t.given.scripts p in
    let k = fired_by (machine_of t.given) t.state.journal p in
    let m = some-below script k a h in
    let e : slice_index script k ≡ a = let s = slice_get-get_or script k 0 m in let z : Some (slice_index script k) ≡ Some a = sym s ∙ h in cc in
    subst (IsLetterOf t.given.dfa.alphabet p) e
    (All-get_or (IsLetterOf t.given.dfa.alphabet p) script k 0 m (ok.fit.own p (let n = ok.fit.processes in omega arith)))

-- a number that passes, or is the end, and is at most each that passes
pub least-found : (test : ℕ → Bool) (n m : ℕ) → m ≤ n → (m ≡ n) ⊎ (test m ≡ true) → ((k : ℕ) → k < n → test k ≡ true → m ≤ k) → m ≡ least test n
least-found test n m le found covers =
    let below : (k : ℕ) → k < m → test k ≡ false = λ k l. elim (cases_Bool (test k)) [
      | inr f ↦ f
      | inl t ↦ absurd (let c = covers k (omega arith) t in omega arith)
    ] in
    elim (cases_lt m n) [
      | inr g ↦ let e : m ≡ n = omega arith in e ∙ least-none test n (λ k l. below k (omega arith))
      | inl s ↦ elim found [
        | inl e ↦ absurd (omega arith)
        | inr t ↦ least-is test n m s below t
      ]
    ]

pub own-if : (t : TableState) → IsTable t → (p : ℕ) → p < t.given.dfa.alphabet.processes → (o : Option Letter) → option_map (λ (x : Letter). x.0) o ≡ next
    (machine_of t.given) t.state.journal p → IfSome o (λ a. IsLetterOf t.given.dfa.alphabet p a.0)
own-if t ok p l None h = tt
own-if t ok p l (Some a) h = next-own t ok p a.0 l (sym h)

pub left-if : (t : TableState) (p : ℕ) (o : Option Letter) → option_map (λ (x : Letter). x.0) o ≡ next (machine_of t.given) t.state.journal p → IsSome o →
    fired_by (machine_of t.given) t.state.journal p < length (script_of t.given.scripts p)
left-if t p None h s = absurd (let z : false ≡ true = s in cc)
left-if t p (Some a) h s = some-below (script_of t.given.scripts p) (fired_by (machine_of t.given) t.state.journal p) a.0 (sym h)

pub used_up-if : (t : TableState) → IsTable t → (p : ℕ) (o : Option Letter) → option_map (λ (x : Letter). x.0) o ≡ next (machine_of t.given) t.state.journal
    p → IsNone o → projection (loc_of t.given.dfa.alphabet) p t.state.journal ≡ script_of t.given.scripts p
used_up-if t ok p None h n = none_left (machine_of t.given) t.state.journal p (reached-sound (machine_of t.given) t.state ok.reached).fits (sym h)
used_up-if t ok p (Some a) h n = absurd (let z : true ≡ false = n in cc)
