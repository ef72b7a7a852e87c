-- The numbers of entries and the values of residues, read from the numbers of a local state.
use Rattle.std.proofs.Common.{◌≡◌, ℕ, ◌+◌, ◌*◌, ◌^◌, ◌<◌, true, false, ◌&&◌, inl, inr, List, ◌++◌, if◌then◌else◌, length, get_or, map, flat_map, sym, ap, ◌∙◌}
use Rattle.std.proofs.Common.{arith}
use Rattle.std.specs.Prelude.{nat_lt}
use Rattle.std.specs.List.{range_with_len}
use Rattle.std.proofs.Math.Nat.{mul_assoc}
use Rattle.std.proofs.lemmas.Bool.{cases_Bool, cond-true, cond-false, and_parts, and_from}
use Rattle.std.proofs.lemmas.Bool.Decides.{nat_tests}
use Rattle.std.proofs.lemmas.List.{length-append, get_or_append_left, get_or-append-add}
use Rattle.std.proofs.lemmas.List.FromFn.{get_or-map-range_with_len, length-map-range_with_len}
use Rattle.za_alpha.specs.Words.{IsAlphabet, IsWord}
use Rattle.za_order.specs.Views.{participants}
use Rattle.za_order.specs.Entries.{primary, secondary, tertiary}
use Rattle.za_order.specs.Labels.{number}
use Rattle.za_order.specs.Locals.{Ids, ids, residue_word}
use Rattle.za_order.proofs.Options.{never-some}
use Rattle.za_order.proofs.Participants.{IsOver, word-over}
use Rattle.za_order.proofs.Processes.{primary-process, secondary-processes, tertiary-processes}
use Rattle.za_order.proofs.Equivalent.{same-ids}
use Rattle.za_dfa.specs.Automata.{Automaton, walk}
use Rattle.za_gossip.specs.Rows.{rows_of}
use Rattle.za_gossip.proofs.Places.{place}
use Rattle.za_gossip.proofs.Blocks.{entry-of-block, length-blocks}
use Rattle.za_residue.proofs.Inputs.{value-by}
use Rattle.za_local.specs.Locals.{local_state}
use Rattle.za_residue.specs.Functions.{in_set}
use Rattle.za_theorem.specs.Codes.{entry_count, local_numbers}

-- the numbers of entries of n processes
abbrev pub known_in : ℕ → List ℕ → Ids
known_in n l = record {
  primary = λ q. if nat_lt q n then get_or l q 0 else 0;
  secondary = λ q r. if nat_lt q n && nat_lt r n then get_or l (n + (q * n + r)) 0 else 0;
  tertiary = λ q r s. if nat_lt q n && (nat_lt r n && nat_lt s n) then get_or l (n + (n * n + (q * (n * n) + (r * n + s)))) 0 else 0;
}

-- where the function of the set with the number leads from q, of k states
abbrev pub value_in : ℕ → ℕ → List ℕ → ℕ → ℕ → ℕ
value_in n k l number q = get_or l (entry_count n + (number * k + q)) 0

lower : (q n : ℕ) → nat_lt q n ≡ true → q < n
lower q n h = grind (arith, nat_tests)

is-lower : (q n : ℕ) → q < n → nat_lt q n ≡ true
is-lower q n l = grind (arith, nat_tests)

-- the lists of numbers by n processes
module _ (n : ℕ) (known : Ids) where
  abbrev range : List ℕ
  range = range_with_len 0 n

  abbrev second : ℕ → List ℕ
  second q = map (known.secondary q) range

  abbrev line : ℕ → ℕ → List ℕ
  line q r = map (known.tertiary q r) range

  abbrev third : ℕ → List ℕ
  third q = flat_map (line q) range

  pub length-first : length (rows_of n known).primary ≡ n
  length-first = length-map-range_with_len known.primary 0 n

  pub length-second : length (rows_of n known).secondary ≡ n * n
  length-second = length-blocks second n (λ q. length-map-range_with_len (known.secondary q) 0 n) n

  length-block : (q : ℕ) → length (third q) ≡ n * n
  length-block q = length-blocks (line q) n (λ r. length-map-range_with_len (known.tertiary q r) 0 n) n

  pub length-third : length (rows_of n known).tertiary ≡ n * n * n
  length-third = length-blocks third (n * n) length-block n ∙ sym (mul_assoc n n n)

  -- all of them
  abbrev pub entries : List ℕ
  entries = (rows_of n known).primary ++ ((rows_of n known).secondary ++ (rows_of n known).tertiary)

  pub length-entries : length entries ≡ entry_count n
  length-entries =
      length-append (rows_of n known).primary ((rows_of n known).secondary ++ (rows_of n known).tertiary)
      ∙ ap (λ m. length (rows_of n known).primary + m) (length-append (rows_of n known).secondary (rows_of n known).tertiary)
      ∙ (let a = length-first in let b = length-second in let c = length-third in omega arith)

  module _ (vs : List ℕ) where
    -- the numbers of the entries stand first
    skip-first : (i : ℕ) → i < n * n + n * n * n → get_or (entries ++ vs) (n + i) 0 ≡ get_or ((rows_of n known).secondary ++ (rows_of n known).tertiary) i 0
    skip-first i l =
        get_or_append_left entries vs 0 (n + i) (let e = length-entries in omega arith)
        ∙ ap (λ m. get_or entries (m + i) 0) (sym length-first)
        ∙ get_or-append-add (rows_of n known).primary ((rows_of n known).secondary ++ (rows_of n known).tertiary) i 0

    primary-there : (q : ℕ) → q < n → get_or (entries ++ vs) q 0 ≡ known.primary q
    primary-there q l =
        get_or_append_left entries vs 0 q (let e = length-entries in omega arith)
        ∙ get_or_append_left (rows_of n known).primary ((rows_of n known).secondary ++ (rows_of n known).tertiary) 0 q (let e = length-first in omega arith)
        ∙ get_or-map-range_with_len known.primary 0 n q q 0 l (omega arith)

    secondary-there : (q r : ℕ) → q < n → r < n → get_or (entries ++ vs) (n + (q * n + r)) 0 ≡ known.secondary q r
    secondary-there q r lq lr =
        let p = place q r n n lq lr in
        skip-first (q * n + r) (omega arith)
        ∙ get_or_append_left (rows_of n known).secondary (rows_of n known).tertiary 0 (q * n + r) (let e = length-second in omega arith)
        ∙ entry-of-block second n (λ q. length-map-range_with_len (known.secondary q) 0 n) n q r lq lr
        ∙ get_or-map-range_with_len (known.secondary q) 0 n r r 0 lr (omega arith)

    tertiary-there : (q r s : ℕ) → q < n → r < n → s < n → get_or (entries ++ vs) (n + (n * n + (q * (n * n) + (r * n + s)))) 0 ≡ known.tertiary q r s
    tertiary-there q r s lq lr ls =
        let inner = place r s n n lr ls in
        let outer = place q (r * n + s) n (n * n) lq inner in
        let cube = mul_assoc n n n in
        skip-first (n * n + (q * (n * n) + (r * n + s))) (omega arith)
        ∙ ap (λ m. get_or ((rows_of n known).secondary ++ (rows_of n known).tertiary) (m + (q * (n * n) + (r * n + s))) 0) (sym length-second)
        ∙ get_or-append-add (rows_of n known).secondary (rows_of n known).tertiary (q * (n * n) + (r * n + s)) 0
        ∙ entry-of-block third (n * n) length-block n q (r * n + s) lq inner
        ∙ entry-of-block (line q) n (λ r. length-map-range_with_len (known.tertiary q r) 0 n) n r s lr ls
        ∙ get_or-map-range_with_len (known.tertiary q r) 0 n s s 0 ls (omega arith)

    -- and are read so, where there are no others
    pub known-there : ((q : ℕ) → nat_lt q n ≡ false → known.primary q ≡ 0) → ((q r : ℕ) → (nat_lt q n && nat_lt r n) ≡ false → known.secondary q r ≡ 0) →
        ((q r s : ℕ) → (nat_lt q n && (nat_lt r n && nat_lt s n)) ≡ false → known.tertiary q r s ≡ 0) → known_in n (entries ++ vs) ≡ known
    known-there none none' none'' =
        same-ids (known_in n (entries ++ vs)) known
        (λ q. elim (cases_Bool (nat_lt q n)) [
          | inl t ↦ cond-true (nat_lt q n) (get_or (entries ++ vs) q 0) 0 t ∙ primary-there q (lower q n t)
          | inr f ↦ cond-false (nat_lt q n) (get_or (entries ++ vs) q 0) 0 f ∙ sym (none q f)
        ])
        (λ q r. elim (cases_Bool (nat_lt q n && nat_lt r n)) [
          | inl t ↦
              let h = and_parts (nat_lt q n) (nat_lt r n) t in
              cond-true (nat_lt q n && nat_lt r n) (get_or (entries ++ vs) (n + (q * n + r)) 0) 0 t ∙ secondary-there q r (lower q n h.0) (lower r n h.1)
          | inr f ↦ cond-false (nat_lt q n && nat_lt r n) (get_or (entries ++ vs) (n + (q * n + r)) 0) 0 f ∙ sym (none' q r f)
        ])
        (λ q r s. elim (cases_Bool (nat_lt q n && (nat_lt r n && nat_lt s n))) [
          | inl t ↦
              let h = and_parts (nat_lt q n) (nat_lt r n && nat_lt s n) t in
              let i = and_parts (nat_lt r n) (nat_lt s n) h.1 in
              cond-true (nat_lt q n && (nat_lt r n && nat_lt s n)) (get_or (entries ++ vs) (n + (n * n + (q * (n * n) + (r * n + s)))) 0) 0 t
              ∙ tertiary-there q r s (lower q n h.0) (lower r n i.0) (lower s n i.1)
          | inr f ↦ cond-false (nat_lt q n && (nat_lt r n && nat_lt s n)) (get_or (entries ++ vs) (n + (n * n + (q * (n * n) + (r * n + s)))) 0) 0 f
              ∙ sym (none'' q r s f)
        ])

-- after a word
module _ (loc : ℕ → List ℕ) (n : ℕ) (d : Automaton) (w : List ℕ) (alphabet : IsAlphabet loc d.letters n) (word : IsWord d.letters w) (x : ℕ) where
  over : IsOver loc d.letters n w
  over = word-over loc d.letters n w alphabet word

  pub known-local : known_in n (local_numbers (local_state loc n d w x)) ≡ ids loc n w (length w) x
  known-local =
      known-there n (ids loc n w (length w) x) (local_state loc n d w x).residues.values
      (λ q f. ap (number loc n w) (never-some (primary (participants loc w) (length w) x q)
      (λ e h. let t = is-lower q n (primary-process loc d.letters n w over (length w) (omega arith) x q e h) in let z : true ≡ false = sym t ∙ f in cc)))
      (λ q r f. ap (number loc n w) (never-some (secondary (participants loc w) (length w) x q r)
      (λ e h.
      let l = secondary-processes loc d.letters n w over (length w) (omega arith) x q r e h in
      let t = and_from (nat_lt q n) (nat_lt r n) (is-lower q n l.0) (is-lower r n l.1) in let z : true ≡ false = sym t ∙ f in cc)))
      (λ q r s f. ap (number loc n w) (never-some (tertiary (participants loc w) (length w) x q r s)
      (λ e h.
      let l = tertiary-processes loc d.letters n w over (length w) (omega arith) x q r s e h in
      let t = and_from (nat_lt q n) (nat_lt r n && nat_lt s n) (is-lower q n l.0) (and_from (nat_lt r n) (nat_lt s n) (is-lower r n l.1) (is-lower s n l.2)) in
      let z : true ≡ false = sym t ∙ f in cc)))

  pub value-local : (m q : ℕ) → m < 2 ^ n → q < d.states →
      value_in n d.states (local_numbers (local_state loc n d w x)) m q ≡ walk d.step q (residue_word loc n w (length w) x (in_set m))
  value-local m q lm lq =
      let known : Ids = ids loc n w (length w) x in
      let rule = λ (m q : ℕ). walk d.step q (residue_word loc n w (length w) x (in_set m)) in
      let vs : List ℕ = (local_state loc n d w x).residues.values in
      ap (λ c. get_or (entries n known ++ vs) (c + (m * d.states + q)) 0) (sym (length-entries n known))
      ∙ get_or-append-add (entries n known) vs (m * d.states + q) 0
      ∙ value-by n d.states rule m q lm lq
