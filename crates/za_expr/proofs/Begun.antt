-- The job that an `expr` line begins.
use Rattle.std.proofs.Common.{◌≡◌, ◌∙◌, ap, sym, subst, refl, ℕ, Bool, true, List, [], ◌∷◌, ◌++◌, length, replicate, arith, Option, None}
use Rattle.std.specs.Prelude.{nat_lt, codes}
use Rattle.std.proofs.lemmas.Bool.Decides.{nat_tests}
use Rattle.std.proofs.lemmas.List.{append-nil, get_or-replicate}
use Rattle.za_alpha.specs.Alphabet.{DistributedAlphabet, NamedLetter}
use Rattle.za_dfa.specs.declared.rows.Row.{Row}
use Rattle.za_dfa.specs.Tables.{CompleteDfa}
use Rattle.za_dfa.specs.Partials.{PartialDfa, IsPartial, whole_of}
use Rattle.za_dfa.specs.Rows.{row_fault, rows_fault, cells_of}
use Rattle.za_dfa.specs.Limits.{most_states}
use Rattle.za_script.proofs.Totals.{total_of-empty}
use Rattle.za_lang.specs.declared.order.Place.TheVariants.{AtScripts}
use Rattle.za_lang.specs.declared.version.Version.TheVariants.{Two}
use Rattle.za_lang.specs.Documents.{Said, acceptance_of, lang_said}
use Rattle.za_lang.specs.Jobs.{JobData, IsJob}
use Rattle.za_lang.specs.Namings.{Naming, IsNaming}
use Rattle.za_lang.specs.Gathering.{Tells}
use Rattle.za_lang.specs.Reading.{letters_told, naming_of}
use Rattle.za_print.specs.Printed.{accepting_states, table_rows}
use Rattle.za_print.proofs.Facts.{rows_fit, targets_back, accepting_back}
use Rattle.za_print.proofs.Runs.{AreRows}
use Rattle.za_expression.specs.Values.{HasMoreValues}
use Rattle.za_expression.proofs.Whole.{signs_are_one_form}
use Rattle.za_form.specs.Expressions.{letter_at, IsExpressionOf}
use Rattle.za_form.specs.Automata.{IsValueDfa}
use Rattle.za_expr.specs.Built.{alphabet_said}
use Rattle.za_expr.specs.Expressions.{IsNarrow, HasExpressionFault}
use Rattle.za_expr.specs.Private.Keeping.{more_with, IsExpressionTable, IsBegunJob, IsGoing}

-- rows that fit one after the other are right
rows_right : (states : ℕ) (letters : List NamedLetter) (front rows : List Row) → AreRows states letters front rows → rows_fault states front rows ≡ None
unfolding row_fault
rows_right states letters front [] h = refl
rows_right states letters front (row ∷ rows) h =
    let below = h.0.from in
    let within = h.0.to in
    let from : nat_lt row.from states ≡ true = grind (arith, nat_tests) in
    let to : nat_lt row.to states ≡ true = grind (arith, nat_tests) in
    let alone = h.0.alone in
    rw (from, to, alone) (rows_right states letters (front ++ row ∷ []) rows h.1)

-- the words of an expression that has a table pass their tests
pub table_narrow : (alphabet : DistributedAlphabet) (tokens : List (List ℕ)) (dfa : CompleteDfa) → IsExpressionTable alphabet tokens dfa →
    IsNarrow alphabet.letters tokens
table_narrow alphabet tokens dfa h =
    let v = h.values in
    record {
      signs = h.signs;
      expression = h.expression;
      few = λ f is many.
          v.no_more (subst (λ g. HasMoreValues (letter_at h.signs) g (length alphabet.letters) most_states) (signs_are_one_form h.signs f v.form is v.is) many);
    }

pub begun_right : (alphabet : DistributedAlphabet) (tokens : List (List ℕ)) (dfa : CompleteDfa) → (tokens ≡ [] → ⊥) → IsExpressionTable alphabet tokens dfa →
    HasExpressionFault alphabet.letters tokens None
begun_right alphabet [] dfa some h = absurd (some refl)
begun_right alphabet (token ∷ tokens) dfa some h = table_narrow alphabet (token ∷ tokens) dfa h

module _ (naming : Naming) (alphabet : DistributedAlphabet) (tokens : List (List ℕ)) (dfa : CompleteDfa)
    (size : length naming.names ≡ alphabet.processes) (partial : IsPartial (whole_of dfa)) (table : IsExpressionTable alphabet tokens dfa) where
  abbrev job : JobData
  job = record { naming = naming; lang = whole_of dfa; scripts = replicate alphabet.processes [] }

  -- what lines would say that give the whole table
  abbrev told : Said
  told = record {
    place = AtScripts;
    naming = naming;
    letters = alphabet.letters;
    states = dfa.states;
    start = dfa.start;
    accepts = accepting_states (whole_of dfa);
    rows = table_rows (whole_of dfa);
    steps = [];
  }

  same : dfa.alphabet ≡ alphabet
  same = table.values.same

  tells : Tells job told
  tells = record {
    naming = refl;
    processes = ap (λ (a : DistributedAlphabet). a.processes) same ∙ sym size;
    letters = ap (λ (a : DistributedAlphabet). a.letters) same;
    states = refl;
    start = refl;
    accepting = sym (accepting_back (whole_of dfa) partial);
    rows = record {
      cells = sym (targets_back (whole_of dfa) partial);
      right = rows_right dfa.states dfa.alphabet.letters [] (table_rows (whole_of dfa)) (rows_fit (whole_of dfa) partial);
    };
    steps = λ p k. get_or-replicate alphabet.processes p [] [] (omega (arith, size));
    total = total_of-empty alphabet.processes;
  }

  alphabet_is : alphabet_said told ≡ alphabet
  alphabet_is = ap (λ (n : ℕ). let a : DistributedAlphabet = record { processes = n; letters = alphabet.letters } in a) size

  lang_is : lang_said told ≡ whole_of dfa
  lang_is =
      let of : DistributedAlphabet → List Bool → List (Option ℕ) → PartialDfa =
      λ a bs ts. record { alphabet = a; states = dfa.states; start = dfa.start; accepting = bs; targets = ts } in
      let letters : length alphabet.letters ≡ length dfa.alphabet.letters = ap (λ (a : DistributedAlphabet). length a.letters) (sym same) in
      let cells : cells_of dfa.states (length alphabet.letters) told.rows ≡ (whole_of dfa).targets = ap (λ m. cells_of dfa.states m told.rows) letters
      ∙ targets_back (whole_of dfa) partial in
      ap (λ a. of a (acceptance_of dfa.states told.accepts) (cells_of dfa.states (length alphabet.letters) told.rows)) (alphabet_is ∙ sym same)
      ∙ ap (λ bs. of dfa.alphabet bs (cells_of dfa.states (length alphabet.letters) told.rows)) (accepting_back (whole_of dfa) partial)
      ∙ ap (of dfa.alphabet dfa.accepting) cells

  going : (s : Said) → s.place ≡ AtScripts → s.naming ≡ naming → s.letters ≡ alphabet.letters → s.steps ≡ [] → IsGoing AtScripts job s tokens
  going s at names letters steps =
      let said : alphabet_said s ≡ alphabet =
      ap (λ (n : Naming). let a : DistributedAlphabet = record { processes = length n.names; letters = s.letters } in a) names
      ∙ ap (λ (ls : List NamedLetter). let a : DistributedAlphabet = record { processes = length naming.names; letters = ls } in a) letters
      ∙ alphabet_is in
      record {
        at = sym at;
        after = refl;
        told = told;
        tells = tells;
        told_at = refl;
        naming = sym names;
        letters = sym letters;
        steps = sym steps;
        signs = table.signs;
        expression = subst (λ ls. IsExpressionOf ls tokens table.signs) (sym letters) table.expression;
        dfa = dfa;
        values = subst (λ a. IsValueDfa a table.signs dfa) (sym said) table.values;
        lang = lang_is;
      }

-- after an `expr` line the job has what the lines say
pub begun_going : (names : List (List ℕ)) (alphabet : DistributedAlphabet) (words tokens : List (List ℕ)) (made : JobData) (s : Said) →
    s ≡ letters_told (naming_of Two names) alphabet → tokens ≡ [] → IsJob made → IsBegunJob (naming_of Two names) alphabet words made →
    IsGoing AtScripts made (more_with s (codes "expr" ∷ words)) (tokens ++ words)
begun_going names alphabet words tokens made s e none whole begun =
    let naming = naming_of Two names in
    let partial : IsPartial (whole_of begun.dfa) = subst (λ (j : JobData). IsPartial j.lang) begun.is whole.lang in
    let sized : IsNaming naming begun.dfa.alphabet.processes = subst (λ (j : JobData). IsNaming j.naming j.lang.alphabet.processes) begun.is whole.naming in
    let size : length names ≡ alphabet.processes = sized.size ∙ ap (λ (a : DistributedAlphabet). a.processes) begun.table.values.same in
    let start : Said = letters_told naming alphabet in
    let letters : start.letters ++ [] ≡ alphabet.letters = append-nil alphabet.letters in
    let here = going naming alphabet words begun.dfa size partial begun.table (more_with start (codes "expr" ∷ words)) refl refl letters refl in
    let moved = subst (λ (t : Said). IsGoing AtScripts (job naming alphabet words begun.dfa size partial begun.table) (more_with t (codes "expr" ∷ words))
    words) (sym e) here in
    let same : words ≡ tokens ++ words = ap (λ ts. ts ++ words) (sym none) in
    subst (λ (j : JobData). IsGoing AtScripts j (more_with s (codes "expr" ∷ words)) (tokens ++ words)) (sym begun.is)
    (subst (λ ts. IsGoing AtScripts (job naming alphabet words begun.dfa size partial begun.table) (more_with s (codes "expr" ∷ words)) ts) same moved)
