-- Bytes that are not refused are a job: what holds of what lines say, line by line.
use Rattle.std.proofs.Common.{◌≡◌, ℕ, zero, suc, ◌+◌, ◌*◌, ◌/◌, ◌%◌, ◌<◌, ◌≤◌, Bool, true, false, not, ◌&&◌, ◌==◌, cond, nat_le, inl, inr, List, [], ◌∷◌, ◌++◌}
use Rattle.std.proofs.Common.{length, replicate, refl, sym, ap, subst, ◌∙◌, arith, eqb-true, eq-eqb, append_assoc, length-append, Option, Some, None}
use Rattle.std.specs.Prelude.{All, nat_lt, unwrap_or, is_some, slice_index_or}
use Rattle.std.specs.List.{cons_option, filter_map}
use Rattle.std.specs.Option.{option_or, option_map}
use Rattle.std.proofs.lemmas.Bool.{cases_Bool, cases_lt, or_left, or_cases, ne_eqb}
use Rattle.std.proofs.lemmas.Bool.Decides.{nat_tests}
use Rattle.std.proofs.lemmas.List.{append-nil, length-map, length-replicate}
use Rattle.std.proofs.lemmas.List.Elements.{All-nil, All-cons, All-append}
use Rattle.std.proofs.lemmas.List.FromFn.{length-map-range_with_len, get_or-map-range_with_len}
use Rattle.std.proofs.Math.ListN.{get_or-eq_default}
use Rattle.za_text.specs.Lines.{RawLine, lines_of, is_allowed}
use Rattle.za_text.specs.Numbers.{numeral_value}
use Rattle.za_alpha.specs.Limits.{most_processes}
use Rattle.za_alpha.specs.Words.{has}
use Rattle.za_alpha.specs.Procs.{members, no_process}
use Rattle.za_alpha.specs.Alphabet.{DistributedAlphabet, NamedLetter, IsDistributed, procs_at, place_of}
use Rattle.za_alpha.specs.NewNames.{name_fault}
use Rattle.za_alpha.specs.Private.Begun.{IsBegun}
use Rattle.za_alpha.proofs.Distributed.{has-set_of, set-small}
use Rattle.za_alpha.proofs.Growing.{IsNextLetter, begun-more}
use Rattle.za_alpha.proofs.RowLemmas.{none_of_or, none_of_cond, not_false}
use Rattle.za_dfa.specs.declared.rows.Row as declared_row
use Rattle.za_dfa.specs.Rows.{is_at, target_in, cells_of}
use Rattle.za_dfa.proofs.EnteredLemmas.{target_in-more}
use Rattle.za_script.specs.Limits.{most_script_letters}
use Rattle.za_script.specs.Scripts.{total}
use Rattle.za_script.specs.ScriptLists.{script_of, IsLetterOf}
use Rattle.za_script.proofs.Totals.{total-same, total-longer}
use Rattle.za_lang.specs.declared.order.Head.{Head}
use Rattle.za_lang.specs.declared.order.Head.TheVariants as head
use Rattle.za_lang.specs.declared.order.Place.{Place}
use Rattle.za_lang.specs.declared.order.Place.TheVariants.{AtHeader, AtProcesses, AtFirstLetter, AtLetters, AtStart, AtAccept, AtRows, AtScripts, AfterEnd}
use Rattle.za_lang.specs.Jobs.{IsJob}
use Rattle.za_lang.specs.declared.version.Version.{Version}
use Rattle.za_lang.specs.Items.{item_of, run_of, letters_of_items}
use Rattle.za_lang.specs.Limits.{document_letters, document_states}
use Rattle.za_lang.specs.Namings.{Naming, IsNaming}
use Rattle.za_lang.specs.Order.{head_of, next_place, order_fault}
use Rattle.za_lang.specs.Tests.{processes_line_fault, process_at, process_fault, loc_fault, some_loc_fault, kind_of_name, letter_line_fault, states_fault}
use Rattle.za_lang.specs.Tests.{states_line_fault, state_fault, start_line_fault, named_fault, new_row_fault, row_line_fault, step_fault, items_fault}
use Rattle.za_lang.specs.Tests.{script_items_fault, script_line_fault}
use Rattle.za_lang.specs.Documents.{Said, Step, said, version_of, names_of, words_in, first_number, start_said, rows_said, row_of, steps_said, steps_of}
use Rattle.za_lang.specs.Documents.{letter_of, script_of_steps, scripts_said, job_said, own_fault, words_fault, line_fault, next_fault, end_fault, faults_from}
use Rattle.za_lang.specs.Gathering.{more_said, more}
use Rattle.za_lang.specs.Letters.{AreFew}
use Rattle.za_lang.specs.Reading.{nothing}
use Rattle.za_lang.specs.Laws.{DocumentsAreJobs}
use Rattle.za_lang.proofs.Places.{place_within}
use Rattle.za_lang.proofs.Saying.{said_none, said_more, said_version}
use Rattle.za_lang.proofs.Added.{all_run}
use Rattle.za_lang.proofs.StepFaults.{step_size, step_some}
use Rattle.za_lang.proofs.Telling.{steps_at}
use Rattle.za_lang.proofs.Naming.{true_of_cond, bounds, process_right, names_right, processes_limit, letters_limit, states_limit}

abbrev alphabet_said : Said → DistributedAlphabet
alphabet_said s = record { processes = length s.naming.names; letters = s.letters }

-- each script letter is one of its process
abbrev pub AreOwn : DistributedAlphabet → List Step → Type 0
AreOwn alphabet [] = Unit {0}
AreOwn alphabet (step ∷ steps) = IsLetterOf alphabet step.process step.letter × AreOwn alphabet steps

-- neither a start nor rows nor script letters are said yet
pub record IsBare (s : Said) : Type 0 where
  pub start : s.start ≡ 0
  pub rows : s.rows ≡ []
  pub steps : s.steps ≡ []

-- nor states
pub record IsStarted (s : Said) : Type 0 where
  pub bare : IsBare s
  pub begun : IsBegun (alphabet_said s)
  pub few : AreFew s.naming.version (alphabet_said s)
  pub named : IsNaming s.naming (length s.naming.names)

-- all is said that a job needs
pub record IsWhole (s : Said) : Type 0 where
  pub distributed : IsDistributed (alphabet_said s)
  pub few : AreFew s.naming.version (alphabet_said s)
  pub named : IsNaming s.naming (length s.naming.names)
  pub some_state : 1 ≤ s.states
  pub few_states : s.states ≤ document_states s.naming.version
  pub starts : s.start < s.states
  pub targets : (q a t : ℕ) → target_in s.rows q a ≡ Some t → t < s.states
  pub own : AreOwn (alphabet_said s) s.steps
  pub few_steps : length s.steps ≤ most_script_letters

-- what holds at each place
abbrev pub IsSound : Place → Said → Type 0
IsSound AtHeader s = IsBare s × (s.letters ≡ [])
IsSound AtProcesses s = IsBare s × (s.letters ≡ [])
IsSound AtFirstLetter s = IsStarted s
IsSound AtLetters s = IsStarted s × (0 < length s.letters)
IsSound AtStart s = IsWhole s
IsSound AtAccept s = IsWhole s
IsSound AtRows s = IsWhole s
IsSound AtScripts s = IsWhole s
IsSound AfterEnd s = IsWhole s

-- ---- tests that are passed

none_of_map : {X Y : Type 0} (f : X → Y) (o : Option X) → option_map f o ≡ None → o ≡ None
none_of_map f None h = refl
none_of_map f (Some x) h = absurd (let e : is_some (option_map f (Some x)) ≡ false = ap is_some h in cc)

states_count : (v : Version) (o : Option ℕ) → states_fault v o ≡ None → (n : ℕ) × (o ≡ Some n) × (1 ≤ n) × (n ≤ document_states v)
states_count v None h = absurd (cc)
states_count v (Some n) h = let b = bounds n (document_states v) (true_of_cond (nat_le 1 n && nat_le n (document_states v)) _ h) in (n, refl, b.0, b.1)

states_right : (v : Version) (words : List (List ℕ)) → states_line_fault v words ≡ None → (n : ℕ) × (first_number words ≡ Some n) × (1 ≤ n)
    × (n ≤ document_states v)
states_right v [] h = absurd (cc)
states_right v (word ∷ []) h = states_count v (numeral_value word) h
states_right v (word ∷ x ∷ words) h = absurd (cc)

state_right : (states : ℕ) (o : Option ℕ) → state_fault states o ≡ None → (q : ℕ) × (o ≡ Some q) × (q < states)
state_right states None h = absurd (cc)
state_right states (Some q) h = let t = true_of_cond (nat_lt q states) _ h in (q, refl, grind (arith, nat_tests))

start_right : (states : ℕ) (words : List (List ℕ)) → start_line_fault states words ≡ None → (q : ℕ) × (first_number words ≡ Some q) × (q < states)
start_right states [] h = absurd (cc)
start_right states (word ∷ []) h = state_right states (numeral_value word) h
start_right states (word ∷ x ∷ words) h = absurd (cc)

-- ---- processes of a letter

procs_below : (naming : Naming) (words : List (List ℕ)) → loc_fault naming words ≡ None → (p : ℕ) → has (filter_map (process_at naming) words) p ≡ true →
    p < length naming.names
procs_below naming [] h p t = absurd (cc)
procs_below naming (word ∷ words) h p t =
    let parts = none_of_or (process_fault naming word) (loc_fault naming words) h in
    let q = process_right naming word parts.0 in
    let rest : List ℕ = filter_map (process_at naming) words in
    let there : has (q.0 ∷ rest) p ≡ true = ap (λ o. has (cons_option o rest) p) (sym q.1) ∙ t in
    elim (or_cases (q.0 == p) (has rest p) there)
    [ inl e ↦ let same = eqb-true q.0 p e in let below = q.2 in omega arith | inr later ↦ procs_below naming words parts.1 p later ]

-- the processes of a letter line are processes, and there is one
record AreProcesses (n : ℕ) (ps : List ℕ) : Type 0 where
  below : (p : ℕ) → has ps p ≡ true → p < n
  some : (p : ℕ) × (has ps p ≡ true)

procs_right : (naming : Naming) (words : List (List ℕ)) → some_loc_fault naming words ≡ None →
    AreProcesses (length naming.names) (filter_map (process_at naming) words)
procs_right naming [] h = absurd (cc)
procs_right naming (word ∷ words) h =
    let parts = none_of_or (process_fault naming word) (loc_fault naming words) h in
    let q = process_right naming word parts.0 in
    let rest : List ℕ = filter_map (process_at naming) words in
    record {
      below = procs_below naming (word ∷ words) h;
      some = (q.0, ap (λ o. has (cons_option o rest) q.0) q.1 ∙ or_left (q.0 == q.0) (has rest q.0) (eq-eqb q.0 q.0 refl));
    }

-- ---- lines up to the states line

still_bare : (s : Said) (h : Head) (words : List (List ℕ)) → start_said s.start h words ≡ s.start → rows_said s.letters h words ≡ [] →
    steps_said s.naming s.letters h words ≡ [] →
    IsBare s → IsBare (more_said s h words)
still_bare s h words start rows steps bare =
    record {
      start = start ∙ bare.start;
      rows = ap (λ xs. s.rows ++ xs) rows ∙ append-nil s.rows ∙ bare.rows;
      steps = ap (λ xs. s.steps ++ xs) steps ∙ append-nil s.steps ∙ bare.steps;
    }

no_letters : (n : ℕ) → 1 ≤ n → n ≤ most_processes → IsBegun (record { processes = n; letters = [] })
no_letters n some few =
    record {
      some_process = omega arith;
      few_processes = omega arith;
      few_letters = omega arith;
      names = λ a l. absurd (omega arith);
      apart = λ a b l m e. absurd (omega arith);
      small = λ a l. absurd (omega arith);
      located = record { some = λ a l. absurd (omega arith); below = λ a p l t. absurd (omega arith) };
    }

after_processes : (s : Said) (words : List (List ℕ)) → processes_line_fault s.naming.version words ≡ None → IsSound AtProcesses s →
    IsStarted (more_said s head.Processes words)
after_processes s words w h =
    let v = s.naming.version in
    let r = names_right v words w in
    let n : ℕ = length (names_of v words) in
    let made : List NamedLetter → DistributedAlphabet = λ ls. record { processes = n; letters = ls } in
    let none : s.letters ++ [] ≡ [] = append-nil s.letters ∙ h.1 in
    let few : AreFew v (made []) = record { processes = r.few; letters = omega arith } in
    let most = processes_limit v in
    let count = r.few in
    record {
      bare = still_bare s head.Processes words refl refl refl h.0;
      begun = subst (λ ls. IsBegun (made ls)) (sym none) (no_letters n r.some (omega arith));
      few = subst (λ ls. AreFew v (made ls)) (sym none) few;
      named = r.naming;
    }

after_letter : (s : Said) (words : List (List ℕ)) → letter_line_fault s.naming s.letters words ≡ None → IsStarted s →
    IsSound AtLetters (more_said s head.Letter words)
after_letter s [] w h = absurd (cc)
after_letter s (name ∷ words) w h =
    let v = s.naming.version in
    let ps : List ℕ = filter_map (process_at s.naming) words in
    let l : NamedLetter = letter_of s.naming name words in
    let room = none_of_cond (nat_le (document_letters v) (length s.letters)) _ _ w in
    let full = room.0 in
    let parts = none_of_or (option_map kind_of_name (name_fault s.letters name)) (some_loc_fault s.naming words) room.1 in
    let procs = procs_right s.naming words parts.1 in
    let limit = h.few.processes in
    let most = processes_limit v in
    let most_ls = letters_limit v in
    let low : (p : ℕ) → has ps p ≡ true → p < 16 = λ p t. let b = procs.below p t in omega arith in
    let fits : length s.letters < document_letters v = grind (arith, nat_tests) in
    let next : IsNextLetter (alphabet_said s) l = record {
      named = none_of_map kind_of_name (name_fault s.letters name) parts.0;
      room = omega arith;
      some = λ none. let e : has [] procs.some.0 ≡ true = sym (ap (λ xs. has xs procs.some.0) none) ∙ has-set_of ps procs.some.0 low ∙ procs.some.1 in cc;
      below = λ p t. procs.below p (sym (has-set_of ps p low) ∙ t);
      small = set-small no_process ps (omega arith) low;
    } in
    let long : length (s.letters ++ l ∷ []) ≡ length s.letters + 1 = length-append s.letters (l ∷ []) in (
      record {
        bare = still_bare s head.Letter (name ∷ words) refl refl refl h.bare;
        begun = begun-more (alphabet_said s) l h.begun next;
        few = record { processes = limit; letters = omega arith };
        named = h.named;
      },
      omega arith,
    )

-- the states line, after which all is there that a job needs
pub after_states : (s : Said) (words : List (List ℕ)) → states_line_fault s.naming.version words ≡ None → IsSound AtLetters s →
    IsWhole (more_said s head.States words)
after_states s words w h =
    let r = states_right s.naming.version words w in
    let n : ℕ = r.0 in
    let some = r.2 in
    let begun = h.0.begun in
    let bare = h.0.bare in
    let t : Said = record s { place = AtStart; states = n } in
    let e = r.1 in
    let same : t ≡ more_said s head.States words = rw e (simp append-nil) in
    let start = bare.start in
    let own : IsWhole t = record {
      distributed = record {
        some_process = begun.some_process;
        few_processes = begun.few_processes;
        some_letter = h.1;
        few_letters = begun.few_letters;
        names = begun.names;
        apart = begun.apart;
        small = begun.small;
        located = begun.located;
      };
      few = h.0.few;
      named = h.0.named;
      some_state = some;
      few_states = r.3;
      starts = omega arith;
      targets = λ q a to e. absurd (let none : None ≡ Some to = ap (λ rows. target_in rows q a) (sym bare.rows) ∙ e in let b : false ≡ true = ap is_some none in
          cc);
      own = subst (AreOwn (alphabet_said s)) (sym bare.steps) tt;
      few_steps = let k = ap length bare.steps in omega arith;
    } in
    subst IsWhole same own

-- ---- lines after it

after_start : (s : Said) (words : List (List ℕ)) → start_line_fault s.states words ≡ None → IsWhole s → IsWhole (more_said s head.Start words)
after_start s words w h =
    let r = start_right s.states words w in
    let e = r.1 in
    let t : Said = record s { place = AtAccept; start = r.0 } in
    let same : t ≡ more_said s head.Start words = rw e (simp append-nil) in
    let own : IsWhole t = record {
      distributed = h.distributed;
      few = h.few;
      named = h.named;
      some_state = h.some_state;
      few_states = h.few_states;
      starts = r.2;
      targets = h.targets;
      own = h.own;
      few_steps = h.few_steps;
    } in
    subst IsWhole same own

after_accept : (s : Said) (words : List (List ℕ)) → IsWhole s → IsWhole (more_said s head.Accept words)
after_accept s words h =
    let t : Said = record s { place = AtRows; accepts = s.accepts ++ filter_map numeral_value words } in
    let same : t ≡ more_said s head.Accept words = simp append-nil in
    let own : IsWhole t = record {
      distributed = h.distributed;
      few = h.few;
      named = h.named;
      some_state = h.some_state;
      few_states = h.few_states;
      starts = h.starts;
      targets = h.targets;
      own = h.own;
      few_steps = h.few_steps;
    } in
    subst IsWhole same own

after_end : (s : Said) (words : List (List ℕ)) → IsWhole s → IsWhole (more_said s head.End words)
after_end s words h =
    let t : Said = record s { place = AfterEnd } in
    let same : t ≡ more_said s head.End words = simp append-nil in
    let own : IsWhole t = record {
      distributed = h.distributed;
      few = h.few;
      named = h.named;
      some_state = h.some_state;
      few_states = h.few_states;
      starts = h.starts;
      targets = h.targets;
      own = h.own;
      few_steps = h.few_steps;
    } in
    subst IsWhole same own

-- rows lead to states
target_below : (n q a t : ℕ) (o : Option ℕ) (here : Bool) (to : ℕ) → (o ≡ Some t → t < n) → to < n → option_or o (cond here (Some to) None) ≡ Some t → t < n
target_below n q a t (Some r) here to old below e = old e
target_below n q a t None true to old below e = let same : to ≡ t = ap (λ o. unwrap_or o to) e in omega arith
target_below n q a t None false to old below e = absurd (let b : false ≡ true = ap is_some e in cc)

rows_below : (n : ℕ) (rows : List declared_row.Row) (from letter to : Option ℕ) → ((r : ℕ) → to ≡ Some r → r < n) →
    ((q a t : ℕ) → target_in rows q a ≡ Some t → t < n) →
    (q a t : ℕ) → target_in (rows ++ row_of from letter to) q a ≡ Some t → t < n
rows_below n rows (Some from) (Some letter) (Some to) last old q a t e =
    let row : declared_row.Row = record { from = from; letter = record { 0 = letter }; to = to } in
    target_below n q a t (target_in rows q a) (is_at q a row) to (old q a t) (last to refl) (sym (target_in-more rows row q a) ∙ e)
rows_below n rows None letter to last old q a t e = old q a t (ap (λ rs. target_in rs q a) (sym (append-nil rows)) ∙ e)
rows_below n rows (Some from) None to last old q a t e = old q a t (ap (λ rs. target_in rs q a) (sym (append-nil rows)) ∙ e)
rows_below n rows (Some from) (Some letter) None last old q a t e = old q a t (ap (λ rs. target_in rs q a) (sym (append-nil rows)) ∙ e)

last_state : (states : ℕ) (letters : List NamedLetter) (rows : List declared_row.Row) (from name to : List ℕ) →
    new_row_fault states letters rows from name to ≡ None →
    (r : ℕ) → numeral_value to ≡ Some r → r < states
unfolding new_row_fault
last_state states letters rows from name to h r e =
    let one = none_of_or (state_fault states (numeral_value from)) _ h in
    let two = none_of_or (named_fault (place_of letters name)) _ one.1 in
    let three = none_of_or (state_fault states (numeral_value to)) _ two.1 in
    let q = state_right states (numeral_value to) three.0 in
    let same : q.0 ≡ r = ap (λ o. unwrap_or o r) (sym q.1 ∙ e) in
    let below = q.2 in omega arith

row_targets : (s : Said) (words : List (List ℕ)) → row_line_fault s.states s.letters s.rows words ≡ None → IsWhole s →
    (q a t : ℕ) → target_in (s.rows ++ rows_said s.letters head.Row words) q a ≡ Some t → t < s.states
row_targets s [] w h = absurd (cc)
row_targets s (from ∷ []) w h = absurd (cc)
row_targets s (from ∷ name ∷ []) w h = absurd (cc)
row_targets s (from ∷ name ∷ to ∷ []) w h =
    rows_below s.states s.rows (numeral_value from) (place_of s.letters name) (numeral_value to) (last_state s.states s.letters s.rows from name to w) h.targets
row_targets s (from ∷ name ∷ to ∷ x ∷ words) w h = absurd (cc)

after_row : (s : Said) (words : List (List ℕ)) → row_line_fault s.states s.letters s.rows words ≡ None → IsWhole s → IsWhole (more_said s head.Row words)
after_row s words w h =
    let t : Said = record s { place = AtRows; rows = s.rows ++ rows_said s.letters head.Row words } in
    let same : t ≡ more_said s head.Row words = simp append-nil in
    let own : IsWhole t = record {
      distributed = h.distributed;
      few = h.few;
      named = h.named;
      some_state = h.some_state;
      few_states = h.few_states;
      starts = h.starts;
      targets = row_targets s words w h;
      own = h.own;
      few_steps = h.few_steps;
    } in
    subst IsWhole same own

-- script letters are letters of their process
own_append : (alphabet : DistributedAlphabet) (xs ys : List Step) → AreOwn alphabet xs → AreOwn alphabet ys → AreOwn alphabet (xs ++ ys)
own_append alphabet [] ys h k = k
own_append alphabet (x ∷ xs) ys h k = (h.0, own_append alphabet xs ys h.1 k)

-- and not too many
record AreSteps (alphabet : DistributedAlphabet) (read : ℕ) (steps : List Step) : Type 0 where
  own : AreOwn alphabet steps
  few : read + length steps ≤ most_script_letters

-- letters of a process, for which there is room
record AreFound (alphabet : DistributedAlphabet) (p read : ℕ) (found : List ℕ) : Type 0 where
  own : All (IsLetterOf alphabet p) found
  few : read + length found ≤ most_script_letters

run_found : (alphabet : DistributedAlphabet) (p read : ℕ) (o count : Option ℕ) → ((a : ℕ) → o ≡ Some a → a < length alphabet.letters) →
    step_fault alphabet.letters p read o count ≡ None → AreFound alphabet p read (run_of o count)
run_found alphabet p read None count known h = absurd (let t : true ≡ false = ap is_some h in cc)
run_found alphabet p read (Some a) None known h = absurd (let t = step_some alphabet.letters p read a h in t)
run_found alphabet p read (Some a) (Some count) known h =
    let own = none_of_cond (not (has (members (procs_at alphabet.letters a)) p)) _ _ h in
    let room = none_of_cond (nat_lt most_script_letters (read + count)) _ _ own.1 in
    let full = room.0 in
    let long : length (replicate count a) ≡ count = length-replicate count a in
    let fits : read + count ≤ most_script_letters = grind (arith, nat_tests) in
    record {
      own = all_run (IsLetterOf alphabet p) count a (record { letter = known a refl; own = not_false (has (members (procs_at alphabet.letters a)) p) own.0 });
      few = omega arith;
    }

items_found : (v : Version) (alphabet : DistributedAlphabet) (p read : ℕ) (words : List (List ℕ)) → read ≤ most_script_letters →
    items_fault v alphabet.letters p read words ≡ None →
    AreFound alphabet p read (letters_of_items v alphabet.letters words)
items_found v alphabet p read [] few h = record { own = All-nil (IsLetterOf alphabet p); few = omega arith }
items_found v alphabet p read (word ∷ words) few h =
    let item = item_of v word in
    let o = place_of alphabet.letters item.name in
    let more = read + unwrap_or item.count 0 in
    let parts = none_of_or (step_fault alphabet.letters p read o item.count) (items_fault v alphabet.letters p more words) h in
    let first = run_found alphabet p read o item.count (place_within alphabet.letters item.name) parts.0 in
    let size = step_size alphabet.letters p read o item.count parts.0 in
    let few_first = first.few in
    let rest = items_found v alphabet p more words (omega arith) parts.1 in
    let few_rest = rest.few in
    let long = length-append (run_of o item.count) (letters_of_items v alphabet.letters words) in
    record {
      own = All-append (IsLetterOf alphabet p) (run_of o item.count) (letters_of_items v alphabet.letters words) first.own rest.own;
      few = omega arith;
    }

found_own : (alphabet : DistributedAlphabet) (p : ℕ) (found : List ℕ) → All (IsLetterOf alphabet p) found → AreOwn alphabet (steps_at p found)
found_own alphabet p [] h = tt
found_own alphabet p (a ∷ found) h = (h 0 a (omega arith), found_own alphabet p found (λ k d l. h (suc k) d (omega arith)))

script_steps : (s : Said) (words : List (List ℕ)) → script_line_fault s.naming s.letters (length s.steps) words ≡ None → IsWhole s →
    AreSteps (alphabet_said s) (length s.steps) (steps_said s.naming s.letters head.Script words)
script_steps s [] w h = absurd (cc)
script_steps s (word ∷ words) w h =
    let v = s.naming.version in
    let read = length s.steps in
    let parts = none_of_or (process_fault s.naming word) (script_items_fault v s.letters read (process_at s.naming word) words) w in
    let p = process_right s.naming word parts.0 in
    let right : items_fault v s.letters p.0 read words ≡ None = ap (λ o. script_items_fault v s.letters read o words) (sym p.1) ∙ parts.1 in
    let found = items_found v (alphabet_said s) p.0 read words h.few_steps right in
    let few = found.few in
    let size : length (steps_at p.0 (letters_of_items v s.letters words)) ≡ length (letters_of_items v s.letters words) =
    length-map (letters_of_items v s.letters words) (λ (a : ℕ). record { process = p.0; letter = a }) in
    let steps : AreSteps (alphabet_said s) read (steps_at p.0 (letters_of_items v s.letters words)) =
    record { own = found_own (alphabet_said s) p.0 (letters_of_items v s.letters words) found.own; few = omega arith } in
    subst (λ o. AreSteps (alphabet_said s) read (steps_of v s.letters o words)) (sym p.1) steps

after_script : (s : Said) (words : List (List ℕ)) → script_line_fault s.naming s.letters (length s.steps) words ≡ None → IsWhole s →
    IsWhole (more_said s head.Script words)
after_script s words w h =
    let new : List Step = steps_said s.naming s.letters head.Script words in
    let steps = script_steps s words w h in
    let few = steps.few in
    let long = length-append s.steps new in
    let t : Said = record s { place = AtScripts; steps = s.steps ++ new } in
    let same : t ≡ more_said s head.Script words = simp append-nil in
    let own : IsWhole t = record {
      distributed = h.distributed;
      few = h.few;
      named = h.named;
      some_state = h.some_state;
      few_states = h.few_states;
      starts = h.starts;
      targets = h.targets;
      own = own_append (alphabet_said s) s.steps new h.own steps.own;
      few_steps = omega arith;
    } in
    subst IsWhole same own

-- ---- all lines

pub by_head : (place : Place) (h : Head) (s : Said) (words : List (List ℕ)) → order_fault place h ≡ None → own_fault s h words ≡ None → IsSound place s →
    IsSound (next_place place h) (more_said s h words)
by_head AtHeader head.Zla s words o w sound = (still_bare s head.Zla words refl refl refl sound.0, append-nil s.letters ∙ sound.1)
by_head AtHeader _ s words o w sound = absurd (cc)
by_head AtProcesses head.Processes s words o w sound = after_processes s words w sound
by_head AtProcesses _ s words o w sound = absurd (cc)
by_head AtFirstLetter head.Letter s words o w sound = after_letter s words w sound
by_head AtFirstLetter _ s words o w sound = absurd (cc)
by_head AtLetters head.Letter s words o w sound = after_letter s words w sound.0
by_head AtLetters head.States s words o w sound = after_states s words w sound
by_head AtLetters _ s words o w sound = absurd (cc)
by_head AtStart head.Start s words o w sound = after_start s words w sound
by_head AtStart _ s words o w sound = absurd (cc)
by_head AtAccept head.Accept s words o w sound = after_accept s words sound
by_head AtAccept _ s words o w sound = absurd (cc)
by_head AtRows head.Row s words o w sound = after_row s words w sound
by_head AtRows head.Script s words o w sound = after_script s words w sound
by_head AtRows head.End s words o w sound = after_end s words sound
by_head AtRows _ s words o w sound = absurd (cc)
by_head AtScripts head.Script s words o w sound = after_script s words w sound
by_head AtScripts head.End s words o w sound = after_end s words sound
by_head AtScripts _ s words o w sound = absurd (cc)
by_head AfterEnd _ s words o w sound = absurd (cc)

after_words : (s : Said) (words : List (List ℕ)) → words_fault s words ≡ None → IsSound s.place s → IsSound (more s words).place (more s words)
after_words s [] h sound = sound
after_words s (word ∷ words) h sound =
    let parts = none_of_or (order_fault s.place (head_of word)) (own_fault s (head_of word) words) h in
    by_head s.place (head_of word) s words parts.0 parts.1 sound

words_right : (s : Said) (line : RawLine) → line_fault s line ≡ None → words_fault s (words_in s.naming.version line) ≡ None
unfolding line_fault
words_right s line h =
    let whole = none_of_cond (not line.whole) _ _ h in
    (none_of_cond (not (Rattle.std.specs.List.list_all is_allowed line.text)) _ _ whole.1).1

at_end : (place : Place) (n : ℕ) (s : Said) → end_fault place n ≡ None → IsSound place s → IsWhole s
at_end AfterEnd n s h sound = sound
at_end AtHeader n s h sound = absurd (cc)
at_end AtProcesses n s h sound = absurd (cc)
at_end AtFirstLetter n s h sound = absurd (cc)
at_end AtLetters n s h sound = absurd (cc)
at_end AtStart n s h sound = absurd (cc)
at_end AtAccept n s h sound = absurd (cc)
at_end AtRows n s h sound = absurd (cc)
at_end AtScripts n s h sound = absurd (cc)

all_right : (v : Version) (before lines : List RawLine) → faults_from v before lines ≡ None → IsSound (said v before).place (said v before) →
    IsWhole (said v (before ++ lines))
all_right v before [] h sound =
    subst (λ ls. IsWhole (said v ls)) (sym (append-nil before)) (at_end (said v before).place (length before) (said v before) h sound)
all_right v before (line ∷ lines) h sound =
    let s = said v before in
    let parts = none_of_or (option_map (next_fault (length before)) (line_fault s line)) (faults_from v (before ++ line ∷ []) lines) h in
    let here = words_right s line (none_of_map (next_fault (length before)) (line_fault s line) parts.0) in
    let right = subst (λ u. words_fault s (words_in u line) ≡ None) (said_version v before) here in
    let next = after_words s (words_in v line) right sound in
    let P : Said → Type 0 = λ s. IsSound s.place s in
    subst (λ ls. IsWhole (said v ls)) (append_assoc before (line ∷ []) lines)
    (all_right v (before ++ line ∷ []) lines parts.1 (subst P (sym (said_more v before line)) next))

-- ---- the job

own_script : (alphabet : DistributedAlphabet) (p : ℕ) (steps : List Step) → AreOwn alphabet steps → All (IsLetterOf alphabet p) (script_of_steps steps p)
own_script alphabet p [] h = All-nil (IsLetterOf alphabet p)
own_script alphabet p (step ∷ steps) h =
    let rest = own_script alphabet p steps h.1 in
    elim (cases_Bool (step.process == p)) [
      | inl t ↦
          let same : step.process ≡ p = eqb-true step.process p t in
          rw t (All-cons (IsLetterOf alphabet p) step.letter (script_of_steps steps p) (subst (λ q. IsLetterOf alphabet q step.letter) same h.0) rest)
      | inr f ↦ rw f rest
    ]

-- all scripts together have no more letters
total_few : (steps : List Step) (n : ℕ) → total (script_of_steps steps) n ≤ length steps
total_few [] zero = omega arith
total_few [] (suc n) = let r = total_few [] n in omega arith
total_few (step ∷ steps) n =
    let r = total_few steps n in
    let p : ℕ = step.process in
    let own : (p == p) ≡ true = eq-eqb p p refl in
    let other : (q : ℕ) → (q ≡ p → ⊥) → length (script_of_steps (step ∷ steps) q) ≡ length (script_of_steps steps q) =
    λ q ne. let e : (p == q) ≡ false = ne_eqb p q (λ s. ne (sym s)) in rw e refl in
    elim (cases_lt p n) [
      | inl l ↦
          let longer : length (script_of_steps (step ∷ steps) p) ≡ length (script_of_steps steps p) + 1 = rw own (omega arith) in
          let k = total-longer (script_of_steps steps) (script_of_steps (step ∷ steps)) n p 1 l longer other in omega arith
      | inr ge ↦ let k = total-same (script_of_steps (step ∷ steps)) (script_of_steps steps) n (λ q l. other q (λ e. omega arith)) in omega arith
    ]

pub job_of_whole : (s : Said) → IsWhole s → IsJob (job_said s)
job_of_whole s h =
    let m : ℕ = length s.letters in
    let f : ℕ → Option ℕ = λ i. target_in s.rows (i / m) (i % m) in
    let scripts : List (List ℕ) = scripts_said s in
    let many : length scripts ≡ length s.naming.names = length-map-range_with_len (script_of_steps s.steps) 0 (length s.naming.names) in
    let script : (p : ℕ) → p < length s.naming.names → script_of scripts p ≡ script_of_steps s.steps p =
    λ p l. get_or-map-range_with_len (script_of_steps s.steps) 0 (length s.naming.names) p p [] l (omega arith) in
    let cells : length (cells_of s.states m s.rows) ≡ s.states * m = length-map-range_with_len f 0 (s.states * m) in
    let few = h.few_states in
    let most = states_limit s.naming.version in
    record {
      naming = h.named;
      lang = record {
        distributed = h.distributed;
        some_state = h.some_state;
        few_states = omega arith;
        starts = h.starts;
        accepting_length = length-map-range_with_len (has s.accepts) 0 s.states;
        targets_length = cells;
        targets_below = λ i t e. elim (cases_lt i (s.states * m)) [
          | inl l ↦ h.targets (i / m) (i % m) t (sym (get_or-map-range_with_len f 0 (s.states * m) i i None l (omega arith)) ∙ e)
          | inr ge ↦ absurd (
              let none : slice_index_or (cells_of s.states m s.rows) i None ≡ None =
              get_or-eq_default (cells_of s.states m s.rows) None (let long = cells in omega arith) in
              let b : false ≡ true = ap is_some (sym none ∙ e) in cc)
        ];
      };
      limits = record { few_processes = h.few.processes; few_letters = h.few.letters; few_states = few };
      scripts =
          let some = h.distributed.some_process in
          let most = h.distributed.few_processes in
          let all = total_few s.steps (length s.naming.names) in
          let few_steps = h.few_steps in
          let same : total (script_of scripts) (length scripts) ≡ total (script_of_steps s.steps) (length s.naming.names) =
          ap (total (script_of scripts)) many
          ∙ total-same (script_of scripts) (script_of_steps s.steps) (length s.naming.names) (λ p l. ap length (script p l)) in
          record { some_process = omega arith; few_processes = omega arith; few_letters = omega arith };
      fit = record {
        processes = many;
        own = λ p l.
            let below : p < length s.naming.names = omega arith in
            subst (λ xs. All (IsLetterOf (alphabet_said s) p) xs) (sym (script p below)) (own_script (alphabet_said s) p s.steps h.own);
      };
    }

pub documents_are_jobs : DocumentsAreJobs
documents_are_jobs bytes right =
    let v = version_of (lines_of bytes) in
    let none : IsSound AtHeader (nothing v) = (record { start = refl; rows = refl; steps = refl }, refl) in
    let P : Said → Type 0 = λ s. IsSound s.place s in
    job_of_whole (said v (lines_of bytes)) (all_right v [] (lines_of bytes) right (subst P (sym (said_none v)) none))
