-- A printed job is read back.
use Rattle.std.proofs.Common.{◌≡◌, ◌∙◌, ap, sym, subst, ℕ, ◌+◌, ◌<◌, ◌≤◌, ◌^◌, zero, suc, Bool, true, false, List, [], ◌∷◌, ◌++◌, length, map, replicate, refl}
use Rattle.std.proofs.Common.{append_assoc, length-append, arith, Option, None, ltb-true, inl, inr}
use Rattle.std.specs.Prelude.{◌==◌, nat_le, nat_lt, decimal, codes}
use Rattle.std.specs.List.{list_all, flat_map, range_with_len, AllByRecursion}
use Rattle.std.proofs.lemmas.Bool.{cases_Bool, cases_eq}
use Rattle.std.proofs.lemmas.Grind.{common_steps}
use Rattle.std.proofs.lemmas.Bool.Decides.{nat_tests}
use Rattle.std.proofs.lemmas.List.{append-nil, ext_get_or, length-map, length-replicate}
use Rattle.std.proofs.lemmas.List.FromFn.{get_or-map-range_with_len, length-map-range_with_len}
use Rattle.za_text.specs.Lines.{lines_of}
use Rattle.za_text.specs.Printed.{number_line}
use Rattle.za_alpha.specs.Procs.{members}
use Rattle.za_alpha.specs.Alphabet.{NamedLetter, DistributedAlphabet, name_at}
use Rattle.za_dfa.specs.declared.rows.Row.{Row}
use Rattle.za_script.specs.Scripts.{total}
use Rattle.za_script.specs.ScriptLists.{script_of, IsLetterOf}
use Rattle.za_script.specs.Limits.{most_script_letters}
use Rattle.za_script.proofs.Totals.{length-le-total}
use Rattle.za_lang.specs.declared.version.Version.{Version}
use Rattle.za_lang.specs.declared.version.Version.TheVariants.{One, Two}
use Rattle.za_lang.specs.Items.{letters_of_items}
use Rattle.za_lang.specs.Limits.{document_states}
use Rattle.za_lang.specs.Namings.{Naming, IsNaming}
use Rattle.za_lang.specs.Tests.{header_line_fault, items_fault}
use Rattle.za_lang.proofs.Naming.{states_limit}
use Rattle.za_lang.specs.Jobs.{JobData, IsJob}
use Rattle.za_lang.specs.Order.{head_of, order_fault}
use Rattle.za_lang.specs.Documents.{Said, Step, said, version_by, version_of, version_said, words_fault, faults_from, fault_of, script_of_steps, job_said}
use Rattle.za_lang.specs.Documents.{job_of, scripts_said}
use Rattle.za_print.specs.Printed.{Run, version_word, processes_line, letter_line, accepting_states, accept_line, row_line, table_rows, row_lines, script_runs}
use Rattle.za_print.specs.Printed.{item_word, script_line, script_lines, job_lines, printed}
use Rattle.za_print.proofs.PrintedLines.{CanPrint, is_inner, IsLine, lines_of_text, printed_line, words_of_line, name_word, starred_word}
use Rattle.za_print.proofs.Decimals.{numeral_value-decimal, numbers-decimal, word-decimal}
use Rattle.za_lang.specs.Gathering.{more}
use Rattle.za_lang.specs.Reading.{nothing}
use Rattle.za_lang.proofs.Saying.{said_none}
use Rattle.za_print.proofs.ItemLemmas.{Finds, AreNamed, StepFits, RunFits, runs-fit, expand, expand-script, items_right, items_said}
use Rattle.za_print.proofs.ProcessWords.{AreProcessWords, process_words, processes_print, word_of_process}
use Rattle.za_print.proofs.Runs.{RunsTo, runs_on, runs_whole, small_numbers, AreLetters, placed, after_letters, letters_run, accepts_right, AreRows, after_rows}
use Rattle.za_print.proofs.Runs.{rows_run, steps_by_one}
use Rattle.za_print.proofs.Facts.{one_by_one, weaker_by_one, finds_letters, letters_fit, rows_fit, targets_back, accepting_below, accepting_back}

line_run : (s t u : Said) (ws : List (List ℕ)) (wss : List (List (List ℕ))) → words_fault s ws ≡ None → t ≡ more s ws → RunsTo t wss u → RunsTo s (ws ∷ wss) u
line_run s t u ws wss f e r = (f, subst (λ (x : Said). RunsTo x wss u) e r)

letters_are : (s : Said) (ls : List NamedLetter) → 0 < length ls → after_letters s ls ≡ placed (codes "letter") (record s { letters = s.letters ++ ls })
letters_are s [] some = absurd (omega arith)
letters_are s (l ∷ []) some = refl
letters_are s (l ∷ m ∷ ls) some =
    letters_are (placed (codes "letter") (record s { letters = s.letters ++ l ∷ [] })) (m ∷ ls) (omega arith)
    ∙ ap (λ (xs : List NamedLetter). placed (codes "letter") (record s { letters = xs })) (append_assoc s.letters (l ∷ []) (m ∷ ls))

rows_are : (s : Said) (rows : List Row) → after_rows s rows ≡ record s { rows = s.rows ++ rows }
rows_are s [] = simp append-nil
rows_are s (row ∷ rows) =
    rows_are (record s { rows = s.rows ++ row ∷ [] }) rows
    ∙ ap (λ (xs : List Row). record s { rows = xs }) (append_assoc s.rows (row ∷ []) rows)

-- ---- scripts

-- the letters of the scripts of k processes, from process p on
abbrev steps_of_range : List (List ℕ) → ℕ → ℕ → List Step
steps_of_range scripts p k = flat_map (λ q. steps_by_one q (script_of scripts q)) (range_with_len p k)

-- how many they are
abbrev lengths_from : List (List ℕ) → ℕ → ℕ → ℕ
lengths_from scripts p zero = 0
lengths_from scripts p (suc k) = length (script_of scripts p) + lengths_from scripts (p + 1) k

abbrev after_scripts : Said → List (List ℕ) → ℕ → ℕ → Said
after_scripts s scripts p zero = s
after_scripts s scripts p (suc k) =
    after_scripts (placed (codes "script") (record s { steps = s.steps ++ steps_by_one p (script_of scripts p) })) scripts (p + 1) k

abbrev AreFit : DistributedAlphabet → List (List ℕ) → Type 0
AreFit alphabet scripts = (q : ℕ) → q < alphabet.processes → AllByRecursion (StepFits alphabet.letters q) (script_of scripts q)

-- what is there where the script lines begin
record AreReady (naming : Naming) (alphabet : DistributedAlphabet) (scripts : List (List ℕ)) : Type 0 where
  processes : IsNaming naming alphabet.processes
  finds : Finds alphabet.letters
  named : AreNamed alphabet.letters
  fits : AreFit alphabet scripts

-- the line of one script
record IsScriptLine (naming : Naming) (letters : List NamedLetter) (read p : ℕ) (script : List ℕ) (ws : List (List ℕ)) : Type 0 where
  right : items_fault naming.version letters p read ws ≡ None
  say : letters_of_items naming.version letters ws ≡ script

script_items : (naming : Naming) (letters : List NamedLetter) (read p : ℕ) (script : List ℕ) → Finds letters → AreNamed letters →
    AllByRecursion (StepFits letters p) script →
    read + length script ≤ most_script_letters → IsScriptLine naming letters read p script (map (item_word letters) (script_runs naming.version script))
script_items naming letters read p script finds named own room =
    let v = naming.version in
    let rs = script_runs v script in
    let fit = runs-fit v (StepFits letters p) script own in
    let same = expand-script v script in
    let size : length (expand rs) ≡ length script = ap length same in
    record {
      right = items_right v letters p read rs finds named fit (omega arith);
      say = items_said v letters p rs finds named fit (omega arith) ∙ same;
    }

scripts_run : (naming : Naming) (alphabet : DistributedAlphabet) (scripts : List (List ℕ)) (s : Said) (p k : ℕ) → AreReady naming alphabet scripts
    → s.naming ≡ naming → s.letters ≡ alphabet.letters → order_fault s.place (head_of (codes "script")) ≡ None
    → p + k ≤ alphabet.processes → length s.steps + lengths_from scripts p k ≤ most_script_letters
    → RunsTo s (map (script_line naming alphabet.letters scripts) (range_with_len p k)) (after_scripts s scripts p k)
scripts_run naming alphabet scripts s p zero ready same letters o inside room = refl
scripts_run naming alphabet scripts s p (suc k) ready same letters o inside room =
    let script = script_of scripts p in
    let own : AllByRecursion (StepFits alphabet.letters p) script = ready.fits p (omega arith) in
    let word = word_of_process naming alphabet.processes p ready.processes (omega arith) in
    let right = word.right in
    let means = word.means in
    let line = script_items naming alphabet.letters (length s.steps) p script ready.finds ready.named own (omega arith) in
    let items = line.right in
    let say = line.say in
    let t : Said = placed (codes "script") (record s { steps = s.steps ++ steps_by_one p script }) in
    let size : length (s.steps ++ steps_by_one p script) ≡ length s.steps + length script = length-append s.steps (steps_by_one p script)
    ∙ ap (λ m. length s.steps + m) (length-map script (λ (a : ℕ). let step : Step = record { process = p; letter = a } in step)) in
    line_run s t (after_scripts t scripts (p + 1) k) (script_line naming alphabet.letters scripts p)
    (map (script_line naming alphabet.letters scripts) (range_with_len (p + 1) k))
    (rw (o, same, right, means, letters, items) refl) (rw (same, means, letters, say) (simp append-nil))
    (scripts_run naming alphabet scripts t (p + 1) k ready same letters refl (omega arith) (omega arith))

scripts_are : (scripts : List (List ℕ)) (s : Said) (p k : ℕ) → 0 < k
    → after_scripts s scripts p k ≡ placed (codes "script") (record s { steps = s.steps ++ steps_of_range scripts p k })
scripts_are scripts s p zero some = absurd (omega arith)
scripts_are scripts s p (suc zero) some = simp append-nil
scripts_are scripts s p (suc (suc k)) some =
    let here = steps_by_one p (script_of scripts p) in
    scripts_are scripts (placed (codes "script") (record s { steps = s.steps ++ here })) (p + 1) (suc k) (omega arith)
    ∙ ap (λ (xs : List Step). placed (codes "script") (record s { steps = xs })) (append_assoc s.steps here (steps_of_range scripts (p + 1) (suc k)))

lengths_split : (scripts : List (List ℕ)) (p k : ℕ) → total (script_of scripts) p + lengths_from scripts p k ≡ total (script_of scripts) (p + k)
lengths_split scripts p zero = let e : p + 0 ≡ p = omega arith in rw e (omega arith)
lengths_split scripts p (suc k) =
    let next = lengths_split scripts (p + 1) k in
    let one : total (script_of scripts) (p + 1) ≡ total (script_of scripts) p + length (script_of scripts p) = total_one p in
    let e : p + 1 + k ≡ p + suc k = omega arith in
    let moved : total (script_of scripts) (p + 1) + lengths_from scripts (p + 1) k ≡ total (script_of scripts) (p + suc k) = next
    ∙ ap (total (script_of scripts)) e in
    omega arith
  where
    total_one : (q : ℕ) → total (script_of scripts) (q + 1) ≡ total (script_of scripts) q + length (script_of scripts q)
    total_one q = let e : q + 1 ≡ suc q = omega arith in ap (total (script_of scripts)) e

-- ---- words that can be printed

numbers_words : (ns : List ℕ) → AllByRecursion (λ n. n < 2 ^ 32) ns → AllByRecursion CanPrint (map decimal ns)
numbers_words [] h = tt
numbers_words (n ∷ ns) h = (word-decimal n h.0, numbers_words ns h.1)

pub literal : (w : List ℕ) → nat_lt 0 (length w) ≡ true → list_all is_inner w ≡ true → CanPrint w
literal w some inner = record { some = ltb-true _ _ some; inner = inner }

letters_lines : (naming : Naming) (n : ℕ) (front ls : List NamedLetter) → IsNaming naming n → AreLetters naming.version n front ls →
    AllByRecursion IsLine (map (letter_line naming.names) ls)
letters_lines naming n front [] whole h = tt
letters_lines naming n front (l ∷ ls) whole h = (
  (refl, (literal (codes "letter") refl refl, (name_word l.name h.0.name, processes_print naming n (members l.loc) whole h.0.procs))),
  letters_lines naming n (front ++ l ∷ []) ls whole h.1,
)

rows_lines : (states : ℕ) (letters : List NamedLetter) (front rows : List Row) → states < 2 ^ 32 → ((a : ℕ) → a < length letters → CanPrint (name_at letters a))
    → AreRows states letters front rows → AllByRecursion IsLine (map (row_line letters) rows)
rows_lines states letters front [] few w h = tt
rows_lines states letters front (row ∷ rows) few w h = (
  (
    refl,
    (
      literal (codes "row") refl refl,
      (word-decimal row.from (omega (arith, h.0.from)), (w row.letter.0 h.0.letter, (word-decimal row.to (omega (arith, h.0.to)), tt))),
    ),
  ),
  rows_lines states letters (front ++ row ∷ []) rows few w h.1,
)

items_print : (v : Version) (letters : List NamedLetter) (P : ℕ → Type 0) (rs : List Run) → ((a : ℕ) → P a → CanPrint (name_at letters a)) →
    AllByRecursion (RunFits v P) rs →
    length (expand rs) ≤ most_script_letters → AllByRecursion CanPrint (map (item_word letters) rs)
items_print v letters P [] w h few = tt
items_print v letters P (r ∷ rs) w h few =
    let long = length-append (replicate r.count r.letter) (expand rs) in
    let size : length (replicate r.count r.letter) ≡ r.count = length-replicate r.count r.letter in
    let name = w r.letter h.0.letter in
    let word : CanPrint (item_word letters r) =
    elim (cases_Bool (r.count == 1)) [
      | inl t ↦ rw t name
      | inr f ↦ rw f (starred_word (name_at letters r.letter) (decimal r.count) name (word-decimal r.count (omega arith)))
    ] in
    (word, items_print v letters P rs w h.1 (omega arith))

scripts_lines : (naming : Naming) (alphabet : DistributedAlphabet) (scripts : List (List ℕ)) (p k : ℕ) → AreReady naming alphabet scripts →
    ((q : ℕ) → q < alphabet.processes → length (script_of scripts q) ≤ most_script_letters) →
    p + k ≤ alphabet.processes → AllByRecursion IsLine (map (script_line naming alphabet.letters scripts) (range_with_len p k))
scripts_lines naming alphabet scripts p zero ready few inside = tt
scripts_lines naming alphabet scripts p (suc k) ready few inside =
    let v = naming.version in
    let script = script_of scripts p in
    let fit = runs-fit v (StepFits alphabet.letters p) script (ready.fits p (omega arith)) in
    let short = few p (omega arith) in
    let size : length (expand (script_runs v script)) ≡ length script = ap length (expand-script v script) in
    let word = word_of_process naming alphabet.processes p ready.processes (omega arith) in
    let items = items_print v alphabet.letters (StepFits alphabet.letters p) (script_runs v script)
    (λ a fits. name_word (name_at alphabet.letters a) (ready.named a fits.letter)) fit (omega arith) in (
      (refl, (literal (codes "script") refl refl, (word.word, items))),
      scripts_lines naming alphabet scripts (p + 1) k ready few (omega arith),
    )

both_lines : (xs ys : List (List (List ℕ))) → AllByRecursion IsLine xs → AllByRecursion IsLine ys → AllByRecursion IsLine (xs ++ ys)
both_lines [] ys h k = k
both_lines (x ∷ xs) ys h k = (h.0, both_lines xs ys h.1 k)

-- ---- the scripts that steps say

joined-append : (xs ys : List Step) (q : ℕ) → script_of_steps (xs ++ ys) q ≡ script_of_steps xs q ++ script_of_steps ys q
joined-append xs ys q = grind (arith, common_steps)

joined_own : (q : ℕ) (script : List ℕ) → script_of_steps (steps_by_one q script) q ≡ script
joined_own q [] = refl
joined_own q (a ∷ script) = let e : (q == q) ≡ true = grind (arith, nat_tests) in rw e (ap (λ xs. a ∷ xs) (joined_own q script))

joined_none : (r q : ℕ) (script : List ℕ) → (r == q) ≡ false → script_of_steps (steps_by_one r script) q ≡ []
joined_none r q [] h = refl
joined_none r q (a ∷ script) h = rw h (joined_none r q script h)

joined_before : (scripts : List (List ℕ)) (p k q : ℕ) → q < p → script_of_steps (steps_of_range scripts p k) q ≡ []
joined_before scripts p zero q h = refl
joined_before scripts p (suc k) q h =
    let e : (p == q) ≡ false = grind (arith, nat_tests) in
    joined-append (steps_by_one p (script_of scripts p)) (steps_of_range scripts (p + 1) k) q
    ∙ rw (joined_none p q (script_of scripts p) e) (joined_before scripts (p + 1) k q (omega arith))

joined_at : (scripts : List (List ℕ)) (p k q : ℕ) → p ≤ q → q < p + k → script_of_steps (steps_of_range scripts p k) q ≡ script_of scripts q
joined_at scripts p zero q low high = absurd (omega arith)
joined_at scripts p (suc k) q low high =
    joined-append (steps_by_one p (script_of scripts p)) (steps_of_range scripts (p + 1) k) q
    ∙ elim (cases_eq q p) [
      | inl e ↦
          subst (λ r. script_of_steps (steps_by_one r (script_of scripts r)) q ++ script_of_steps (steps_of_range scripts (p + 1) k) q ≡ script_of scripts q) e
          (rw (joined_own q (script_of scripts q), joined_before scripts (p + 1) k q (omega arith)) (append-nil (script_of scripts q)))
      | inr ne ↦
          let apart : (p == q) ≡ false = grind (arith, nat_tests) in
          rw (joined_none p q (script_of scripts p) apart) (joined_at scripts (p + 1) k q (omega arith) (omega arith))
    ]

-- ---- the lines of a job are right, and say the job

header_right : (v : Version) → header_line_fault (version_word v ∷ []) ≡ None
header_right One = refl
header_right Two = refl

header_print : (v : Version) → CanPrint (version_word v)
header_print One = literal (codes "1") refl refl
header_print Two = literal (codes "2") refl refl

header_says : (v : Version) → version_said (head_of (codes "zla")) (version_word v ∷ []) ≡ v
header_says One = refl
header_says Two = refl

end_run : (s : Said) → order_fault s.place (head_of (codes "end")) ≡ None → RunsTo s ((codes "end" ∷ []) ∷ []) (placed (codes "end") s)
end_run s o = (rw o refl, simp append-nil)

module _ (job : JobData) (whole : IsJob job) where
  abbrev alphabet : DistributedAlphabet
  alphabet = job.lang.alphabet

  abbrev naming : Naming
  naming = job.naming

  abbrev version : Version
  version = job.naming.version

  -- what the lines say
  abbrev told : Said
  told = placed (codes "end") (record (nothing version) {
    naming = naming;
    letters = alphabet.letters;
    states = job.lang.states;
    start = job.lang.start;
    accepts = accepting_states job.lang;
    rows = table_rows job.lang;
    steps = steps_of_range job.scripts 0 alphabet.processes;
  })

  named : (a : ℕ) → a < length alphabet.letters → CanPrint (name_at alphabet.letters a)
  named a h = name_word (name_at alphabet.letters a) (whole.lang.distributed.names a h)

  ready : AreReady naming alphabet job.scripts
  ready = record {
    processes = whole.naming;
    finds = finds_letters alphabet whole.lang.distributed;
    named = whole.lang.distributed.names;
    fits = λ q h.
        let size = whole.fit.processes in
        weaker_by_one (IsLetterOf alphabet q) (StepFits alphabet.letters q) (script_of job.scripts q) (λ a own. record { letter = own.letter; own = own.own })
        (one_by_one (IsLetterOf alphabet q) (script_of job.scripts q) (whole.fit.own q (omega arith)));
  }

  script_few : (q : ℕ) → q < alphabet.processes → length (script_of job.scripts q) ≤ most_script_letters
  script_few q h =
      let size = whole.fit.processes in
      let all = length-le-total (script_of job.scripts) (length job.scripts) q (omega arith) in
      let most = whole.scripts.few_letters in
      omega arith

  room : 0 + lengths_from job.scripts 0 alphabet.processes ≤ most_script_letters
  room =
      let split = lengths_split job.scripts 0 alphabet.processes in
      let size = whole.fit.processes in
      let most = whole.scripts.few_letters in
      let same : total (script_of job.scripts) (0 + alphabet.processes) ≡ total (script_of job.scripts) (length job.scripts) =
      let e : 0 + alphabet.processes ≡ length job.scripts = omega arith in ap (total (script_of job.scripts)) e in
      omega arith

  processes_words_right : AreProcessWords version naming.names
  processes_words_right = process_words naming alphabet.processes whole.naming whole.lang.distributed.some_process whole.limits.few_processes

  job_runs : RunsTo (nothing version) (job_lines job) told
  job_runs =
      let least = whole.lang.distributed.some_process in
      let many = whole.limits.few_states in
      let most = states_limit version in
      let some = whole.lang.some_state in
      let first = whole.lang.starts in
      let states_few : job.lang.states < 2 ^ 32 = omega arith in
      let head = header_right version in
      let processes = processes_words_right in
      let names_right = processes.right in
      let names_say = processes.say in
      let m = numeral_value-decimal job.lang.states states_few in
      let q = numeral_value-decimal job.lang.start (omega arith) in
      let low : nat_le 1 job.lang.states ≡ true = grind (arith, nat_tests) in
      let high : nat_le job.lang.states (document_states version) ≡ true = grind (arith, nat_tests) in
      let begin : nat_lt job.lang.start job.lang.states ≡ true = grind (arith, nat_tests) in
      let accepts = accepting_states job.lang in
      let below = accepting_below job.lang whole.lang in
      let acc = accepts_right job.lang.states accepts states_few below in
      let accs = numbers-decimal accepts (small_numbers job.lang.states accepts states_few below) in
      let s1 : Said = placed (codes "zla") (nothing version) in
      let s2 : Said = placed (codes "processes") (record s1 { naming = naming }) in
      let s3 : Said = placed (codes "letter") (record s2 { letters = alphabet.letters }) in
      let s4 : Said = placed (codes "states") (record s3 { states = job.lang.states }) in
      let s5 : Said = placed (codes "start") (record s4 { start = job.lang.start }) in
      let s6 : Said = placed (codes "accept") (record s5 { accepts = accepts }) in
      let s7 : Said = record s6 { rows = table_rows job.lang } in
      let s8 : Said = placed (codes "script") (record s7 { steps = steps_of_range job.scripts 0 alphabet.processes }) in
      let l_end : List (List (List ℕ)) = (codes "end" ∷ []) ∷ [] in
      let scripts : List (List (List ℕ)) = script_lines naming alphabet job.scripts in
      let end : RunsTo s8 l_end told = end_run s8 refl in
      let run_scripts : RunsTo s7 scripts s8 =
      subst (λ (x : Said). RunsTo s7 scripts x) (scripts_are job.scripts s7 0 alphabet.processes least)
      (scripts_run naming alphabet job.scripts s7 0 alphabet.processes ready refl refl refl (omega arith) room) in
      let run_rows : RunsTo s6 (row_lines job.lang) s7 =
      subst (λ (x : Said). RunsTo s6 (row_lines job.lang) x) (rows_are s6 (table_rows job.lang))
      (rows_run s6 (table_rows job.lang) states_few ready.finds refl refl (rows_fit job.lang whole.lang)) in
      let letters : List (List (List ℕ)) = map (letter_line naming.names) alphabet.letters in
      let run_letters : RunsTo s2 letters s3 =
      subst (λ (x : Said). RunsTo s2 letters x) (letters_are s2 alphabet.letters whole.lang.distributed.some_letter)
      (letters_run s2 alphabet.processes alphabet.letters whole.naming refl (letters_fit version alphabet whole.lang.distributed whole.limits.few_letters)) in
      let l_scripts : List (List (List ℕ)) = scripts ++ l_end in
      let l_rows : List (List (List ℕ)) = row_lines job.lang ++ l_scripts in
      let l_accept : List (List (List ℕ)) = accept_line job.lang ∷ l_rows in
      let l_start : List (List (List ℕ)) = number_line (codes "start") job.lang.start ∷ l_accept in
      let l_states : List (List (List ℕ)) = number_line (codes "states") job.lang.states ∷ l_start in
      let l_letters : List (List (List ℕ)) = letters ++ l_states in
      let l_processes : List (List (List ℕ)) = processes_line naming ∷ l_letters in
      let tail = runs_on s6 s7 told (row_lines job.lang) l_scripts run_rows (runs_on s7 s8 told scripts l_end run_scripts end) in
      let six = line_run s5 s6 told (accept_line job.lang) l_rows (rw acc) (rw accs (simp append-nil)) tail in
      let five = line_run s4 s5 told (number_line (codes "start") job.lang.start) l_accept (rw (q, begin)) (rw q (simp append-nil)) six in
      let four = line_run s3 s4 told (number_line (codes "states") job.lang.states) l_start (rw (m, low, high)) (rw m (simp append-nil)) five in
      let three = runs_on s2 s3 told letters l_states run_letters four in
      let two = line_run s1 s2 told (processes_line naming) l_letters (rw names_right refl) (rw names_say (simp append-nil)) three in
      line_run (nothing version) s1 told (codes "zla" ∷ version_word version ∷ []) l_processes (rw head refl) refl two

  pub job_are_lines : AllByRecursion IsLine (job_lines job)
  job_are_lines =
      let many = whole.limits.few_states in
      let most = states_limit version in
      let first = whole.lang.starts in
      let states_few : job.lang.states < 2 ^ 32 = omega arith in
      let accepts = accepting_states job.lang in (
        (refl, (literal (codes "zla") refl refl, (header_print version, tt))),
        (
          (refl, (literal (codes "processes") refl refl, processes_words_right.print)),
          both_lines (map (letter_line naming.names) alphabet.letters) _
              (letters_lines naming alphabet.processes [] alphabet.letters whole.naming
              (letters_fit version alphabet whole.lang.distributed whole.limits.few_letters)) (
                (refl, (literal (codes "states") refl refl, (word-decimal job.lang.states states_few, tt))),
                (
                  (refl, (literal (codes "start") refl refl, (word-decimal job.lang.start (omega arith), tt))),
                  (
                    (
                      refl,
                      (
                        literal (codes "accept") refl refl,
                        numbers_words accepts (small_numbers job.lang.states accepts states_few (accepting_below job.lang whole.lang)),
                      ),
                    ),
                    both_lines (row_lines job.lang) _
                        (rows_lines job.lang.states alphabet.letters [] (table_rows job.lang) states_few named (rows_fit job.lang whole.lang))
                        (both_lines (script_lines naming alphabet job.scripts) _
                        (scripts_lines naming alphabet job.scripts 0 alphabet.processes ready script_few (omega arith))
                        ((refl, (literal (codes "end") refl refl, tt)), tt)),
                  ),
                ),
              ),
        ),
      )

  scripts_back : scripts_said told ≡ job.scripts
  scripts_back =
      let n = alphabet.processes in
      let count : length naming.names ≡ n = whole.naming.size in
      let of : ℕ → List (List ℕ) = λ m. map (script_of_steps told.steps) (range_with_len 0 m) in
      let size : length (of n) ≡ n = length-map-range_with_len (script_of_steps told.steps) 0 n in
      ap of count
      ∙ ext_get_or [] (of n) job.scripts (size ∙ sym whole.fit.processes)
      (λ q h.
      let below : q < n = omega arith in
      get_or-map-range_with_len (script_of_steps told.steps) 0 n q q [] below (omega arith) ∙ joined_at job.scripts 0 n q (omega arith) (omega arith))

  -- what is read is the job
  job_back : job_said told ≡ job
  job_back =
      let made : ℕ → List Bool → List (Option ℕ) → List (List ℕ) → JobData =
      λ n accepting targets scripts. record {
        naming = naming;
        lang = record {
          alphabet = record { processes = n; letters = alphabet.letters };
          states = job.lang.states;
          start = job.lang.start;
          accepting =
              accepting;
          targets = targets;
        };
        scripts = scripts;
      } in
      let back = job_said told in
      ap (λ n. made n back.lang.accepting back.lang.targets back.scripts) whole.naming.size
      ∙ ap (λ accepting. made alphabet.processes accepting back.lang.targets back.scripts) (accepting_back job.lang whole.lang)
      ∙ ap (λ targets. made alphabet.processes job.lang.accepting targets back.scripts) (targets_back job.lang whole.lang)
      ∙ ap (made alphabet.processes job.lang.accepting job.lang.targets) scripts_back

  -- the version is that of the header
  version_is : version_of (map printed_line (job_lines job)) ≡ version
  version_is =
      let first = codes "zla" ∷ version_word version ∷ [] in
      let rest = version_of (map printed_line
      (processes_line naming ∷ (map (letter_line naming.names) alphabet.letters
      ++ (number_line (codes "states") job.lang.states ∷ number_line (codes "start") job.lang.start ∷ accept_line
      job.lang ∷ (row_lines job.lang ++ (script_lines naming alphabet job.scripts ++ (codes "end" ∷ []) ∷ [])))))) in
      let words = words_of_line first (refl, (literal (codes "zla") refl refl, (header_print version, tt))) in
      ap (version_by rest) words ∙ header_says version

  pub read_back : (fault_of (printed job) ≡ None) × (job_of (printed job) ≡ job)
  read_back =
      let lines = lines_of_text (job_lines job) job_are_lines in
      let of_version : version_of (lines_of (printed job)) ≡ version = ap version_of lines ∙ version_is in
      let run = runs_whole version [] (nothing version) told (job_lines job) job_are_lines (said_none version) job_runs refl in (
        ap (λ v. faults_from v [] (lines_of (printed job))) of_version ∙ ap (faults_from version []) lines ∙ run.0,
        ap (λ v. job_said (said v (lines_of (printed job)))) of_version ∙ ap (λ ls. job_said (said version ls)) lines ∙ ap job_said run.1 ∙ job_back,
      )
