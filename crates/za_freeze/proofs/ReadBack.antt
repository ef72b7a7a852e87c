-- A frozen text says its job and its number, and none of its lines is wrong.
use Rattle.std.proofs.Common.{◌≡◌, ◌∙◌, ap, sym, ℕ, ◌<◌, ◌≤◌, ◌^◌, Bool, true, false, inl, inr, List, [], ◌∷◌, ◌++◌, Some, None, refl, length, map, take, arith}
use Rattle.std.proofs.Common.{append-nil}
use Rattle.std.specs.Prelude.{slice_get, codes, nat_lt}
use Rattle.std.specs.List.{range_with_len, AllByRecursion}
use Rattle.std.specs.Option.{option_or, option_map}
use Rattle.std.proofs.lemmas.Bool.Decides.{nat_tests}
use Rattle.std.proofs.lemmas.List.{length-take-le, take_all, length-take}
use Rattle.std.proofs.lemmas.Bool.{cases_lt}
use Rattle.za_alpha.specs.Alphabet.{loc_of}
use Rattle.za_dfa.specs.Tables.{CompleteDfa}
use Rattle.za_script.specs.Scripts.{total}
use Rattle.za_script.specs.ScriptLists.{script_of}
use Rattle.za_script.proofs.Confluence.{fits-length, weave_is_maximal}
use Rattle.za_text.specs.Lines.{lines_of}
use Rattle.za_text.specs.Printed.{line, text_of, number_line}
use Rattle.za_text.specs.Divided.{first_is, bytes_of_lines, place_in, lines_before}
use Rattle.za_text.proofs.DividingLemmas.{bytes_of_lines_of}
use Rattle.za_lang.specs.Documents as document
use Rattle.za_lang.specs.Jobs.{JobData, IsJob}
use Rattle.za_print.specs.Printed.{letter_line, row_line, script_line, job_lines, script_lines, accept_line, row_lines, table_rows, printed}
use Rattle.za_print.proofs.PrintedLines.{IsLine, printed_line, words_of_line, line_allowed, lines_of_text}
use Rattle.za_print.proofs.Decimals.{numeral_value-decimal, word-decimal}
use Rattle.za_print.proofs.ReadBack as jobs
use Rattle.za_freeze.specs.Frozen.{woven_of, cut_word, at_line, text_after, frozen_text}
use Rattle.za_freeze.specs.Thawing.{is_cut_line, bytes_before, frozen_job, cut_place, cut_line, cut_line_fault, cut_fault, reading_fault, cut_said, cut_of}
use Rattle.za_freeze.specs.Thawing.{fault_against}
use Rattle.za_freeze.specs.Laws.{FrozenTextsAreReadBack}
use Rattle.za_freeze.proofs.FirstOther.{none-other}
use Rattle.za_freeze.proofs.TextLines.{lines-of-both, before-behind, line-behind}

abbrev is_cut : List (List ℕ) → Bool
is_cut ws = first_is (codes "cut") ws

abbrev NoneCuts : List (List (List ℕ)) → Type 0
NoneCuts wss = AllByRecursion (λ ws. is_cut ws ≡ false) wss

goes-on : {X : Type 0} (f : X → List (List ℕ)) (xs : List X) (ys : List (List (List ℕ))) → ((x : X) → is_cut (f x) ≡ false) → NoneCuts ys →
    NoneCuts (map f xs ++ ys)
goes-on f [] ys other h = h
goes-on f (x ∷ xs) ys other h = (other x, goes-on f xs ys other h)

-- no line of a job begins with `cut`
job-has-none : (j : JobData) → NoneCuts (job_lines j)
job-has-none j =
    let letters = j.lang.alphabet.letters in
    let ended : List (List (List ℕ)) = (codes "end" ∷ []) ∷ [] in
    let scripted = script_lines j.naming j.lang.alphabet j.scripts ++ ended in
    let tabled = number_line (codes "states") j.lang.states ∷ number_line (codes "start") j.lang.start ∷ accept_line j.lang ∷ (row_lines j.lang ++ scripted) in
    let scripts_end : NoneCuts scripted =
    goes-on (script_line j.naming letters j.scripts) (range_with_len 0 j.lang.alphabet.processes) ended (λ p. refl) (refl, tt) in
    let rows_end : NoneCuts (row_lines j.lang ++ scripted) = goes-on (row_line letters) (table_rows j.lang) scripted (λ r. refl) scripts_end in
    let table_ends : NoneCuts tabled = (refl, (refl, (refl, rows_end))) in
    (refl, (refl, goes-on (letter_line j.naming.names) letters tabled (λ l. refl) table_ends))

none-cut : (wss : List (List (List ℕ))) → AllByRecursion IsLine wss → NoneCuts wss → AllByRecursion (λ l. is_cut_line l ≡ false) (map printed_line wss)
none-cut [] h k = tt
none-cut (ws ∷ wss) h k = (ap is_cut (words_of_line ws h.0) ∙ k.0, none-cut wss h.1 k.1)

take-again : (k : ℕ) (xs : List ℕ) → take (length (take k xs)) xs ≡ take k xs
take-again k xs =
    elim (cases_lt k (length xs)) [
      | inl l ↦ ap (λ n. take n xs) (length-take-le k xs (omega arith))
      | inr g ↦ let all = take_all k xs g in ap (λ (ys : List ℕ). take (length ys) xs) all ∙ take_all (length xs) xs (omega arith) ∙ sym all
    ]

length-take-few : (k : ℕ) (xs : List ℕ) → length (take k xs) ≤ length xs
length-take-few k xs = let e = length-take k xs in omega arith

module _ (job : JobData) (whole : IsJob job) where
  -- no more events fire than the scripts have letters
  pub weave-few : length (woven_of job) ≤ 65536
  weave-few =
      let alphabet = job.lang.alphabet in
      let al = whole.lang.distributed.located in
      let maximal = weave_is_maximal (loc_of alphabet) (length alphabet.letters) alphabet.processes (script_of job.scripts) al in
      let few = fits-length (loc_of alphabet) (length alphabet.letters) (script_of job.scripts) alphabet.processes (woven_of job) al maximal.fits in
      let limit = whole.scripts.few_letters in
      let same = ap (total (script_of job.scripts)) whole.fit.processes in
      omega arith

  module _ (d : CompleteDfa) (w : List ℕ) (few : length w ≤ length (woven_of job)) where
    abbrev cut_words : List (List ℕ)
    cut_words = number_line (codes "cut") (length w)

    abbrev others : List (List (List ℕ))
    others = map (at_line job.naming.names d w) (range_with_len 0 d.alphabet.processes) ++ (codes "end" ∷ []) ∷ []

    abbrev text : List ℕ
    text = text_after job d w

    small : length w < 2 ^ 32
    small = let m = weave-few in omega arith

    cut-is-line : IsLine cut_words
    cut-is-line = (refl, (jobs.literal (codes "cut") refl refl, (word-decimal (length w) small, tt)))

    lines : lines_of text ≡ map printed_line (job_lines job) ++ printed_line cut_words ∷ lines_of (text_of others)
    lines =
        lines-of-both (job_lines job) (text_of (cut_words ∷ others)) (jobs.job_are_lines job whole)
        ∙ ap (λ ls. map printed_line (job_lines job) ++ ls)
        (ap (λ xs. lines_of (xs ++ text_of others)) (sym (append-nil (line cut_words))) ∙ lines-of-both (cut_words ∷ []) (text_of others) (cut-is-line, tt))

    here : is_cut_line (printed_line cut_words) ≡ true
    here = ap is_cut (words_of_line cut_words cut-is-line)

    before : AllByRecursion (λ l. is_cut_line l ≡ false) (map printed_line (job_lines job))
    before = none-cut (job_lines job) (jobs.job_are_lines job whole) (job-has-none job)

    bytes : bytes_before text ≡ printed job
    bytes =
        ap (λ ls. bytes_of_lines (lines_before is_cut_line ls)) lines
        ∙ ap bytes_of_lines (before-behind is_cut_line (printed_line cut_words) (lines_of (text_of others)) here (map printed_line (job_lines job)) before)
        ∙ ap bytes_of_lines (sym (lines_of_text (job_lines job) (jobs.job_are_lines job whole))) ∙ bytes_of_lines_of (printed job)

    pub job-back : frozen_job text ≡ job
    job-back = ap document.job_of bytes ∙ (jobs.read_back job whole).1

    line-back : cut_line text ≡ Some (printed_line cut_words)
    line-back =
        ap (λ ls. slice_get ls (place_in is_cut_line ls)) lines
        ∙ line-behind is_cut_line (printed_line cut_words) (lines_of (text_of others)) here (map printed_line (job_lines job)) before

    pub cut-back : cut_of text ≡ length w
    cut-back =
        let e = words_of_line cut_words cut-is-line in
        let n = numeral_value-decimal (length w) small in
        ap cut_said line-back ∙ (rw (e, n) refl)

    line-right : cut_line_fault (length (woven_of job)) (printed_line cut_words) ≡ None
    line-right =
        let a = line_allowed cut_words cut-is-line in
        let e = words_of_line cut_words cut-is-line in
        let n = numeral_value-decimal (length w) small in
        let l : nat_lt (length (woven_of job)) (length w) ≡ false = grind (arith, nat_tests) in
        rw (a, e, n, l) refl

    pub read-right : reading_fault text ≡ None
    read-right =
        ap (λ f. option_or f (cut_fault (length (woven_of (frozen_job text))) (cut_place text) (cut_line text)))
        (ap document.fault_of bytes ∙ (jobs.read_back job whole).0)
        ∙ ap (λ (j : JobData). cut_fault (length (woven_of j)) (cut_place text) (cut_line text)) job-back
        ∙ ap (cut_fault (length (woven_of job)) (cut_place text)) line-back
        ∙ ap (option_map (document.next_fault (cut_place text))) line-right

    pub own-right : fault_against text text ≡ None
    own-right = ap (option_map _) (none-other (lines_of text))

pub frozen_texts_are_read_back : FrozenTextsAreReadBack
frozen_texts_are_read_back job d k whole same =
    let w = cut_word job k in
    let few = length-take-few k (woven_of job) in
    let text = frozen_text job d k in
    let job_back = job-back job whole d w few in
    let cut_back = cut-back job whole d w few in
    let again : frozen_text (frozen_job text) d (cut_of text) ≡ text =
    ap (λ (j : JobData). frozen_text j d (cut_of text)) job_back ∙ ap (frozen_text job d) cut_back ∙ ap (text_after job d) (take-again k (woven_of job)) in (
      job_back,
      cut_back,
      read-right job whole d w few,
      ap (λ own. fault_against own text) again ∙ own-right job whole d w few,
    )
