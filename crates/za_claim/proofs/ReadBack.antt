-- A document followed by a printed claim about its job is read back.
use Rattle.std.proofs.Common.{◌≡◌, ◌∙◌, ap, sym, subst, ℕ, ◌+◌, ◌<◌, ◌≤◌, ◌^◌, true, false, not, List, [], ◌∷◌, ◌++◌, length, map}
use Rattle.std.proofs.Common.{take, drop, refl, append_assoc, length-append, Some, None, arith}
use Rattle.std.specs.Prelude.{◌==◌, nat_le, nat_lt, decimal, codes}
use Rattle.std.specs.List.{list_all, AllByRecursion}
use Rattle.std.specs.Option.{option_or}
use Rattle.std.proofs.lemmas.Bool.{and_parts}
use Rattle.std.proofs.lemmas.Bool.Decides.{nat_tests}
use Rattle.std.proofs.lemmas.List.{append-nil, take_at}
use Rattle.std.proofs.Math.Seq.{drop-append-add}
use Rattle.std.proofs.lemmas.List.Folds.{list_all-append}
use Rattle.za_text.specs.Lines.{RawLine, lines_of}
use Rattle.za_text.specs.Names.{is_name_byte}
use Rattle.za_text.specs.Numbers.{numeral_value}
use Rattle.za_lang.proofs.PlainItems.{name_bytes}
use Rattle.za_text.specs.Divided.{bytes_of_lines, lines_through, lines_after}
use Rattle.za_text.proofs.DividingLemmas.{bytes_of_lines_of}
use Rattle.za_alpha.specs.Alphabet.{DistributedAlphabet, IsDistributed, name_at, place_of}
use Rattle.za_script.specs.declared.answer.Answer.{Answer}
use Rattle.za_script.specs.declared.answer.Answer.TheVariants.{Accept, Reject, Stuck}
use Rattle.za_ids.proofs.Numbers.{cube-small}
use Rattle.za_write.specs.Events.{event_word}
use Rattle.za_lang.specs.declared.version.Version.{Version}
use Rattle.za_lang.specs.Documents as document
use Rattle.za_lang.specs.Jobs.{JobData}
use Rattle.za_lang.proofs.Saying.{said_version}
use Rattle.za_lang.proofs.Sound.{documents_are_jobs}
use Rattle.za_print.specs.Printed as job
use Rattle.za_print.proofs.PrintedLines.{CanPrint, is_inner, IsLine, printed_line, words_in_line, line_allowed, lines_of_text, name_word}
use Rattle.za_print.proofs.Decimals.{numeral_value-decimal, word-decimal}
use Rattle.za_print.proofs.Facts.{one_by_one, finds_letters}
use Rattle.za_print.proofs.ReadBack as jobs
use Rattle.za_claim.specs.declared.claim.Event.{Event}
use Rattle.za_claim.specs.declared.order.Place.TheVariants.{AtEvents, AfterEnd}
use Rattle.za_claim.specs.Audited.{is_end_line, lines_of_job, lines_of_claim, job_bytes, audited_fault, audited_job, audited_claim, claim_said}
use Rattle.za_claim.specs.Claims.{ClaimData, AreClaimedEvents, HasLabel, event_letters}
use Rattle.za_claim.specs.Grammar.{ToldClaim, told, claim_words_fault, claim_fault_at, claim_faults_from, event_fault, point_in, letter_in, label_in}
use Rattle.za_claim.specs.Laws.{ClaimsFollowDocuments, ClaimsAreReadBack}
use Rattle.za_claim.specs.Limits.{most_events}
use Rattle.za_claim.specs.Printed.{claim_line, fire_line, claim_lines, printed_claim}
use Rattle.za_claim.specs.Private.Reading.{more_claimed}
use Rattle.za_claim.proofs.Saying.{nothing_said, said_none, said_more}
use Rattle.za_lang.proofs.Ending.{IsFine, lines_again, both_fine, IsBlank, divided, not_yet, said_blank, blank_fine}

-- ---- events as words

no_point : (b : ℕ) → is_name_byte b ≡ true → not (b == 46) ≡ true
no_point b h = grind (arith, nat_tests)

point_behind : (bs rest : List ℕ) → list_all is_name_byte bs ≡ true → point_in (bs ++ 46 ∷ rest) ≡ length bs
point_behind [] rest h = refl
point_behind (b ∷ bs) rest h =
    let parts = and_parts (is_name_byte b) (list_all is_name_byte bs) h in
    let e = no_point b parts.0 in
    let later = point_behind bs rest parts.1 in
    rw (e, later) (omega arith)

below : (i n : ℕ) → i < n → nat_lt i n ≡ true
below i n h = grind (arith, nat_tests)

-- an event that can be claimed
record EventFits (alphabet : DistributedAlphabet) (e : Event) : Type 0 where
  letter : e.letter.0 < length alphabet.letters
  label : HasLabel alphabet e

module _ (alphabet : DistributedAlphabet) (whole : IsDistributed alphabet) (e : Event) (fits : EventFits alphabet e) where
  abbrev a : ℕ
  a = e.letter.0

  abbrev name : List ℕ
  name = name_at alphabet.letters a

  abbrev word : List ℕ
  word = name ++ 46 ∷ decimal e.label

  abbrev said_word : List ℕ
  said_word = event_word alphabet a e.label

  word_is : said_word ≡ word
  word_is = append_assoc name (codes ".") (decimal e.label)

  bytes : list_all is_name_byte name ≡ true
  bytes = name_bytes name (whole.names a fits.letter)

  small : e.label < 2 ^ 32
  small = let c = cube-small alphabet.processes whole.few_processes in let l = fits.label in omega arith

  point : point_in word ≡ length name
  point = point_behind name (decimal e.label) bytes

  letter_back : letter_in alphabet said_word ≡ Some a
  letter_back =
      ap (letter_in alphabet) word_is ∙ ap (λ n. place_of alphabet.letters (take n word)) point
      ∙ ap (place_of alphabet.letters) (take_at name (46 ∷ decimal e.label) (length name) refl)
      ∙ finds_letters alphabet whole a fits.letter

  label_back : label_in said_word ≡ Some e.label
  label_back =
      ap label_in word_is ∙ ap (λ n. numeral_value (drop (n + 1) word)) point ∙ ap numeral_value (drop-append-add name (46 ∷ decimal e.label) 1)
      ∙ numeral_value-decimal e.label small

  event_right : event_fault alphabet said_word ≡ None
  event_right =
      let inside : point_in said_word ≡ length name = ap point_in word_is ∙ point in
      let long : length said_word ≡ length word = ap length word_is in
      let longer = length-append name (46 ∷ decimal e.label) in
      let some : nat_lt (point_in said_word) (length said_word) ≡ true = below (point_in said_word) (length said_word) (omega arith) in
      let l = letter_back in
      let k = label_back in
      let le : nat_le e.label (alphabet.processes ^ 3) ≡ true = let f = fits.label in grind (arith, nat_tests) in
      rw (some, l, k, le) refl

  event_printed : CanPrint said_word
  event_printed =
      let n = name_word name (whole.names a fits.letter) in
      let d = word-decimal e.label small in
      let longer = length-append name (46 ∷ decimal e.label) in
      let has_some = n.some in
      subst CanPrint (sym word_is) (record { some = omega arith; inner = list_all-append is_inner name (46 ∷ decimal e.label) ∙ (rw (n.inner, d.inner) refl) })

all_fit : (alphabet : DistributedAlphabet) (events : List Event) → AllByRecursion (λ x. x < length alphabet.letters) (event_letters events)
    → AllByRecursion (HasLabel alphabet) events
    → AllByRecursion (EventFits alphabet) events
all_fit alphabet [] h k = tt
all_fit alphabet (e ∷ events) h k = (record { letter = h.0; label = k.0 }, all_fit alphabet events h.1 k.1)

-- ---- the lines of a claim

module _ (v : Version) (alphabet : DistributedAlphabet) (whole : IsDistributed alphabet) where
  -- after this the lines are right, one after the other, and come to that
  abbrev RunsTo : ToldClaim → List (List (List ℕ)) → ToldClaim → Type 0
  RunsTo s [] t = s ≡ t
  RunsTo s (ws ∷ wss) t = (claim_words_fault alphabet s ws ≡ None) × RunsTo (more_claimed alphabet s ws) wss t

  right_line : (s : ToldClaim) (ws : List (List ℕ)) → IsLine ws → claim_fault_at v alphabet s (printed_line ws) ≡ claim_words_fault alphabet s ws
  unfolding claim_fault_at
  right_line s ws h =
      let e = line_allowed ws h in
      let f = words_in_line v ws h in
      rw (e, f) refl

  runs_whole : (first : ℕ) (before : List RawLine) (s t : ToldClaim) (wss : List (List (List ℕ))) → AllByRecursion IsLine wss → told v alphabet before ≡ s
      → RunsTo s wss t → t.place ≡ AfterEnd
      → (claim_faults_from v alphabet first before (map printed_line wss) ≡ None) × (told v alphabet (before ++ map printed_line wss) ≡ t)
  runs_whole first before s t [] w h r e =
      let there : told v alphabet before ≡ t = h ∙ r in
      let place = ap (λ (x : ToldClaim). x.place) there ∙ e in
      (rw place refl, ap (told v alphabet) (append-nil before) ∙ there)
  runs_whole first before s t (ws ∷ wss) w h r e =
      let right : claim_fault_at v alphabet (told v alphabet before) (printed_line ws) ≡ None = rw h (right_line s ws w.0 ∙ r.0) in
      let says : told v alphabet (before ++ printed_line ws ∷ []) ≡ more_claimed alphabet s ws = said_more v alphabet before (printed_line ws)
      ∙ (rw (h, words_in_line v ws w.0) refl) in
      let later = runs_whole first (before ++ printed_line ws ∷ []) (more_claimed alphabet s ws) t wss w.1 says r.1 e in
      (rw right later.0, ap (told v alphabet) (sym (append_assoc before (printed_line ws ∷ []) (map printed_line wss))) ∙ later.1)

  abbrev claimed : Answer → List Event → ToldClaim
  claimed answer events = record { place = AtEvents; answer = answer; events = events }

  fire_right : (answer : Answer) (front : List Event) (e : Event) → EventFits alphabet e → length front < most_events
      → claim_words_fault alphabet (claimed answer front) (fire_line alphabet e) ≡ None
  fire_right answer front e fits room =
      let r : nat_le most_events (length front) ≡ false = grind (arith, nat_tests) in
      rw (r, event_right alphabet whole e fits) refl

  fire_said : (answer : Answer) (front : List Event) (e : Event) → EventFits alphabet e
      → more_claimed alphabet (claimed answer front) (fire_line alphabet e) ≡ claimed answer (front ++ e ∷ [])
  fire_said answer front e fits = let a = letter_back alphabet whole e fits in let k = label_back alphabet whole e fits in rw (a, k) refl

  fires_run : (answer : Answer) (front es : List Event) (ys : List (List (List ℕ))) (t : ToldClaim) → AllByRecursion (EventFits alphabet) es
      → length front + length es ≤ most_events → RunsTo (claimed answer (front ++ es)) ys t
      → RunsTo (claimed answer front) (map (fire_line alphabet) es ++ ys) t
  fires_run answer front [] ys t fit room r = subst (λ es. RunsTo (claimed answer es) ys t) (append-nil front) r
  fires_run answer front (e ∷ es) ys t fit room r =
      let n = length-append front (e ∷ []) in
      let later = fires_run answer (front ++ e ∷ []) es ys t fit.1 (omega arith)
      (subst (λ es. RunsTo (claimed answer es) ys t) (sym (append_assoc front (e ∷ []) es)) r) in
      (fire_right answer front e fit.0 (omega arith), subst (λ s. RunsTo s (map (fire_line alphabet) es ++ ys) t) (sym (fire_said answer front e fit.0)) later)

  claim_right : (answer : Answer) → claim_words_fault alphabet nothing_said (claim_line answer) ≡ None
  claim_right Accept = refl
  claim_right Reject = refl
  claim_right Stuck = refl

  claim_line_said : (answer : Answer) → claimed answer [] ≡ more_claimed alphabet nothing_said (claim_line answer)
  claim_line_said Accept = refl
  claim_line_said Reject = refl
  claim_line_said Stuck = refl

  answer_line : (answer : Answer) → IsLine (claim_line answer)
  answer_line Accept = (refl, (jobs.literal (codes "claim") refl refl, (jobs.literal (codes "accept") refl refl, tt)))
  answer_line Reject = (refl, (jobs.literal (codes "claim") refl refl, (jobs.literal (codes "reject") refl refl, tt)))
  answer_line Stuck = (refl, (jobs.literal (codes "claim") refl refl, (jobs.literal (codes "stuck") refl refl, tt)))

  fire_lines_are : (es : List Event) (ys : List (List (List ℕ))) → AllByRecursion (EventFits alphabet) es → AllByRecursion IsLine ys
      → AllByRecursion IsLine (map (fire_line alphabet) es ++ ys)
  fire_lines_are [] ys fit h = h
  fire_lines_are (e ∷ es) ys fit h =
      ((refl, (jobs.literal (codes "fire") refl refl, (event_printed alphabet whole e fit.0, tt))), fire_lines_are es ys fit.1 h)

  module _ (claim : ClaimData) (events : AreClaimedEvents alphabet claim.events) where
    fit : AllByRecursion (EventFits alphabet) claim.events
    fit =
        all_fit alphabet claim.events (one_by_one (λ x. x < length alphabet.letters) (event_letters claim.events) events.letters)
        (one_by_one (HasLabel alphabet) claim.events events.labels)

    claim_are_lines : AllByRecursion IsLine (claim_lines alphabet claim)
    claim_are_lines = (
      answer_line claim.answer,
      fire_lines_are claim.events ((codes "end" ∷ []) ∷ []) fit ((refl, (jobs.literal (codes "end") refl refl, tt)), tt),
    )

    abbrev ended : ToldClaim
    ended = record { place = AfterEnd; answer = claim.answer; events = claim.events }

    claim_runs : RunsTo nothing_said (claim_lines alphabet claim) ended
    claim_runs =
        let last : RunsTo (claimed claim.answer claim.events) ((codes "end" ∷ []) ∷ []) ended =
        (refl, ap (λ es. record { place = AfterEnd; answer = claim.answer; events = es }) (append-nil claim.events)) in (
          claim_right claim.answer,
          subst (λ s. RunsTo s (map (fire_line alphabet) claim.events ++ (codes "end" ∷ []) ∷ []) ended) (claim_line_said claim.answer)
              (fires_run claim.answer [] claim.events ((codes "end" ∷ []) ∷ []) ended fit (let h = events.short in omega arith) last),
        )

    claim_back : (first : ℕ) (before : List RawLine) → told v alphabet before ≡ nothing_said
        → (claim_faults_from v alphabet first before (map printed_line (claim_lines alphabet claim)) ≡ None)
        × (claim_said v alphabet (before ++ map printed_line (claim_lines alphabet claim)) ≡ claim)
    claim_back first before none =
        let run = runs_whole first before nothing_said ended (claim_lines alphabet claim) claim_are_lines none claim_runs refl in
        (run.0, ap (λ (s : ToldClaim). record { answer = s.answer; events = s.events }) run.1)

-- ---- blank lines before it

module _ (v : Version) (alphabet : DistributedAlphabet) where
  blank_right : (s : ToldClaim) (l : RawLine) → IsBlank v l → claim_fault_at v alphabet s l ≡ None
  unfolding claim_fault_at
  blank_right s l h =
      let whole = h.0.0 in
      let allowed = h.0.1 in
      let none = h.1 in
      rw (whole, allowed, none) refl

  told_blank : (before ls : List RawLine) → AllByRecursion (IsBlank v) ls → told v alphabet (before ++ ls) ≡ told v alphabet before
  told_blank before [] h = ap (told v alphabet) (append-nil before)
  told_blank before (l ∷ ls) h =
      ap (told v alphabet) (sym (append_assoc before (l ∷ []) ls)) ∙ told_blank (before ++ l ∷ []) ls h.1 ∙ said_more v alphabet before l
      ∙ ap (more_claimed alphabet (told v alphabet before)) h.0.1

  faults_blank : (first : ℕ) (before ls rest : List RawLine) → AllByRecursion (IsBlank v) ls
      → claim_faults_from v alphabet first before (ls ++ rest) ≡ claim_faults_from v alphabet first (before ++ ls) rest
  faults_blank first before [] rest h = ap (λ b. claim_faults_from v alphabet first b rest) (sym (append-nil before))
  faults_blank first before (l ∷ ls) rest h =
      let here = blank_right (told v alphabet before) l h.0 in
      rw here (faults_blank first (before ++ l ∷ []) ls rest h.1 ∙ ap (λ b. claim_faults_from v alphabet first b rest) (append_assoc before (l ∷ []) ls))

-- ---- the text

pub follow : ClaimsFollowDocuments
follow bytes claim right events =
    let all = lines_of bytes in
    let v = document.version_of all in
    let j = document.job_of bytes in
    let alphabet = j.lang.alphabet in
    let distributed = (documents_are_jobs bytes right).lang.distributed in
    let d = divided v [] all (not_yet v) right in
    let printed = printed_claim alphabet claim in
    let claimed = map printed_line (claim_lines alphabet claim) in
    let text = bytes ++ printed in
    let fine = subst (AllByRecursion IsFine) (sym d.split) (both_fine d.front d.back d.fine (blank_fine v d.back d.blank)) in
    let lines : lines_of text ≡ d.front ++ (d.back ++ claimed) =
    ap (λ b. lines_of (b ++ printed)) (sym (bytes_of_lines_of bytes)) ∙ lines_again all printed fine
    ∙ ap (λ ls. all ++ ls) (lines_of_text (claim_lines alphabet claim) (claim_are_lines v alphabet distributed claim events))
    ∙ ap (λ ls. ls ++ claimed) d.split ∙ append_assoc d.front d.back claimed in
    let cut : lines_of_job text ≡ d.front = ap (lines_through is_end_line) lines ∙ d.through (d.back ++ claimed) in
    let later : lines_of_claim text ≡ d.back ++ claimed = ap (lines_after is_end_line) lines ∙ d.after (d.back ++ claimed) in
    let job_lines : lines_of (job_bytes text) ≡ d.front =
    ap (λ ls. lines_of (bytes_of_lines ls)) cut ∙ ap lines_of (sym (append-nil (bytes_of_lines d.front))) ∙ lines_again d.front [] d.fine
    ∙ append-nil d.front in
    let version : document.version_of d.front ≡ v = sym (d.version d.back) ∙ ap document.version_of (sym d.split) in
    let job_right : document.fault_of (job_bytes text) ≡ None =
    ap (λ ls. document.faults_from (document.version_of ls) [] ls) job_lines ∙ ap (λ u. document.faults_from u [] d.front) version ∙ d.right in
    let said_job : audited_job text ≡ j =
    ap (λ ls. document.job_said (document.said (document.version_of ls) ls)) job_lines ∙ ap (λ u. document.job_said (document.said u d.front)) version
    ∙ ap document.job_said (sym (said_blank v d.front d.back d.blank) ∙ ap (document.said v) (sym d.split)) in
    let own : j.naming.version ≡ v = said_version v all in
    let first = length (lines_of_job text) in
    let none = told_blank v alphabet [] d.back d.blank ∙ said_none v alphabet in
    let back = claim_back v alphabet distributed claim events first d.back none in (
      ap (λ o. option_or o (claim_faults_from (audited_job text).naming.version (audited_job text).lang.alphabet first [] (lines_of_claim text))) job_right
          ∙ ap (λ (x : JobData). claim_faults_from x.naming.version x.lang.alphabet first [] (lines_of_claim text)) said_job
          ∙ ap (λ u. claim_faults_from u alphabet first [] (lines_of_claim text)) own
          ∙ ap (claim_faults_from v alphabet first []) later ∙ faults_blank v alphabet first [] d.back claimed d.blank ∙ back.0,
      said_job,
      ap (λ (x : JobData). claim_said x.naming.version x.lang.alphabet (lines_of_claim text)) said_job
          ∙ ap (λ u. claim_said u alphabet (lines_of_claim text)) own ∙ ap (claim_said v alphabet) later ∙ back.1,
    )

-- so is a printed job
pub read_back : ClaimsAreReadBack
read_back j claim whole events =
    let back = jobs.read_back j whole in
    let text = λ (x : JobData). job.printed j ++ printed_claim x.lang.alphabet claim in
    subst (λ (x : JobData). (audited_fault (text x) ≡ None) × (audited_job (text x) ≡ x) × (audited_claim (text x) ≡ claim)) back.1
    (follow (job.printed j) claim back.0 (subst (λ (x : JobData). AreClaimedEvents x.lang.alphabet claim.events) (sym back.1) events))
