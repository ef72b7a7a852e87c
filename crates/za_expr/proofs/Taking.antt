-- Lines that are taken as the reader of version 2 takes them.
use Rattle.std.proofs.Common.{◌≡◌, ◌∙◌, ap, sym, subst, refl, ℕ, true, false, List, [], ◌∷◌, ◌++◌, length, None}
use Rattle.std.specs.Prelude.{Result, Ok, Err, MatchResult, OnOk}
use Rattle.std.specs.Option.{option_or}
use Rattle.std.proofs.lemmas.List.{append-nil}
use Rattle.za_alpha.specs.Alphabet.{DistributedAlphabet, NamedLetter}
use Rattle.za_alpha.proofs.RowLemmas.{none_of_or}
use Rattle.za_form.specs.Expressions.{IsExpressionOf}
use Rattle.za_form.specs.Automata.{IsValueDfa}
use Rattle.za_lang.specs.declared.fault.Refusal.{Refusal}
use Rattle.za_lang.specs.declared.order.Head.{Head}
use Rattle.za_lang.specs.declared.order.Head.TheVariants as head
use Rattle.za_lang.specs.declared.order.Place.{Place}
use Rattle.za_lang.specs.declared.order.Place.TheVariants.{AtHeader, AtProcesses, AtFirstLetter, AtLetters, AtStart, AtAccept, AtRows, AtScripts, AfterEnd}
use Rattle.za_lang.specs.declared.reading.Reading.{Reading}
use Rattle.za_lang.specs.declared.reading.Reading.TheVariants as reading
use Rattle.za_lang.specs.declared.version.Version.{Version}
use Rattle.za_lang.specs.declared.version.Version.TheVariants.{Two}
use Rattle.za_lang.specs.Answers.{data_of}
use Rattle.za_lang.specs.Jobs.{JobData}
use Rattle.za_lang.specs.Namings.{Naming}
use Rattle.za_lang.specs.Order.{head_of, next_place, order_fault}
use Rattle.za_lang.specs.Tests.{script_line_fault}
use Rattle.za_lang.specs.Documents.{Said, Step, lang_said, own_fault, steps_said, words_fault, version_said}
use Rattle.za_lang.specs.Gathering.{more_said, IsWrong, Tells}
use Rattle.za_lang.specs.Reading.{reading_place, is_late, Awaits, IsReading, Keeps}
use Rattle.za_lang.proofs.Keeping.{kept_place}
use Rattle.za_expr.specs.Built.{alphabet_said}
use Rattle.za_expr.specs.Documents.{tokens_by}
use Rattle.za_expr.specs.Private.Keeping.{begins_table, is_after, is_header_place, more_with, IsEarly, IsGoing, KeepsWith}
use Rattle.za_expr.proofs.Places.{early_place, more_next, no_tokens}

-- what the reader of version 2 says of a line
abbrev pub IsTakenAs : Result (Unit {0}) Refusal → Reading → Reading → Head → List (List ℕ) → Type 0
IsTakenAs result old new head words =
    (s : Said) → Keeps old s → Awaits old (version_said head words) s.naming.version →
    MatchResult result
    (λ _. (option_or (order_fault s.place head) (own_fault s head words) ≡ None)
    × Keeps new (more_said s head words)
    × ((later version : Version) → Awaits new later version))
    (IsWrong (option_or (order_fault s.place head) (own_fault s head words)))

-- ---- up to the letters

-- a line without a table leads to no late place
still_early : (place : Place) (h : Head) → is_late place ≡ false → is_header_place place ≡ false → begins_table place h ≡ false → order_fault place h ≡ None →
    is_late (next_place place h) ≡ false
still_early AtProcesses head.Processes late header table order = refl
still_early AtProcesses _ late header table order = absurd (cc)
still_early AtFirstLetter head.Letter late header table order = refl
still_early AtFirstLetter _ late header table order = absurd (cc)
still_early AtLetters head.Letter late header table order = refl
still_early AtLetters _ late header table order = absurd (cc)
still_early AtHeader _ late header table order = absurd (cc)
still_early AtStart _ late header table order = absurd (cc)
still_early AtAccept _ late header table order = absurd (cc)
still_early AtRows _ late header table order = absurd (cc)
still_early AtScripts _ late header table order = absurd (cc)
still_early AfterEnd _ late header table order = absurd (cc)

kept_early : (new : Reading) (s : Said) (tokens : List (List ℕ)) → IsReading new → Keeps new s → is_late s.place ≡ false → s.naming.version ≡ Two →
    tokens ≡ [] → KeepsWith new s tokens
kept_early reading.Header s tokens whole keeps early version none = record { keeps = keeps; version = version; none = none }
kept_early (reading.Processes v) s tokens whole keeps early version none = record { keeps = keeps; version = version; none = none }
kept_early (reading.Letters v names letters) s tokens whole keeps early version none = record { keeps = keeps; version = version; none = none }
kept_early (reading.Body place job) s tokens whole keeps early version none = absurd (let e : true ≡ false = sym whole.0 ∙ ap is_late keeps.0 ∙ early in cc)

-- what a right line leaves
early_next : (new : Reading) (s : Said) (tokens : List (List ℕ)) (word : List ℕ) (words : List (List ℕ)) → IsReading new → tokens ≡ [] →
    s.naming.version ≡ Two →
    is_late s.place ≡ false → is_header_place s.place ≡ false → begins_table s.place (head_of word) ≡ false →
    words_fault s (word ∷ words) ≡ None → Keeps new (more_said s (head_of word) words) →
    KeepsWith new (more_with s (word ∷ words)) (tokens ++ tokens_by (word ∷ words))
early_next new s tokens word words whole none version late header table right keeps =
    let order = (none_of_or (order_fault s.place (head_of word)) (own_fault s (head_of word) words) right).0 in
    let next = kept_early new (more_said s (head_of word) words) [] whole keeps (still_early s.place (head_of word) late header table order) version refl in
    let empty : tokens ++ tokens_by (word ∷ words) ≡ [] = ap (λ ts. ts ++ tokens_by (word ∷ words)) none ∙ no_tokens s.place word words order in
    subst (λ (t : Said). KeepsWith new t (tokens ++ tokens_by (word ∷ words))) (sym (more_next s word words order))
    (subst (λ ts. KeepsWith new (more_said s (head_of word) words) ts) (sym empty) next)

plainly_early : (result : Result (Unit {0}) Refusal) (old new : Reading) (s : Said) (tokens : List (List ℕ)) (word : List ℕ) (words : List (List ℕ)) →
    OnOk result (IsReading new) →
    IsEarly old s tokens → is_late (reading_place old) ≡ false → is_header_place (reading_place old) ≡ false →
    begins_table (reading_place old) (head_of word) ≡ false →
    ((t : Said) → Keeps old t → MatchResult result
    (λ _. (words_fault t (word ∷ words) ≡ None) × Keeps new (more_said t (head_of word) words) × ((later version : Version) → Awaits new later version))
    (IsWrong (words_fault t (word ∷ words)))) →
    MatchResult result
    (λ _. (words_fault s (word ∷ words) ≡ None) × KeepsWith new (more_with s (word ∷ words)) (tokens ++ tokens_by (word ∷ words)))
    (IsWrong (words_fault s (word ∷ words)))
plainly_early (Ok u) old new s tokens word words whole h late header table taken =
    let place : reading_place old ≡ s.place = kept_place old s h.keeps in
    let t = taken s h.keeps in (
      t.0,
      early_next new s tokens word words whole h.none h.version (ap is_late (sym place) ∙ late) (ap is_header_place (sym place) ∙ header)
          (ap (λ p. begins_table p (head_of word)) (sym place) ∙ table) t.0 t.1,
    )
plainly_early (Err e) old new s tokens word words whole h late header table taken = taken s h.keeps

-- ---- after the `expr` line

-- a line of scripts has the tests of what the lines say
same_fault : (place : Place) (t s : Said) (h : Head) (words : List (List ℕ)) → is_after place ≡ true → t.naming ≡ s.naming → t.letters ≡ s.letters →
    t.steps ≡ s.steps →
    option_or (order_fault place h) (own_fault t h words) ≡ option_or (order_fault place h) (own_fault s h words)
same_fault AtScripts t s head.Script words after naming letters steps =
    ap (λ (n : Naming). script_line_fault n t.letters (length t.steps) words) naming
    ∙ ap (λ (ls : List NamedLetter). script_line_fault s.naming ls (length t.steps) words) letters
    ∙ ap (λ (xs : List Step). script_line_fault s.naming s.letters (length xs) words) steps
same_fault AtScripts t s head.End words after naming letters steps = refl
same_fault AtScripts t s _ words after naming letters steps = refl
same_fault AfterEnd t s h words after naming letters steps = refl
same_fault AtHeader t s h words after naming letters steps = absurd (cc)
same_fault AtProcesses t s h words after naming letters steps = absurd (cc)
same_fault AtFirstLetter t s h words after naming letters steps = absurd (cc)
same_fault AtLetters t s h words after naming letters steps = absurd (cc)
same_fault AtStart t s h words after naming letters steps = absurd (cc)
same_fault AtAccept t s h words after naming letters steps = absurd (cc)
same_fault AtRows t s h words after naming letters steps = absurd (cc)

-- what a line of scripts leaves as it was
record IsScriptHead (h : Head) : Type 0 where
  after : (place : Place) → is_after (next_place place h) ≡ true
  naming : (s : Said) (words : List (List ℕ)) → (more_said s h words).naming ≡ s.naming
  letters : (s : Said) (words : List (List ℕ)) → (more_said s h words).letters ≡ s.letters
  lang : (s : Said) (words : List (List ℕ)) → lang_said (more_said s h words) ≡ lang_said s

script_head : (place : Place) (h : Head) → is_after place ≡ true → order_fault place h ≡ None → IsScriptHead h
script_head AtScripts head.Script after order =
    record { after = λ p. refl; naming = λ s words. refl; letters = λ s words. append-nil s.letters; lang = λ s words. simp append-nil }
script_head AtScripts head.End after order =
    record { after = λ p. refl; naming = λ s words. refl; letters = λ s words. append-nil s.letters; lang = λ s words. simp append-nil }
script_head AtScripts _ after order = absurd (cc)
script_head AfterEnd _ after order = absurd (cc)
script_head AtHeader _ after order = absurd (cc)
script_head AtProcesses _ after order = absurd (cc)
script_head AtFirstLetter _ after order = absurd (cc)
script_head AtLetters _ after order = absurd (cc)
script_head AtStart _ after order = absurd (cc)
script_head AtAccept _ after order = absurd (cc)
script_head AtRows _ after order = absurd (cc)

-- what a right line leaves
going_next : (place : Place) (old : JobData) (at : Place) (job : JobData) (s : Said) (tokens : List (List ℕ)) (h : Head) (words : List (List ℕ))
    (g : IsGoing place old s tokens) →
    order_fault place h ≡ None → at ≡ (more_said g.told h words).place → Tells job (more_said g.told h words) →
    IsGoing at job (more_said s h words) tokens
going_next place old at job s tokens h words g order here tells =
    let k = script_head place h g.after order in
    let steps : g.told.steps ++ steps_said g.told.naming g.told.letters h words ≡ s.steps ++ steps_said s.naming s.letters h words =
    ap (λ (n : Naming). g.told.steps ++ steps_said n g.told.letters h words) g.naming
    ∙ ap (λ (ls : List NamedLetter). g.told.steps ++ steps_said s.naming ls h words) g.letters
    ∙ ap (λ (xs : List Step). xs ++ steps_said s.naming s.letters h words) g.steps in
    let letters = k.letters s words in
    let said : alphabet_said (more_said s h words) ≡ alphabet_said s =
    ap (λ (n : Naming). let a : DistributedAlphabet = record { processes = length n.names; letters = (more_said s h words).letters } in a) (k.naming s words)
    ∙ ap (λ (ls : List NamedLetter). let a : DistributedAlphabet = record { processes = length s.naming.names; letters = ls } in a) letters in
    record {
      at = here ∙ ap (λ p. next_place p h) (sym g.told_at ∙ g.at);
      after = ap is_after here ∙ k.after g.told.place;
      told = more_said g.told h words;
      tells = tells;
      told_at = here;
      naming = k.naming g.told words ∙ g.naming ∙ sym (k.naming s words);
      letters = k.letters g.told words ∙ g.letters ∙ sym letters;
      steps = steps;
      signs = g.signs;
      expression = subst (λ ls. IsExpressionOf ls tokens g.signs) (sym letters) g.expression;
      dfa = g.dfa;
      values = subst (λ a. IsValueDfa a g.signs g.dfa) (sym said) g.values;
      lang = k.lang g.told words ∙ g.lang;
    }

after_late : (place : Place) → is_after place ≡ true → is_late place ≡ true
after_late AtScripts h = refl
after_late AfterEnd h = refl
after_late AtHeader h = absurd (cc)
after_late AtProcesses h = absurd (cc)
after_late AtFirstLetter h = absurd (cc)
after_late AtLetters h = absurd (cc)
after_late AtStart h = absurd (cc)
after_late AtAccept h = absurd (cc)
after_late AtRows h = absurd (cc)

-- a reading of what lines after the `expr` line say is a body
late_body : (r : Reading) (t : Said) → Keeps r t → is_late t.place ≡ true → is_late (reading_place r) ≡ false → ⊥
late_body r t keeps late early = let e : true ≡ false = sym late ∙ ap is_late (sym (kept_place r t keeps)) ∙ early in cc

kept_late : (new : Reading) (place : Place) (old : JobData) (s : Said) (tokens : List (List ℕ)) (h : Head) (words : List (List ℕ))
    (g : IsGoing place old s tokens) →
    order_fault place h ≡ None → Keeps new (more_said g.told h words) → KeepsWith new (more_said s h words) tokens
kept_late (reading.Body at job) place old s tokens h words g order keeps = going_next place old at (data_of job) s tokens h words g order keeps.0 keeps.1
kept_late reading.Header place old s tokens h words g order keeps =
    absurd (late_body reading.Header (more_said g.told h words) keeps
    (after_late (next_place g.told.place h) ((script_head place h g.after order).after g.told.place)) (early_place reading.Header tt))
kept_late (reading.Processes v) place old s tokens h words g order keeps =
    absurd (late_body (reading.Processes v) (more_said g.told h words) keeps
    (after_late (next_place g.told.place h) ((script_head place h g.after order).after g.told.place)) (early_place (reading.Processes v) tt))
kept_late (reading.Letters v names letters) place old s tokens h words g order keeps =
    absurd (late_body (reading.Letters v names letters) (more_said g.told h words) keeps
    (after_late (next_place g.told.place h) ((script_head place h g.after order).after g.told.place)) (early_place (reading.Letters v names letters) tt))

going_words : (new : Reading) (place : Place) (old : JobData) (s : Said) (tokens : List (List ℕ)) (word : List ℕ) (words : List (List ℕ))
    (g : IsGoing place old s tokens) →
    words_fault s (word ∷ words) ≡ None → Keeps new (more_said g.told (head_of word) words) →
    KeepsWith new (more_with s (word ∷ words)) (tokens ++ tokens_by (word ∷ words))
going_words new place old s tokens word words g right keeps =
    let order = (none_of_or (order_fault s.place (head_of word)) (own_fault s (head_of word) words) right).0 in
    let there : order_fault place (head_of word) ≡ None = ap (λ p. order_fault p (head_of word)) g.at ∙ order in
    let next = kept_late new place old s tokens (head_of word) words g there keeps in
    let same : tokens ++ tokens_by (word ∷ words) ≡ tokens = ap (λ ts. tokens ++ ts) (no_tokens s.place word words order) ∙ append-nil tokens in
    subst (λ (t : Said). KeepsWith new t (tokens ++ tokens_by (word ∷ words))) (sym (more_next s word words order))
    (subst (λ ts. KeepsWith new (more_said s (head_of word) words) ts) (sym same) next)

told_fault : (place : Place) (old : JobData) (s : Said) (tokens : List (List ℕ)) (word : List ℕ) (words : List (List ℕ)) (g : IsGoing place old s tokens) →
    words_fault g.told (word ∷ words) ≡ words_fault s (word ∷ words)
told_fault place old s tokens word words g =
    let h = head_of word in
    ap (λ p. option_or (order_fault p h) (own_fault g.told h words)) (sym g.told_at)
    ∙ same_fault place g.told s h words g.after g.naming g.letters g.steps
    ∙ ap (λ p. option_or (order_fault p h) (own_fault s h words)) g.at

plainly_going : (result : Result (Unit {0}) Refusal) (new : Reading) (place : Place) (old : JobData) (s : Said) (tokens : List (List ℕ)) (word : List ℕ)
    (words : List (List ℕ)) (g : IsGoing place old s tokens) →
    MatchResult result
    (λ _. (words_fault g.told (word ∷ words) ≡ None) × Keeps new (more_said g.told (head_of word) words)
    × ((later version : Version) → Awaits new later version))
    (IsWrong (words_fault g.told (word ∷ words))) →
    MatchResult result
    (λ _. (words_fault s (word ∷ words) ≡ None) × KeepsWith new (more_with s (word ∷ words)) (tokens ++ tokens_by (word ∷ words)))
    (IsWrong (words_fault s (word ∷ words)))
plainly_going (Ok u) new place old s tokens word words g t =
    let right = sym (told_fault place old s tokens word words g) ∙ t.0 in
    (right, going_words new place old s tokens word words g right t.1)
plainly_going (Err e) new place old s tokens word words g t = subst (λ f. IsWrong f e) (told_fault place old s tokens word words g) t

-- ---- each line

pub plainly : (result : Result (Unit {0}) Refusal) (old new : Reading) (s : Said) (tokens : List (List ℕ)) (word : List ℕ) (words : List (List ℕ)) →
    OnOk result (IsReading new) →
    is_header_place (reading_place old) ≡ false → begins_table (reading_place old) (head_of word) ≡ false →
    IsTakenAs result old new (head_of word) words → KeepsWith old s tokens →
    MatchResult result
    (λ _. (words_fault s (word ∷ words) ≡ None) × KeepsWith new (more_with s (word ∷ words)) (tokens ++ tokens_by (word ∷ words)))
    (IsWrong (words_fault s (word ∷ words)))
plainly result reading.Header new s tokens word words whole header table taken h = absurd (cc)
plainly result (reading.Processes v) new s tokens word words whole header table taken h =
    plainly_early result (reading.Processes v) new s tokens word words whole h (early_place (reading.Processes v) tt) header table (λ t keeps. taken t keeps tt)
plainly result (reading.Letters v names letters) new s tokens word words whole header table taken h =
    plainly_early result (reading.Letters v names letters) new s tokens word words whole h (early_place (reading.Letters v names letters) tt) header table
    (λ t keeps. taken t keeps tt)
plainly result (reading.Body place job) new s tokens word words whole header table taken h =
    plainly_going result new place (data_of job) s tokens word words h (taken h.told (h.told_at, h.tells) tt)
