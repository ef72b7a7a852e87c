use Rattle.std.proofs.Common.{◌≡◌, ◌∙◌, ◌<◌, length, List, ℕ, Some, None, ap, sym, subst, rules, arith}
use Rattle.std.specs.Option.{option_or}
use Rattle.za_alpha.specs.Alphabet.{DistributedAlphabet}
use Rattle.za_script.specs.ScriptLists.{total_of}
use Rattle.za_lang.specs.Answers.{data_of}
use Rattle.za_lang.specs.declared.order.Head.TheVariants as head
use Rattle.za_lang.specs.declared.version.Version.{Version}
use Rattle.za_lang.specs.Items.{letters_of_items}
use Rattle.za_lang.specs.Namings.{Naming}
use Rattle.za_lang.specs.Gathering.{more_said, AreAdded, Tells}
use Rattle.za_lang.specs.Tests.{items_fault, script_items_fault, script_line_fault, process_at, process_fault, process_meant, process_wrong}
use Rattle.za_lang.proofs.Added.{added_fit}
use Rattle.za_lang.proofs.Telling.{script_told}
use Rattle.za_lang.proofs.gather.take_script.Goals as goal

-- what is said of a word by the version and the names is said of it by the naming
by_naming : {X : Type 0} (f : Version → List (List ℕ) → X) (v : Version) (names : List (List ℕ)) (old naming : Naming) → v ≡ old.version → names ≡ old.names →
    old ≡ naming →
    f naming.version naming.names ≡ f v names
by_naming f v names old naming version same told =
    ap (λ (m : Naming). f m.version m.names) (sym told) ∙ ap (λ u. f u old.names) (sym version) ∙ ap (λ ns. f v ns) (sym same)

pub returns-in_err-p-clause-taken : goal.returns-in_err-p-clause-taken
returns-in_err-p-clause-taken c s h =
    let word = c.in-Some.word.now in
    let rest = c.next.new.self in
    let v = c.lines_version-version.result in
    let wrong : process_fault s.naming word ≡ Some c.in_err-p.field-0.0 =
    by_naming (λ u ns. process_wrong u ns word) v c.names.result.now c.args.job.now.lang.naming s.naming c.lines_version-version.ensures c.names.ensures.value
    h.naming ∙ c.in_err-p.ensures in
    let fault : script_line_fault s.naming s.letters (length s.steps) c.args.words ≡ Some c.in_err-p.field-0.0 =
    ap (script_line_fault s.naming s.letters (length s.steps)) c.in-Some.ensures
    ∙ ap (λ o. option_or o (script_items_fault s.naming.version s.letters (length s.steps) (process_at s.naming word) rest)) wrong in
    search (rules, fault)

pub returns-clause-whole : goal.returns-clause-whole
returns-clause-whole c =
    let job = c.args.job.now in
    let p = c.in_ok-p.p in
    let v = c.lines_version-version.result in
    let alphabets = c.alphabet.ensures in
    let letters : DistributedAlphabet → List ℕ = λ (a : DistributedAlphabet). letters_of_items v a.letters c.next.new.self in
    let inside : p < length job.scripts =
    let f = c.requires.fit.processes in let n = c.requires.naming.size in let same = ap (λ (ns : List (List ℕ)). length ns) c.names.ensures.value in let k =
    c.in_ok-p.ensures.2 in omega arith in
    let added : AreAdded job.lang.table.alphabet job.scripts c.add_items.new.scripts p (letters job.lang.table.alphabet) =
    subst (λ (a : DistributedAlphabet). AreAdded a job.scripts c.add_items.new.scripts p (letters a)) alphabets c.in_ok-add_items.ensures.1 in
    record {
      naming = c.requires.naming;
      lang = c.requires.lang;
      limits = c.requires.limits;
      scripts = added.limits;
      fit = added_fit job.lang.table.alphabet job.scripts c.add_items.new.scripts p (letters job.lang.table.alphabet) inside added c.requires.fit;
    }

pub returns-clause-taken : goal.returns-clause-taken
returns-clause-taken c s h =
    let job = c.args.job.now in
    let alphabet = job.lang.table.alphabet in
    let p = c.in_ok-p.p in
    let word = c.in-Some.word.now in
    let rest = c.next.new.self in
    let v = c.lines_version-version.result in
    let read = length s.steps in
    let new = c.add_items.new.scripts in
    let alphabets = c.alphabet.ensures in
    let letters : c.alphabet.result.now.letters ≡ s.letters = ap (λ (a : DistributedAlphabet). a.letters) alphabets ∙ h.letters in
    let version : v ≡ s.naming.version = c.lines_version-version.ensures ∙ ap (λ (m : Naming). m.version) h.naming in
    let inside : p < length job.scripts =
    let f = c.requires.fit.processes in let n = c.requires.naming.size in let same = ap (λ (ns : List (List ℕ)). length ns) c.names.ensures.value in let k =
    c.in_ok-p.ensures.2 in omega arith in
    let half : AreAdded alphabet job.scripts new p (letters_of_items v c.alphabet.result.now.letters rest) =
    subst (λ (a : DistributedAlphabet). AreAdded a job.scripts new p (letters_of_items v c.alphabet.result.now.letters rest)) alphabets
    c.in_ok-add_items.ensures.1 in
    let added : AreAdded alphabet job.scripts new p (letters_of_items s.naming.version s.letters rest) =
    subst (λ u. AreAdded alphabet job.scripts new p (letters_of_items u s.letters rest)) version
    (subst (λ ls. AreAdded alphabet job.scripts new p (letters_of_items v ls rest)) letters half) in
    let none : process_fault s.naming word ≡ None =
    by_naming (λ u ns. process_wrong u ns word) v c.names.result.now job.lang.naming s.naming c.lines_version-version.ensures c.names.ensures.value h.naming
    ∙ c.in_ok-p.ensures.0 in
    let meant : process_at s.naming word ≡ Some p =
    by_naming (λ u ns. process_meant u ns word) v c.names.result.now job.lang.naming s.naming c.lines_version-version.ensures c.names.ensures.value h.naming
    ∙ c.in_ok-p.ensures.1 in
    let right : items_fault s.naming.version s.letters p read rest ≡ None =
    ap (λ u. items_fault u s.letters p read rest) (sym version) ∙ ap (λ n. items_fault v s.letters p n rest) (sym h.total)
    ∙ ap (λ ls. items_fault v ls p (total_of job.scripts) rest) (sym letters) ∙ c.in_ok-add_items.ensures.0 in (
      ap (script_line_fault s.naming s.letters read) c.in-Some.ensures
          ∙ ap (λ o. option_or o (script_items_fault s.naming.version s.letters read (process_at s.naming word) rest)) none
          ∙ ap (λ o. script_items_fault s.naming.version s.letters read o rest) meant ∙ right,
      subst (λ ws. Tells (record (data_of job) { scripts = new }) (more_said s head.Script ws)) (sym c.in-Some.ensures)
          (script_told (data_of job) new s word rest p h inside meant added),
    )
