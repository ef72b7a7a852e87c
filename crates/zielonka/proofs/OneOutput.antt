-- For a command and bytes one status and one text are due.
use Rattle.std.proofs.Common.{◌≡◌, ℕ, true, false, List, length, Option, Some, None, sym, ap, subst, ◌∙◌, refl}
use Rattle.std.specs.Prelude.{unwrap_or, is_some}
use Rattle.za_alpha.specs.Words.{IsWord}
use Rattle.za_alpha.specs.Alphabet.{DistributedAlphabet, loc_of}
use Rattle.za_dfa.specs.Automata.{Automaton, IsTraceClosed}
use Rattle.za_dfa.specs.Tables.{CompleteDfa, automaton_of}
use Rattle.za_min.specs.Minimal.{MinimalDfa, IsMinimalOf}
use Rattle.za_min.proofs.Canonical.{minimal_dfas_are_one}
use Rattle.za_closure.specs.Breaks.{Break, IsLeastBreak, left_word, right_word}
use Rattle.za_closure.proofs.BreakLemmas.{least_breaks_are_one}
use Rattle.za_closure.proofs.ClosedLemmas.{closed_is_unbroken}
use Rattle.za_text.specs.declared.kind.TextFault.{TextFault}
use Rattle.za_lang.specs.Jobs.{JobData, IsJob}
use Rattle.za_claim.specs.Claims.{ClaimData}
use Rattle.za_audit.specs.Verdicts.{IsVerdict}
use Rattle.za_audit.proofs.VerdictLemmas.{verdicts_are_one}
use Rattle.za_report.specs.Audits.{audit_text}
use Rattle.za_script.specs.declared.answer.Answer.{Answer}
use Rattle.za_script.specs.declared.answer.Answer.TheVariants.{Accept, Reject, Stuck}
use Rattle.za_script.specs.Answer.{IsAnswer}
use Rattle.za_script.specs.ScriptLists.{script_of}
use Rattle.za_hope.proofs.Hoping.{hopes_are_one}
use Rattle.za_hope.specs.Jobs.{HasHope}
use Rattle.za_report.specs.Texts.{answer_text, check_text, open_text, refused_text}
use Rattle.za_freeze.specs.Thawing.{reading_fault, frozen_job, not_own_fault, IsNotOwn}
use Rattle.za_freeze.proofs.Undone.{automaton-one}
use Rattle.zielonka.specs.declared.request.Command.{Command}
use Rattle.zielonka.specs.declared.request.Command.TheVariants.{Solo, Run, Check, Locals, Audit, Thaw}
use Rattle.za_report.specs.LocalStates.{locals_text}
use Rattle.zielonka.specs.Output.{IsAnswered, Ran, RanOnThreads, Checked, Told, Recorded, Audited, Thawed, IsDueFor, Open, Answered, IsOutput, Refused, NotOwn}
use Rattle.zielonka.specs.Output.{Read, IsOwn, SubjectData, subject_of, fault_for, given, woven_of, status_of, status_of_verdict}
use Rattle.zielonka.specs.Laws.{tells_the_order, OutputIsOne, ThreadsAnswerAsOne}

-- one status and one text, unless it tells the order
abbrev IsOne : (command : Command) (s t : ℕ) (x y : List ℕ) → Type 0
IsOne command s t x y = (s ≡ t) × (tells_the_order command ≡ false → x ≡ y)

both-one : (command : Command) (s t : ℕ) (x y : List ℕ) → s ≡ t → x ≡ y → IsOne command s t x y
both-one command s t x y status text = (status, λ h. text)

-- of two minimal automata of one language
minimal-one : (d e other : CompleteDfa) → IsMinimalOf d other → IsMinimalOf e other → d ≡ e
minimal-one d e other m n =
    let same : d.alphabet ≡ e.alphabet = m.alphabet ∙ sym n.alphabet in
    ap (λ (k : MinimalDfa). k.dfa)
    (minimal_dfas_are_one (record { dfa = d; access = m.access }) (record { dfa = e; access = n.access }) m.complete n.complete
    (record { minimal = m.minimal; numbered = m.numbered }) (record { minimal = n.minimal; numbered = n.numbered }) same
    (λ w h. m.language w h ∙ sym (n.language w (subst (λ (a : DistributedAlphabet). IsWord (length a.letters) w) same h))))

-- of two answers to scripts
pub answer-one : (loc : ℕ → List ℕ) (d : Automaton) (scripts : ℕ → List ℕ) (a b : Answer) → IsAnswer loc d scripts a → IsAnswer loc d scripts b → a ≡ b
answer-one loc d scripts Accept Accept g h = refl
answer-one loc d scripts Accept Reject g h = let f = h.1 g.0 g.1 in let t = g.2 in let both : true ≡ false = sym t ∙ f in cc
answer-one loc d scripts Accept Stuck g h = absurd (h g.0 g.1)
answer-one loc d scripts Reject Accept g h = let f = g.1 h.0 h.1 in let t = h.2 in let both : true ≡ false = sym t ∙ f in cc
answer-one loc d scripts Reject Reject g h = refl
answer-one loc d scripts Reject Stuck g h = absurd (h g.0.0 g.0.1)
answer-one loc d scripts Stuck Accept g h = absurd (g h.0 h.1)
answer-one loc d scripts Stuck Reject g h = absurd (g h.0.0 h.0.1)
answer-one loc d scripts Stuck Stuck g h = refl

-- what is due for a job by its number of states, by the automaton, by the answer, by the verdict
answered-one : (job : JobData) (claim : Option ClaimData) (command : Command) (s t : ℕ) (x y : List ℕ) → IsAnswered job claim command s x →
    IsAnswered job claim command t y →
    IsOne command s t x y
answered-one job claim command s t x y (Ran cache a g right goes) (Ran same b h also too) =
    let loc = loc_of job.lang.alphabet in
    let d = automaton_of (given job) in
    let one = answer-one loc d _ a b right also in
    let hope : g ≡ h = hopes_are_one loc job.lang.alphabet.processes d (script_of job.scripts) b g h (subst (λ (k : Answer). HasHope job k g) one goes) too in
    both-one (Solo cache) s t x y (ap status_of one)
    (ap (λ k. answer_text job.naming.names job.lang.alphabet job.scripts (woven_of job) k g cache) one
    ∙ ap (λ k. answer_text job.naming.names job.lang.alphabet job.scripts (woven_of job) b k cache) hope)
answered-one job claim command s t x y (RanOnThreads cache status text one) (RanOnThreads same other said two) =
    let same = answered-one job claim (Solo cache) status other text said one two in both-one (Run cache) status other text said same.0 (same.1 refl)
answered-one job claim command s t x y (Checked cache d m) (Checked same e n) =
    both-one (Check cache) 0 0 x y refl (ap (λ (k : CompleteDfa). check_text job.lang.alphabet k.states cache) (minimal-one d e (given job) m n))
answered-one job claim command s t x y (Told cache d m) (Told same e n) =
    both-one (Locals cache) 0 0 x y refl (ap (λ (k : CompleteDfa). locals_text k (woven_of job)) (minimal-one d e (given job) m n))
answered-one job claim command s t x y (Recorded cache a v right fits) (Recorded same b w also fit) =
    (ap status_of (answer-one (loc_of job.lang.alphabet) (automaton_of (given job)) _ a b right also), λ other. absurd (cc))
answered-one job claim command s t x y (Audited about audit is right) (Audited other says too also) =
    let one : about ≡ other = ap (λ o. unwrap_or o about) (sym is ∙ too) in
    let same = verdicts_are_one job other audit says (subst (λ (c : ClaimData). IsVerdict job c audit) one right) also in
    both-one Audit s t x y (ap status_of_verdict same) (ap (audit_text job.lang.alphabet) same)
answered-one job claim command s t x y (Thawed status text one) (Thawed other said two) =
    let same = answered-one job claim (Solo 0) status other text said one two in both-one Thaw status other text said same.0 (same.1 refl)

-- a language with a break isn't closed
pub not-both : (job : JobData) → IsJob job → (k : Break) → IsLeastBreak (loc_of job.lang.alphabet) (automaton_of (given job)) k →
    IsTraceClosed (loc_of job.lang.alphabet) (automaton_of (given job)) → ⊥
not-both job fine k least closed =
    (closed_is_unbroken (loc_of job.lang.alphabet) job.lang.alphabet.processes (automaton_of (given job)) fine.lang.distributed.located).0 closed k least.is

due-one : (subject : SubjectData) (command : Command) (s t : ℕ) (x y : List ℕ) → IsJob subject.job → IsDueFor command subject s x →
    IsDueFor command subject t y →
    IsOne command s t x y
due-one subject command s t x y fine (Open k least) (Open l also) =
    let alphabet = subject.job.lang.alphabet in
    let one = least_breaks_are_one (loc_of alphabet) (automaton_of (given subject.job)) k l least also in
    both-one command 5 5 x y refl (ap (λ (b : Break). open_text alphabet (left_word b) (right_word b)) one)
due-one subject command s t x y fine (Open k least) (Answered status text closed answered) = absurd (not-both subject.job fine k least closed)
due-one subject command s t x y fine (Answered status text closed answered) (Open k least) = absurd (not-both subject.job fine k least closed)
due-one subject command s t x y fine (Answered status text closed answered) (Answered other said also too) =
    answered-one subject.job subject.claim command status other text said answered too

-- bytes are refused or read, and refused at one line
pub not-read : (command : Command) (bytes : List ℕ) (fault : TextFault) → fault_for command bytes ≡ Some fault → fault_for command bytes ≡ None → ⊥
not-read command bytes fault some none = let both : true ≡ false = ap is_some (sym some ∙ none) in absurd (cc)

-- a text whose lines aren't its own is read
pub unlike-read : (command : Command) (bytes : List ℕ) → command ≡ Thaw → reading_fault bytes ≡ None → fault_for command bytes ≡ None
unlike-read command bytes thaw right = ap (λ (c : Command). fault_for c bytes) thaw ∙ right

-- but they aren't its own
pub not-own : (command : Command) (bytes : List ℕ) (fault : TextFault) → command ≡ Thaw → IsNotOwn bytes fault → IsOwn command bytes → ⊥
not-own command bytes fault thaw unlike own =
    let mine : IsOwn Thaw bytes = subst (λ (c : Command). IsOwn c bytes) thaw own in
    let both : true ≡ false = ap is_some (sym unlike.1.2 ∙ mine unlike.1.0 unlike.1.1) in absurd (cc)

-- the first of them is one
not-own-one : (bytes : List ℕ) (f g : TextFault) → IsNotOwn bytes f → IsNotOwn bytes g → f ≡ g
not-own-one bytes f g h k =
    let d : CompleteDfa = h.1.0 in
    let e : CompleteDfa = k.1.0 in
    let one : d ≡ e = automaton-one (frozen_job bytes) d e h.1.1 k.1.1 in
    ap (λ o. unwrap_or o f) (sym h.1.2 ∙ ap (λ (x : CompleteDfa). not_own_fault x bytes) one ∙ k.1.2)

pub output_is_one : OutputIsOne
output_is_one command bytes s t x y (Refused fault wrong) (Refused other also) =
    both-one command 4 4 x y refl (ap (λ (f : TextFault). refused_text f) (ap (λ o. unwrap_or o fault) (sym wrong ∙ also)))
output_is_one command bytes s t x y (Refused fault wrong) (NotOwn other thaw unlike) =
    absurd (not-read command bytes fault wrong (unlike-read command bytes thaw unlike.0))
output_is_one command bytes s t x y (Refused fault wrong) (Read status text right fine own due) = absurd (not-read command bytes fault wrong right)
output_is_one command bytes s t x y (NotOwn other thaw unlike) (Refused fault wrong) =
    absurd (not-read command bytes fault wrong (unlike-read command bytes thaw unlike.0))
output_is_one command bytes s t x y (NotOwn fault thaw unlike) (NotOwn other also too) =
    both-one command 4 4 x y refl (ap (λ (f : TextFault). refused_text f) (not-own-one bytes fault other unlike too))
output_is_one command bytes s t x y (NotOwn fault thaw unlike) (Read status text right fine own due) = absurd (not-own command bytes fault thaw unlike own)
output_is_one command bytes s t x y (Read status text right fine own due) (Refused fault wrong) = absurd (not-read command bytes fault wrong right)
output_is_one command bytes s t x y (Read status text right fine own due) (NotOwn fault thaw unlike) = absurd (not-own command bytes fault thaw unlike own)
output_is_one command bytes s t x y (Read status text right fine own due) (Read other said also too mine more) =
    due-one (subject_of command bytes) command status other text said fine due more

-- what threads answer to a job is what one thread answers
answered-to : (job : JobData) (claim : Option ClaimData) (cache status : ℕ) (text : List ℕ) → IsAnswered job claim (Run cache) status text →
    IsAnswered job claim (Solo cache) status text
answered-to job claim cache status text (RanOnThreads same s t answered) = answered

due-to : (subject : SubjectData) (cache status : ℕ) (text : List ℕ) → IsDueFor (Run cache) subject status text → IsDueFor (Solo cache) subject status text
due-to subject cache status text (Open k least) = Open k least
due-to subject cache status text (Answered s t closed answered) = Answered s t closed (answered-to subject.job subject.claim cache s t answered)

due-back : (subject : SubjectData) (cache status : ℕ) (text : List ℕ) → IsDueFor (Solo cache) subject status text → IsDueFor (Run cache) subject status text
due-back subject cache status text (Open k least) = Open k least
due-back subject cache status text (Answered s t closed answered) = Answered s t closed (RanOnThreads cache s t answered)

output-to : (cache : ℕ) (bytes : List ℕ) (status : ℕ) (text : List ℕ) → IsOutput (Run cache) bytes status text → IsOutput (Solo cache) bytes status text
output-to cache bytes status text (Refused fault wrong) = Refused fault wrong
output-to cache bytes status text (NotOwn fault thaw unlike) = absurd (let both : Run cache ≡ Thaw = thaw in cc)
output-to cache bytes status text (Read s t right fine own due) = Read s t right fine tt (due-to (subject_of (Run cache) bytes) cache s t due)

output-back : (cache : ℕ) (bytes : List ℕ) (status : ℕ) (text : List ℕ) → IsOutput (Solo cache) bytes status text → IsOutput (Run cache) bytes status text
output-back cache bytes status text (Refused fault wrong) = Refused fault wrong
output-back cache bytes status text (NotOwn fault thaw unlike) = absurd (let both : Solo cache ≡ Thaw = thaw in cc)
output-back cache bytes status text (Read s t right fine own due) = Read s t right fine tt (due-back (subject_of (Solo cache) bytes) cache s t due)

pub threads_answer_as_one : ThreadsAnswerAsOne
threads_answer_as_one cache bytes status text = (output-to cache bytes status text, output-back cache bytes status text)
