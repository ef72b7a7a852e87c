-- A job that has all that the lines say is the job gathered from them.
use Rattle.std.proofs.Common.{◌≡◌, ◌∙◌, ℕ, ◌<◌, List, [], length, map, sym, ap, arith, Bool, Option}
use Rattle.std.specs.List.{range_with_len}
use Rattle.std.proofs.lemmas.List.{ext_get_or}
use Rattle.std.proofs.lemmas.List.FromFn.{length-map-range_with_len, get_or-map-range_with_len}
use Rattle.za_alpha.specs.Alphabet.{DistributedAlphabet, NamedLetter}
use Rattle.za_dfa.specs.Rows.{cells_of}
use Rattle.za_dfa.specs.Partials.{PartialDfa}
use Rattle.za_lang.specs.Jobs.{JobData, IsJob}
use Rattle.za_lang.specs.Namings.{Naming}
use Rattle.za_lang.specs.Documents.{Said, lang_said, scripts_said, job_said, script_of_steps}
use Rattle.za_lang.specs.Gathering.{Tells}

targets_told : (job : JobData) (s : Said) → Tells job s → job.lang.targets ≡ (lang_said s).targets
targets_told job s h = h.rows.cells ∙ ap (λ m. cells_of m (length job.lang.alphabet.letters) s.rows) h.states
    ∙ ap (λ (ls : List NamedLetter). cells_of s.states (length ls) s.rows) h.letters

scripts_told : (job : JobData) (s : Said) → IsJob job → Tells job s → job.scripts ≡ scripts_said s
scripts_told job s whole h =
    let n = length s.naming.names in
    let size : length job.scripts ≡ n = whole.fit.processes ∙ h.processes in
    ext_get_or [] job.scripts (map (script_of_steps s.steps) (range_with_len 0 n)) (size ∙ sym (length-map-range_with_len (script_of_steps s.steps) 0 n))
    (λ i k. let below : i < n = omega arith in h.steps i below ∙ sym (get_or-map-range_with_len (script_of_steps s.steps) 0 n i i [] below (omega arith)))

pub told_whole : (job : JobData) (s : Said) → IsJob job → Tells job s → job ≡ job_said s
told_whole job s whole h =
    let alphabet_of : ℕ → List NamedLetter → DistributedAlphabet = λ n ls. record { processes = n; letters = ls } in
    let lang_of : DistributedAlphabet → ℕ → ℕ → List Bool → List (Option ℕ) → PartialDfa =
    λ a n q bs ts. record { alphabet = a; states = n; start = q; accepting = bs; targets = ts } in
    let of : Naming → PartialDfa → List (List ℕ) → JobData = λ m l ss. record { naming = m; lang = l; scripts = ss } in
    let alphabet : job.lang.alphabet ≡ alphabet_of (length s.naming.names) s.letters = ap (λ n. alphabet_of n job.lang.alphabet.letters) h.processes
    ∙ ap (alphabet_of (length s.naming.names)) h.letters in
    let targets = targets_told job s h in
    let scripts = scripts_told job s whole h in
    let states = h.states in
    let start = h.start in
    let accepting = h.accepting in
    let lang : job.lang ≡ lang_said s =
    ap (λ a. lang_of a job.lang.states job.lang.start job.lang.accepting job.lang.targets) alphabet
    ∙ ap (λ n. lang_of (alphabet_of (length s.naming.names) s.letters) n job.lang.start job.lang.accepting job.lang.targets) states
    ∙ ap (λ q. lang_of (alphabet_of (length s.naming.names) s.letters) s.states q job.lang.accepting job.lang.targets) start
    ∙ ap (λ bs. lang_of (alphabet_of (length s.naming.names) s.letters) s.states s.start bs job.lang.targets) accepting
    ∙ ap (lang_of (alphabet_of (length s.naming.names) s.letters) s.states s.start (lang_said s).accepting) targets in
    ap (λ m. of m job.lang job.scripts) h.naming ∙ ap (λ l. of s.naming l job.scripts) lang ∙ ap (of s.naming (lang_said s)) scripts
