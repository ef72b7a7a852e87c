-- The text of news: what each process knows of each after the weave.
use Rattle.std.specs.Prelude.{ℕ, List, ◌∷◌, map, codes, decimal, Option, Some, None}
use Rattle.std.specs.List.{range_with_len}
use Rattle.za_alpha.specs.Alphabet.{loc_of}
use Rattle.za_text.specs.Printed.{text_of}
use Rattle.za_text.specs.ProcessNames.{name_of}
use Rattle.za_script.specs.Woven.{weave_of}
use Rattle.za_lang.specs.Jobs.{JobData}
use Rattle.za_payload.specs.Knowledge.{news}
use Rattle.za_news.specs.Readings.{list_of}

-- what is known of a process: the number, or a hyphen for nothing
abbrev pub known_word : Option ℕ → List ℕ
known_word None = codes "-"
known_word (Some number) = decimal number

-- the line of the process of a name that knows this of each of so many processes
abbrev pub line_of_known : List ℕ → ℕ → (ℕ → Option ℕ) → List (List ℕ)
line_of_known name processes known =
    codes "known" ∷ name ∷ map (λ q. known_word (known q)) (range_with_len 0 processes)

-- what p knows of q after the weave of the job's scripts, whose events write the readings
abbrev pub woven_news : JobData → List (List ℕ) → ℕ → ℕ → Option ℕ
woven_news job readings p q =
    let alphabet = job.lang.alphabet in
    news (loc_of alphabet) alphabet.processes (list_of readings) (weave_of alphabet job.scripts) p q

-- the line of the process p
abbrev pub known_line : JobData → List (List ℕ) → ℕ → List (List ℕ)
known_line job readings p =
    line_of_known (name_of job.naming.names p) job.lang.alphabet.processes (woven_news job readings p)

-- the lines of all processes
abbrev pub news_text : JobData → List (List ℕ) → List ℕ
news_text job readings = text_of (map (known_line job readings) (range_with_len 0 job.lang.alphabet.processes))
