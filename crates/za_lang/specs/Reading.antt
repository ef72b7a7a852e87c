-- What the reader keeps of the lines so far.
use Rattle.std.specs.Prelude.{◌≡◌, ℕ, Bool, true, false, List, [], ◌∷◌}
use Rattle.za_alpha.specs.Alphabet.{DistributedAlphabet, NamedLetter}
use Rattle.za_lang.specs.declared.order.Place.{Place}
use Rattle.za_lang.specs.declared.order.Place.TheVariants.{AtHeader, AtProcesses, AtFirstLetter, AtLetters}
use Rattle.za_lang.specs.declared.order.Place.TheVariants.{AtStart, AtAccept, AtRows, AtScripts, AfterEnd}
use Rattle.za_lang.specs.declared.reading.Reading.{Reading}
use Rattle.za_lang.specs.declared.reading.Reading.TheVariants as reading
use Rattle.za_lang.specs.Answers.{data_of}
use Rattle.za_lang.specs.declared.version.Version.{Version}
use Rattle.za_lang.specs.declared.version.Version.TheVariants.{One}
use Rattle.za_lang.specs.Jobs.{IsJob}
use Rattle.za_lang.specs.Namings.{Naming}
use Rattle.za_lang.specs.Documents.{Said}
use Rattle.za_lang.specs.Gathering.{Tells}
use Rattle.za_lang.specs.Letters.{AreNamedLetters}

-- no lines say this, whatever the version
abbrev pub nothing : Version → Said
nothing version = record {
  place = AtHeader;
  naming = record { version = version; names = [] };
  letters = [];
  states = 0;
  start = 0;
  accepts = [];
  rows = [];
  steps = [];
}

-- the place after these letters
abbrev pub letters_place : List NamedLetter → Place
letters_place [] = AtFirstLetter
letters_place (letter ∷ letters) = AtLetters

-- the lines up to these letters say this
abbrev pub letters_told : Naming → DistributedAlphabet → Said
letters_told naming alphabet = record (nothing naming.version) {
  place = letters_place alphabet.letters;
  naming = naming;
  letters = alphabet.letters;
}

-- whether the place is after the states line
abbrev pub is_late : Place → Bool
is_late AtStart = true
is_late AtAccept = true
is_late AtRows = true
is_late AtScripts = true
is_late AfterEnd = true
is_late _ = false

-- what the reader has of the processes
abbrev pub naming_of : Version → List (List ℕ) → Naming
naming_of version names = record { version = version; names = names }

-- what holds of each reading
abbrev pub IsReading : Reading → Type 0
IsReading reading.Header = Unit {0}
IsReading (reading.Processes version) = Unit {0}
IsReading (reading.Letters version names letters) = AreNamedLetters (naming_of version names) letters
IsReading (reading.Body place job) = (is_late place ≡ true) × IsJob (data_of job)

-- where the reading has come to
abbrev pub reading_place : Reading → Place
reading_place reading.Header = AtHeader
reading_place (reading.Processes version) = AtProcesses
reading_place (reading.Letters version names letters) = letters_place letters.letters
reading_place (reading.Body place job) = place

-- the reading has what the lines say
abbrev pub Keeps : Reading → Said → Type 0
Keeps reading.Header s = s ≡ nothing s.naming.version
Keeps (reading.Processes version) s = s ≡ record (nothing version) { place = AtProcesses }
Keeps (reading.Letters version names letters) s = s ≡ letters_told (naming_of version names) letters
Keeps (reading.Body place job) s = (place ≡ s.place) × Tells (data_of job) s

-- the version as far as it is known
abbrev pub reading_version : Reading → Version → Version
reading_version reading.Header version = One
reading_version _ version = version

-- a reading that has found no words yet still has the version to come
abbrev pub Awaits : Reading → Version → Version → Type 0
Awaits reading.Header later version = later ≡ version
Awaits _ later version = Unit {0}
