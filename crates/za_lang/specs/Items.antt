-- The items of a script line: a letter's name, and in version 2 how often the letter stands there.
use Rattle.std.specs.Prelude.{ℕ, zero, suc, ◌+◌, ◌==◌, not, nat_lt, List, [], length, take, drop, replicate}
use Rattle.std.specs.Prelude.{Option, Some, None, if◌then◌else◌}
use Rattle.std.specs.List.{flat_map, prefix_len}
use Rattle.za_text.specs.Numbers.{numeral_value}
use Rattle.za_alpha.specs.Alphabet.{NamedLetter, place_of}
use Rattle.za_lang.specs.declared.version.Version.{Version}
use Rattle.za_lang.specs.declared.version.Version.TheVariants.{One, Two}

-- a name, and how often the letter of that name stands there, if that is right
pub record Item : Type 0 where
  pub name : List ℕ
  pub count : Option ℕ

-- a number from 1 on
abbrev pub positive : Option ℕ → Option ℕ
positive None = None
positive (Some zero) = None
positive (Some (suc n)) = Some (suc n)

-- how many bytes stand before the first `*`
abbrev pub star_at : List ℕ → ℕ
star_at word = prefix_len (λ b. not (b == 42)) word

-- a word of version 2: up to its first `*` the name, and after it the number
abbrev pub repeated : List ℕ → Item
repeated word =
    if nat_lt (star_at word) (length word)
    then record { name = take (star_at word) word; count = positive (numeral_value (drop (star_at word + 1) word)) }
    else record { name = word; count = Some 1 }

-- the item that a word is
abbrev pub item_of : Version → List ℕ → Item
item_of One word = record { name = word; count = Some 1 }
item_of Two word = repeated word

-- so many of a letter, where both are there
abbrev pub run_of : Option ℕ → Option ℕ → List ℕ
run_of (Some a) (Some count) = replicate count a
run_of _ _ = []

-- the letters that an item stands for
abbrev pub item_letters : List NamedLetter → Item → List ℕ
item_letters letters item = run_of (place_of letters item.name) item.count

-- the letters that words stand for, as items
abbrev pub letters_of_items : Version → List NamedLetter → List (List ℕ) → List ℕ
letters_of_items version letters words = flat_map (λ word. item_letters letters (item_of version word)) words
