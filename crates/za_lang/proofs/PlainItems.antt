-- Words without a star as items: names have none.
use Rattle.std.proofs.Common.{◌≡◌, ◌∙◌, ℕ, ◌+◌, ◌==◌, true, false, not, List, [], ◌∷◌, ◌++◌, length, Some, ap, sym, subst, refl, arith}
use Rattle.std.specs.Prelude.{nat_lt}
use Rattle.std.specs.List.{list_all}
use Rattle.std.proofs.lemmas.Bool.{and_parts}
use Rattle.std.proofs.lemmas.Bool.Decides.{nat_tests}
use Rattle.std.proofs.lemmas.List.{append-nil}
use Rattle.za_text.specs.Names.{is_name, is_name_byte}
use Rattle.za_alpha.specs.Alphabet.{DistributedAlphabet, IsDistributed, place_of}
use Rattle.za_lang.specs.declared.version.Version.{Version}
use Rattle.za_lang.specs.declared.version.Version.TheVariants.{One, Two}
use Rattle.za_lang.specs.Items.{Item, item_of, repeated, star_at}
use Rattle.za_lang.proofs.Places.{place_named, place_within}

no_star : (b : ℕ) → is_name_byte b ≡ true → not (b == 42) ≡ true
no_star b h = grind (arith, nat_tests)

-- the first star after a name is the first of what follows
pub stars_after : (name : List ℕ) (rest : List ℕ) → list_all is_name_byte name ≡ true → star_at (name ++ rest) ≡ length name + star_at rest
stars_after [] rest h = omega arith
stars_after (b ∷ name) rest h =
    let parts = and_parts (is_name_byte b) (list_all is_name_byte name) h in
    let e = no_star b parts.0 in
    let later = stars_after name rest parts.1 in
    rw e (omega arith)

pub name_bytes : (name : List ℕ) → is_name name ≡ true → list_all is_name_byte name ≡ true
name_bytes name h = (and_parts _ (list_all is_name_byte name) h).1

abbrev pub item_is : List ℕ → ℕ → Item
item_is name count = record { name = name; count = Some count }

-- a name stands there once
pub plain_item : (name : List ℕ) → is_name name ≡ true → repeated name ≡ item_is name 1
plain_item name h =
    let all = stars_after name [] (name_bytes name h) in
    let whole : star_at name ≡ length name = ap star_at (sym (append-nil name)) ∙ all ∙ (let z : length name + 0 ≡ length name = omega arith in z) in
    let no : nat_lt (star_at name) (length name) ≡ false = grind (arith, nat_tests) in
    rw no refl

-- the name of a letter stands for it
pub letter_item : (alphabet : DistributedAlphabet) (v : Version) (word : List ℕ) (a : ℕ) → IsDistributed alphabet → place_of alphabet.letters word ≡ Some a →
    item_of v word ≡ item_is word 1
letter_item alphabet One word a whole found = refl
letter_item alphabet Two word a whole found =
    let named : is_name word ≡ true =
    subst (λ name. is_name name ≡ true) (place_named alphabet.letters word a found) (whole.names a (place_within alphabet.letters word a found)) in
    plain_item word named
