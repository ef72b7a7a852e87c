-- What holds of the fields of an alphabet.
use Rattle.za_alpha.specs.declared.alphabet.Alphabet.TheInside.{Inside}
use Rattle.za_alpha.specs.Alphabet.{DistributedAlphabet, IsDistributed}

abbrev pub alphabet_of : Inside → DistributedAlphabet
alphabet_of inside = inside.letters

abbrev pub IsWhole : Inside → Type 0
IsWhole inside = IsDistributed inside.letters
