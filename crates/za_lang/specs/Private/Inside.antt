-- The language that the fields of a `Lang` mean.
use Rattle.za_lang.specs.declared.lang.Lang.TheInside.{Inside}
use Rattle.za_lang.specs.Namings.{LangData, IsLangData}

abbrev pub lang_of : Inside → LangData
lang_of inside = record { naming = record { version = inside.version; names = inside.names }; table = inside.partial }

abbrev pub IsLang : Inside → Type 0
IsLang inside = IsLangData (lang_of inside)
