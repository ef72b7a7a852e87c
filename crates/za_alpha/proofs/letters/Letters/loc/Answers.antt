use Rattle.std.proofs.Common.{◌<◌, length, ap, sym, ◌∙◌, subst, arith}
use Rattle.std.proofs.lemmas.List.{length-map}
use Rattle.za_alpha.specs.Alphabet.{DistributedAlphabet, procs_at}
use Rattle.za_alpha.specs.Private.Begun.{letter_of_entry, letters_of}
use Rattle.za_alpha.specs.declared.letters.Entry.{Entry}
use Rattle.za_alpha.proofs.RowLemmas.{procs_at-map}
use Rattle.za_alpha.proofs.letters.Letters.loc.Goals as goal

pub returns : goal.returns
returns c =
    let P : DistributedAlphabet → Type 0 = λ a. c.args.a.0 < length a.letters in
    let there : c.args.a.0 < length (letters_of c.self.inside).letters = subst P (sym c.self.view_is) c.requires in
    let inside : c.args.a.0 < length c.self.inside.entries.items = omega (arith, length-map c.self.inside.entries.items letter_of_entry) in
    ap (λ (e : Entry). e.loc) c.index.ensures
    ∙ sym (procs_at-map c.self.inside.entries.items c.args.a.0 c.index.result.now inside)
    ∙ ap (λ (a : DistributedAlphabet). procs_at a.letters c.args.a.0) c.self.view_is
