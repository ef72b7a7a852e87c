use Rattle.std.proofs.Common.{◌∙◌, sym, arith}
use Rattle.za_text.proofs.NameLemmas.{named_within}
use Rattle.za_news.proofs.read_line.take_read.Goals as goal

pub add_numbers-requires : goal.add_numbers-requires
add_numbers-requires c =
    let within = named_within c.args.names.now c.in-Some.word.now c.in-Some-find.p (sym c.find.ensures ∙ c.in-Some-find.is) in
    let size = c.requires in omega arith
