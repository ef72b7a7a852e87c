use Rattle.std.proofs.Common.{rules, arith}
use Rattle.std.proofs.lemmas.Grind.{common_steps}
use Rattle.za_text.proofs.LineLemmas.{first_whole, lines_last}
use Rattle.za_text.proofs.line.Lines.next.Goals as goal

pub returns-then-len-self : goal.returns-then-len-self
returns-then-len-self c = record {
  first = let e = first_whole c.self.inside.rest.now c.line_len-len.result c.line_len-len.ensures.value (omega arith) in grind (arith, common_steps);
  number = search rules;
  passed = search rules;
  shorter = grind (arith, common_steps);
}

pub returns : goal.returns
returns c = record {
  first = let e = lines_last c.self.inside.rest.now (grind (arith, common_steps)) (omega arith) in grind (arith, common_steps);
  number = search rules;
  passed = search rules;
  shorter = grind (arith, common_steps);
}
