use Rattle.std.proofs.Common.{drop, refl, rules, arith}
use Rattle.std.proofs.lemmas.Grind.{common_steps}
use Rattle.za_text.proofs.WordLemmas.{no_word, word_from}
use Rattle.za_text.proofs.word.WordsOf.next.Goals as goal

pub returns-then-len-eq0 : goal.returns-then-len-eq0
returns-then-len-eq0 c = let text = c.self.inside.text.now in let at = c.self.inside.at in
    let e = no_word (drop at text) c.gap_len.result (grind (arith, common_steps)) (grind (arith, common_steps)) in
    record { none = grind (arith, common_steps); same = search rules }

pub returns : goal.returns
returns c = let text = c.self.inside.text.now in let at = c.self.inside.at in record {
  first = let e = word_from text at c.gap_len.result c.word_len-len.result (grind (arith, common_steps)) (grind (arith, common_steps)) (omega arith) in
      grind (arith, common_steps);
  text = search rules;
  line = search rules;
  of_line = search rules;
  after = grind (arith, common_steps);
  ordered = omega arith;
  at = refl;
  within = grind (arith, common_steps);
}
