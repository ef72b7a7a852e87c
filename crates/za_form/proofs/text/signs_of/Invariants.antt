use Rattle.std.proofs.Common.{◌≡◌, ◌++◌, length, map, Some}
use Rattle.std.specs.List.{list_any}
use Rattle.za_text.specs.Words.{words_of, left_in}
use Rattle.za_expression.specs.declared.sign.Sign.{Sign}
use Rattle.za_form.specs.Expressions.{sign_of, is_unknown}
use Rattle.za_form.proofs.text.signs_of.Given as goal

-- the tokens that have come are the signs so far
abbrev pub invariant-loop-token : goal.invariant-loop-token
invariant-loop-token l = record {
  text : l.tokens.text ≡ l.text;
  each : map (sign_of l.alphabet.letters) (words_of l.text) ≡ map (λ (sign : Sign). Some sign) l.signs.items ++ map (sign_of l.alphabet.letters)
      (left_in l.tokens);
  known : list_any (is_unknown l.alphabet.letters) (words_of l.text) ≡ list_any (is_unknown l.alphabet.letters) (left_in l.tokens);
}

abbrev pub decreases-loop-token : goal.decreases-loop-token
decreases-loop-token l = length (left_in l.tokens)
