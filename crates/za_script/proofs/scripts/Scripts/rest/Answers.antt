use Rattle.std.proofs.Common.{◌≡◌, ◌∷◌, [], ◌++◌, ◌+◌, ℕ, List, length, drop, map, ap, sym, subst, ◌∙◌, arith}
use Rattle.std.specs.List.{range_with_len}
use Rattle.std.proofs.lemmas.List.FromFn.{map-range_with_len_more}
use Rattle.za_alpha.specs.Letters.{numbers}
use Rattle.za_alpha.specs.Words.{projection}
use Rattle.za_alpha.specs.Alphabet.{loc_of}
use Rattle.za_script.specs.Scripts.{total}
use Rattle.za_script.specs.ScriptLists.{script_of, total_of, AreScripts}
use Rattle.za_script.specs.Rests.{rests, rest_of}
use Rattle.za_script.proofs.RestLists.{total-more, letters-few, total-rest, AreScripts-rest}
use Rattle.za_script.proofs.scripts.Scripts.rest.Goals as goal
use Rattle.za_script.proofs.scripts.Scripts.rest.Goals.{After-len-letters}

-- the rest of the script of this process
rest-is : (c : After-len-letters) → c.in_ok-rest.rest ≡ rests (loc_of c.args.alphabet.now) (script_of c.args.self.now) (numbers c.args.word.now) c.loop-p.p
rest-is c =
    c.in_ok-rest.ensures ∙ ap (λ n. drop n (numbers c.letters.result.now)) c.count_of-count.ensures.value
    ∙ ap (drop (length (projection (loc_of c.args.alphabet.now) c.loop-p.p (numbers c.args.word.now)))) (c.letters.ensures ∙ c.script.ensures)

counted : (c : After-len-letters) →
    c.loop-p.letters + c.len-letters.result ≡ total (rests (loc_of c.args.alphabet.now) (script_of c.args.self.now) (numbers c.args.word.now)) (c.loop-p.p + 1)
counted c =
    let f = rests (loc_of c.args.alphabet.now) (script_of c.args.self.now) (numbers c.args.word.now) in
    let long : c.len-letters.result ≡ length (f c.loop-p.p) = c.len-letters.ensures ∙ ap length (rest-is c) in
    let old = c.loop-p.invariant.letters in
    let more : total f (c.loop-p.p + 1) ≡ total f c.loop-p.p + length (f c.loop-p.p) = total-more f c.loop-p.p in
    omega arith

pub overflow_add-letters : goal.overflow_add-letters
overflow_add-letters c =
    let limits = c.processes-p-end.ensures.limits in
    let value = c.processes-p-end.ensures.value in
    let few = letters-few c.args.alphabet.now c.args.self.now (numbers c.args.word.now) limits (c.loop-p.p + 1) (omega arith) in
    let n = counted c in
    let most = limits.few_letters in
    omega arith

pub loop-p-preserved : goal.loop-p-preserved
loop-p-preserved c =
    let at = goal.at.loop-p-preserved c in
    let f = rests (loc_of c.args.alphabet.now) (script_of c.args.self.now) (numbers c.args.word.now) in
    let is = rest-is at.After-len-letters in
    record {
      words =
          c.in_ok-push.ensures.items ∙ ap (λ ws. ws ++ c.in_ok-rest.rest ∷ []) c.loop-p.invariant.words
          ∙ ap (λ w. map f (range_with_len 0 c.loop-p.p) ++ w ∷ []) is
          ∙ sym (map-range_with_len_more f 0 c.loop-p.p c.loop-p.p (omega arith));
      letters = counted at.After-len-letters;
    }

pub invariant_of-result : goal.invariant_of-result
invariant_of-result c =
    let alphabet = c.args.alphabet.now in
    let scripts = c.args.self.now in
    let w = numbers c.args.word.now in
    let f = rests (loc_of alphabet) (script_of scripts) w in
    let value = c.processes-p-end.ensures.value in
    let all : c.loop-p.p ≡ length scripts = omega arith in
    let is : c.loop-p.words.items ≡ rest_of alphabet scripts w = c.loop-p.invariant.words ∙ ap (λ n. map f (range_with_len 0 n)) all in
    record {
      counted =
          c.loop-p.invariant.letters ∙ ap (total f) all ∙ total-rest alphabet scripts w ∙ ap (λ (ws : List (List ℕ)). total_of ws) (sym is);
      limits = subst AreScripts (sym is) (AreScripts-rest alphabet scripts w c.processes-p-end.ensures.limits);
    }
