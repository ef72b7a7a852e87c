-- The asynchronous automaton of an automaton with every diamond.
use Rattle.std.proofs.Common.{◌≡◌, ℕ, ◌+◌, ◌*◌, ◌%◌, ◌<◌, true, false, inl, inr, List, [], ◌∷◌, ◌++◌, map, refl, sym, ap, ◌∙◌, arith}
use Rattle.std.specs.List.{range_with_len}
use Rattle.std.proofs.Math.Path.{fun_ext}
use Rattle.std.proofs.lemmas.Bool.{cases_Bool, cond-true, cond-false}
use Rattle.std.proofs.lemmas.Nat.{mod-mul-add, mod_below}
use Rattle.std.proofs.lemmas.List.{append-nil, append_assoc}
use Rattle.std.proofs.lemmas.List.Elements.{All-nil, All-head, All-tail}
use Rattle.za_alpha.specs.Words.{has, IsWord}
use Rattle.za_order.proofs.NextLetter.{word-next}
use Rattle.za_order.proofs.Sets.{in-range}
use Rattle.za_dfa.specs.Automata.{Automaton, walk, is_accepted}
use Rattle.za_local.specs.Locals.{local_state}
use Rattle.za_local.proofs.LocalLaws.{others_keep_locals}
use Rattle.za_theorem.specs.Languages.{IsDiamondAutomaton}
use Rattle.za_theorem.specs.Machine.{code_after}
use Rattle.za_theorem.specs.Codes.{local_bounds, local_numbers, local_code, local_bound}
use Rattle.za_theorem.specs.Asynchronous.{Asynchronous, moved, global_after, accepts_word}
use Rattle.za_theorem.specs.Laws.{DiamondsGiveAsynchronous}
use Rattle.za_theorem.proofs.Radix.{digits, digits-joined}
use Rattle.za_theorem.proofs.Lookups.{lookup, lookup-map}
use Rattle.za_theorem.proofs.Transition.{turned, next_local, next-is, verdict-is}
use Rattle.za_theorem.proofs.Finite.{local-is, code-below}

small-mod : (c b : ℕ) → c < b → c % b ≡ c
small-mod c b l = let e : c ≡ 0 * b + c = omega arith in ap (λ v. v % b) e ∙ mod-mul-add 0 b c l

module _ (loc : ℕ → List ℕ) (n : ℕ) (d : Automaton) where
  abbrev bounds : List ℕ
  bounds = local_bounds d.letters n d.states

  abbrev bound : ℕ
  bound = local_bound d.letters n d.states

  abbrev code : List ℕ → ℕ → ℕ
  code w p = code_after loc n d w p

  -- what the numbers of the local states of xs say of x
  abbrev decoded : List ℕ → List ℕ → ℕ → List ℕ
  decoded xs codes x = digits bounds (lookup xs codes x)

  -- the automaton whose local states are these numbers; from numbers that are none it leads anywhere below the bound
  abbrev machine : Asynchronous
  machine = record {
    states = λ p. bound;
    start = λ p. code [] p;
    next = λ a codes p. local_code d.letters n d.states (next_local loc n d a (decoded (loc a) codes)) % bound;
    accepts = λ codes. d.accepts (turned n d (decoded (range_with_len 0 n) codes) (range_with_len 0 n) (λ y. false) d.start);
  }

  module _ (whole : IsDiamondAutomaton loc n d) where
    below-bound : (w : List ℕ) (p : ℕ) → IsWord d.letters w → code w p < bound
    below-bound w p word = code-below d.letters n d.states (local_state loc n d w p) (local-is loc n d w p whole.alphabet whole.total word)

    read : (w xs : List ℕ) (x : ℕ) → IsWord d.letters w → has xs x ≡ true → decoded xs (map (code w) xs) x ≡ local_numbers (local_state loc n d w x)
    read w xs x word h =
        ap (digits bounds) (lookup-map (code w) xs x h)
        ∙ digits-joined bounds (local_numbers (local_state loc n d w x)) (local-is loc n d w x whole.alphabet whole.total word).numbers

    -- a letter leads from the local states after a word to those after the longer word
    step-is : (w : List ℕ) (a p : ℕ) → IsWord d.letters w → a < d.letters → moved loc machine (code w) a p ≡ code (w ++ a ∷ []) p
    step-is w a p word small =
        let next : ℕ = machine.next a (map (code w) (loc a)) p in
        elim (cases_Bool (has (loc a) p)) [
          | inl t ↦
              cond-true (has (loc a) p) next (code w p) t
              ∙ ap (λ l. local_code d.letters n d.states l % bound)
              (next-is loc n d whole w word a small (decoded (loc a) (map (code w) (loc a))) (λ x h. read w (loc a) x word h) p t)
              ∙ small-mod (code (w ++ a ∷ []) p) bound (below-bound (w ++ a ∷ []) p (word-next d.letters w a word small))
          | inr f ↦ cond-false (has (loc a) p) next (code w p) f
              ∙ ap (local_code d.letters n d.states) (sym (others_keep_locals loc n d w a p whole.alphabet word small f))
        ]

    -- so does a word
    run-from : (u v : List ℕ) → IsWord d.letters u → IsWord d.letters v → walk (moved loc machine) (code u) v ≡ code (u ++ v)
    run-from u [] wu wv = ap code (sym (append-nil u))
    run-from u (a ∷ v) wu wv =
        let small = All-head (λ c. c < d.letters) a v wv in
        ap (λ g. walk (moved loc machine) g v) (fun_ext (λ p. step-is u a p wu small))
        ∙ run-from (u ++ a ∷ []) v (word-next d.letters u a wu small) (All-tail (λ c. c < d.letters) a v wv)
        ∙ ap code (append_assoc u (a ∷ []) v)

    run-is : (w : List ℕ) → IsWord d.letters w → global_after loc machine w ≡ code w
    run-is w word = run-from [] w (All-nil (λ c. c < d.letters)) word

    accepts-is : (w : List ℕ) → IsWord d.letters w → accepts_word loc n machine w ≡ is_accepted d w
    accepts-is w word =
        let range : List ℕ = range_with_len 0 n in
        ap (λ g. machine.accepts (map g range)) (run-is w word)
        ∙ ap d.accepts (verdict-is loc n d whole w word (decoded range (map (code w) range)) (λ x l. read w range x word (in-range n x l)))

    opening : (p : ℕ) → code [] p < bound
    opening p = below-bound [] p (All-nil (λ c. c < d.letters))

pub diamonds_give_asynchronous : DiamondsGiveAsynchronous
diamonds_give_asynchronous loc n d whole = (
  machine loc n d,
  record {
    accepts = record {
      whole = record {
        starts = λ p l. opening loc n d whole p;
        steps = λ a p g small h states.
            mod_below (local_code d.letters n d.states (next_local loc n d a (decoded loc n d (loc a) (map g (loc a))))) (bound loc n d)
            (let s = opening loc n d whole p in omega arith);
      };
      words = accepts-is loc n d whole;
    };
    states = λ p. refl;
    locals = λ w p word. ap (λ g. g p) (run-is loc n d whole w word);
  },
)
