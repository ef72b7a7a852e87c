-- The residue for the empty set is what the view does.
use Rattle.std.proofs.Common.{◌≡◌, ℕ, false, not, ◌&&◌, List, [], ◌∷◌, length, refl, ap, ◌∙◌}
use Rattle.std.specs.Option.{option_map_or}
use Rattle.std.proofs.lemmas.Bool.{and_left}
use Rattle.std.proofs.lemmas.Nat.{pow_pos}
use Rattle.za_alpha.specs.Alphabet.{loc_of}
use Rattle.za_alpha.proofs.Members.{and-true}
use Rattle.za_order.specs.Views.{participants, in_view, in_past}
use Rattle.za_order.specs.Entries.{primary}
use Rattle.za_order.specs.Words.{subword}
use Rattle.za_order.specs.Locals.{in_residue, residue_word}
use Rattle.za_order.proofs.Ranges.{any-none}
use Rattle.za_dfa.specs.Automata.{walk}
use Rattle.za_dfa.specs.Tables.{CompleteDfa, IsComplete, step_of}
use Rattle.za_residue.specs.Functions.{value_at, in_set}
use Rattle.za_residue.specs.Residues.{table_residues}
use Rattle.za_residue.proofs.Inputs.{value-by}
use Rattle.za_residue.proofs.SetNumbers.{in-none}
use Rattle.za_residue.proofs.Subwords.{subword-same}
use Rattle.za_local.specs.Locals.{view_state_after}

-- no past is of the empty set
whole-view : (loc : ℕ → List ℕ) (processes : ℕ) (w : List ℕ) (n p : ℕ) → residue_word loc processes w n p (in_set 0)
    ≡ subword w (in_view (participants loc w) n (p ∷ [])) n
whole-view loc processes w n p =
    let who = participants loc w in
    let known = λ (i y : ℕ). option_map_or (λ e. in_past who e i) (primary who n p y) false in
    subword-same w w (in_residue who processes n p (in_set 0)) (in_view who n (p ∷ [])) n (λ i k. refl)
    (λ i k. ap (λ b. in_view who n (p ∷ []) i && not b)
    (any-none (λ y. in_set 0 y && known i y) processes (λ y l. and_left (in_set 0 y) (known i y) (in-none y)))
    ∙ and-true (in_view who n (p ∷ []) i))

-- so it leads where the events lead that p knows
pub view-value : (d : CompleteDfa) → IsComplete d → (w : List ℕ) (p : ℕ) → value_at (table_residues d w p) 0 d.start ≡ view_state_after d w p
view-value d whole w p =
    value-by d.alphabet.processes d.states (λ number q. walk (step_of d) q (residue_word (loc_of d.alphabet) d.alphabet.processes w (length w) p
    (in_set number))) 0 d.start (pow_pos d.alphabet.processes) whole.starts
    ∙ ap (walk (step_of d) d.start) (whole-view (loc_of d.alphabet) d.alphabet.processes w (length w) p)
