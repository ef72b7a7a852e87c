-- The printed form of a claim.
use Rattle.std.specs.Prelude.{ℕ, List, [], ◌∷◌, ◌++◌, map, codes}
use Rattle.za_alpha.specs.Alphabet.{DistributedAlphabet}
use Rattle.za_script.specs.declared.answer.Answer.{Answer}
use Rattle.za_script.specs.declared.answer.Answer.TheVariants.{Accept, Reject, Stuck}
use Rattle.za_text.specs.Printed.{text_of}
use Rattle.za_write.specs.Events.{event_word}
use Rattle.za_claim.specs.declared.claim.Event.{Event}
use Rattle.za_claim.specs.Claims.{ClaimData}

abbrev pub answer_word : Answer → List ℕ
answer_word Accept = codes "accept"
answer_word Reject = codes "reject"
answer_word Stuck = codes "stuck"

abbrev pub claim_line : Answer → List (List ℕ)
claim_line answer = codes "claim" ∷ answer_word answer ∷ []

abbrev pub fire_line : DistributedAlphabet → Event → List (List ℕ)
fire_line alphabet event = codes "fire" ∷ event_word alphabet event.letter.0 event.label ∷ []

-- the lines of a claim about a job over the alphabet
abbrev pub claim_lines : DistributedAlphabet → ClaimData → List (List (List ℕ))
claim_lines alphabet claim =
    claim_line claim.answer ∷ (map (fire_line alphabet) claim.events ++ (codes "end" ∷ []) ∷ [])

-- the printed form of a claim
abbrev pub printed_claim : DistributedAlphabet → ClaimData → List ℕ
printed_claim alphabet claim = text_of (claim_lines alphabet claim)
