-- What lines and one line more say, and what the reader keeps of them.
use Rattle.std.specs.Prelude.{ℕ, ◌++◌, List, [], ◌∷◌}
use Rattle.za_alpha.specs.Alphabet.{DistributedAlphabet}
use Rattle.za_claim.specs.declared.order.Head.{Head}
use Rattle.za_claim.specs.declared.reading.Reading.{Reading}
use Rattle.za_claim.specs.Grammar.{ToldClaim, claim_head, next_claim_place, answer_said, events_said}

-- what lines and one more say
abbrev pub more_claimed_by : DistributedAlphabet → ToldClaim → Head → List (List ℕ) → ToldClaim
more_claimed_by alphabet s head words = record {
  place = next_claim_place s.place head;
  answer = answer_said s.answer head words;
  events = s.events ++ events_said alphabet head words;
}

abbrev pub more_claimed : DistributedAlphabet → ToldClaim → List (List ℕ) → ToldClaim
more_claimed alphabet s [] = s
more_claimed alphabet s (word ∷ words) = more_claimed_by alphabet s (claim_head word) words

-- the lines so far say this
abbrev pub said_so_far : Reading → ToldClaim
said_so_far reading = record { place = reading.place; answer = reading.answer; events = reading.events.items }
