-- The circle after a word whose events have written readings.
use Rattle.std.specs.Prelude.{◌≡◌, ℕ, ◌<◌, List, length, slice_index}
use Rattle.za_alpha.specs.Alphabet.{DistributedAlphabet, loc_of}
use Rattle.za_payload.specs.Knowledge.{reading_of}
use Rattle.za_payload.specs.Circles.{CircleState, IsCircleAfter}
use Rattle.za_news.specs.Readings.{list_of}

-- each event of the word has written the next reading of its least participant
pub record IsNewsAfter
    (alphabet : DistributedAlphabet) (readings : List (List ℕ)) (w : List ℕ) (circle : CircleState) : Type 0 where
  pub values : List ℕ
  pub after : IsCircleAfter alphabet w values circle
  pub written : (i : ℕ) → i < length w →
      slice_index values i ≡ reading_of (loc_of alphabet) alphabet.processes (list_of readings) w i
