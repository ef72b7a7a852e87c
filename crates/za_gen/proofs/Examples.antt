-- The definitions, computed.
use Rattle.std.proofs.Common.{◌≡◌, [], ◌∷◌, refl}
use Rattle.za_gen.specs.Drawn.{register, draw_of, drawn}
use Rattle.za_gen.specs.Generated.{next_state}

-- the first draw from 7, and the letters of the first five
first-draw : draw_of (register 7 1) ≡ 1059165278
unfolding register
first-draw = refl

first-letters : drawn 7 5 ≡ 6 ∷ 7 ∷ 1 ∷ 1 ∷ 1 ∷ []
unfolding register drawn
first-letters = refl

-- from the state 7, in the second half, g leads to the first half and a to the beginning of its half
by-g : next_state 7 6 ≡ 3
by-g = refl

by-a : next_state 7 0 ≡ 4
by-a = refl
