-- The blocks of secondary rows.
use Rattle.std.proofs.Common.{◌≡◌, ℕ, suc, ◌+◌, ◌*◌, ◌/◌, ◌%◌, ◌<◌, ◌≤◌, List, length, get_or, drop, flat_map, sym, ap, ◌∙◌, arith}
use Rattle.std.specs.List.{range_with_len}
use Rattle.std.proofs.Math.Nat.{suc-mul, mul-le-mul_right, div-add-mod, mul_comm}
use Rattle.std.proofs.lemmas.List.{ext_get_or, get_or-take, get_or-drop, length-take-le, length-drop}
use Rattle.za_dfa.proofs.GridLemmas.{row_of_cell}
use Rattle.za_gossip.specs.Rows.{block_at}
use Rattle.za_gossip.proofs.Blocks.{entry-of-block, length-blocks}

-- a place in a block
pub block-place : (m : ℕ) (xs : List ℕ) (q r : ℕ) → r < m → get_or (block_at m xs q) r 0 ≡ get_or xs (q * m + r) 0
block-place m xs q r l = get_or-take m (drop (q * m) xs) r 0 l ∙ get_or-drop (q * m) xs r 0

-- lists of one length with the same blocks are equal
pub blocks-decide : (n m : ℕ) (xs ys : List ℕ) → length xs ≡ n * m → length ys ≡ n * m → ((q : ℕ) → q < n → block_at m xs q ≡ block_at m ys q) → xs ≡ ys
blocks-decide n m xs ys lx ly h =
    ext_get_or 0 xs ys (lx ∙ sym ly)
    (λ i l.
    let cell = row_of_cell i n m (omega arith) in
    let q : ℕ = i / m in
    let r : ℕ = i % m in
    let at : i ≡ q * m + r = sym (div-add-mod i m) ∙ ap (λ v. v + r) (mul_comm m q) in
    ap (λ k. get_or xs k 0) at ∙ sym (block-place m xs q r cell.1) ∙ ap (λ b. get_or b r 0) (h q cell.0) ∙ block-place m ys q r cell.1
    ∙ ap (λ k. get_or ys k 0) (sym at))

-- the block of a list of blocks
pub block-of-blocks : (f : ℕ → List ℕ) (m : ℕ) → ((x : ℕ) → length (f x) ≡ m) → (n q : ℕ) → q < n → block_at m (flat_map f (range_with_len 0 n)) q ≡ f q
block-of-blocks f m wide n q l =
    let all = flat_map f (range_with_len 0 n) in
    let more : suc q * m ≤ n * m = mul-le-mul_right m l in
    let next = suc-mul q m in
    let long = length-blocks f m wide n in
    let rest = length-drop (q * m) all in
    let here : length (block_at m all q) ≡ m = length-take-le m (drop (q * m) all) (omega arith) in
    ext_get_or 0 (block_at m all q) (f q) (here ∙ sym (wide q)) (λ r k. block-place m all q r (omega arith) ∙ entry-of-block f m wide n q r l (omega arith))
