use Rattle.std.proofs.Common.{◌≡◌, ℕ, List, [], length, map, replicate, ap, sym, ◌∙◌, arith}
use Rattle.std.proofs.lemmas.List.Elements.{All-nil}
use Rattle.za_alpha.specs.Procs.{members}
use Rattle.za_alpha.specs.Alphabet.{DistributedAlphabet, loc_of}
use Rattle.za_gossip.specs.Rows.{Rows, rows_after, blank_rows, AreRowsAfter}
use Rattle.za_alpha.proofs.Copies.{same-for-all}
use Rattle.callers.proofs.gossip.after_first.Goals as goal

-- copies of the blank rows are the rows of the letter's processes before any event
opening : (alphabet : DistributedAlphabet) (a n count : ℕ) (inputs : List Rows) (blank : Rows) → n ≡ alphabet.processes → count ≡ length (loc_of alphabet a) →
    inputs ≡ replicate count blank → ((x : ℕ) → blank ≡ rows_after (loc_of alphabet) n [] x) → AreRowsAfter alphabet [] (loc_of alphabet a) inputs
opening alphabet a n count inputs blank processes counted copies same = record {
  word = All-nil _;
  rows = copies ∙ ap (λ k. replicate k blank) counted ∙ same-for-all (rows_after (loc_of alphabet) n []) blank (loc_of alphabet a) same
      ∙ ap (λ k. map (rows_after (loc_of alphabet) k []) (loc_of alphabet a)) processes;
}

pub advance-requires-clause-rows : goal.advance-requires-clause-rows
advance-requires-clause-rows c =
    let alphabet = c.args.alphabet.now in
    let count : c.loop.counter ≡ c.count-end.result = omega arith in (
      [],
      opening alphabet c.args.a.0 c.processes-n.result c.loop.counter c.as_slice.result.now (blank_rows c.processes-n.result) c.processes-n.ensures.value
          (count ∙ c.count-end.ensures ∙ ap (λ s. length (members s)) c.loc.ensures) (c.as_slice.ensures.value ∙ c.loop.invariant)
          (λ x. sym c.in_ok-into.ensures.rows ∙ c.in_ok-into.ensures.opening (loc_of alphabet) x),
    )

pub returns : goal.returns
returns c =
    let alphabet = c.args.alphabet.now in
    let count : c.loop.counter ≡ c.count-end.result = omega arith in
    c.advance.ensures.rows []
    (opening alphabet c.args.a.0 c.processes-n.result c.loop.counter c.as_slice.result.now (blank_rows c.processes-n.result) c.processes-n.ensures.value
    (count ∙ c.count-end.ensures ∙ ap (λ s. length (members s)) c.loc.ensures) (c.as_slice.ensures.value ∙ c.loop.invariant)
    (λ x. sym c.in_ok-into.ensures.rows ∙ c.in_ok-into.ensures.opening (loc_of alphabet) x))
