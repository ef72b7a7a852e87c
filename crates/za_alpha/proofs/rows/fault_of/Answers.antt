use Rattle.std.proofs.Common.{◌≡◌, ℕ, ◌+◌, ◌<◌, List, length, map, take, get_or, None, slice_set, rules, subst, sym, ◌∙◌}
use Rattle.za_alpha.specs.declared.alphabet.LetterRow.{LetterRow}
use Rattle.za_alpha.specs.Limits.{most_letters}
use Rattle.za_alpha.specs.Rows.{letter_fault, letter_of_row}
use Rattle.za_alpha.specs.Private.Index.{key_of, key_at, AreChains}
use Rattle.za_alpha.proofs.Growing.{index-rows}
use Rattle.za_alpha.proofs.RowLemmas.{fault-later}
use Rattle.za_alpha.proofs.rows.fault_of.Goals as goal

pub loop-at-preserved : goal.loop-at-preserved
loop-at-preserved c = record {
  right =
      let none : letter_fault c.args.processes (take c.loop-at.at c.args.rows.now) (get_or c.args.rows.now c.loop-at.at c.index-rows-at.result) ≡ None =
      search rules in
      fault-later c.args.processes c.args.rows.now c.loop-at.at c.index-rows-at.result (search rules) none ∙ c.loop-at.invariant.right;
  indexed =
      let rows : List LetterRow = c.args.rows.now in
      let at : ℕ = c.loop-at.at in
      let room : at < most_letters = search rules in
      let here : at < length rows = search rules in
      let key : c.key_of.result ≡ key_of (get_or rows at c.index-rows-at.result).name.items = search rules in
      let grown = index-rows rows at c.index-rows-at.result c.loop-at.index.first c.loop-at.index.next c.key_of.result here room c.loop-at.invariant.indexed key
      c.key_of.ensures.small in
      let P : List ℕ → List ℕ → Type 0 =
      λ first next. AreChains (key_at (map letter_of_row (take (at + 1) rows))) (length (map letter_of_row (take (at + 1) rows))) first next in
      subst (λ first. P first c.add.new.self.next) (sym c.add.ensures.first)
      (subst (P (slice_set c.loop-at.index.first c.key_of.result (at + 1))) (sym c.add.ensures.next) grown);
}
