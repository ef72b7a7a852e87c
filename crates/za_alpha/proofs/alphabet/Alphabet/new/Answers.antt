use Rattle.std.proofs.Common.{◌≡◌, ℕ, ◌+◌, ◌++◌, ◌∷◌, [], None, List, length, take, get_or, vec_len, rules, sym, ap, subst, ◌∙◌, arith}
use Rattle.std.proofs.lemmas.List.{length-map, map-append, length_push, take_more, take_all}
use Rattle.std.proofs.lemmas.Iterator.Adapters.{YieldsList-from_vec}
use Rattle.std.proofs.lemmas.Iterator.Consumers.{YieldsList-turn, YieldsList-end}
use Rattle.za_alpha.specs.declared.alphabet.LetterRow.{LetterRow}
use Rattle.za_alpha.specs.Rows.{alphabet_fault, letter_of_row, alphabet_of_rows}
use Rattle.za_alpha.specs.Alphabet.{DistributedAlphabet, NamedLetter}
use Rattle.za_alpha.specs.Private.NextRow.{IsNextRow}
use Rattle.za_alpha.proofs.RowLemmas.{right_alphabet}
use Rattle.za_alpha.proofs.Growing.{row-fits}
use Rattle.za_alpha.proofs.alphabet.Alphabet.new.Goals as goal

pub add_row-requires-clause-right : goal.add_row-requires-clause-right
add_row-requires-clause-right c =
    let rows : List LetterRow = c.args.rows.items in
    let none : alphabet_fault c.args.n rows ≡ None = rw (← c.as_slice.ensures.value) (sym c.fault_of.ensures ∙ c.in_default.is) in
    let g = c.into_iter-row-iterator.ensures.into_iter_gives in
    let size : vec_len c.args.rows ≡ length rows = search rules in
    let t = YieldsList-turn (YieldsList-from_vec {s = c.into_iter-row-iterator.result} rows g.0 (g.1 ∙ size)) c.loop-row.yielded c.loop-row.row-iterator
    c.loop-row.yielded_by c.next.result c.next.new.self c.in-Some-row.row c.in-Some-row.is c.next.ensures.steps in
    let a : ℕ = length c.loop-row.yielded in
    let fits : IsNextRow (alphabet_of_rows c.args.n (take a rows)) (get_or rows a c.in-Some-row.row) = row-fits c.args.n rows none a c.in-Some-row.row t.0 in
    let same : alphabet_of_rows c.args.n (take a rows) ≡ c.loop-row.letters = ap (alphabet_of_rows c.args.n) (sym c.loop-row.invariant.first)
    ∙ sym c.loop-row.invariant.added in
    subst (λ alphabet. IsNextRow alphabet c.in-Some-row.row) same (subst (λ row. IsNextRow (alphabet_of_rows c.args.n (take a rows)) row) (sym t.1) fits)

pub add_row-requires-clause-room : goal.add_row-requires-clause-room
add_row-requires-clause-room c =
    let rows : List LetterRow = c.args.rows.items in
    let none : alphabet_fault c.args.n rows ≡ None = rw (← c.as_slice.ensures.value) (sym c.fault_of.ensures ∙ c.in_default.is) in
    let g = c.into_iter-row-iterator.ensures.into_iter_gives in
    let long : vec_len c.args.rows ≡ length rows = search rules in
    let t = YieldsList-turn (YieldsList-from_vec {s = c.into_iter-row-iterator.result} rows g.0 (g.1 ∙ long)) c.loop-row.yielded c.loop-row.row-iterator
    c.loop-row.yielded_by c.next.result c.next.new.self c.in-Some-row.row c.in-Some-row.is c.next.ensures.steps in
    let few = (right_alphabet c.args.n rows none).few_letters in
    let size : length c.loop-row.letters.letters ≡ length c.loop-row.yielded =
    ap (λ (a : DistributedAlphabet). length a.letters) c.loop-row.invariant.added ∙ length-map c.loop-row.yielded letter_of_row in
    let below = t.0 in omega arith

pub into_alphabet-requires : goal.into_alphabet-requires
into_alphabet-requires c =
    let rows : List LetterRow = c.args.rows.items in
    let none : alphabet_fault c.args.n rows ≡ None = rw (← c.as_slice.ensures.value) (sym c.fault_of.ensures ∙ c.in_default.is) in
    let g = c.into_iter-row-iterator.ensures.into_iter_gives in
    let long : vec_len c.args.rows ≡ length rows = search rules in
    let t = YieldsList-end (YieldsList-from_vec {s = c.into_iter-row-iterator.result} rows g.0 (g.1 ∙ long)) c.loop-row.yielded c.loop-row.row-iterator
    c.loop-row.yielded_by c.next.result c.next.new.self c.in-None.is c.next.ensures.steps in
    let some = (right_alphabet c.args.n rows none).some_letter in
    let size : length c.loop-row.letters.letters ≡ length c.loop-row.yielded =
    ap (λ (a : DistributedAlphabet). length a.letters) c.loop-row.invariant.added ∙ length-map c.loop-row.yielded letter_of_row in
    let all = t.1 in omega arith

pub loop-row-preserved : goal.loop-row-preserved
loop-row-preserved c =
    let rows : List LetterRow = c.args.rows.items in
    let g = c.into_iter-row-iterator.ensures.into_iter_gives in
    let long : vec_len c.args.rows ≡ length rows = search rules in
    let t = YieldsList-turn (YieldsList-from_vec {s = c.into_iter-row-iterator.result} rows g.0 (g.1 ∙ long)) c.loop-row.yielded c.loop-row.row-iterator
    c.loop-row.yielded_by c.next.result c.next.new.self c.in-Some-row.row c.in-Some-row.is c.next.ensures.steps in
    let a : ℕ = length c.loop-row.yielded in
    let row = c.in-Some-row.row in
    let made : ℕ → List NamedLetter → DistributedAlphabet = λ n ls. record { processes = n; letters = ls } in
    let more : take (a + 1) rows ≡ c.loop-row.yielded ++ row ∷ [] =
    take_more rows a row t.0 ∙ ap (λ xs. xs ++ get_or rows a row ∷ []) (sym c.loop-row.invariant.first)
    ∙ ap (λ (r : LetterRow). c.loop-row.yielded ++ r ∷ []) (sym t.1) in
    record {
      added =
          c.in_ok-add_row.ensures.ok
          ∙ ap (λ (a : DistributedAlphabet). made a.processes (a.letters ++ letter_of_row row ∷ [])) c.loop-row.invariant.added
          ∙ ap (made c.args.n) (sym (map-append letter_of_row c.loop-row.yielded (row ∷ [])));
      first = sym more ∙ ap (λ n. take n rows) (sym (length_push c.loop-row.yielded row));
    }

pub returns : goal.returns
returns c =
    let rows : List LetterRow = c.args.rows.items in
    let none : alphabet_fault c.args.n rows ≡ None = rw (← c.as_slice.ensures.value) (sym c.fault_of.ensures ∙ c.in_default.is) in
    let g = c.into_iter-row-iterator.ensures.into_iter_gives in
    let long : vec_len c.args.rows ≡ length rows = search rules in
    let t = YieldsList-end (YieldsList-from_vec {s = c.into_iter-row-iterator.result} rows g.0 (g.1 ∙ long)) c.loop-row.yielded c.loop-row.row-iterator
    c.loop-row.yielded_by c.next.result c.next.new.self c.in-None.is c.next.ensures.steps in
    let all : c.loop-row.yielded ≡ rows = c.loop-row.invariant.first ∙ ap (λ n. take n rows) t.1 ∙ take_all (length rows) rows (omega arith) in
    (none, c.into_alphabet.ensures ∙ c.loop-row.invariant.added ∙ ap (alphabet_of_rows c.args.n) all)
