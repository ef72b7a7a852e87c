use Rattle.std.proofs.Common.{ℕ, ◌<◌, List, [], length, get_or, replicate, Option, None, refl, ap, ◌∙◌, arith}
use Rattle.std.proofs.lemmas.List.{get_or-replicate, length-replicate}
use Rattle.std.proofs.lemmas.List.FromFn.{fill_by_all}
use Rattle.std.proofs.lemmas.List.Elements.{All-nil}
use Rattle.za_alpha.specs.Limits.{most_processes}
use Rattle.za_alpha.specs.Alphabet.{loc_of}
use Rattle.za_gossip.specs.Rows.{blank_rows, rows_after}
use Rattle.za_gossip.proofs.RowsOf.{blank-opening}
use Rattle.za_payload.proofs.circle.Circle.new.Goals as goal

pub returns-clause-opening : goal.returns-clause-opening
returns-clause-opening c =
    let alphabet = c.args.alphabet.now in
    let n = c.processes-processes.result in
    let count = c.processes-processes.ensures.value in
    let few = c.processes-processes.ensures.whole.few_processes in
    let rows = c.in_ok-blanks.ensures in
    let known = c.in_ok-nothing_known.ensures in
    let none : List (Option ℕ) = replicate most_processes None in
    record {
      processes = count;
      one_each = refl;
      rows = record {
        word = All-nil (λ a. a < length alphabet.letters);
        rows = rows ∙ fill_by_all (rows_after (loc_of alphabet) alphabet.processes []) (replicate n (blank_rows n)) alphabet.processes (blank_rows 0)
            (length-replicate n (blank_rows n) ∙ count)
            (λ p l. get_or-replicate n p (blank_rows n) (blank_rows 0) (omega arith) ∙ ap blank_rows count
            ∙ blank-opening (loc_of alphabet) alphabet.processes p);
      };
      known = λ p q lp lq.
          ap (λ (k : List (List (Option ℕ))). get_or (get_or k p []) q None) known
          ∙ ap (λ (r : List (Option ℕ)). get_or r q None) (get_or-replicate n p none [] (omega arith))
          ∙ get_or-replicate most_processes q None None (omega arith);
    }

pub returns-clause-circle : goal.returns-clause-circle
returns-clause-circle c = ([], [], returns-clause-opening c)
