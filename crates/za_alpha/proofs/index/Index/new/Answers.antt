use Rattle.std.proofs.Common.{ℕ, [], length, slice_index, ap, ◌∙◌}
use Rattle.std.proofs.lemmas.List.{length-replicate, get_or-replicate}
use Rattle.za_alpha.specs.Limits.{most_letters}
use Rattle.za_alpha.specs.Private.Index.{keys, key_at}
use Rattle.za_alpha.proofs.Indexed.{chains-none}
use Rattle.za_alpha.proofs.index.Index.new.Goals as goal

pub returns : goal.returns
returns c =
    let firsts = c.no_firsts.ensures in
    let nexts = c.no_nexts.ensures in
    chains-none (key_at []) c.no_firsts.result c.no_nexts.result (ap length firsts ∙ length-replicate {A = ℕ} keys 0)
    (ap length nexts ∙ length-replicate {A = ℕ} most_letters 0)
    (λ k l. ap (λ xs. slice_index xs k) firsts ∙ get_or-replicate {A = ℕ} keys k 0 0 l)
