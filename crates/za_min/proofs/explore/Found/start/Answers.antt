use Rattle.std.proofs.Common.{ap, slice_index, ◌∙◌, ◌++◌, ◌∷◌, [], arith}
use Rattle.za_min.specs.Private.Exploring.{merged_of}
use Rattle.za_min.proofs.FoundSteps.{classes-length, visited-start}
use Rattle.za_min.proofs.explore.Found.start.Goals as goal

pub of-requires : goal.of-requires
of-requires c = let long = classes-length c.args.dfa.now c.args.classes.now c.requires in omega arith

pub returns : goal.returns
returns c =
    visited-start (merged_of c.args.dfa.now c.args.classes.now) c.push.new.self.items c.push-2.new.self.items c.of.result
    (c.in_ok-push.ensures.items ∙ ap (λ xs. xs ++ c.new.result ∷ []) c.new-words.ensures.items ∙ ap (λ x. x ∷ []) c.new.ensures)
    (c.in_ok-push-2.ensures.items ∙ ap (λ xs. xs ++ c.of.result ∷ []) c.new-states.ensures.items)
    (c.of.ensures ∙ ap (slice_index c.args.classes.now) c.start.ensures.value)
