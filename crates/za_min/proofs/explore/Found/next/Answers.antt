use Rattle.std.proofs.Common.{ap, slice_index, ◌∙◌, arith}
use Rattle.std.proofs.lemmas.List.{get_or_read}
use Rattle.za_dfa.specs.Tables.{step_of}
use Rattle.za_min.proofs.FoundSteps.{classes-length, state-at}
use Rattle.za_min.proofs.explore.Found.next.Goals as goal

pub step-requires-clause-state : goal.step-requires-clause-state
step-requires-clause-state c =
    let s = state-at c.args.dfa.now c.args.classes.now c.requires.classes c.args.self.now.words.items c.args.self.now.states.items c.requires.states c.args.at
    c.requires.place in
    let below = s.2 in
    let is = get_or_read c.args.self.now.states.items c.args.at c.index.result.now s.0 c.index.ensures 0 in omega arith

pub of-requires : goal.of-requires
of-requires c = let long = classes-length c.args.dfa.now c.args.classes.now c.requires.classes in omega arith

pub returns : goal.returns
returns c =
    let s = state-at c.args.dfa.now c.args.classes.now c.requires.classes c.args.self.now.words.items c.args.self.now.states.items c.requires.states c.args.at
    c.requires.place in
    let is = get_or_read c.args.self.now.states.items c.args.at c.index.result.now s.0 c.index.ensures 0 in
    c.of.ensures ∙ ap (slice_index c.args.classes.now) (c.step.ensures.value ∙ ap (λ q. step_of c.args.dfa.now q c.args.a.0) (is ∙ s.1))
