use Rattle.std.proofs.Common.{◌≡◌, ap, subst, length, arith}
use Rattle.za_min.specs.Private.Exploring.{merged_of, AreFoundStates}
use Rattle.za_min.proofs.FoundSteps.{visited-row}
use Rattle.za_min.proofs.explore.Found.visit_all.Goals as goal

pub returns : goal.returns
returns c =
    let d = merged_of c.args.dfa.now c.args.classes.now in
    let letters : length c.alphabet.result.now.letters ≡ length c.args.dfa.now.alphabet.letters = ap (λ x. length x.letters) c.alphabet.ensures in
    let all : c.loop-a.a ≡ length c.args.dfa.now.alphabet.letters = omega arith in
    record {
      place = c.loop-a.invariant.within;
      found = visited-row d c.args.at c.loop-a.self.words.items c.loop-a.self.states.items
          (subst (λ a. AreFoundStates d c.args.at a c.loop-a.self.words.items c.loop-a.self.states.items) all c.loop-a.invariant.found);
    }
