use Rattle.std.proofs.Common.{◌≡◌, ◌≢◌, subst}
use Rattle.std.specs.Prelude.{IfOk, MatchOption}
use Rattle.za_dfa.specs.Tables.{automaton_of}
use Rattle.za_min.specs.Minimal.{MinimalDfa, IsLeastApart}
use Rattle.za_min.proofs.minimal.Minimal.apart.Goals as goal

pub returns : goal.returns
returns c =
    let P : MinimalDfa → Type 0 = λ m. IfOk c.word_apart.result
    (λ word. MatchOption word (c.args.q ≡ c.args.r) (λ w. (c.args.q ≢ c.args.r) × IsLeastApart (automaton_of m.dfa) c.args.q c.args.r w)) in
    subst P c.self.view_is c.word_apart.ensures
