use Rattle.std.proofs.Common.{◌<◌, length, ap, sym, subst, ◌∙◌, arith}
use Rattle.std.proofs.lemmas.List.{get_or_default}
use Rattle.za_table.specs.Ends.{EndedState}
use Rattle.za_table.specs.Tables.{label_at}
use Rattle.za_table.proofs.ended.Ended.label.Goals as goal

pub index-requires : goal.index-requires
index-requires c =
    let l : c.args.at < length c.self.inside.word = subst (λ (x : EndedState). c.args.at < length x.state.journal) (sym c.self.view_is) c.requires in
    let s = c.self.invariant.labels_size in
    let v = c.self.inside.labels.ok in omega arith

pub returns : goal.returns
returns c =
    let l : c.args.at < length c.self.inside.word = subst (λ (x : EndedState). c.args.at < length x.state.journal) (sym c.self.view_is) c.requires in
    let s = c.self.invariant.labels_size in
    c.index.ensures ∙ get_or_default c.self.inside.labels.items c.args.at c.index.result.now 0 (omega arith) ∙ c.self.invariant.labels c.args.at l ∙ ap
    (λ (x : EndedState). label_at x.given.dfa x.state.journal c.args.at) c.self.view_is
