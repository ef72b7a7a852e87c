use Rattle.std.proofs.Common.{◌<◌, length, slice_index, ap, subst, ◌∙◌, arith}
use Rattle.std.proofs.lemmas.List.{get_or_default}
use Rattle.za_shared.specs.Holders.{value}
use Rattle.za_shared.specs.Records.{Records, AreRecords}
use Rattle.za_shared.proofs.Shelves.{value-got}
use Rattle.za_shared.proofs.Locals.{local-is}
use Rattle.za_shared.proofs.shared.SharedLocals.local.Goals as goal

pub returns-clause-after : goal.returns-clause-after
returns-clause-after c = λ w h.
    let now = c.args.self.now in
    let ok : AreRecords now = subst AreRecords c.self.view_is c.self.invariant.records in
    let i = c.self.inside in
    let size = c.self.invariant.records.keys_size in
    let small : c.args.p < length i.keys.items = let l = c.requires in let e = ap (λ (x : Records). x.dfa.alphabet.processes) c.self.view_is in omega arith in
    value-got i.shelf c.index.result.now c.get.result.now c.get.ensures
    ∙ ap (value i.shelf) (c.index.ensures ∙ get_or_default i.keys.items c.args.p c.index.result.now 0 small)
    ∙ ap (λ (x : Records). value x.shelf (slice_index x.keys c.args.p)) c.self.view_is
    ∙ local-is now w c.args.p ok.keys_size c.requires h
