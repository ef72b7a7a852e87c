use Rattle.std.proofs.Common.{ℕ, List, sym, ap, subst, ◌∙◌}
use Rattle.za_local.specs.Locals.{LocalState}
use Rattle.za_shared.specs.Marks.{mark, AreMarked, with_mark}
use Rattle.za_shared.specs.Private.Steps.{HasShelved}
use Rattle.za_shared.proofs.Marking.{marked-more}
use Rattle.za_shared.proofs.Shelving.{passes-live, passes-value, shelved-again, put-is, put-old, put-same}
use Rattle.za_shared.proofs.holders.shelve.Goals as goal

pub same_marked-requires : goal.same_marked-requires
same_marked-requires c = λ key other p got.
    let s = c.args.shelf.now in
    c.requires.marks key other (passes-live s _ key c.live-live.ensures.counted p) got ∙ ap mark (passes-value s c.args.local key p)
    ∙ sym c.mark_of-mark.ensures

pub returns-in-Some-clause-shelved : goal.returns-in-Some-clause-shelved
returns-in-Some-clause-shelved c =
    let s = c.args.shelf.now in
    let key : ℕ = c.in-Some.key.0 in
    subst (λ (ls : List LocalState). HasShelved s c.hold.new.self c.args.spares.now.items ls c.args.local c.args.holders key)
    (sym c.push_reserved.ensures.items)
    (shelved-again s c.hold.new.self c.args.spares.now.items c.args.local c.args.holders key c.hold.ensures.changes c.hold.ensures.live
    c.in-Some.ensures.counted
    c.in-Some.ensures.least.0)

pub returns-clause-marks : goal.returns-clause-marks
returns-clause-marks c =
    let s = c.args.shelf.now in
    let t = c.put-key.new.self in
    let key : ℕ = c.put-key.result.0 in
    let v = c.args.local in
    let put = c.put-key.ensures in
    let spares = c.args.spares.now.items in
    subst (AreMarked t) (sym (c.set_mark.ensures ∙ ap (with_mark c.args.marks.now key) c.mark_of-mark.ensures))
    (marked-more s t c.args.marks.now key v (put-is s t spares v c.args.holders key put.vacant put.changes)
    (put-old s t spares v c.args.holders key put.vacant put.changes) (put-same s t spares v c.args.holders key put.vacant put.changes) c.requires.marks)
