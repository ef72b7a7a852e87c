use Rattle.std.proofs.Common.{[], ◌∷◌, sym, ap, subst, ◌∙◌, arith, length}
use Rattle.za_shared.specs.Marks.{AreMarked}
use Rattle.za_shared.specs.Records.{Records}
use Rattle.za_shared.specs.Private.Inside.{records_in}
use Rattle.za_shared.specs.Private.Steps.{HasAdopted}
use Rattle.za_shared.proofs.Adopting.{adopted-records, adopted}
use Rattle.za_shared.proofs.Vectors.{written}
use Rattle.za_shared.proofs.shared.SharedLocals.adopt.Goals as goal

pub invariant_of-self : goal.invariant_of-self
invariant_of-self c =
    let inv = c.self.invariant in
    let size = c.shelve-key.ensures.size ∙ ap length c.deref_mut.ensures.value in
    record {
      records = adopted-records (records_in c.self.inside) inv.records (ap (λ (x : Records). x.own) c.self.view_is ∙ c.requires.free) c.shelve-key.new.shelf
          c.pop.new.self.items c.shelve-key.new.spares.items c.in-Some.made c.shelve-key.result c.in-Some.ensures.items c.shelve-key.ensures.shelved;
      room = let a = inv.room in let b = c.pop.ensures.capacity in let d = c.shelve-key.ensures.capacity in omega arith;
      processes = inv.processes;
      states = inv.states;
      marks = subst (AreMarked c.shelve-key.new.shelf) (sym (written c.self.inside.marks c.shelve-key.new.marks size)) c.shelve-key.ensures.marks;
    }

pub returns-in-Some : goal.returns-in-Some
returns-in-Some c =
    let r = records_in c.self.inside in
    subst (λ (x : Records). HasAdopted x (record r { shelf = c.shelve-key.new.shelf; own = c.shelve-key.result ∷ []; spares = c.shelve-key.new.spares.items }))
    c.self.view_is
    (adopted r c.self.invariant.records (ap (λ (x : Records). x.own) c.self.view_is ∙ c.requires.free) c.shelve-key.new.shelf
    c.pop.new.self.items c.shelve-key.new.spares.items c.in-Some.made c.shelve-key.result c.in-Some.ensures.items c.shelve-key.ensures.shelved)
