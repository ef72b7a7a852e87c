use Rattle.std.proofs.Common.{◌≡◌, ◌<◌, ◌+◌, true, length, slice_index, set, sym, ap, subst, ◌∙◌, arith, vec_len, ◌&&◌, ◌||◌, ◌==◌}
use Rattle.std.proofs.lemmas.Grind.{get_or_default_zero}
use Rattle.za_alpha.specs.Words.{has}
use Rattle.za_alpha.specs.Procs.{members}
use Rattle.za_alpha.specs.Alphabet.{loc_of}
use Rattle.za_script.specs.Scripts.{comes_next}
use Rattle.za_script.specs.ScriptLists.{script_of}
use Rattle.za_script.specs.Private.Weaving.{set_at}
use Rattle.za_script.proofs.Totals.{length-le-total}
use Rattle.za_script.proofs.Firing.{place-below, IsFiring, firing-skip, firing-move}
use Rattle.za_script.proofs.weaving.Weaving.fire.Goals as goal
use Rattle.za_script.proofs.weaving.Weaving.fire.Goals.{then-has, else-has}

pub overflow_add-index_mut : goal.overflow_add-index_mut
overflow_add-index_mut c =
    let loc = loc_of c.args.alphabet.now c.args.a.0 in
    let own : has loc c.loop-p.p ≡ true = ap (λ s. has (members s) c.loop-p.p) (sym c.loc-loc.ensures) ∙ sym c.has.ensures ∙ c.if-has.true in
    let within : c.loop-p.p < length c.args.scripts.now = omega arith in
    let la : c.args.a.0 < length c.args.self.now.sets.items = omega arith in
    let below = place-below (script_of c.args.scripts.now) loc c.args.self.now.places.items c.args.self.now.sets.items c.args.a.0 c.loop-p.p c.requires.ready
    c.requires.complete.same la own in
    let short = length-le-total (script_of c.args.scripts.now) (length c.args.scripts.now) c.loop-p.p within in
    let few = c.requires.limits.few_letters in
    let size = c.loop-p.invariant.firing.size in
    let inside : c.loop-p.p < length c.loop-p.self.places.items = omega arith in
    let here : c.index_mut-then-has.result.now ≡ slice_index c.loop-p.self.places.items c.loop-p.p =
    c.index_mut-then-has.ensures.value ∙ get_or_default_zero c.loop-p.self.places.items c.loop-p.p c.index_mut-then-has.result.now inside in
    let still = c.loop-p.invariant.firing.left c.loop-p.p (omega arith) in omega arith

pub loop-p-preserved : goal.loop-p-preserved
loop-p-preserved c =
    let loc = loc_of c.args.alphabet.now c.args.a.0 in
    let own : has loc c.loop-p.p ≡ c.has.result = ap (λ s. has (members s) c.loop-p.p) (sym c.loc-loc.ensures) ∙ sym c.has.ensures in
    let scripts = script_of c.args.scripts.now in
    let old = c.args.self.now.places.items in
    let places = c.loop-p.self.places.items in
    let sets = c.loop-p.self.sets.items in
    let n = c.loop-p.p in
    let size = c.loop-p.invariant.firing.size in
    let inside : n < length places = omega arith in
    elim c.if-has.branch [
      | then-has w ↦
          let now = w.index_mut-then-has.result.now in
          let here : now ≡ slice_index places n = w.index_mut-then-has.ensures.value ∙ get_or_default_zero places n now inside in
          let more = w.mark_next.new.self.sets.items in
          let same = w.mark_next.ensures.letters in
          let k = firing-move scripts loc old places sets more n c.loop-p.invariant.firing (own ∙ w.if-has.true) inside (omega arith)
          (λ a q l.
          w.mark_next.ensures.joined a q (omega arith)
          ∙ ap (λ v. has (set_at sets a) q || (q == n && comes_next (scripts n) (slice_index (set places n (v + 1)) n) a)) here) in
          record {
            letters = ap (λ l. vec_len l.sets) w.self-is ∙ same ∙ c.loop-p.invariant.letters;
            firing =
                subst (λ l. IsFiring scripts loc old l.places.items l.sets.items (n + 1)) (sym w.self-is)
                (subst (λ xs. IsFiring scripts loc old xs more (n + 1)) (sym (w.mark_next.ensures.places ∙ ap (λ v. set places n (v + 1)) here)) k);
          }
      | else-has w ↦
          record {
            letters = ap (λ l. vec_len l.sets) w.self-is ∙ c.loop-p.invariant.letters;
            firing =
                subst (λ l. IsFiring scripts loc old l.places.items l.sets.items (n + 1)) (sym w.self-is)
                (firing-skip scripts loc old places sets n c.loop-p.invariant.firing (own ∙ w.if-has.false));
          }
    ]
