use Rattle.std.proofs.Common.{◌≡◌, ℕ, ◌+◌, ◌-◌, ◌*◌, ◌^◌, ◌<◌, ◌++◌, Bool, List, length, slice_index, sym, ap, subst, ◌∙◌, arith}
use Rattle.std.proofs.lemmas.Bool.{or_right}
use Rattle.za_alpha.specs.declared.procs.Procs.{Procs}
use Rattle.za_alpha.specs.Words.{has}
use Rattle.za_alpha.specs.Procs.{members}
use Rattle.za_alpha.specs.Alphabet.{DistributedAlphabet, loc_of, procs_at}
use Rattle.za_dfa.specs.Tables.{CompleteDfa, IsComplete, step_of}
use Rattle.za_residue.specs.Masks.{is_under}
use Rattle.za_residue.specs.Private.Written.{AreWritten}
use Rattle.za_residue.proofs.Halves.{one-more, half-size}
use Rattle.za_residue.proofs.LeftOut.{more-omitted}
use Rattle.za_residue.proofs.Written.{apart-of, apart-more, some-inputs, taken-after, written-named, written-one, written-halves, written-reset, written-copied}
use Rattle.za_residue.proofs.Written.{more}
use Rattle.za_residue.proofs.writing.+write_sets.Goals as goal
use Rattle.za_residue.proofs.writing.+write_sets.Goals.{After-states-states, After-set_count, After-write_sets, After-has}

whole : (t : ℕ) (c : After-states-states t) → IsComplete c.args.event.now.closed.now
whole t c = subst IsComplete c.dfa-dfa.ensures.value c.states-states.ensures.whole

-- how many states there are
states : (t : ℕ) (c : After-states-states t) → c.states-states.result ≡ c.args.event.now.closed.now.states
states t c = c.states-states.ensures.value ∙ ap (λ (d : CompleteDfa). d.states) c.dfa-dfa.ensures.value

pub write_composed-requires-clause-some : goal.write_composed-requires-clause-some
write_composed-requires-clause-some t c =
    let b = (goal.at.write_composed-requires-clause-some t c).After-states-states in
    some-inputs c.args.event.now.closed.now (whole t b) c.dfa-dfa.ensures.diamonds c.args.event.now.a.0 c.requires.letter c.args.event.now.inputs.now
    c.args.event.now.masks.now c.requires.given.0
    c.requires.given.1

pub write_composed-requires-clause-taken : goal.write_composed-requires-clause-taken
write_composed-requires-clause-taken t c = λ q l.
    let b = (goal.at.write_composed-requires-clause-taken t c).After-states-states in
    let same = states t b in
    let one = taken-after c.args.event.now.closed.now (whole t b) c.dfa-dfa.ensures.diamonds c.args.event.now.a.0 c.requires.letter c.args.event.now.inputs.now
    c.args.event.now.masks.now
    c.requires.given.0 c.requires.given.1
    (has (members c.args.set)) c.args.omitted.now c.requires.omitted q (omega arith) in (one.0, one.1 ∙ sym same)

pub returns-then-processes-eq0 : goal.returns-then-processes-eq0
returns-then-processes-eq0 t c =
    let b = (goal.at.returns-then-processes-eq0 t c).After-states-states in
    let d = c.args.event.now.closed.now in
    let same = states t b in
    let one : 2 ^ c.args.processes ≡ 1 = ap (λ p. 2 ^ p) c.if-processes-eq0.true in
    let size : length c.args.block.now ≡ 1 * d.states = c.requires.block ∙ ap (λ k. k * d.states) one in
    let kept = c.write_composed.auto.block in
    let set : ℕ → Bool = has (members c.args.set) in
    let at : (q : ℕ) → q < d.states → slice_index c.follow.new.block q ≡ slice_index c.args.event.now.steps.now (slice_index c.write_composed.new.block q) =
    λ q l. c.follow.ensures q (omega arith) in
    let within : (q : ℕ) → q < d.states → slice_index c.write_composed.new.block q < d.states = λ q l. let w = c.write_composed.ensures.within q (omega arith)
    in omega arith in
    let P : ℕ → Type 0 = λ k. AreWritten d c.args.event.now.a.0 c.args.event.now.inputs.now c.args.event.now.masks.now set k c.follow.new.block in
    let Q : ℕ → Type 0 = λ v. v < d.states in
    subst P (sym one)
    (written-one d (whole t b) c.dfa-dfa.ensures.diamonds c.args.event.now.a.0 c.requires.letter c.args.event.now.inputs.now c.args.event.now.masks.now set
    c.args.omitted.now
    c.follow.new.block
    (apart-of d (whole t b) c.dfa-dfa.ensures.diamonds c.args.event.now.a.0 c.requires.letter c.args.event.now.inputs.now c.args.event.now.masks.now c.args.set
    c.requires.apart)
    c.requires.omitted
    (λ q l. at q l ∙ c.requires.steps.steps (slice_index c.write_composed.new.block q) (within q l)
    ∙ ap (λ v. step_of d v c.args.event.now.a.0) (c.write_composed.ensures.written q (omega arith)))
    (λ q l. subst Q (sym (at q l)) (c.requires.steps.within (slice_index c.write_composed.new.block q) (within q l))))

-- the block is twice a half
size : (t : ℕ) (c : After-set_count t) → length c.args.block.now ≡ c.set_count.result * c.states-states.result + c.set_count.result * c.states-states.result
size t c =
    let same = c.states-states.ensures.value ∙ ap (λ (d : CompleteDfa). d.states) c.dfa-dfa.ensures.value in
    half-size c.args.processes c.states-states.result c.set_count.result (length c.args.block.now) c.if-processes-eq0.false c.set_count.ensures.value
    (c.requires.block ∙ ap (λ k. 2 ^ c.args.processes * k) (sym same))

pub split_at_mut-low-requires : goal.split_at_mut-low-requires
split_at_mut-low-requires t c = let s = size t (goal.at.split_at_mut-low-requires t c).After-set_count in omega arith

-- the halves
long : (t : ℕ) (c : After-write_sets t) → (length c.write_sets.new.block ≡ 2 ^ (c.args.processes - 1) * c.args.event.now.closed.now.states)
    × (length c.split_at_mut-low.result.1.now ≡ 2 ^ (c.args.processes - 1) * c.args.event.now.closed.now.states)
long t c =
    let s = size t (goal.at.After-write_sets t c).After-set_count in
    let front = c.split_at_mut-low.ensures.front_len in
    let back = c.split_at_mut-low.ensures.back_len in
    let kept = c.write_sets.auto.block in
    let same : c.states-states.result ≡ c.args.event.now.closed.now.states = c.states-states.ensures.value
    ∙ ap (λ (d : CompleteDfa). d.states) c.dfa-dfa.ensures.value in
    let half : c.set_count.result * c.states-states.result ≡ 2 ^ (c.args.processes - 1) * c.args.event.now.closed.now.states =
    ap (λ k. c.set_count.result * k) same
    ∙ ap (λ m. m * c.args.event.now.closed.now.states) c.set_count.ensures.value in
    (omega arith, omega arith)

-- whether the last process takes part
part : (t : ℕ) (c : After-has t) → c.has.result ≡ has (loc_of c.args.event.now.closed.now.alphabet c.args.event.now.a.0) (c.args.processes - 1)
part t c =
    let d = c.args.event.now.closed.now in
    let al : c.alphabet.result.now ≡ d.alphabet = c.alphabet.ensures ∙ ap (λ (d : CompleteDfa). d.alphabet) c.dfa-dfa.ensures.value in
    c.has.ensures ∙ ap (λ (s : Procs). has (members s) (c.args.processes - 1))
    (c.loc.ensures ∙ ap (λ (al : DistributedAlphabet). procs_at al.letters c.args.event.now.a.0) al)

-- both halves make the block
both : (t : ℕ) (c : After-write_sets t) (high : List ℕ) →
    AreWritten c.args.event.now.closed.now c.args.event.now.a.0 c.args.event.now.inputs.now c.args.event.now.masks.now
    (more c.args.event.now.closed.now (whole t (goal.at.After-write_sets t c).After-states-states) c.dfa-dfa.ensures.diamonds c.args.event.now.a.0
    c.requires.letter
    c.args.event.now.inputs.now c.args.event.now.masks.now (has (members c.args.set)) (c.args.processes - 1)) (2 ^ (c.args.processes - 1)) high →
    AreWritten c.args.event.now.closed.now c.args.event.now.a.0 c.args.event.now.inputs.now c.args.event.now.masks.now (has (members c.args.set))
    (2 ^ c.args.processes)
    (c.write_sets.new.block ++ high)
both t c high h =
    let d = c.args.event.now.closed.now in
    let set : ℕ → Bool = has (members c.args.set) in
    let P : ℕ → Type 0 = λ p. AreWritten d c.args.event.now.a.0 c.args.event.now.inputs.now c.args.event.now.masks.now set (2 ^ p)
    (c.write_sets.new.block ++ high) in
    subst P (sym (one-more c.args.processes c.if-processes-eq0.false))
    (written-halves d (whole t (goal.at.After-write_sets t c).After-states-states) c.dfa-dfa.ensures.diamonds c.args.event.now.a.0 c.requires.letter
    c.args.event.now.inputs.now
    c.args.event.now.masks.now set (c.args.processes - 1)
    c.write_sets.new.block high (long t c).0 c.write_sets.ensures h)

pub write_identities-requires-clause-block : goal.write_identities-requires-clause-block
write_identities-requires-clause-block t c =
    let same = states t (goal.at.write_identities-requires-clause-block t c).After-states-states in
    (long t (goal.at.write_identities-requires-clause-block t c).After-write_sets).1 ∙ ap (λ k. 2 ^ (c.args.processes - 1) * k) (sym same)

pub returns-then-has : goal.returns-then-has
returns-then-has t c =
    let d = c.args.event.now.closed.now in
    let b = (goal.at.returns-then-has t c).After-states-states in
    let same = states t b in
    both t (goal.at.returns-then-has t c).After-write_sets c.write_identities.new.block
    (written-reset d (whole t b) c.dfa-dfa.ensures.diamonds c.args.event.now.a.0 c.requires.letter c.args.event.now.inputs.now c.args.event.now.masks.now
    (has (members c.args.set))
    (c.args.processes - 1) c.write_identities.new.block
    (sym (part t (goal.at.returns-then-has t c).After-has) ∙ c.if-has.true)
    (λ m q lm lq. ap (λ k. slice_index c.write_identities.new.block (m * k + q)) (sym same) ∙ c.write_identities.ensures m q lm (omega arith)))

pub copy_from_slice-requires : goal.copy_from_slice-requires
copy_from_slice-requires t c = let l = long t (goal.at.copy_from_slice-requires t c).After-write_sets in l.1 ∙ sym l.0

pub returns-then-join_sets : goal.returns-then-join_sets
returns-then-join_sets t c =
    let d = c.args.event.now.closed.now in
    let b = (goal.at.returns-then-join_sets t c).After-states-states in
    let set : ℕ → Bool = has (members c.args.set) in
    let r : ℕ = c.args.processes - 1 in
    let low = c.write_sets.new.block in
    let ne = c.if-processes-eq0.false in
    let le = c.requires.processes in
    let P : List ℕ → Type 0 = λ high. AreWritten d c.args.event.now.a.0 c.args.event.now.inputs.now c.args.event.now.masks.now
    (more d (whole t b) c.dfa-dfa.ensures.diamonds c.args.event.now.a.0 c.requires.letter c.args.event.now.inputs.now c.args.event.now.masks.now set r)
    (2 ^ r) high in
    both t (goal.at.returns-then-join_sets t c).After-write_sets c.copy_from_slice.new.self
    (subst P (sym c.copy_from_slice.ensures.after)
    (written-copied d (whole t b) c.dfa-dfa.ensures.diamonds c.args.event.now.a.0 c.requires.letter c.args.event.now.inputs.now c.args.event.now.masks.now set r
    low (omega arith)
    (sym (part t (goal.at.returns-then-join_sets t c).After-has) ∙ c.if-has.false)
    (λ i y l under.
    sym (c.requires.omitted.members i y l)
    ∙ ap (λ o. has (members o) y) (sym (c.join_sets.ensures.same c.if-join_sets.true i l))
    ∙ c.join_sets.ensures.members i y l ∙ or_right _ (is_under c.args.event.now.masks.now i r y) under)
    c.write_sets.ensures))

pub write_sets-requires-2 : goal.write_sets-requires-2
write_sets-requires-2 t c =
    let d = c.args.event.now.closed.now in
    let b = (goal.at.write_sets-requires-2 t c).After-states-states in
    let r : ℕ = c.args.processes - 1 in
    let ne = c.if-processes-eq0.false in
    let le = c.requires.processes in
    let down = c.decreases in (
      omega arith,
      (
        c.requires.letter,
        (
          c.requires.given,
          (
            c.requires.steps,
            (
              omega arith,
              (
                apart-more d (whole t b) c.dfa-dfa.ensures.diamonds c.args.event.now.a.0 c.requires.letter c.args.event.now.inputs.now
                    c.args.event.now.masks.now c.args.set c.with.result r
                    c.requires.apart
                    (sym (part t (goal.at.write_sets-requires-2 t c).After-has) ∙ c.if-has.false) c.with.ensures.joined,
                (
                  more-omitted c.args.event.now.masks.now d.alphabet.processes (has (members c.args.set)) (has (members c.with.result)) r
                      (length c.args.event.now.inputs.now)
                      c.args.omitted.now c.join_sets.new.joined (omega arith)
                      c.with.ensures.joined c.requires.omitted c.join_sets.ensures.room c.join_sets.ensures.small
                      c.join_sets.ensures.members,
                  (long t (goal.at.write_sets-requires-2 t c).After-write_sets).1,
                ),
              ),
            ),
          ),
        ),
      ),
    )

pub returns : goal.returns
returns t c =
    let d = c.args.event.now.closed.now in
    let b = (goal.at.returns t c).After-states-states in
    let set : ℕ → Bool = has (members c.args.set) in
    let r : ℕ = c.args.processes - 1 in
    both t (goal.at.returns t c).After-write_sets c.write_sets-2.new.block
    (written-named d c.args.event.now.a.0 c.args.event.now.inputs.now c.args.event.now.masks.now (has (members c.with.result))
    (more d (whole t b) c.dfa-dfa.ensures.diamonds c.args.event.now.a.0 c.requires.letter c.args.event.now.inputs.now c.args.event.now.masks.now set r)
    (2 ^ r) c.write_sets-2.new.block c.with.ensures.joined c.write_sets-2.ensures)
