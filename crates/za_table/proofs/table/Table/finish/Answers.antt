use Rattle.std.proofs.Common.{arith, length, sym, ◌∙◌, ◌-◌}
use Rattle.za_alpha.specs.Alphabet.{loc_of}
use Rattle.za_script.specs.ScriptLists.{script_of}
use Rattle.za_script.specs.Scripts.{total}
use Rattle.za_script.proofs.GoingOn.{weaving_goes_on}
use Rattle.za_table.proofs.Keeping.{machine, sound}
use Rattle.za_table.proofs.Weaving.{turn-allowed, turn-woven, turn-less, end-woven, end-over}
use Rattle.za_table.proofs.table.Table.finish.Goals as goal

pub fire-requires-clause-allowed : goal.fire-requires-clause-allowed
fire-requires-clause-allowed c =
    let h = c.arrive_all.new.self in
    let n = c.letters.ensures.value in
    turn-allowed c.loop-a.self h h c.first_complete-a.result c.arrive_all.ensures.given c.arrive_all.ensures.journal c.first_complete-a.ensures.table
    c.arrive_all.ensures.all c.first_complete-a.ensures.first (λ e. c.if-a-letters.false (e ∙ sym n))

pub loop-a-smaller : goal.loop-a-smaller
loop-a-smaller c =
    let h = c.arrive_all.new.self in
    let n = c.letters.ensures.value in
    turn-less c.loop-a.self h c.fire.new.self c.first_complete-a.result c.arrive_all.ensures.given c.arrive_all.ensures.journal
    c.first_complete-a.ensures.table c.arrive_all.ensures.all c.first_complete-a.ensures.first (λ e. c.if-a-letters.false (e ∙ sym n))
    c.fire.ensures.given c.fire.ensures.state

pub loop-a-preserved : goal.loop-a-preserved
loop-a-preserved c =
    let h = c.arrive_all.new.self in
    let n = c.letters.ensures.value in
    record {
      given = c.fire.ensures.given ∙ c.arrive_all.ensures.given ∙ c.loop-a.invariant.given;
      hands = c.fire.ensures.hands ∙ c.arrive_all.ensures.hands ∙ c.loop-a.invariant.hands;
      same = c.loop-a.invariant.same ∙ turn-woven c.loop-a.self h c.fire.new.self c.first_complete-a.result c.arrive_all.ensures.given
          c.arrive_all.ensures.journal c.first_complete-a.ensures.table c.arrive_all.ensures.all c.first_complete-a.ensures.first
          (λ e. c.if-a-letters.false (e ∙ sym n))
          c.fire.ensures.given c.fire.ensures.state;
    }

pub returns-clause-over : goal.returns-clause-over
returns-clause-over c =
    let h = c.arrive_all.new.self in
    end-over c.loop-a.self h c.end_all.new.self c.arrive_all.ensures.given c.arrive_all.ensures.journal c.first_complete-a.ensures.table
    c.arrive_all.ensures.all
    (sym c.letters.ensures.value ∙ sym c.if-a-letters.true ∙ c.first_complete-a.ensures.first) c.end_all.ensures.given c.end_all.ensures.journal
    c.end_all.ensures.arrived c.end_all.ensures.all

pub returns-clause-journal : goal.returns-clause-journal
returns-clause-journal c =
    let t = c.args.self.now in
    let ok = c.over-over.ensures.table in
    let h = c.arrive_all.new.self in
    let all = total (script_of t.given.scripts) t.given.dfa.alphabet.processes in
    sym (c.loop-a.invariant.same ∙ end-woven c.loop-a.self h c.end_all.new.self c.arrive_all.ensures.given c.arrive_all.ensures.journal
    c.first_complete-a.ensures.table c.arrive_all.ensures.all
    (sym c.letters.ensures.value ∙ sym c.if-a-letters.true ∙ c.first_complete-a.ensures.first) c.end_all.ensures.given c.end_all.ensures.journal)
    ∙ weaving_goes_on (loc_of t.given.dfa.alphabet) (length t.given.dfa.alphabet.letters) t.given.dfa.alphabet.processes (script_of t.given.scripts)
    (all - length t.state.journal) t.state.journal
    (machine t ok).alphabet (sound t ok).fits (omega arith)
