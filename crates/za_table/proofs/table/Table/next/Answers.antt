use Rattle.za_table.proofs.Waiting.{own-if, left-if, used_up-if}
use Rattle.za_table.proofs.table.Table.next.Goals as goal

pub returns-clause-own : goal.returns-clause-own
returns-clause-own c = own-if c.args.self.now c.letter_behind.ensures.table c.args.p c.requires c.letter_behind.result c.letter_behind.ensures.value

pub returns-clause-left : goal.returns-clause-left
returns-clause-left c = left-if c.args.self.now c.args.p c.letter_behind.result c.letter_behind.ensures.value

pub returns-clause-used_up : goal.returns-clause-used_up
returns-clause-used_up c = used_up-if c.args.self.now c.letter_behind.ensures.table c.args.p c.letter_behind.result c.letter_behind.ensures.value
