-- `Entries::emit_when` meets its contract: one entry where the test holds, nothing where it fails.
use Rattle.entry.proofs.Emitted.{emitted-when, emitted-unless}
use Rattle.entry.proofs.Entries.emit_when.Goals as goal

pub returns-then-test : goal.returns-then-test
returns-then-test c = emitted-when c.if-test.true c.emit.ensures

pub returns-else-test : goal.returns-else-test
returns-else-test c = emitted-unless c.args.e c.if-test.false
