-- `Entries::emit` meets its contract, by whether there is room.
use Rattle.std.proofs.Common.{refl, arith}
use Rattle.entry.proofs.Emitted.{emitted-room, emitted-full}
use Rattle.entry.proofs.Entries.emit.Goals as goal

pub returns-then-n-self : goal.returns-then-n-self
returns-then-n-self c = emitted-room _ (omega (arith, c.if-n-self.true)) refl refl c.write.ensures

pub returns-else-n-self : goal.returns-else-n-self
returns-else-n-self c = emitted-full _ (omega (arith, c.if-n-self.false)) refl refl refl
