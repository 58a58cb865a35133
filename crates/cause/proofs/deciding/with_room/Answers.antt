-- `deciding::with_room` meets its contract, by whether the pair is kept and in Cargo.
use Rattle.std.proofs.Common.{refl}
use Rattle.words.specs.Words.{given}
use Rattle.cause.proofs.deciding.with_room.Goals as goal

pub returns-in-Some : goal.returns-in-Some
unfolding given
returns-in-Some c = rw (c.if-not-kept.false, c.in-Some.is) refl

pub returns-in-None : goal.returns-in-None
unfolding given
returns-in-None c = rw (c.if-not-kept.false, c.in-None.is) refl
