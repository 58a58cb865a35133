-- `kept::is_kept` meets its contract, by whether the entry is about a pair.
use Rattle.std.proofs.Common.{refl, true}
use Rattle.parts.specs.Parts.{holds}
use Rattle.cause.specs.Decided.{has_own}
use Rattle.cause.proofs.Looking.{made, unmade}
use Rattle.cause.proofs.kept.is_kept.Goals as goal

pub returns-in-Some : goal.returns-in-Some
unfolding has_own
returns-in-Some c = made c.args.own true (holds c.args.kept.now) c.in-Some.i c.in-Some.is refl

pub returns-in-None : goal.returns-in-None
unfolding has_own
returns-in-None c = unmade c.args.own true (holds c.args.kept.now) c.in-None.is
