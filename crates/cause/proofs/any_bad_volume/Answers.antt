-- `cause::any_bad_volume` meets its contract: how many have none is above 0.
use Rattle.std.proofs.Common.{ap, ◌∙◌, sym, rules}
use lib.Dec.{ltb}
use Rattle.context.specs.Held.{pairs_in}
use Rattle.cause.specs.Cause.{bad_volume}
use Rattle.cause.proofs.Listed.{any_counted}
use Rattle.cause.proofs.any_bad_volume.Goals as goal

pub returns : goal.returns
returns c =
    ap (ltb 0) (c.count.ensures bad_volume (λ i b h post. search rules))
    ∙ sym (any_counted bad_volume (pairs_in c.args.context.now))
