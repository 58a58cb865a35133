-- `limits::Counted::count_in_group` meets its contract: a test of each pair.
use borrow.Author.Rules.{rules}
use Rattle.limits.specs.Limits.{in_group}
use Rattle.limits.proofs.Counted.count_in_group.Goals as goal

pub returns : goal.returns
returns c = c.count.ensures (in_group c.args.group c.args.lowest) (λ i b h post. search rules)
