-- `limits::row_at` meets its contract: what is found is the definition's row.
use Rattle.std.proofs.Common.{rules}
use Rattle.limits.proofs.Limits.{row_found}
use Rattle.limits.proofs.row_at.Goals as goal

pub returns : goal.returns
returns c = row_found c.args.number (search rules)
