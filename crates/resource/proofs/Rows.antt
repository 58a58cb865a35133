-- The code's table of loads is the definition's.
use Rattle.std.proofs.Common.{◌≡◌, ℕ, map, get_or, ap}
use lib.ListN.{get_or-map}
use Rattle.numbers.specs.declared.Resource.{Resource}
use Rattle.numbers.specs.declared.Resource.TheVariants.{Cpu}
use Rattle.resource.specs.declared.Row.{Row}
use Rattle.resource.specs.Resource.{LOADS}
use Rattle.resource.specs.Rows.{row_of}

-- a row as the code has it
abbrev row_in : Resource × ℕ × ℕ → Row
row_in row = record { resource = row.0; load = row.1; output = row.2 }

pub row_same : (i : ℕ) → row_of (get_or (map row_in LOADS) i (row_in (Cpu, 0, 0))) ≡ get_or LOADS i (Cpu, 0, 0)
row_same i = ap row_of (get_or-map row_in LOADS i (Cpu, 0, 0))
