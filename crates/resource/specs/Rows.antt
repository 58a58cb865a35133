-- A row of the code's table of loads, as the definition has it.
use Rattle.std.specs.Prelude.{ℕ}
use Rattle.numbers.specs.declared.Resource.{Resource}
use Rattle.resource.specs.declared.Row.{Row}

abbrev pub row_of : Row → Resource × ℕ × ℕ
row_of row = (row.resource, row.load, row.output)
