-- A row of the code's table of group limits, as the definition has it.
use Rattle.std.specs.Prelude.{ℕ, slice_get, Option}
use Rattle.std.specs.Option.{option_map}
use Rattle.numbers.specs.declared.GroupLimit.{GroupLimit}
use Rattle.limits.specs.declared.Row.{Row}
use Rattle.limits.specs.Limits.{group_limit_rows}

abbrev pub row_of : Row → GroupLimit × ℕ × ℕ
row_of row = (row.limit, row.lowest, row.name)

-- the row of a group limit, by its number
abbrev pub row_numbered : ℕ → Option (GroupLimit × ℕ × ℕ)
row_numbered number = slice_get group_limit_rows number

abbrev pub row_said : Option Row → Option (GroupLimit × ℕ × ℕ)
row_said o = option_map row_of o
