-- Document 01, "Entry": sub is the limit in the order of Rust's `GroupLimit`.
use Rattle.std.specs.Prelude.{ℕ}
use Rattle.numbers.specs.declared.GroupLimit.{GroupLimit}
use Rattle.numbers.specs.declared.GroupLimit.TheVariants.{Fitted, Online, Active}

abbrev pub number : GroupLimit → ℕ
number Fitted = 0
number Online = 1
number Active = 2
