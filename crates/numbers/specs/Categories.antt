-- calculate/mod.rs: the categories of types that the rules ask for.
use Rattle.std.specs.Prelude.{ℤ, pos}

-- ---- `CATEGORY_..`
abbrev pub ship : ℤ
ship = pos 6

abbrev pub module' : ℤ
module' = pos 7

abbrev pub skill : ℤ
skill = pos 16

abbrev pub drone : ℤ
drone = pos 18

abbrev pub implant : ℤ
implant = pos 20

abbrev pub subsystem : ℤ
subsystem = pos 32

abbrev pub structure : ℤ
structure = pos 65

abbrev pub structure_module : ℤ
structure_module = pos 66

abbrev pub fighter : ℤ
fighter = pos 87
