-- Document 01, "Records": slot kinds follow Rust's `Slot`; racks and hardpoints are `SlotKind`, whose first six are the same.
use Rattle.std.specs.Prelude.{ℕ, List, [], ◌∷◌, slice_get, Option}
use Rattle.numbers.specs.declared.SlotKind.{SlotKind}
use Rattle.numbers.specs.declared.SlotKind.TheVariants.{High, Medium, Low, Rig, Subsystem, Service, Turret, Launcher}

-- ---- `Slot`
abbrev pub high : ℕ
high = 0

abbrev pub medium : ℕ
medium = 1

abbrev pub low : ℕ
low = 2

abbrev pub rig : ℕ
rig = 3

abbrev pub subsystem : ℕ
subsystem = 4

abbrev pub service : ℕ
service = 5

abbrev pub fighter_tube : ℕ
fighter_tube = 6

abbrev pub fighter_bay : ℕ
fighter_bay = 7

abbrev pub implant : ℕ
implant = 8

abbrev pub booster : ℕ
booster = 9

abbrev pub drone_bay : ℕ
drone_bay = 10

abbrev pub cargo : ℕ
cargo = 11

-- ---- `SlotKind`: the racks, by the numbers of their slots, then the hardpoints
abbrev pub number : SlotKind → ℕ
number High = high
number Medium = medium
number Low = low
number Rig = rig
number Subsystem = subsystem
number Service = service
number Turret = 6
number Launcher = 7

abbrev pub KINDS : List SlotKind
KINDS = High ∷ Medium ∷ Low ∷ Rig ∷ Subsystem ∷ Service ∷ Turret ∷ Launcher ∷ []

-- the kind of a number
abbrev pub kind_of : ℕ → Option SlotKind
kind_of n = slice_get KINDS n
