-- Racks and hardpoints alike: what takes one, and what is reported of a row of either table.
use Rattle.std.specs.Prelude.{ℕ, Bool, List, ◌++◌, slice_get, Option}
use Rattle.std.specs.Option.{option_map}
use Rattle.words.specs.Words.{count_of}
use Rattle.numbers.specs.declared.SlotKind.{SlotKind}
use Rattle.numbers.specs.declared.SlotKind.TheVariants.{High, Medium, Low, Rig, Subsystem, Service, Turret, Launcher}
use Rattle.numbers.specs.Slots as Slots
use Rattle.entry.specs.declared.Entry.{Entry}
use Rattle.context.specs.Context.{Pair, Context, is_in}
use Rattle.racks.specs.declared.Row.{Row}
use Rattle.racks.specs.Racks.{RACKS, HARDPOINTS, takes_hardpoint, slots}

unfoldable pub takes : SlotKind → Pair → Bool
takes High = is_in Slots.high
takes Medium = is_in Slots.medium
takes Low = is_in Slots.low
takes Rig = is_in Slots.rig
takes Subsystem = is_in Slots.subsystem
takes Service = is_in Slots.service
takes Turret = takes_hardpoint Turret
takes Launcher = takes_hardpoint Launcher

abbrev pub taken : Context → List Pair → SlotKind × ℕ → List Entry
taken x ps row = slots x row.0 row.1 (count_of (takes row.0) ps)

-- a row of the code's tables, as the definitions have it
abbrev pub row_of : Row → SlotKind × ℕ
row_of row = (row.slot, row.name)

-- the row of a kind of slot, by its number
abbrev pub row_numbered : ℕ → Option (SlotKind × ℕ)
row_numbered number = slice_get (RACKS ++ HARDPOINTS) number

abbrev pub row_said : Option Row → Option (SlotKind × ℕ)
row_said o = option_map row_of o
