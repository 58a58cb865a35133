-- A cast of an enum gives the place of its variant.
use mathlib.Core.Path.{◌≡◌, refl}
use denote.Enum.Declared.{tag_of}
use Rattle.numbers.specs.declared.Resource.{Resource}
use Rattle.numbers.specs.declared.Resource.TheVariants.{Cpu, Powergrid, Calibration, DroneBay, DroneBandwidth, LaunchedDrones, FighterBay, FighterTubes}
use Rattle.numbers.specs.declared.Resource.TheVariants.{LightFighterTubes, SupportFighterTubes, HeavyFighterTubes, CargoBay}
use Rattle.numbers.specs.contracts.Resource as Resource
use Rattle.numbers.specs.Resources as Resources
use Rattle.numbers.specs.declared.SlotKind.{SlotKind}
use Rattle.numbers.specs.declared.SlotKind.TheVariants.{High, Medium, Low, Rig, Subsystem, Service, Turret, Launcher}
use Rattle.numbers.specs.contracts.SlotKind as SlotKind
use Rattle.numbers.specs.Slots as Slots
use Rattle.numbers.specs.declared.GroupLimit.{GroupLimit}
use Rattle.numbers.specs.declared.GroupLimit.TheVariants.{Fitted, Online, Active}
use Rattle.numbers.specs.contracts.GroupLimit as GroupLimit
use Rattle.numbers.specs.Limits as Limits

resource_cast : (k : Resource) → tag_of Resource.the_type k ≡ Resources.number k
resource_cast Cpu = refl
resource_cast Powergrid = refl
resource_cast Calibration = refl
resource_cast DroneBay = refl
resource_cast DroneBandwidth = refl
resource_cast LaunchedDrones = refl
resource_cast FighterBay = refl
resource_cast FighterTubes = refl
resource_cast LightFighterTubes = refl
resource_cast SupportFighterTubes = refl
resource_cast HeavyFighterTubes = refl
resource_cast CargoBay = refl

slot_cast : (k : SlotKind) → tag_of SlotKind.the_type k ≡ Slots.number k
slot_cast High = refl
slot_cast Medium = refl
slot_cast Low = refl
slot_cast Rig = refl
slot_cast Subsystem = refl
slot_cast Service = refl
slot_cast Turret = refl
slot_cast Launcher = refl

limit_cast : (k : GroupLimit) → tag_of GroupLimit.the_type k ≡ Limits.number k
limit_cast Fitted = refl
limit_cast Online = refl
limit_cast Active = refl

pub casts : ((k : Resource) → tag_of Resource.the_type k ≡ Resources.number k) × ((k : SlotKind) → tag_of SlotKind.the_type k ≡ Slots.number k)
    × ((k : GroupLimit) → tag_of GroupLimit.the_type k ≡ Limits.number k)
casts = (resource_cast, slot_cast, limit_cast)
