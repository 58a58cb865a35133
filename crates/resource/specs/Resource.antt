-- validate/resource.rs.
use Rattle.std.specs.Prelude.{ℕ, Bool, ◌&&◌, List, [], ◌∷◌, ◌++◌, nat_le, Float}
use mathlib.Core.List.{foldl}
use Rattle.std.specs.Float.{binary64}
use Rattle.std.specs.Float.Ieee.{add, mul}
use Rattle.words.specs.Words.{◌>>=◌, each, when, only, sum_of}
use Rattle.numbers.specs.Names as Names
use Rattle.numbers.specs.declared.Resource.{Resource}
use Rattle.numbers.specs.declared.Resource.TheVariants.{Cpu, Powergrid, Calibration, DroneBay, DroneBandwidth, LaunchedDrones, FighterBay}
use Rattle.numbers.specs.declared.Resource.TheVariants.{FighterTubes, LightFighterTubes, SupportFighterTubes, HeavyFighterTubes, CargoBay}
use Rattle.numbers.specs.Slots as Slots
use Rattle.numbers.specs.States as States
use Rattle.floats.specs.Floats.{zero_f, of_nat, over}
use Rattle.catalogue.specs.Lookups.{name_id}
use Rattle.fit.specs.Lookups.{amount}
use Rattle.entry.specs.declared.Entry.{Entry}
use Rattle.entry.specs.declared.Rule.TheVariants as Rule
use Rattle.entry.specs.Entries.{on_ship}
use Rattle.context.specs.Context.{Pair, Context, is_in}

-- a resource, the name of its load, the name of its output
abbrev pub LOADS : List (Resource × ℕ × ℕ)
LOADS =
    (Cpu, Names.cpu_load, Names.cpu_output)
    ∷ (Powergrid, Names.power_load, Names.power_output)
    ∷ (Calibration, Names.upgrade_load, Names.upgrade_capacity)
    ∷ (DroneBay, Names.drone_capacity_load, Names.drone_capacity)
    ∷ (DroneBandwidth, Names.drone_bandwidth_load, Names.drone_bandwidth)
    ∷ (FighterBay, Names.fighter_capacity_load, Names.fighter_capacity)
    ∷ (FighterTubes, Names.fighter_tubes_used, Names.fighter_tubes)
    ∷ (LightFighterTubes, Names.fighter_light_slots_used, Names.fighter_light_slots)
    ∷ (SupportFighterTubes, Names.fighter_support_slots_used, Names.fighter_support_slots)
    ∷ (HeavyFighterTubes, Names.fighter_heavy_slots_used, Names.fighter_heavy_slots)
    ∷ []

-- `resource_violation`, where the load is over
unfoldable pub resource : Resource → Float → Float → List Entry
resource kind used available = when (over used available) (on_ship (Rule.Resource kind used available))

-- a stack in the drone bay at state Active or above
unfoldable pub is_launched : Pair → Bool
is_launched p = is_in Slots.drone_bay p && nat_le States.active p.result.state

unfoldable pub launched : List Pair → ℕ
launched ps = sum_of (λ p. p.quantity) (only is_launched ps)

unfoldable pub cargo_volume : Pair → Float
cargo_volume p = mul binary64 p.volume (of_nat p.quantity)

-- summed in order from +0
unfoldable pub cargo_used : List Pair → Float
cargo_used ps = foldl (λ sum p. add binary64 sum (cargo_volume p)) zero_f (only (is_in Slots.cargo) ps)

module _ (x : Context) where
  -- one row of `LOADS`
  abbrev pub load_of : Resource × ℕ × ℕ → List Entry
  load_of row = do
    load ← name_id x.names row.1
    output ← name_id x.names row.2
    resource row.0 (amount x.ship_result load) (amount x.ship_result output)

  unfoldable pub loads : List Entry
  loads = each LOADS load_of

  unfoldable pub launched_drones : List Pair → List Entry
  launched_drones ps = do
    max_active ← name_id x.names Names.max_active_drones
    resource LaunchedDrones (of_nat (launched ps)) (amount x.character_result max_active)

  unfoldable pub cargo : List Pair → List Entry
  cargo ps = do
    capacity ← name_id x.names Names.capacity
    resource CargoBay (cargo_used ps) (amount x.ship_result capacity)

  -- `validate`
  unfoldable pub resources : List Pair → List Entry
  resources ps = loads ++ launched_drones ps ++ cargo ps
