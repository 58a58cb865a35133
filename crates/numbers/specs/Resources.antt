-- Document 01, "Entry": sub is the resource in the order of Rust's `Resource`.
use Rattle.std.specs.Prelude.{ℕ}
use Rattle.numbers.specs.declared.Resource.{Resource}
use Rattle.numbers.specs.declared.Resource.TheVariants.{Cpu, Powergrid, Calibration, DroneBay, DroneBandwidth, LaunchedDrones, FighterBay}
use Rattle.numbers.specs.declared.Resource.TheVariants.{FighterTubes, LightFighterTubes, SupportFighterTubes, HeavyFighterTubes, CargoBay}

abbrev pub number : Resource → ℕ
number Cpu = 0
number Powergrid = 1
number Calibration = 2
number DroneBay = 3
number DroneBandwidth = 4
number LaunchedDrones = 5
number FighterBay = 6
number FighterTubes = 7
number LightFighterTubes = 8
number SupportFighterTubes = 9
number HeavyFighterTubes = 10
number CargoBay = 11
