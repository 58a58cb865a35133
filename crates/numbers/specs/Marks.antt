-- Document 01, "Records": marks follow the named arms of `slots_of`; 0 is any other effect. Marks 1 to 6 are racks, 7 and 8 hardpoints.
use Rattle.std.specs.Prelude.{ℕ}

abbrev pub hi_power : ℕ
hi_power = 1

abbrev pub med_power : ℕ
med_power = 2

abbrev pub lo_power : ℕ
lo_power = 3

abbrev pub rig_slot : ℕ
rig_slot = 4

abbrev pub sub_system : ℕ
sub_system = 5

abbrev pub service_slot : ℕ
service_slot = 6

abbrev pub turret_fitted : ℕ
turret_fitted = 7

abbrev pub launcher_fitted : ℕ
launcher_fitted = 8
