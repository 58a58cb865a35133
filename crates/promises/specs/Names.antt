-- Document 01, "Records": the 88 names with their numbers, and as the rules walk them.
use Rattle.std.specs.Prelude.{ℕ, List, [], ◌∷◌, ◌++◌, map}
use Rattle.words.specs.Words.{each}
use Rattle.numbers.specs.Names as Names
use Rattle.resource.specs.Resource.{LOADS}
use Rattle.racks.specs.Racks.{RACKS, HARDPOINTS}
use Rattle.item.specs.Item.{ship_types, ship_groups, standup_fighters}
use Rattle.limits.specs.Limits.{group_limit_rows}
use Rattle.skill.specs.Skill.{REQUIRED}

-- each name beside its number in document 01
abbrev pub numbered : List (ℕ × ℕ)
numbered =
    (Names.cpu_load, 0) ∷ (Names.cpu_output, 1)
    ∷ (Names.power_load, 2) ∷ (Names.power_output, 3)
    ∷ (Names.upgrade_load, 4) ∷ (Names.upgrade_capacity, 5)
    ∷ (Names.drone_capacity_load, 6) ∷ (Names.drone_capacity, 7)
    ∷ (Names.drone_bandwidth_load, 8) ∷ (Names.drone_bandwidth, 9)
    ∷ (Names.fighter_capacity_load, 10) ∷ (Names.fighter_capacity, 11)
    ∷ (Names.fighter_tubes_used, 12) ∷ (Names.fighter_tubes, 13)
    ∷ (Names.fighter_light_slots_used, 14) ∷ (Names.fighter_light_slots, 15)
    ∷ (Names.fighter_support_slots_used, 16) ∷ (Names.fighter_support_slots, 17)
    ∷ (Names.fighter_heavy_slots_used, 18) ∷ (Names.fighter_heavy_slots, 19)
    ∷ (Names.max_active_drones, 20) ∷ (Names.capacity, 21)
    ∷ (Names.hi_slots, 22) ∷ (Names.med_slots, 23)
    ∷ (Names.low_slots, 24) ∷ (Names.rig_slots, 25)
    ∷ (Names.max_sub_systems, 26) ∷ (Names.service_slots, 27)
    ∷ (Names.turret_slots_left, 28) ∷ (Names.launcher_slots_left, 29)
    ∷ (Names.implantness, 30) ∷ (Names.boosterness, 31)
    ∷ (Names.sub_system_slot, 32) ∷ (Names.rig_size, 33)
    ∷ (Names.fits_to_ship_type, 34) ∷ (Names.can_fit_ship_type1, 35)
    ∷ (Names.can_fit_ship_type2, 36) ∷ (Names.can_fit_ship_type3, 37)
    ∷ (Names.can_fit_ship_type4, 38) ∷ (Names.can_fit_ship_type5, 39)
    ∷ (Names.can_fit_ship_type6, 40) ∷ (Names.can_fit_ship_type7, 41)
    ∷ (Names.can_fit_ship_type8, 42) ∷ (Names.can_fit_ship_type9, 43)
    ∷ (Names.can_fit_ship_type10, 44) ∷ (Names.can_fit_ship_type11, 45)
    ∷ (Names.can_fit_ship_type12, 46)
    ∷ (Names.can_fit_ship_group01, 47) ∷ (Names.can_fit_ship_group02, 48)
    ∷ (Names.can_fit_ship_group03, 49) ∷ (Names.can_fit_ship_group04, 50)
    ∷ (Names.can_fit_ship_group05, 51) ∷ (Names.can_fit_ship_group06, 52)
    ∷ (Names.can_fit_ship_group07, 53) ∷ (Names.can_fit_ship_group08, 54)
    ∷ (Names.can_fit_ship_group09, 55) ∷ (Names.can_fit_ship_group10, 56)
    ∷ (Names.can_fit_ship_group11, 57) ∷ (Names.can_fit_ship_group12, 58)
    ∷ (Names.can_fit_ship_group13, 59) ∷ (Names.can_fit_ship_group14, 60)
    ∷ (Names.can_fit_ship_group15, 61) ∷ (Names.can_fit_ship_group16, 62)
    ∷ (Names.can_fit_ship_group17, 63) ∷ (Names.can_fit_ship_group18, 64)
    ∷ (Names.can_fit_ship_group19, 65) ∷ (Names.can_fit_ship_group20, 66)
    ∷ (Names.volume, 67) ∷ (Names.is_capital_size, 68)
    ∷ (Names.fighter_squadron_is_standup_light, 69) ∷ (Names.fighter_squadron_is_standup_support, 70)
    ∷ (Names.fighter_squadron_is_standup_heavy, 71)
    ∷ (Names.max_group_fitted, 72) ∷ (Names.max_group_online, 73)
    ∷ (Names.max_group_active, 74)
    ∷ (Names.max_type_fitted, 75)
    ∷ (Names.required_skill1, 76) ∷ (Names.required_skill1_level, 77)
    ∷ (Names.required_skill2, 78) ∷ (Names.required_skill2_level, 79)
    ∷ (Names.required_skill3, 80) ∷ (Names.required_skill3_level, 81)
    ∷ (Names.required_skill4, 82) ∷ (Names.required_skill4_level, 83)
    ∷ (Names.required_skill5, 84) ∷ (Names.required_skill5_level, 85)
    ∷ (Names.required_skill6, 86) ∷ (Names.required_skill6_level, 87)
    ∷ []

-- table by table
abbrev pub name_numbers : List ℕ
name_numbers =
    each LOADS (λ l. l.1 ∷ l.2 ∷ [])
    ++ (Names.max_active_drones ∷ Names.capacity ∷ [])
    ++ map (λ r. r.1) RACKS
    ++ map (λ h. h.1) HARDPOINTS
    ++ (Names.implantness ∷ Names.boosterness ∷ Names.sub_system_slot ∷ Names.rig_size ∷ [])
    ++ ship_types
    ++ ship_groups
    ++ (Names.volume ∷ Names.is_capital_size ∷ [])
    ++ standup_fighters
    ++ map (λ g. g.2) group_limit_rows
    ++ (Names.max_type_fitted ∷ [])
    ++ each REQUIRED (λ r. r.0 ∷ r.1 ∷ [])
