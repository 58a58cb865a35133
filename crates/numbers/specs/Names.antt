-- Document 01, "Records", Names: the 88 attributes that the rules look up by name, under their names in the game. The numbers go through
-- the source tables in order.
use Rattle.std.specs.Prelude.{ℕ}

-- ---- LOADS: load, then output
abbrev pub cpu_load : ℕ
cpu_load = 0

abbrev pub cpu_output : ℕ
cpu_output = 1

abbrev pub power_load : ℕ
power_load = 2

abbrev pub power_output : ℕ
power_output = 3

abbrev pub upgrade_load : ℕ
upgrade_load = 4

abbrev pub upgrade_capacity : ℕ
upgrade_capacity = 5

abbrev pub drone_capacity_load : ℕ
drone_capacity_load = 6

abbrev pub drone_capacity : ℕ
drone_capacity = 7

abbrev pub drone_bandwidth_load : ℕ
drone_bandwidth_load = 8

abbrev pub drone_bandwidth : ℕ
drone_bandwidth = 9

abbrev pub fighter_capacity_load : ℕ
fighter_capacity_load = 10

abbrev pub fighter_capacity : ℕ
fighter_capacity = 11

abbrev pub fighter_tubes_used : ℕ
fighter_tubes_used = 12

abbrev pub fighter_tubes : ℕ
fighter_tubes = 13

abbrev pub fighter_light_slots_used : ℕ
fighter_light_slots_used = 14

abbrev pub fighter_light_slots : ℕ
fighter_light_slots = 15

abbrev pub fighter_support_slots_used : ℕ
fighter_support_slots_used = 16

abbrev pub fighter_support_slots : ℕ
fighter_support_slots = 17

abbrev pub fighter_heavy_slots_used : ℕ
fighter_heavy_slots_used = 18

abbrev pub fighter_heavy_slots : ℕ
fighter_heavy_slots = 19

-- ---- resource.rs, by itself
abbrev pub max_active_drones : ℕ
max_active_drones = 20

abbrev pub capacity : ℕ
capacity = 21

-- ---- RACKS
abbrev pub hi_slots : ℕ
hi_slots = 22

abbrev pub med_slots : ℕ
med_slots = 23

abbrev pub low_slots : ℕ
low_slots = 24

abbrev pub rig_slots : ℕ
rig_slots = 25

abbrev pub max_sub_systems : ℕ
max_sub_systems = 26

abbrev pub service_slots : ℕ
service_slots = 27

-- ---- HARDPOINTS
abbrev pub turret_slots_left : ℕ
turret_slots_left = 28

abbrev pub launcher_slots_left : ℕ
launcher_slots_left = 29

-- ---- slot.rs and item.rs, by themselves
abbrev pub implantness : ℕ
implantness = 30

abbrev pub boosterness : ℕ
boosterness = 31

abbrev pub sub_system_slot : ℕ
sub_system_slot = 32

abbrev pub rig_size : ℕ
rig_size = 33

-- ---- SHIP_TYPES
abbrev pub fits_to_ship_type : ℕ
fits_to_ship_type = 34

abbrev pub can_fit_ship_type1 : ℕ
can_fit_ship_type1 = 35

abbrev pub can_fit_ship_type2 : ℕ
can_fit_ship_type2 = 36

abbrev pub can_fit_ship_type3 : ℕ
can_fit_ship_type3 = 37

abbrev pub can_fit_ship_type4 : ℕ
can_fit_ship_type4 = 38

abbrev pub can_fit_ship_type5 : ℕ
can_fit_ship_type5 = 39

abbrev pub can_fit_ship_type6 : ℕ
can_fit_ship_type6 = 40

abbrev pub can_fit_ship_type7 : ℕ
can_fit_ship_type7 = 41

abbrev pub can_fit_ship_type8 : ℕ
can_fit_ship_type8 = 42

abbrev pub can_fit_ship_type9 : ℕ
can_fit_ship_type9 = 43

abbrev pub can_fit_ship_type10 : ℕ
can_fit_ship_type10 = 44

abbrev pub can_fit_ship_type11 : ℕ
can_fit_ship_type11 = 45

abbrev pub can_fit_ship_type12 : ℕ
can_fit_ship_type12 = 46

-- ---- SHIP_GROUPS
abbrev pub can_fit_ship_group01 : ℕ
can_fit_ship_group01 = 47

abbrev pub can_fit_ship_group02 : ℕ
can_fit_ship_group02 = 48

abbrev pub can_fit_ship_group03 : ℕ
can_fit_ship_group03 = 49

abbrev pub can_fit_ship_group04 : ℕ
can_fit_ship_group04 = 50

abbrev pub can_fit_ship_group05 : ℕ
can_fit_ship_group05 = 51

abbrev pub can_fit_ship_group06 : ℕ
can_fit_ship_group06 = 52

abbrev pub can_fit_ship_group07 : ℕ
can_fit_ship_group07 = 53

abbrev pub can_fit_ship_group08 : ℕ
can_fit_ship_group08 = 54

abbrev pub can_fit_ship_group09 : ℕ
can_fit_ship_group09 = 55

abbrev pub can_fit_ship_group10 : ℕ
can_fit_ship_group10 = 56

abbrev pub can_fit_ship_group11 : ℕ
can_fit_ship_group11 = 57

abbrev pub can_fit_ship_group12 : ℕ
can_fit_ship_group12 = 58

abbrev pub can_fit_ship_group13 : ℕ
can_fit_ship_group13 = 59

abbrev pub can_fit_ship_group14 : ℕ
can_fit_ship_group14 = 60

abbrev pub can_fit_ship_group15 : ℕ
can_fit_ship_group15 = 61

abbrev pub can_fit_ship_group16 : ℕ
can_fit_ship_group16 = 62

abbrev pub can_fit_ship_group17 : ℕ
can_fit_ship_group17 = 63

abbrev pub can_fit_ship_group18 : ℕ
can_fit_ship_group18 = 64

abbrev pub can_fit_ship_group19 : ℕ
can_fit_ship_group19 = 65

abbrev pub can_fit_ship_group20 : ℕ
can_fit_ship_group20 = 66

-- ---- item.rs, by itself
abbrev pub volume : ℕ
volume = 67

abbrev pub is_capital_size : ℕ
is_capital_size = 68

-- ---- STANDUP_FIGHTERS
abbrev pub fighter_squadron_is_standup_light : ℕ
fighter_squadron_is_standup_light = 69

abbrev pub fighter_squadron_is_standup_support : ℕ
fighter_squadron_is_standup_support = 70

abbrev pub fighter_squadron_is_standup_heavy : ℕ
fighter_squadron_is_standup_heavy = 71

-- ---- GROUP_LIMITS
abbrev pub max_group_fitted : ℕ
max_group_fitted = 72

abbrev pub max_group_online : ℕ
max_group_online = 73

abbrev pub max_group_active : ℕ
max_group_active = 74

-- ---- item.rs, by itself
abbrev pub max_type_fitted : ℕ
max_type_fitted = 75

-- ---- REQUIRED: skill, then level
abbrev pub required_skill1 : ℕ
required_skill1 = 76

abbrev pub required_skill1_level : ℕ
required_skill1_level = 77

abbrev pub required_skill2 : ℕ
required_skill2 = 78

abbrev pub required_skill2_level : ℕ
required_skill2_level = 79

abbrev pub required_skill3 : ℕ
required_skill3 = 80

abbrev pub required_skill3_level : ℕ
required_skill3_level = 81

abbrev pub required_skill4 : ℕ
required_skill4 = 82

abbrev pub required_skill4_level : ℕ
required_skill4_level = 83

abbrev pub required_skill5 : ℕ
required_skill5 = 84

abbrev pub required_skill5_level : ℕ
required_skill5_level = 85

abbrev pub required_skill6 : ℕ
required_skill6 = 86

abbrev pub required_skill6_level : ℕ
required_skill6_level = 87
