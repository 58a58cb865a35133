-- Document 01, "Records", "Refusals in their order", "Hall number": the limits of the images and of the calls.
use Rattle.std.specs.Prelude.{ℕ}

-- ---- The catalogue
abbrev pub most_catalogue_bytes : ℕ
most_catalogue_bytes = 16777216

abbrev pub last_name : ℕ
last_name = 87

abbrev pub last_volume_flag : ℕ
last_volume_flag = 1

-- ---- The fit
abbrev pub most_skills : ℕ
most_skills = 1024

abbrev pub most_items : ℕ
most_items = 256

abbrev pub most_results : ℕ
most_results = 256

-- a pair is an item that has a result
abbrev pub most_pairs : ℕ
most_pairs = 256

abbrev pub most_attributes : ℕ
most_attributes = 30000

abbrev pub last_mode_flag : ℕ
last_mode_flag = 1

-- of an item that is no booster
abbrev pub last_index : ℕ
last_index = 255

-- ---- The league profile
abbrev pub most_groups : ℕ
most_groups = 4096

-- of a group that is not banned
abbrev pub most_points : ℕ
most_points = 1000000

-- the points of a group that is banned
abbrev pub banned : ℕ
banned = 4294967295

-- ---- The calls
-- bytes of an entry
abbrev pub entry_size : ℕ
entry_size = 24

-- skills that a walk holds
abbrev pub most_wanted : ℕ
most_wanted = 512

-- fits of a hall
abbrev pub most_fits : ℕ
most_fits = 64

-- a refusal's number is returned times this
abbrev pub word : ℕ
word = 4294967296
