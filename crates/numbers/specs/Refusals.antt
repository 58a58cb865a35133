-- Document 01, "Refusals in their order": their numbers. 7 stood for over 4,294,967,295 drones, and is not used again.
use Rattle.std.specs.Prelude.{ℕ}

-- a catalogue's length
abbrev pub bad_length : ℕ
bad_length = 1

-- the order of a catalogue's keys
abbrev pub bad_keys : ℕ
bad_keys = 2

-- a name number, a mark or a volume flag
abbrev pub bad_entry : ℕ
bad_entry = 3

-- a fit's sizes, or a hall's
abbrev pub bad_size : ℕ
bad_size = 4

-- the order of a fit's ids
abbrev pub bad_ids : ℕ
bad_ids = 5

-- a field of a fit
abbrev pub bad_field : ℕ
bad_field = 6

abbrev pub no_result : ℕ
no_result = 8

abbrev pub too_many_skills : ℕ
too_many_skills = 9

-- the buffer
abbrev pub too_short : ℕ
too_short = 10

-- a league profile's length
abbrev pub bad_profile : ℕ
bad_profile = 11

-- the order of its groups, or its points
abbrev pub bad_prices : ℕ
bad_prices = 12

-- pairs, or wanted skills, over a limit that the call brings
abbrev pub over_limit : ℕ
over_limit = 13

-- a position beyond the list
abbrev pub no_entry : ℕ
no_entry = 14

-- the volume of a pair in Cargo
abbrev pub bad_volume : ℕ
bad_volume = 15

-- more skills than may be listed, once those that lack were added
abbrev pub too_many_listed : ℕ
too_many_listed = 16

-- a reader's number that is nobody's
abbrev pub no_reader : ℕ
no_reader = 19

-- a guest's skill call
abbrev pub not_for_guests : ℕ
not_for_guests = 20

-- no number is higher
abbrev pub highest : ℕ
highest = not_for_guests
