-- Document 01, "Refusals in their order": the number of each refusal, and of a result that may be one.
use Rattle.std.specs.Prelude.{ℕ, Result, Ok, Err}
use Rattle.numbers.specs.Refusals as Refusals
use Rattle.numbers.specs.declared.refusals.Refusal.{Refusal}
use Rattle.numbers.specs.declared.refusals.Refusal.TheVariants.{BadLength, BadKeys, BadEntry, BadSize, BadIds, BadField}
use Rattle.numbers.specs.declared.refusals.Refusal.TheVariants.{NoResult, TooManySkills, TooShort, BadProfile, BadPrices, OverLimit}
use Rattle.numbers.specs.declared.refusals.Refusal.TheVariants.{NoEntry, BadVolume, TooManyListed, NoReader, NotForGuests}

abbrev pub number : Refusal → ℕ
number BadLength = Refusals.bad_length
number BadKeys = Refusals.bad_keys
number BadEntry = Refusals.bad_entry
number BadSize = Refusals.bad_size
number BadIds = Refusals.bad_ids
number BadField = Refusals.bad_field
number NoResult = Refusals.no_result
number TooManySkills = Refusals.too_many_skills
number TooShort = Refusals.too_short
number BadProfile = Refusals.bad_profile
number BadPrices = Refusals.bad_prices
number OverLimit = Refusals.over_limit
number NoEntry = Refusals.no_entry
number BadVolume = Refusals.bad_volume
number TooManyListed = Refusals.too_many_listed
number NoReader = Refusals.no_reader
number NotForGuests = Refusals.not_for_guests

-- 0 where nothing is refused
abbrev pub number_of : {A : Type 0} → Result A Refusal → ℕ
number_of (Ok x) = 0
number_of (Err e) = number e
