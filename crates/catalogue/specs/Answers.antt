-- What the answers of the calls on a catalogue say, by cases.
use Rattle.std.specs.Prelude.{cond, eqb}
use Rattle.floats.specs.Floats.{zero_f}
use Rattle.catalogue.specs.Catalogue.{TypeData}
use Rattle.catalogue.specs.declared.TypeInfo.{TypeInfo}

-- what a reader of a type gets: its volume is 0 where the flag is 0
abbrev pub info_of_type : TypeData → TypeInfo
info_of_type x = record { group = x.group; category = x.category; volume = cond (eqb x.volume_flag 0) zero_f x.volume }
