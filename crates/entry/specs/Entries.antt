-- Document 01, "Entry": the numbers and the 24 bytes of an entry, and entries written to a buffer.
use Rattle.std.specs.Prelude.{ℕ, ◌*◌, ◌/◌, ◌%◌, ◌^◌, List, [], ◌∷◌, ◌++◌, length, drop, Float}
use Rattle.words.specs.Words.{each}
use Rattle.numbers.specs.Resources as Resources
use Rattle.numbers.specs.Slots as Slots
use Rattle.numbers.specs.Limits as Limits
use Rattle.image.specs.Bytes.{bits32, le}
use Rattle.floats.specs.Floats.{f64_bits}
use Rattle.entry.specs.declared.Target.{Target}
use Rattle.entry.specs.declared.Target.TheVariants.{Ship, Item}
use Rattle.entry.specs.declared.Rule.{Rule}
use Rattle.entry.specs.declared.Rule.TheVariants.{Resource, Slots, WrongSlot, NotAModule, NotADrone, NotAFighter, NotAnImplant}
use Rattle.entry.specs.declared.Rule.TheVariants.{SlotTaken, WrongSlotIndex, SubsystemTaken, Skill, RigSize, ShipRestricted}
use Rattle.entry.specs.declared.Rule.TheVariants.{CapitalItem, StructureItem, ShipItem, MaxGroup, MaxType, NotAHull, NotAMode}
use Rattle.entry.specs.declared.Rule.TheVariants.{NotASkill, Banned, Points, UnknownType, Numbers}
use Rattle.entry.specs.declared.Entry.{Entry}

abbrev pub on_ship : Rule → Entry
on_ship r = record { target = Ship; rule = r }

abbrev pub on_item : ℕ → Rule → Entry
on_item index r = record { target = Item index; rule = r }

-- an f64's two words
abbrev pub low : Float → ℕ
low x = f64_bits x % 2 ^ 32

abbrev pub high : Float → ℕ
high x = f64_bits x / 2 ^ 32

-- a rule's number, its sub, and the four u32 words of its payload
unfoldable pub fields : Rule → ℕ × ℕ × List ℕ
fields (Resource resource used available) = (1, Resources.number resource, low used ∷ high used ∷ low available ∷ high available ∷ [])
fields (Slots slot used available) = (2, Slots.number slot, used ∷ available ∷ 0 ∷ 0 ∷ [])
fields (WrongSlot expected) = (3, Slots.number expected, 0 ∷ 0 ∷ 0 ∷ 0 ∷ [])
fields NotAModule = (4, 0, 0 ∷ 0 ∷ 0 ∷ 0 ∷ [])
fields NotADrone = (5, 0, 0 ∷ 0 ∷ 0 ∷ 0 ∷ [])
fields NotAFighter = (6, 0, 0 ∷ 0 ∷ 0 ∷ 0 ∷ [])
fields NotAnImplant = (7, 0, 0 ∷ 0 ∷ 0 ∷ 0 ∷ [])
fields SlotTaken = (8, 0, 0 ∷ 0 ∷ 0 ∷ 0 ∷ [])
fields (WrongSlotIndex expected) = (9, 0, expected ∷ 0 ∷ 0 ∷ 0 ∷ [])
fields SubsystemTaken = (10, 0, 0 ∷ 0 ∷ 0 ∷ 0 ∷ [])
fields (Skill type required level) = (11, 0, bits32 type ∷ required ∷ level ∷ 0 ∷ [])
fields (RigSize ship item) = (12, 0, ship ∷ item ∷ 0 ∷ 0 ∷ [])
fields ShipRestricted = (13, 0, 0 ∷ 0 ∷ 0 ∷ 0 ∷ [])
fields CapitalItem = (14, 0, 0 ∷ 0 ∷ 0 ∷ 0 ∷ [])
fields StructureItem = (15, 0, 0 ∷ 0 ∷ 0 ∷ 0 ∷ [])
fields ShipItem = (16, 0, 0 ∷ 0 ∷ 0 ∷ 0 ∷ [])
fields (MaxGroup group limit used allowed) = (17, Limits.number limit, bits32 group ∷ used ∷ allowed ∷ 0 ∷ [])
fields (MaxType type used allowed) = (18, 0, bits32 type ∷ used ∷ allowed ∷ 0 ∷ [])
fields NotAHull = (19, 0, 0 ∷ 0 ∷ 0 ∷ 0 ∷ [])
fields NotAMode = (20, 0, 0 ∷ 0 ∷ 0 ∷ 0 ∷ [])
fields (NotASkill type) = (21, 0, bits32 type ∷ 0 ∷ 0 ∷ 0 ∷ [])
fields (Banned group) = (24, 0, bits32 group ∷ 0 ∷ 0 ∷ 0 ∷ [])
fields (Points used allowed) = (25, 0, used ∷ allowed ∷ 0 ∷ 0 ∷ [])
fields (UnknownType type) = (26, 0, bits32 type ∷ 0 ∷ 0 ∷ 0 ∷ [])
fields (Numbers rule sub a b c d) = (rule, sub, a ∷ b ∷ c ∷ d ∷ [])

-- the number of an entry's rule
abbrev pub number : Entry → ℕ
number e = (fields e.rule).0

-- a target's number and its pair index
abbrev pub place : Target → ℕ × ℕ
place Ship = (0, 0)
place (Item index) = (1, index)

-- the 24 bytes: target, rule, sub, zero, pair index, payload
unfoldable pub entry_bytes : Entry → List ℕ
entry_bytes e =
    let t = place e.target in
    let r = fields e.rule in
    t.0 ∷ r.0 ∷ r.1 ∷ 0 ∷ le 4 t.1 ++ each r.2 (le 4)

-- a buffer once the entries stand in it from byte 0
unfoldable pub written : List ℕ → List Entry → List ℕ
written buffer es = each es entry_bytes ++ drop (24 * length es) buffer
