-- Cases of entries in bytes and of the calls: the examples that document 01 gives for refusals, and lists as they stand in a buffer.
use Rattle.std.specs.Prelude.{ℕ, ◌+◌, ◌*◌, true, false, List, [], ◌∷◌, ◌++◌, pos, negsuc, replicate}
use Rattle.std.specs.Float.{nan}
use Rattle.words.specs.Words.{each}
use Rattle.image.specs.Bytes.{le}
use Rattle.floats.specs.Floats.{of_nat}
use Rattle.numbers.specs.declared.Resource.{Resource as Kind}
use Rattle.numbers.specs.declared.Resource.TheVariants.{Cpu, Powergrid, Calibration, DroneBay, DroneBandwidth, LaunchedDrones}
use Rattle.numbers.specs.declared.Resource.TheVariants.{FighterBay, FighterTubes, LightFighterTubes, SupportFighterTubes, HeavyFighterTubes, CargoBay}
use Rattle.numbers.specs.declared.SlotKind.{SlotKind}
use Rattle.numbers.specs.declared.SlotKind.TheVariants.{High, Medium, Low, Rig, Subsystem, Service, Turret, Launcher}
use Rattle.numbers.specs.declared.GroupLimit.{GroupLimit}
use Rattle.numbers.specs.declared.GroupLimit.TheVariants.{Fitted, Online, Active}
use Rattle.entry.specs.declared.Rule.{Rule}
use Rattle.entry.specs.declared.Rule.TheVariants.{Resource, Slots, WrongSlot, NotAModule, NotADrone, NotAFighter, NotAnImplant, SlotTaken}
use Rattle.entry.specs.declared.Rule.TheVariants.{WrongSlotIndex, SubsystemTaken, Skill, RigSize, ShipRestricted, CapitalItem}
use Rattle.entry.specs.declared.Rule.TheVariants.{StructureItem, ShipItem, MaxGroup, MaxType, NotAHull, NotAMode, NotASkill, Banned, Points, UnknownType}
use Rattle.entry.specs.declared.Rule.TheVariants.{Numbers}
use Rattle.entry.specs.Entries.{on_ship, on_item}
use Rattle.promises.specs.Cases.{Written, BadSize, ListCall, SkillCall, HallCall, Number, Holds, InBytes, Returns, Case}

-- u32 numbers, one after the other
abbrev pub words : List ℕ → List ℕ
words ns = each ns (le 4)

-- ---- entries
-- a rule of pair 258: the rule's number, its sub, and its words
abbrev entry : Rule → ℕ → ℕ → List ℕ → Case
entry r number sub payload = (Written (on_item 258 r), InBytes (1 ∷ number ∷ sub ∷ 0 ∷ 2 ∷ 1 ∷ 0 ∷ 0 ∷ words payload))

abbrev of_resource : Kind → ℕ → Case
of_resource kind sub = entry (Resource kind (of_nat 0) (of_nat 0)) 1 sub (0 ∷ 0 ∷ 0 ∷ 0 ∷ [])

abbrev of_slot : SlotKind → ℕ → Case
of_slot slot sub = entry (WrongSlot slot) 3 sub (0 ∷ 0 ∷ 0 ∷ 0 ∷ [])

abbrev of_limit : GroupLimit → ℕ → Case
of_limit limit sub = entry (MaxGroup (pos 0) limit 0 0) 17 sub (0 ∷ 0 ∷ 0 ∷ 0 ∷ [])

abbrev pub ENTRIES : List Case
ENTRIES =
    (Written (on_ship NotAHull), InBytes (0 ∷ 19 ∷ replicate 22 0))
    -- 1.0 and 2.0; a NaN's pattern
    ∷ entry (Resource CargoBay (of_nat 1) (of_nat 2)) 1 11 (0 ∷ 0x3FF00000 ∷ 0 ∷ 0x40000000 ∷ [])
    ∷ entry (Resource Cpu (of_nat 1) nan) 1 0 (0 ∷ 0x3FF00000 ∷ 0 ∷ 0x7FF80000 ∷ [])
    ∷ entry (Slots Launcher 3 2) 2 7 (3 ∷ 2 ∷ 0 ∷ 0 ∷ [])
    ∷ entry (WrongSlot Service) 3 5 (0 ∷ 0 ∷ 0 ∷ 0 ∷ [])
    ∷ entry NotAModule 4 0 (0 ∷ 0 ∷ 0 ∷ 0 ∷ [])
    ∷ entry NotADrone 5 0 (0 ∷ 0 ∷ 0 ∷ 0 ∷ [])
    ∷ entry NotAFighter 6 0 (0 ∷ 0 ∷ 0 ∷ 0 ∷ [])
    ∷ entry NotAnImplant 7 0 (0 ∷ 0 ∷ 0 ∷ 0 ∷ [])
    ∷ entry SlotTaken 8 0 (0 ∷ 0 ∷ 0 ∷ 0 ∷ [])
    ∷ entry (WrongSlotIndex 300) 9 0 (300 ∷ 0 ∷ 0 ∷ 0 ∷ [])
    ∷ entry SubsystemTaken 10 0 (0 ∷ 0 ∷ 0 ∷ 0 ∷ [])
    ∷ entry (Skill (pos 7) 5 3) 11 0 (7 ∷ 5 ∷ 3 ∷ 0 ∷ [])
    ∷ entry (RigSize 1 2) 12 0 (1 ∷ 2 ∷ 0 ∷ 0 ∷ [])
    ∷ entry ShipRestricted 13 0 (0 ∷ 0 ∷ 0 ∷ 0 ∷ [])
    ∷ entry CapitalItem 14 0 (0 ∷ 0 ∷ 0 ∷ 0 ∷ [])
    ∷ entry StructureItem 15 0 (0 ∷ 0 ∷ 0 ∷ 0 ∷ [])
    ∷ entry ShipItem 16 0 (0 ∷ 0 ∷ 0 ∷ 0 ∷ [])
    ∷ entry (MaxGroup (pos 50) Active 4 3) 17 2 (50 ∷ 4 ∷ 3 ∷ 0 ∷ [])
    -- -2 as 32 bits
    ∷ entry (MaxType (negsuc 1) 4 3) 18 0 (0xFFFFFFFE ∷ 4 ∷ 3 ∷ 0 ∷ [])
    ∷ entry NotAHull 19 0 (0 ∷ 0 ∷ 0 ∷ 0 ∷ [])
    ∷ entry NotAMode 20 0 (0 ∷ 0 ∷ 0 ∷ 0 ∷ [])
    ∷ entry (NotASkill (negsuc 1)) 21 0 (0xFFFFFFFE ∷ 0 ∷ 0 ∷ 0 ∷ [])
    ∷ entry (Banned (negsuc 1)) 24 0 (0xFFFFFFFE ∷ 0 ∷ 0 ∷ 0 ∷ [])
    ∷ entry (Points 7 5) 25 0 (7 ∷ 5 ∷ 0 ∷ 0 ∷ [])
    ∷ entry (UnknownType (negsuc 1)) 26 0 (0xFFFFFFFE ∷ 0 ∷ 0 ∷ 0 ∷ [])
    -- the number of each resource, slot and limit
    ∷ of_resource Cpu 0
    ∷ of_resource Powergrid 1
    ∷ of_resource Calibration 2
    ∷ of_resource DroneBay 3
    ∷ of_resource DroneBandwidth 4
    ∷ of_resource LaunchedDrones 5
    ∷ of_resource FighterBay 6
    ∷ of_resource FighterTubes 7
    ∷ of_resource LightFighterTubes 8
    ∷ of_resource SupportFighterTubes 9
    ∷ of_resource HeavyFighterTubes 10
    ∷ of_resource CargoBay 11
    ∷ of_slot High 0
    ∷ of_slot Medium 1
    ∷ of_slot Low 2
    ∷ of_slot Rig 3
    ∷ of_slot Subsystem 4
    ∷ of_slot Service 5
    ∷ of_slot Turret 6
    ∷ of_slot Launcher 7
    ∷ of_limit Fitted 0
    ∷ of_limit Online 1
    ∷ of_limit Active 2
    -- numbers that no rule has
    ∷ entry (Numbers 27 12 1 2 3 4) 27 12 (1 ∷ 2 ∷ 3 ∷ 4 ∷ [])
    ∷ []

-- ---- images
-- no names, effects, types, links, bases
abbrev pub bare : List ℕ
bare = replicate 20 0

-- two types, 0 in group and category, with no volume
abbrev pub types_at : ℕ → ℕ → List ℕ
types_at a b = words (0 ∷ 0 ∷ 2 ∷ 0 ∷ 0 ∷ a ∷ b ∷ []) ++ replicate 32 0

-- an effect with a mark
abbrev pub marked : ℕ → List ℕ
marked mark = words (0 ∷ 1 ∷ 0 ∷ 0 ∷ 0 ∷ 5 ∷ mark ∷ [])

-- names 20, 22, 76 and 77 with the attributes 6, 7, 4 and 5; effect 3, a Medium slot; type 1, a ship, and type 9, a module with that effect,
-- of volume 2.5, which wants a skill at a level: two f64, their lower halves first
abbrev wanting : (skill level : ℕ × ℕ) → List ℕ
wanting skill level =
    words (4 ∷ 1 ∷ 2 ∷ 1 ∷ 2 ∷ [])
    ++ words (20 ∷ 22 ∷ 76 ∷ 77 ∷ [])
    ++ words (6 ∷ 7 ∷ 4 ∷ 5 ∷ [])
    ++ words (3 ∷ 2 ∷ [])
    ++ words (1 ∷ 9 ∷ [])
    ++ words (25 ∷ 6 ∷ 0 ∷ 0 ∷ [])
    ++ words (50 ∷ 7 ∷ 1 ∷ 0x40200000 ∷ [])
    ++ words (9 ∷ 3 ∷ [])
    ++ words (9 ∷ 9 ∷ [])
    ++ words (4 ∷ skill.0 ∷ skill.1 ∷ 5 ∷ level.0 ∷ level.1 ∷ [])

-- skill 8 at 2
abbrev pub small : List ℕ
small = wanting (0, 0x40200000) (0, 0x40000000)

-- a fit of ship 0 with nothing; one of ship 1 with nothing
abbrev pub empty : List ℕ
empty = replicate 36 0

abbrev pub flying : List ℕ
flying = words (0 ∷ 0 ∷ 0 ∷ 0 ∷ 1 ∷ 0 ∷ 0 ∷ []) ++ replicate 8 0

-- ship 1 with one High slot; skill 9 at 3; an item of type 9 in High slot 0, whose result has attribute 4 at 9
abbrev pub fitted : List ℕ
fitted =
    words (1 ∷ 1 ∷ 1 ∷ 2 ∷ 1 ∷ 0 ∷ 0 ∷ [])
    ++ words (9 ∷ []) ++ (3 ∷ [])
    ++ words (9 ∷ 1 ∷ 0 ∷ [])
    ++ (0 ∷ 0 ∷ 1 ∷ 0 ∷ 0 ∷ 0 ∷ 0 ∷ 0 ∷ 1 ∷ 0 ∷ 1 ∷ 0 ∷ [])
    ++ words (7 ∷ 4 ∷ [])
    ++ words (0 ∷ 0x3FF00000 ∷ 0 ∷ 0x40220000 ∷ [])

-- ship 1 with so many items of type 9 in its hold and so many results: nothing is listed
abbrev loaded : ℕ → ℕ → List ℕ
loaded items results =
    words (0 ∷ items ∷ results ∷ 0 ∷ 1 ∷ 0 ∷ 0 ∷ []) ++ each (replicate items 11) (λ slot. words (9 ∷ 1 ∷ slot ∷ [])) ++ replicate (4 * results + 8) 0

-- so many skills, items and results, all of zeros
abbrev pub sized : ℕ → ℕ → ℕ → List ℕ
sized skills items results = words (skills ∷ items ∷ results ∷ 0 ∷ 0 ∷ 0 ∷ 0 ∷ []) ++ replicate (5 * skills + 12 * items + 4 * results + 8) 0

-- a fit of one item: slot kind, zero byte, index
abbrev pub holding : ℕ → ℕ → ℕ → List ℕ
holding slot pad index = words (0 ∷ 1 ∷ 0 ∷ 0 ∷ 0 ∷ 0 ∷ 0 ∷ []) ++ words (0 ∷ 0 ∷ []) ++ (slot ∷ pad ∷ le 2 index) ++ replicate 8 0

-- refusals
abbrev pub list_refuses : List ℕ → List ℕ → ℕ → Case
list_refuses catalogue fit n = (ListCall catalogue fit (replicate 30 7), Returns (n * 4294967296) (replicate 30 7))

-- a fit of ship 0, whose list is NotAHull
abbrev pub list_gives : List ℕ → List ℕ → Case
list_gives catalogue fit = (ListCall catalogue fit (replicate 30 7), Returns 1 (0 ∷ 19 ∷ replicate 22 0 ++ replicate 6 7))

abbrev pub CALLS : List Case
CALLS =
    -- 1: 3 bytes; a length unlike the sizes
    list_refuses (replicate 3 0) empty 1
    ∷ list_refuses (replicate 21 0) empty 1
    -- 2: types 5, 5
    ∷ list_refuses (types_at 5 5) empty 2
    ∷ list_gives (types_at 5 6) empty
    -- -1 stands before 0
    ∷ list_gives (types_at 0xFFFFFFFF 0) empty
    ∷ list_refuses (types_at 0 0xFFFFFFFF) empty 2
    -- 3: mark 9
    ∷ list_refuses (marked 9) empty 3
    ∷ list_gives (marked 8) empty
    ∷ list_refuses (words (1 ∷ 0 ∷ 0 ∷ 0 ∷ 0 ∷ 88 ∷ 0 ∷ [])) empty 3
    ∷ list_gives (words (1 ∷ 0 ∷ 0 ∷ 0 ∷ 0 ∷ 87 ∷ 0 ∷ [])) empty
    -- 4: F = 257; R = 257; S = 1025; a byte too many; counts that do not add up to A
    ∷ (BadSize (sized 0 257 0), Holds true)
    ∷ (BadSize (sized 0 256 0), Holds false)
    ∷ (BadSize (sized 0 0 257), Holds true)
    ∷ (BadSize (sized 0 0 256), Holds false)
    ∷ (BadSize (sized 1025 0 0), Holds true)
    ∷ (BadSize (sized 1024 0 0), Holds false)
    ∷ list_refuses bare (replicate 37 0) 4
    ∷ list_refuses bare (words (0 ∷ 0 ∷ 0 ∷ 1 ∷ 0 ∷ 0 ∷ 0 ∷ []) ++ replicate 20 0) 4
    -- 5: skills 9, 4
    ∷ list_refuses bare (words (2 ∷ 0 ∷ 0 ∷ 0 ∷ 0 ∷ 0 ∷ 0 ∷ 9 ∷ 4 ∷ []) ++ replicate 10 0) 5
    ∷ list_gives bare (words (2 ∷ 0 ∷ 0 ∷ 0 ∷ 0 ∷ 0 ∷ 0 ∷ 4 ∷ 9 ∷ []) ++ replicate 10 0)
    -- 6: state 4; mode flag 2; a mode under flag 0; slot kind 12; a zero byte; the index
    ∷ list_refuses bare (replicate 28 0 ++ (4 ∷ replicate 7 0)) 6
    ∷ list_gives bare (replicate 28 0 ++ (3 ∷ replicate 7 0))
    ∷ list_refuses bare (words (0 ∷ 0 ∷ 0 ∷ 0 ∷ 0 ∷ 2 ∷ 0 ∷ []) ++ replicate 8 0) 6
    ∷ list_refuses bare (words (0 ∷ 0 ∷ 0 ∷ 0 ∷ 0 ∷ 0 ∷ 1 ∷ []) ++ replicate 8 0) 6
    ∷ list_gives bare (words (0 ∷ 0 ∷ 0 ∷ 0 ∷ 0 ∷ 1 ∷ 1 ∷ []) ++ replicate 8 0)
    ∷ list_refuses bare (holding 12 0 0) 6
    ∷ list_refuses bare (holding 0 1 0) 6
    ∷ list_refuses bare (holding 8 0 256) 6
    ∷ list_gives bare (holding 8 0 255)
    ∷ list_gives bare (holding 9 0 256)
    ∷ list_refuses bare (holding 7 0 1) 6
    ∷ list_refuses bare (holding 10 0 1) 6
    ∷ list_refuses bare (holding 11 0 1) 6
    -- 8: result 2 with R = 0
    ∷ (SkillCall bare empty 2 [], Returns (8 * 4294967296) [])
    ∷ (SkillCall bare empty 1 [], Returns 0 [])
    -- 10: 23 bytes, one entry
    ∷ (ListCall bare empty (replicate 23 7), Returns (10 * 4294967296) (replicate 23 7))
    -- the lists of a fit
    ∷ (ListCall small flying [], Returns 0 [])
    ∷ (
      ListCall small fitted (replicate 50 7),
      Returns 2
          (words (0x00001500 ∷ 0 ∷ 9 ∷ 0 ∷ 0 ∷ 0 ∷ []) ++ words (0x00010301 ∷ 0 ∷ 0 ∷ 0 ∷ 0 ∷ 0 ∷ []) ++ (7 ∷ 7 ∷ [])),
    )
    ∷ (SkillCall small fitted 2 (replicate 25 7), Returns 1 (words (0x00000B01 ∷ 0 ∷ 8 ∷ 2 ∷ 0 ∷ 0 ∷ []) ++ (7 ∷ [])))
    ∷ (SkillCall small fitted 0 [], Returns 0 [])
    -- a hall of three: clear, faulted, refused
    ∷ (HallCall small (words (3 ∷ 36 ∷ 36 ∷ 1 ∷ []) ++ flying ++ empty ++ (0 ∷ [])), Number (1 + 256 + 65536))
    -- an empty list is clear with as many results as items alone
    ∷ (ListCall small (loaded 1 0) [], Returns 0 [])
    ∷ (ListCall small (loaded 0 1) [], Returns 0 [])
    ∷ (HallCall small (words (1 ∷ 52 ∷ []) ++ loaded 1 1), Number 1)
    ∷ (HallCall small (words (1 ∷ 48 ∷ []) ++ loaded 1 0), Number 256)
    ∷ (HallCall small (words (1 ∷ 40 ∷ []) ++ loaded 0 1), Number 256)
    -- two items more than results: those of ship and character are not counted
    ∷ (HallCall small (words (1 ∷ 76 ∷ []) ++ loaded 3 1), Number 256)
    -- among others; with an entry it is faulted too, and refused where its bytes are
    ∷ (
      HallCall small (words (5 ∷ 48 ∷ 36 ∷ 36 ∷ 40 ∷ 1 ∷ []) ++ loaded 1 0 ++ flying ++ empty ++ loaded 0 1 ++ (0 ∷ [])),
      Number (1 + 256 * 3 + 65536),
    )
    ∷ (HallCall small (words (2 ∷ 48 ∷ 48 ∷ []) ++ holding 0 0 0 ++ holding 12 0 0), Number (256 + 65536))
    ∷ (HallCall small (words (0 ∷ [])), Number 0)
    ∷ (HallCall small (replicate 3 0), Number (4 * 4294967296))
    ∷ (HallCall small (words (1 ∷ 36 ∷ []) ++ replicate 35 0), Number (4 * 4294967296))
    ∷ (HallCall small (words (65 ∷ []) ++ replicate 260 0), Number (4 * 4294967296))
    ∷ (HallCall (replicate 3 0) (replicate 3 0), Number 4294967296)
    -- base values that no f32 has: skill 16,777,217 at just below 5, and skill just below 8 at just above 2
    ∷ (
      SkillCall (wanting (0x10000000, 0x41700000) (0xFFFFFFFF, 0x4013FFFF)) fitted 2 (replicate 25 7),
      Returns 1 (words (0x00000B01 ∷ 0 ∷ 16777217 ∷ 4 ∷ 0 ∷ 0 ∷ []) ++ (7 ∷ [])),
    )
    ∷ (
      SkillCall (wanting (0xFFFFFFFF, 0x401FFFFF) (1, 0x40000000)) fitted 2 (replicate 25 7),
      Returns 1 (words (0x00000B01 ∷ 0 ∷ 7 ∷ 2 ∷ 0 ∷ 0 ∷ []) ++ (7 ∷ [])),
    )
    -- an old catalogue with a base is no new one
    ∷ list_refuses (words (0 ∷ 0 ∷ 0 ∷ 0 ∷ 1 ∷ []) ++ replicate 12 0) empty 1
    ∷ list_gives (words (0 ∷ 0 ∷ 0 ∷ 0 ∷ 1 ∷ []) ++ replicate 16 0) empty
    ∷ []
