-- Document 01, "Two fits compared": old and new lists, in bytes, of which the old one is kept and of which it is not.
use Rattle.std.specs.Prelude.{ℕ, ◌+◌, true, pos, negsuc, neg_ℤ, length, set, Float}
use mathlib.Core.List.{List, [], ◌∷◌, ◌++◌, map, Memᴰ}
use Rattle.std.specs.Float.{nan, fin, binary64}
use Rattle.std.specs.Float.Ieee.{of_int}
use Rattle.words.specs.Words.{each, from}
use Rattle.image.specs.Bytes.{u8_at}
use Rattle.floats.specs.Floats.{of_nat}
use Rattle.numbers.specs.declared.Resource.TheVariants.{Cpu, HeavyFighterTubes, CargoBay}
use Rattle.numbers.specs.declared.SlotKind.TheVariants.{High, Medium, Low, Rig, Service, Launcher}
use Rattle.numbers.specs.declared.GroupLimit.TheVariants.{Fitted, Online}
use Rattle.entry.specs.declared.Rule.{Rule}
use Rattle.entry.specs.declared.Rule.TheVariants.{Resource, Slots, WrongSlot, NotAModule, NotADrone, NotAFighter, NotAnImplant, SlotTaken}
use Rattle.entry.specs.declared.Rule.TheVariants.{WrongSlotIndex, SubsystemTaken, Skill, RigSize, ShipRestricted, CapitalItem}
use Rattle.entry.specs.declared.Rule.TheVariants.{StructureItem, ShipItem, MaxGroup, MaxType, NotAHull, NotAMode, NotASkill, Banned, Points, UnknownType}
use Rattle.entry.specs.Entries.{on_ship, on_item, entry_bytes}
use Rattle.promises.specs.Answers.{Outcome}
use Rattle.promises.specs.Compare.{Kept}

-- an old and a new list; an entry is its 24 bytes
abbrev pub Lists : Type 0
Lists = List (List ℕ) × List (List ℕ)

-- a call that was answered with these entries
abbrev pub listed : List (List ℕ) → Outcome
listed es = record { word = length es; buffer = each es (λ e. e) }

-- of each pair the old list is kept in the new one; of none it is
abbrev pub AllKept : List Lists → Type 0
AllKept l = (p : Lists) → Memᴰ p l → Kept (listed p.0) (listed p.1)

abbrev pub NoneKept : List Lists → Type 0
NoneKept l = (p : Lists) → Memᴰ p l → Kept (listed p.0) (listed p.1) → ⊥

-- ---- entries
-- 2.0 used of 1.0; 3 of 2; 4 of 3, twice; skill 7 wanted at 5 and trained to 3
abbrev load : List ℕ
load = entry_bytes (on_ship (Resource HeavyFighterTubes (of_nat 2) (of_nat 1)))

abbrev rack : List ℕ
rack = entry_bytes (on_ship (Slots Launcher 3 2))

abbrev of_group : List ℕ
of_group = entry_bytes (on_item 258 (MaxGroup (pos 50) Online 4 3))

abbrev of_type : List ℕ
of_type = entry_bytes (on_item 258 (MaxType (pos 60) 4 3))

abbrev lack : List ℕ
lack = entry_bytes (on_item 258 (Skill (pos 7) 5 3))

-- 141 points of 120
abbrev spent : List ℕ
spent = entry_bytes (on_ship (Points 141 120))

-- the rules that have neither a used number nor a trained level
abbrev taken : List ℕ
taken = entry_bytes (on_item 258 SlotTaken)

abbrev OTHERS : List (List ℕ)
OTHERS =
    taken
    ∷ map (λ r. entry_bytes (on_item 258 r))
    (WrongSlot Service ∷ NotAModule ∷ NotADrone ∷ NotAFighter ∷ NotAnImplant ∷ WrongSlotIndex 300 ∷ SubsystemTaken ∷ RigSize 1 2
    ∷ ShipRestricted ∷ CapitalItem ∷ StructureItem ∷ ShipItem ∷ NotAHull ∷ NotAMode ∷ NotASkill (pos 7) ∷ Banned (pos 50)
    ∷ UnknownType (pos 99) ∷ [])

-- a number below zero
abbrev minus : ℕ → Float
minus n = of_int binary64 (neg_ℤ (pos n))

-- ---- pairs of lists
-- one entry of the ship, one of pair 258
abbrev on_the_ship : Rule → Rule → Lists
on_the_ship r r' = (entry_bytes (on_ship r) ∷ [], entry_bytes (on_ship r') ∷ [])

abbrev on_a_pair : Rule → Rule → Lists
on_a_pair r r' = (entry_bytes (on_item 258 r) ∷ [], entry_bytes (on_item 258 r') ∷ [])

-- ---- kept
abbrev pub SAME : List Lists
SAME =
    -- nothing; the same list; others before, between and behind
    ([], [])
    ∷ ([], taken ∷ [])
    ∷ (load ∷ rack ∷ taken ∷ [], load ∷ rack ∷ taken ∷ [])
    ∷ (taken ∷ taken ∷ [], taken ∷ taken ∷ [])
    ∷ (rack ∷ of_group ∷ [], load ∷ rack ∷ taken ∷ of_group ∷ of_type ∷ [])
    ∷ []

abbrev pub HIGHER : List Lists
HIGHER =
    -- used numbers that are higher: Resource's as f64, so that -1 is higher than -2, and the two zeros are equal
    on_the_ship (Resource HeavyFighterTubes (of_nat 2) (of_nat 1)) (Resource HeavyFighterTubes (of_nat 3) (of_nat 1))
    ∷ on_the_ship (Resource Cpu (minus 2) (minus 3)) (Resource Cpu (minus 1) (minus 3))
    ∷ on_the_ship (Resource Cpu (of_nat 0) (minus 1)) (Resource Cpu (fin true 0 (pos 0)) (minus 1))
    ∷ on_the_ship (Slots High 3 2) (Slots High 256 2)
    ∷ on_a_pair (MaxGroup (pos 50) Fitted 4 3) (MaxGroup (pos 50) Fitted 5 3)
    ∷ on_a_pair (MaxType (pos 60) 4 3) (MaxType (pos 60) 5 3)
    -- a trained level that is lower
    ∷ on_a_pair (Skill (pos 7) 5 3) (Skill (pos 7) 5 0)
    -- more points
    ∷ on_the_ship (Points 141 120) (Points 256 120)
    ∷ []

-- ---- not kept
abbrev pub GONE : List Lists
GONE =
    -- the only entry, the first, the last
    (taken ∷ [], [])
    ∷ (load ∷ rack ∷ [], rack ∷ [])
    ∷ (load ∷ rack ∷ [], load ∷ [])
    -- one place for two entries that are alike
    ∷ (taken ∷ taken ∷ [], taken ∷ [])
    ∷ (taken ∷ taken ∷ [], rack ∷ taken ∷ of_type ∷ [])
    -- two exchanged
    ∷ (load ∷ rack ∷ [], rack ∷ load ∷ [])
    ∷ (rack ∷ of_group ∷ taken ∷ [], rack ∷ taken ∷ of_group ∷ [])
    ∷ []

abbrev pub LOWER : List Lists
LOWER =
    -- used numbers that are lower; a NaN is neither
    on_the_ship (Resource HeavyFighterTubes (of_nat 3) (of_nat 1)) (Resource HeavyFighterTubes (of_nat 2) (of_nat 1))
    ∷ on_the_ship (Resource Cpu (minus 1) (minus 3)) (Resource Cpu (minus 2) (minus 3))
    ∷ on_the_ship (Resource HeavyFighterTubes (of_nat 2) (of_nat 1)) (Resource HeavyFighterTubes nan (of_nat 1))
    ∷ on_the_ship (Slots High 256 2) (Slots High 3 2)
    ∷ on_a_pair (MaxGroup (pos 50) Fitted 5 3) (MaxGroup (pos 50) Fitted 4 3)
    ∷ on_a_pair (MaxType (pos 60) 5 3) (MaxType (pos 60) 4 3)
    -- a trained level that is higher
    ∷ on_a_pair (Skill (pos 7) 5 3) (Skill (pos 7) 5 4)
    -- fewer points
    ∷ on_the_ship (Points 256 120) (Points 141 120)
    ∷ []

abbrev pub OTHER_NUMBERS : List Lists
OTHER_NUMBERS =
    -- what there is, or what is allowed, even beside a used number that is higher
    on_the_ship (Resource HeavyFighterTubes (of_nat 2) (of_nat 1)) (Resource HeavyFighterTubes (of_nat 3) (of_nat 0))
    ∷ on_the_ship (Slots High 4 2) (Slots High 5 3)
    ∷ on_a_pair (MaxGroup (pos 50) Fitted 4 2) (MaxGroup (pos 50) Fitted 5 3)
    ∷ on_a_pair (MaxType (pos 60) 4 2) (MaxType (pos 60) 5 3)
    -- the wanted level, higher and lower
    ∷ on_a_pair (Skill (pos 7) 4 3) (Skill (pos 7) 5 3)
    ∷ on_a_pair (Skill (pos 7) 5 3) (Skill (pos 7) 4 3)
    -- the numbers of WrongSlotIndex and RigSize
    ∷ on_a_pair (WrongSlotIndex 1) (WrongSlotIndex 2)
    ∷ on_a_pair (RigSize 1 2) (RigSize 2 2)
    ∷ on_a_pair (RigSize 1 2) (RigSize 1 3)
    -- the allowance
    ∷ on_the_ship (Points 141 120) (Points 142 121)
    ∷ []

abbrev pub OTHER_ENTRIES : List Lists
OTHER_ENTRIES =
    -- another target; another pair
    (entry_bytes (on_ship (Skill (pos 7) 5 3)) ∷ [], entry_bytes (on_item 0 (Skill (pos 7) 5 3)) ∷ [])
    ∷ (entry_bytes (on_item 2 SlotTaken) ∷ [], entry_bytes (on_item 3 SlotTaken) ∷ [])
    ∷ (entry_bytes (on_item 2 (MaxGroup (pos 50) Fitted 4 3)) ∷ [], entry_bytes (on_item 258 (MaxGroup (pos 50) Fitted 4 3)) ∷ [])
    -- another rule with the same numbers
    ∷ on_a_pair (MaxType (pos 60) 4 3) (MaxGroup (pos 60) Fitted 4 3)
    ∷ on_a_pair NotADrone NotAFighter
    -- another resource, slot or limit
    ∷ on_the_ship (Resource HeavyFighterTubes (of_nat 2) (of_nat 1)) (Resource CargoBay (of_nat 2) (of_nat 1))
    ∷ on_the_ship (Slots High 3 2) (Slots Medium 3 2)
    ∷ on_a_pair (WrongSlot Low) (WrongSlot Rig)
    ∷ on_a_pair (MaxGroup (pos 50) Fitted 4 3) (MaxGroup (pos 50) Online 4 3)
    -- another id: -50 is not 50
    ∷ on_a_pair (Skill (pos 7) 5 3) (Skill (pos 8) 5 3)
    ∷ on_a_pair (MaxGroup (pos 50) Fitted 4 3) (MaxGroup (negsuc 49) Fitted 4 3)
    ∷ on_a_pair (MaxType (pos 60) 4 3) (MaxType (pos 61) 4 3)
    ∷ on_the_ship (NotASkill (pos 7)) (NotASkill (pos 8))
    ∷ on_a_pair (Banned (pos 50)) (Banned (pos 51))
    ∷ []

-- ---- byte by byte
-- an entry beside itself with one of these bytes higher by 1
abbrev raised : List ℕ → List ℕ → List Lists
raised places e = map (λ i. (e ∷ [], set e i (u8_at e i + 1) ∷ [])) places

-- each new list taken for the old one
abbrev pub turned : List Lists → List Lists
turned l = map (λ p. (p.1, p.0)) l

-- a used number higher by any of its bytes; a trained level lower
abbrev pub RISEN : List Lists
RISEN =
    raised (from 8 8) load
    ++ raised (from 8 4) rack
    ++ raised (from 12 4) of_group
    ++ raised (from 12 4) of_type
    ++ turned (raised (from 16 4) lack)
    ++ raised (from 8 4) spent

-- any other byte
abbrev pub CHANGED : List Lists
CHANGED =
    raised (from 0 8 ++ from 16 8) load
    ++ raised (from 0 8 ++ from 12 12) rack
    ++ raised (from 0 12 ++ from 16 8) of_group
    ++ raised (from 0 12 ++ from 16 8) of_type
    ++ raised (from 0 16 ++ from 20 4) lack
    ++ raised (from 0 8 ++ from 12 12) spent
    ++ each OTHERS (raised (from 0 24))

-- The last three go through every byte of an entry of every rule: none but a used number's and a trained level's may change, and those one
-- way only.
pub record Tables : Type 0 where
  pub same : AllKept SAME
  pub higher : AllKept HIGHER
  pub gone : NoneKept GONE
  pub lower : NoneKept LOWER
  pub other_numbers : NoneKept OTHER_NUMBERS
  pub other_entries : NoneKept OTHER_ENTRIES
  pub risen : AllKept RISEN
  pub risen_turned : NoneKept (turned RISEN)
  pub changed : NoneKept CHANGED
