-- Document 01, "Edges, those marked * proved": one table of inputs and outcomes. First the starred edges, then a case for and against every
-- rule, entries and calls in bytes, every part of every refusal, what widens to what, leagues, missing types, the limits of pages, readers,
-- training, trimmed catalogues, causes, what to leave out.
use Rattle.std.specs.Prelude.{ℕ, ◌≡◌, true, false, List, [], ◌∷◌, map, pos, negsuc}
use Rattle.std.specs.Float.{nan, inf, binary64}
use Rattle.std.specs.Float.Ieee.{of_int, of_bits}
use Rattle.words.specs.Words.{each}
use Rattle.numbers.specs.Names.{volume, is_capital_size, required_skill1, required_skill1_level, required_skill2, required_skill2_level}
use Rattle.floats.specs.Floats.{of_nat}
use Rattle.catalogue.specs.Catalogue.{Catalogue}
use Rattle.fit.specs.Fit.{Fit}
use Rattle.entry.specs.declared.Rule.TheVariants.{CapitalItem, Skill}
use Rattle.entry.specs.Entries.{on_ship, on_item}
use Rattle.promises.specs.Cases.{ship, gun, known, base, tree, has, result, asks, one, fit}
use Rattle.promises.specs.Cases.{Unsigned, Signed, Over, AnyOver, Fitted, Wants, Exceeds, Skilled}
use Rattle.promises.specs.Cases.{Number, Integer, Holds, HoldsOf, Entries, Demands, outcome_of, Case}
use Rattle.promises.specs.RuleCases.{KINDS, RESOURCES, SLOTS, ITEMS, CROWDS, ORDER}
use Rattle.promises.specs.CallCases.{ENTRIES, CALLS}
use Rattle.promises.specs.RefusalCases.{LENGTHS, KEYS, FIELDS, SIZES, IDS, RANGES, DRONES, NUMBERS, BUFFERS, FIRSTS, LARGE, ZEROS}
use Rattle.promises.specs.WidenCases.{VALUES, WIDENED}
use Rattle.promises.specs.LeagueCases.{PROFILES, LEAGUE, PROFILED}
use Rattle.promises.specs.UnknownCases.{UNKNOWNS, CARRIED}
use Rattle.promises.specs.PageCases.{PAIRS, LIMITS, PAGES}
use Rattle.promises.specs.ReaderCases.{TOLD, READERS}
use Rattle.promises.specs.TrainCases.{TRAINED, FULL}
use Rattle.promises.specs.TrimCases.{TRIMMED}
use Rattle.promises.specs.CauseCases.{CAUSED, COUNTED, THRONGED, SHARED, SUMMED, UNCAUSED, ASKED}
use Rattle.promises.specs.LeavingCases.{BUDGETS, NAMED, SURPLUS, MANY, LEAVING, CRAMMED}

-- ---- skills
-- skills 1 and 2 demand each other: 2 at 1, and 1 at 4
abbrev cycle : Catalogue
cycle = tree (base 1 required_skill1 2 ∷ base 1 required_skill1_level 1 ∷ base 2 required_skill1 1 ∷ base 2 required_skill1_level 4 ∷ [])

-- 1 demands 2, that demands 3
abbrev chain : Catalogue
chain = tree (base 1 required_skill1 2 ∷ base 2 required_skill1 3 ∷ [])

-- the ship, the character and one item ask for skill 1 at 3; skill 1 is trained to a level
abbrev pilot : ℕ → Fit
pilot level = record {
  frame = record { ship = ship; mode_flag = 0; mode = pos 0; ship_result = asks 1 3; character_result = asks 1 3 };
  skills = pos 1 ∷ [];
  levels = level ∷ [];
  items = [];
  results = asks 1 3 ∷ [];
}

-- ---- the starred edges
abbrev pub STARRED : List Case
STARRED =
    -- to u8: NaN, -1, 255.9, 256; to i32: -2.7
    (Unsigned 8 nan, Number 0)
    ∷ (Unsigned 8 (of_int binary64 (negsuc 0)), Number 0)
    ∷ (Unsigned 8 (of_bits binary64 0x406FFCCCCCCCCCCD), Number 255)
    ∷ (Unsigned 8 (of_nat 256), Number 255)
    ∷ (Signed (of_bits binary64 0xC00599999999999A), Integer (negsuc 1))
    -- over: 1,000,000,001 and 1,000,000,002 of 1,000,000,000; -999,999,999 of -1,000,000,000; anything of -infinity
    ∷ (Over (of_nat 1000000001) (of_nat 1000000000), Holds false)
    ∷ (Over (of_nat 1000000002) (of_nat 1000000000), Holds true)
    ∷ (Over (of_int binary64 (negsuc 999999998)) (of_int binary64 (negsuc 999999999)), Holds false)
    ∷ (AnyOver (inf true), HoldsOf λ _. false)
    -- a volume of 3500, and of 3500.5, in a High slot of a ship that is no capital
    ∷ (Fitted (known (volume ∷ is_capital_size ∷ [])) (fit ship [] (one gun 0 0 (has volume (of_nat 3500) ∷ []) ∷ [])), Entries [])
    ∷ (
      Fitted (known (volume ∷ is_capital_size ∷ [])) (fit ship [] (one gun 0 0 (has volume (of_bits binary64 0x40AB590000000000) ∷ []) ∷ [])),
      Entries (on_item 0 CapitalItem ∷ []),
    )
    -- 1 and 2 demand each other, 1 is demanded at 3, and by 2 at 4: 1 stands once, at 4
    ∷ (Wants cycle (asks 1 3), Demands ((pos 1, 4) ∷ (pos 2, 1) ∷ []))
    ∷ []

-- ---- more of skills
abbrev pub SKILLS : List Case
SKILLS =
    -- in the order met; a level that is not there is 0; a pair of names counts when both have ids
    (Wants chain (asks 1 2), Demands ((pos 1, 2) ∷ (pos 2, 0) ∷ (pos 3, 0) ∷ []))
    ∷ (
      Wants chain (result 0 (has required_skill1 (of_nat 3) ∷ has required_skill2 (of_nat 1) ∷ has required_skill2_level (of_nat 5) ∷ [])),
      Demands ((pos 3, 0) ∷ (pos 1, 5) ∷ (pos 2, 0) ∷ []),
    )
    ∷ (Wants (known (required_skill1 ∷ [])) (asks 1 3), Demands [])
    -- casts: a level of 300, a skill of -2.7
    ∷ (
      Wants (tree []) (result 0 (has required_skill1 (of_bits binary64 0xC00599999999999A) ∷ has required_skill1_level (of_nat 300) ∷ [])),
      Demands ((negsuc 1, 255) ∷ []),
    )
    -- ids beyond 16 bits, and beyond both ends of i32
    ∷ (Wants (tree []) (asks 65538 1), Demands ((pos 65538, 1) ∷ []))
    ∷ (Wants (tree []) (asks 4294967298 1), Demands ((pos 2147483647, 1) ∷ []))
    ∷ (
      Wants (tree []) (result 0 (has required_skill1 (of_int binary64 (negsuc 4294967297)) ∷ has required_skill1_level (of_nat 1) ∷ [])),
      Demands ((negsuc 2147483647, 1) ∷ []),
    )
    -- the first base in stored order counts
    ∷ (Wants (tree (base 1 required_skill1 2 ∷ base 1 required_skill1 3 ∷ [])) (asks 1 1), Demands ((pos 1, 1) ∷ (pos 2, 0) ∷ []))
    -- three skills are more than two
    ∷ (Exceeds 2 chain (asks 1 1), Holds true)
    ∷ (Exceeds 3 chain (asks 1 1), Holds false)
    -- listed where trained below the level: skill 1 at 4, skill 2 at 1; the ship's, the character's and the item's
    ∷ (Skilled cycle (pilot 3) 0, Entries (on_ship (Skill (pos 1) 4 3) ∷ on_ship (Skill (pos 2) 1 0) ∷ []))
    ∷ (Skilled cycle (pilot 4) 1, Entries (on_ship (Skill (pos 2) 1 0) ∷ []))
    ∷ (Skilled cycle (pilot 5) 2, Entries (on_item 0 (Skill (pos 2) 1 0) ∷ []))
    ∷ (Skilled (tree []) (pilot 3) 0, Entries [])
    ∷ []

-- ---- the table: the parts one after the other
abbrev pub PARTS : List (List Case)
PARTS =
    STARRED ∷ SKILLS ∷ KINDS ∷ RESOURCES ∷ SLOTS ∷ ITEMS ∷ CROWDS ∷ ORDER ∷ ENTRIES ∷ CALLS
    ∷ LENGTHS ∷ KEYS ∷ FIELDS ∷ SIZES ∷ IDS ∷ RANGES ∷ DRONES ∷ NUMBERS ∷ BUFFERS ∷ FIRSTS ∷ LARGE ∷ ZEROS
    ∷ VALUES ∷ WIDENED ∷ PROFILES ∷ LEAGUE ∷ PROFILED ∷ UNKNOWNS ∷ CARRIED ∷ PAIRS ∷ LIMITS ∷ PAGES ∷ TOLD ∷ READERS
    ∷ TRAINED ∷ FULL ∷ TRIMMED ∷ CAUSED ∷ COUNTED ∷ THRONGED ∷ SHARED ∷ SUMMED ∷ UNCAUSED ∷ ASKED
    ∷ BUDGETS ∷ NAMED ∷ SURPLUS ∷ MANY ∷ LEAVING ∷ CRAMMED ∷ []

abbrev pub EDGES : List Case
EDGES = each PARTS λ part. part

-- the definitions give every outcome of some cases
abbrev pub Agree : List Case → Type 0
Agree cases = map (λ x. outcome_of x.0) cases ≡ map (λ x. x.1) cases
