-- Cases of document 02, P13: the tries made, how far off the set is at most, and the set, worked out by hand; what refuses the call.
use Rattle.std.specs.Prelude.{ℕ, ◌+◌, ◌*◌, false, List, [], ◌∷◌, ◌++◌, pos, drop, length, replicate, Float}
use Rattle.std.specs.Float.{nan, inf}
use Rattle.words.specs.Words.{each, from}
use Rattle.numbers.specs.Names.{hi_slots, turret_slots_left, launcher_slots_left, sub_system_slot}
use Rattle.numbers.specs.Names.{implantness, rig_size, fits_to_ship_type, volume, is_capital_size}
use Rattle.numbers.specs.Names.{max_group_fitted, max_group_online, max_group_active, max_type_fitted}
use Rattle.floats.specs.Floats.{of_nat}
use Rattle.catalogue.specs.Catalogue.{Id}
use Rattle.fit.specs.Fit.{Attribute, Fit}
use Rattle.promises.specs.Cases.{ship, gun, plate, shield, turret, launcher, part, ore, hardwiring, standup_gun, unknown}
use Rattle.promises.specs.Cases.{known, has, Thing, stack, one, fit}
use Rattle.promises.specs.Cases.{LeavesOut, TriesMade, LeaveOutCall, InBytes, Number, Returns, Expected, Case}
use Rattle.promises.specs.CallCases.{words, small}
use Rattle.promises.specs.CauseCases.{THREE, halves, minus, unskilled, unpaired, spare, thronged}
use Rattle.promises.specs.CauseCases.{hull, goods, stock, fair, unfair, sent, shipped}

-- on a ship with these attributes, where these names have ids: the tries, the distance, the set
abbrev leaves : (names : List ℕ) → List Attribute → List Thing → (budget tries distance : ℕ) → (off : List ℕ) → Case
leaves names attributes things budget tries distance off =
    (LeavesOut (known names) (fit ship attributes things) budget, InBytes (words (tries ∷ distance ∷ off)))

-- ---- budgets
-- two guns in one slot of what is no hull
abbrev hulless : (budget tries distance : ℕ) → (off : List ℕ) → Case
hulless budget tries distance off = (
  LeavesOut (known (hi_slots ∷ [])) (fit (pos 7) [] (one gun 0 3 [] ∷ one gun 0 3 [] ∷ [])) budget,
  InBytes (words (tries ∷ distance ∷ off)),
)

-- three guns in High slots of a ship that has one, and one in a Medium slot between them: any two of the three can be left out
abbrev racked : (names : List ℕ) → (budget tries distance : ℕ) → (off : List ℕ) → Case
racked names budget tries distance off =
    leaves names (has hi_slots (of_nat 1) ∷ []) (one gun 0 0 [] ∷ one gun 1 0 [] ∷ one gun 0 1 [] ∷ one gun 0 2 [] ∷ [])
    budget tries distance off

-- ---- put back in turn is not the best
-- the first allows one of its group, of which there are three: without it, the two others can stay
abbrev owned : (budget tries distance : ℕ) → (off : List ℕ) → Case
owned budget tries distance off =
    leaves (max_group_fitted ∷ []) [] (one gun 0 0 (has max_group_fitted (of_nat 1) ∷ []) ∷ one gun 0 1 [] ∷ one gun 0 2 [] ∷ [])
    budget tries distance off

-- beside them two that share a slot: without the first, either of these can go
abbrev tied : (budget tries distance : ℕ) → (off : List ℕ) → Case
tied budget tries distance off =
    leaves (max_group_fitted ∷ []) []
    (one gun 0 0 (has max_group_fitted (of_nat 1) ∷ []) ∷ one gun 0 1 [] ∷ one gun 0 2 [] ∷ one plate 1 0 [] ∷ one plate 1 0 [] ∷ [])
    budget tries distance off

abbrev pub BUDGETS : List Case
BUDGETS =
    -- no pairs: there is one set
    leaves [] [] [] 0 0 0 []
    ∷ leaves [] [] [] 1 1 0 []
    ∷ leaves [] [] [] 2 1 0 []
    -- on what is no hull every set is good, and the tries are made
    ∷ hulless 0 0 2 (0 ∷ 1 ∷ [])
    ∷ hulless 1 1 1 (1 ∷ [])
    ∷ hulless 2 2 0 []
    ∷ hulless 5 5 0 []
    ∷ hulless 6 6 0 []
    ∷ hulless 7 6 0 []
    -- none, and one more up to a try behind each pair; all but one, all, one more, and the highest budget
    ∷ racked (hi_slots ∷ []) 0 0 2 (0 ∷ 1 ∷ 2 ∷ 3 ∷ [])
    ∷ racked (hi_slots ∷ []) 1 1 1 (1 ∷ 2 ∷ 3 ∷ [])
    ∷ racked (hi_slots ∷ []) 2 2 0 (2 ∷ 3 ∷ [])
    ∷ racked (hi_slots ∷ []) 3 3 0 (2 ∷ 3 ∷ [])
    ∷ racked (hi_slots ∷ []) 4 4 0 (2 ∷ 3 ∷ [])
    ∷ racked (hi_slots ∷ []) 5 5 0 (2 ∷ 3 ∷ [])
    ∷ racked (hi_slots ∷ []) 19 19 0 (2 ∷ 3 ∷ [])
    ∷ racked (hi_slots ∷ []) 20 20 0 (2 ∷ 3 ∷ [])
    ∷ racked (hi_slots ∷ []) 21 20 0 (2 ∷ 3 ∷ [])
    ∷ racked (hi_slots ∷ []) 4294967295 20 0 (2 ∷ 3 ∷ [])
    -- a name without an id: nothing is counted
    ∷ racked [] 0 0 4 (0 ∷ 1 ∷ 2 ∷ 3 ∷ [])
    ∷ racked [] 4 4 0 []
    -- a smaller set is found by its number; of two alike, the earlier
    ∷ owned 1 1 2 (1 ∷ 2 ∷ [])
    ∷ owned 3 3 2 (1 ∷ 2 ∷ [])
    ∷ owned 4 4 2 (1 ∷ 2 ∷ [])
    ∷ owned 5 5 1 (0 ∷ [])
    ∷ owned 11 11 1 (0 ∷ [])
    ∷ owned 12 11 1 (0 ∷ [])
    ∷ tied 14 14 3 (1 ∷ 2 ∷ 4 ∷ [])
    ∷ tied 15 15 2 (0 ∷ 3 ∷ [])
    ∷ tied 37 37 2 (0 ∷ 3 ∷ [])
    ∷ []

-- ---- rules
-- two things, of which one has to go, or neither
abbrev one_goes : (names : List ℕ) → List Attribute → (distance : ℕ) → (ℕ → Thing) → Case
one_goes names attributes distance thing = leaves names attributes (thing 0 ∷ thing 1 ∷ []) 4294967295 6 distance (1 ∷ [])

abbrev none_goes : (names : List ℕ) → List Attribute → (ℕ → Thing) → Case
none_goes names attributes thing = leaves names attributes (thing 0 ∷ thing 1 ∷ []) 4294967295 6 0 []

-- two in a rack that the ship has one slot of
abbrev of_rack : (slot : ℕ) → Case
of_rack slot = one_goes ((hi_slots + slot) ∷ []) (has (hi_slots + slot) (of_nat 1) ∷ []) 0 (λ i. one gun slot i [])

abbrev pub NAMED : List Case
NAMED =
    -- SlotTaken, SubsystemTaken, MaxGroup, MaxType, each alone
    one_goes [] [] 1 (λ i. one gun 0 3 [])
    ∷ one_goes (sub_system_slot ∷ []) [] 1 (λ i. one part 4 i (has sub_system_slot (of_nat 125) ∷ []))
    ∷ one_goes (max_group_fitted ∷ []) [] 1 (λ i. one gun 0 i (has max_group_fitted (of_nat 1) ∷ []))
    ∷ one_goes (max_type_fitted ∷ []) [] 1 (λ i. one gun 0 i (has max_type_fitted (of_nat 1) ∷ []))
    -- each rack
    ∷ of_rack 0
    ∷ of_rack 1
    ∷ of_rack 2
    ∷ of_rack 3
    ∷ of_rack 4
    ∷ of_rack 5
    -- hardpoints, and rules that are not named
    ∷ none_goes (turret_slots_left ∷ []) (has turret_slots_left (of_nat 1) ∷ []) (λ i. one turret 0 i [])
    ∷ none_goes [] [] (λ i. one ore 0 i [])
    -- MaxGroup, online and active
    ∷ one_goes (max_group_online ∷ []) [] 1 (λ i. stack 1 gun 0 i 1 (has max_group_online (of_nat 1) ∷ []))
    ∷ one_goes (max_group_active ∷ []) [] 1 (λ i. stack 1 gun 0 i 2 (has max_group_active (of_nat 1) ∷ []))
    -- WrongSlot; missing types; a load of the ship; a mode and listed skills that are none
    ∷ none_goes [] [] (λ i. one shield 0 i [])
    ∷ none_goes [] [] (λ i. one (pos (98 + i)) 0 i [])
    ∷ none_goes (0 ∷ 1 ∷ []) (has 0 (of_nat 2) ∷ has 1 (of_nat 1) ∷ []) (λ i. one gun 0 i [])
    ∷ (LeavesOut (known []) unskilled 4294967295, InBytes (words (3 ∷ 0 ∷ [])))
    -- what is in the hold shares no slot
    ∷ none_goes [] [] (λ i. one gun 11 3 [])
    -- the other hardpoint
    ∷ none_goes (launcher_slots_left ∷ []) (has launcher_slots_left (of_nat 1) ∷ []) (λ i. one launcher 0 i [])
    -- NotADrone, NotAFighter, NotAnImplant, WrongSlotIndex
    ∷ none_goes [] [] (λ i. one gun 10 0 [])
    ∷ none_goes [] [] (λ i. one gun 6 i [])
    ∷ none_goes [] [] (λ i. one gun 8 i [])
    ∷ none_goes (implantness ∷ []) [] (λ i. one hardwiring 8 i (has implantness (of_nat 7) ∷ []))
    -- RigSize, ShipRestricted, CapitalItem, StructureItem; ShipItem
    ∷ none_goes (rig_size ∷ []) (has rig_size (of_nat 1) ∷ []) (λ i. one gun 3 i (has rig_size (of_nat 2) ∷ []))
    ∷ none_goes (fits_to_ship_type ∷ []) [] (λ i. one gun 0 i (has fits_to_ship_type (of_nat 7) ∷ []))
    ∷ none_goes (volume ∷ is_capital_size ∷ []) (has is_capital_size (of_nat 0) ∷ [])
    (λ i. one gun 0 i (has volume (of_nat 4000) ∷ []))
    ∷ none_goes [] [] (λ i. one standup_gun 0 i [])
    ∷ (LeavesOut (known []) (fit (pos 2) [] (one gun 0 0 [] ∷ one gun 0 1 [] ∷ [])) 4294967295, InBytes (words (6 ∷ 0 ∷ [])))
    ∷ []

-- ---- how far off
-- with no try, so many guns in High slots of a ship that has an amount of them are that far off
abbrev over : (guns : ℕ) → List Attribute → (distance : ℕ) → Case
over guns attributes distance =
    (LeavesOut (known (hi_slots ∷ [])) (thronged attributes [] guns) 0, InBytes (words (0 ∷ distance ∷ from 0 guns)))

abbrev over_amount : (guns : ℕ) → Float → (distance : ℕ) → Case
over_amount guns v distance = over guns (has hi_slots v ∷ []) distance

-- two guns and one slot in High, three and one in Medium, one and five in Low, where all three names have ids or the first alone
abbrev spread : (names : List ℕ) → (budget tries distance : ℕ) → (off : List ℕ) → Case
spread names budget tries distance off =
    leaves names (has hi_slots (of_nat 1) ∷ has (hi_slots + 1) (of_nat 1) ∷ has (hi_slots + 2) (of_nat 5) ∷ [])
    (each (0 ∷ 1 ∷ []) (λ i. one gun 0 i [] ∷ []) ++ each (0 ∷ 1 ∷ 2 ∷ []) (λ i. one gun 1 i [] ∷ []) ++ (one gun 2 0 [] ∷ []))
    budget tries distance off

-- one High slot, and items and results in unequal numbers: two pairs
abbrev uneven : Fit → (budget tries distance : ℕ) → (off : List ℕ) → Case
uneven f budget tries distance off = (LeavesOut (known (hi_slots ∷ [])) f budget, InBytes (words (tries ∷ distance ∷ off)))

-- two guns in the one High slot of another hull
abbrev hulled : Id → Case
hulled hull = (
  LeavesOut (known (hi_slots ∷ [])) (fit hull (has hi_slots (of_nat 1) ∷ []) (one gun 0 0 [] ∷ one gun 0 1 [] ∷ [])) 0,
  InBytes (words (0 ∷ 1 ∷ 0 ∷ 1 ∷ [])),
)

-- in High slots of a ship without one: a type that is missing, no module, one marked for another rack, a quantity of 0, one offline
abbrev mixed : Case
mixed =
    leaves (hi_slots ∷ []) []
    (one unknown 0 0 [] ∷ one ore 0 1 [] ∷ one shield 0 2 [] ∷ stack 0 gun 0 3 1 [] ∷ stack 1 gun 0 4 0 [] ∷ []) 0 0 0 (from 0 5)

abbrev pub SURPLUS : List Case
SURPLUS =
    -- each rack that is over counts, by how much it is; what another has left does not
    spread (hi_slots ∷ (hi_slots + 1) ∷ (hi_slots + 2) ∷ []) 0 0 3 (from 0 6)
    ∷ spread (hi_slots ∷ (hi_slots + 1) ∷ (hi_slots + 2) ∷ []) 6 6 0 (1 ∷ 3 ∷ 4 ∷ [])
    ∷ spread (hi_slots ∷ []) 0 0 5 (from 0 6)
    ∷ spread (hi_slots ∷ []) 6 6 0 (1 ∷ [])
    -- hardpoints do not
    ∷ leaves (turret_slots_left ∷ []) (has turret_slots_left (of_nat 1) ∷ [])
    (one turret 0 0 [] ∷ one turret 0 1 [] ∷ []) 0 0 2 (0 ∷ 1 ∷ [])
    -- nor what is in no rack
    ∷ leaves (hi_slots ∷ []) [] (one gun 11 0 [] ∷ one gun 6 0 [] ∷ []) 0 0 2 (0 ∷ 1 ∷ [])
    -- nor what has no result, or no item
    ∷ uneven unpaired 0 0 1 (0 ∷ 1 ∷ [])
    ∷ uneven unpaired 4294967295 6 0 (1 ∷ [])
    ∷ uneven spare 0 0 1 (0 ∷ 1 ∷ [])
    ∷ uneven spare 4294967295 6 0 (1 ∷ [])
    -- the amount is cast: what is not there, a NaN, one below zero and a half are 0, one and a half is 1; over 8, 16 and 32 bits
    ∷ over 2 [] 0
    ∷ over_amount 2 nan 0
    ∷ over_amount 2 (minus 1) 0
    ∷ over_amount 2 (halves 1) 0
    ∷ over_amount 2 (halves 3) 1
    ∷ over_amount 2 (of_nat 2) 2
    ∷ over_amount 2 (of_nat 3) 2
    ∷ over_amount 2 (of_nat 257) 2
    ∷ over_amount 2 (of_nat 65537) 2
    ∷ over_amount 2 (of_nat 4294967297) 2
    ∷ over_amount 2 (inf false) 2
    -- as many as a fit can have, and one more and one less than 255
    ∷ over_amount 254 (of_nat 255) 254
    ∷ over_amount 255 (of_nat 255) 255
    ∷ over_amount 256 (of_nat 255) 255
    ∷ over_amount 256 (of_nat 256) 256
    ∷ over_amount 256 (of_nat 0) 0
    -- a structure's and a container's racks; whatever is in a rack counts
    ∷ hulled (pos 2)
    ∷ hulled (pos 4)
    ∷ mixed
    ∷ []

-- ---- many pairs
abbrev tries : (pairs budget made : ℕ) → Case
tries pairs budget made = (TriesMade (known []) (thronged [] [] pairs) budget, Number made)

-- all in one slot: all but the first have to go, which is the first that is put back
abbrev packed : (pairs budget made : ℕ) → Case
packed pairs budget made =
    (LeavesOut (known []) (thronged [] [] (pairs + 1)) budget, InBytes (words (made ∷ pairs ∷ from 1 pairs)))

-- nine, of which the first allows one of its group, of which there are three, and the last none of its type: the set of number 257
abbrev late : (budget distance : ℕ) → (off : List ℕ) → Case
late budget distance off =
    leaves (max_group_fitted ∷ max_type_fitted ∷ []) []
    ((one gun 0 0 (has max_group_fitted (of_nat 1) ∷ []) ∷ one gun 0 1 [] ∷ one gun 0 2 [] ∷ [])
    ++ each (from 3 5) (λ i. one plate 1 i [] ∷ []) ++ (one ore 2 8 (has max_type_fitted (of_nat 0) ∷ []) ∷ []))
    budget budget distance off

abbrev pub MANY : List Case
MANY =
    -- 16 pairs have 65,552 tries, 17 have 17
    tries 16 65551 65551
    ∷ tries 16 65552 65552
    ∷ tries 16 65553 65552
    ∷ tries 16 4294967295 65552
    ∷ tries 17 16 16
    ∷ tries 17 17 17
    ∷ tries 17 18 17
    ∷ tries 17 65552 17
    ∷ tries 256 4294967295 256
    ∷ packed 15 16 16
    ∷ packed 15 18 18
    ∷ packed 16 17 17
    ∷ packed 16 4294967295 17
    ∷ packed 255 1 1
    ∷ packed 255 4294967295 256
    -- budgets about 8 and 16 bits
    ∷ tries 16 255 255
    ∷ tries 16 256 256
    ∷ tries 16 257 257
    ∷ tries 16 65535 65535
    ∷ tries 16 65536 65536
    ∷ tries 16 65537 65537
    ∷ tries 15 4294967295 32783
    ∷ tries 1 4294967295 3
    ∷ tries 256 255 255
    ∷ tries 256 256 256
    ∷ tries 256 257 256
    -- and of 25 and 32 bits
    ∷ tries 16 16777216 65552
    ∷ tries 16 2147483648 65552
    -- a set whose number has nine bits, a try before it and with it
    ∷ late 266 3 (1 ∷ 2 ∷ 8 ∷ [])
    ∷ late 267 2 (0 ∷ 8 ∷ [])
    ∷ []

-- ---- in bytes
abbrev gives : (lent budget : ℕ) (numbers : List ℕ) → Case
gives lent budget numbers = (
  LeaveOutCall small THREE budget (replicate lent 7),
  Returns (4 * length numbers) (words numbers ++ drop (4 * length numbers) (replicate lent 7)),
)

abbrev refuses : (catalogue fit : List ℕ) (lent budget n : ℕ) → Case
refuses catalogue fit lent budget n = (LeaveOutCall catalogue fit budget (replicate lent 7), Returns (n * 4294967296) (replicate lent 7))

-- type 1 is no ship
abbrev adrift : List ℕ
adrift = stock 2 ((1, 450 ∷ 25 ∷ 0 ∷ 0 ∷ []) ∷ goods 0 ∷ [])

-- with no try, so many of type 9 in the hold
abbrev full : (pairs lent : ℕ) → Expected → Case
full pairs lent outcome = (
  LeaveOutCall fair
      (words (0 ∷ pairs ∷ pairs ∷ 0 ∷ 1 ∷ 0 ∷ 0 ∷ []) ++ words (each (from 0 pairs) λ _. 9 ∷ 1 ∷ 11 ∷ [])
      ++ replicate (4 * (pairs + 2)) 0) 0 (replicate lent 7),
  outcome,
)

abbrev pub LEAVING : List Case
LEAVING =
    -- room to spare, exactly, and a byte short, by the set that it is
    gives 17 1 (1 ∷ 0 ∷ 1 ∷ 2 ∷ [])
    ∷ gives 16 1 (1 ∷ 0 ∷ 1 ∷ 2 ∷ [])
    ∷ refuses small THREE 15 1 10
    ∷ gives 20 0 (0 ∷ 1 ∷ 0 ∷ 1 ∷ 2 ∷ [])
    ∷ refuses small THREE 19 0 10
    ∷ gives 16 4294967295 (11 ∷ 0 ∷ 1 ∷ 2 ∷ [])
    ∷ refuses small THREE 0 11 10
    -- nothing to leave out
    ∷ (LeaveOutCall fair sent 2 (replicate 9 7), Returns 8 (words (2 ∷ 0 ∷ []) ++ (7 ∷ [])))
    ∷ refuses fair sent 7 2 10
    -- 1 to 6, each with 10
    ∷ refuses (fair ++ (0 ∷ [])) sent 3 1 1
    ∷ refuses (stock 2 (goods 0 ∷ hull ∷ [])) sent 3 1 2
    ∷ refuses (stock 9 (hull ∷ goods 0 ∷ [])) sent 3 1 3
    ∷ refuses fair (sent ++ (0 ∷ [])) 3 1 4
    ∷ refuses fair (shipped 0 (9 ∷ 4 ∷ [])) 3 1 5
    ∷ refuses fair (shipped 2 []) 3 1 6
    -- no bytes at all
    ∷ refuses [] [] 9 0 1
    ∷ refuses small [] 9 0 4
    -- a volume below zero, and a ship that is no hull, are refused by none
    ∷ (LeaveOutCall unfair sent 2 (replicate 9 7), Returns 8 (words (2 ∷ 0 ∷ []) ++ (7 ∷ [])))
    ∷ (LeaveOutCall adrift sent 9 (replicate 9 7), Returns 8 (words (6 ∷ 0 ∷ []) ++ (7 ∷ [])))
    -- room for 64 numbers, exactly, and a byte short
    ∷ full 64 264 (Returns 264 (words (0 ∷ 64 ∷ from 0 64)))
    ∷ full 64 263 (Returns (10 * 4294967296) (replicate 263 7))
    ∷ []

-- as many as a fit can have
abbrev pub CRAMMED : List Case
CRAMMED =
    full 256 1032 (Returns 1032 (words (0 ∷ 256 ∷ from 0 256)))
    ∷ full 256 1031 (Returns (10 * 4294967296) (replicate 1031 7))
    ∷ []
