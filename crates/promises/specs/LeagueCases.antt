-- Cases of document 02, P2: league profiles with the number that refuses them, what a profile adds behind a list, and where its refusals stand
-- among the others.
use Rattle.std.specs.Prelude.{ℕ, ◌*◌, List, [], ◌∷◌, ◌++◌, map, pos, length, replicate, take}
use Rattle.words.specs.Words.{from}
use Rattle.entry.specs.declared.Entry.{Entry}
use Rattle.entry.specs.declared.Rule.TheVariants.{NotAModule, NotAHull, Banned, Points, UnknownType}
use Rattle.entry.specs.Entries.{on_ship, on_item}
use Rattle.lists.specs.Terms.{terms}
use Rattle.promises.specs.Cases.{ship, gun, plate, rifle, drone, squadron, hardwiring, unknown, known, Thing, stack, one, fit}
use Rattle.promises.specs.Cases.{ProfileRefusal, InLeague, LeagueCall, Number, Entries, Returns, Case}
use Rattle.promises.specs.CallCases.{words, bare, small, empty, flying, fitted, types_at}

-- groups with their points
abbrev pub profile : List (ℕ × ℕ) → List ℕ
profile prices = words (length prices ∷ map (λ x. x.0) prices ++ map (λ x. x.1) prices)

abbrev pub ban : ℕ
ban = 4294967295

-- ---- 11 and 12
abbrev pub PROFILES : List Case
PROFILES =
    -- no bytes are none; 1 to 3 bytes; no groups
    (ProfileRefusal [], Number 0)
    ∷ (ProfileRefusal (replicate 1 0), Number 11)
    ∷ (ProfileRefusal (replicate 3 0), Number 11)
    ∷ (ProfileRefusal (profile []), Number 0)
    ∷ (ProfileRefusal (replicate 5 0), Number 11)
    -- one group: a byte too few, as many as it says, a byte too many
    ∷ (ProfileRefusal (take 11 (profile ((50, 7) ∷ []))), Number 11)
    ∷ (ProfileRefusal (profile ((50, 7) ∷ [])), Number 0)
    ∷ (ProfileRefusal (profile ((50, 7) ∷ []) ++ (0 ∷ [])), Number 11)
    -- the bytes of one group where it says two; of two where it says one
    ∷ (ProfileRefusal (words (2 ∷ 50 ∷ 7 ∷ [])), Number 11)
    ∷ (ProfileRefusal (words (1 ∷ 50 ∷ 51 ∷ 7 ∷ 8 ∷ [])), Number 11)
    -- 4 + 8n without wrapping: n is 536,870,912
    ∷ (ProfileRefusal (words (536870912 ∷ [])), Number 11)
    -- 4,096 groups are not too many, but their order is broken; 4,097 are
    ∷ (ProfileRefusal (words (4096 ∷ []) ++ replicate 32768 0), Number 12)
    ∷ (ProfileRefusal (words (4097 ∷ []) ++ replicate 32776 0), Number 11)
    -- the order is that of signed numbers, and strict
    ∷ (ProfileRefusal (profile ((5, 0) ∷ (6, 0) ∷ [])), Number 0)
    ∷ (ProfileRefusal (profile ((5, 0) ∷ (5, 0) ∷ [])), Number 12)
    ∷ (ProfileRefusal (profile ((6, 0) ∷ (5, 0) ∷ [])), Number 12)
    ∷ (ProfileRefusal (profile ((0xFFFFFFFF, 0) ∷ (0, 0) ∷ [])), Number 0)
    ∷ (ProfileRefusal (profile ((0, 0) ∷ (0xFFFFFFFF, 0) ∷ [])), Number 12)
    ∷ (ProfileRefusal (profile ((0x80000000, 0) ∷ (0x7FFFFFFF, 0) ∷ [])), Number 0)
    ∷ (ProfileRefusal (profile ((4, 0) ∷ (5, 0) ∷ (5, 0) ∷ [])), Number 12)
    -- points: at most 1,000,000, or a ban; of any group
    ∷ (ProfileRefusal (profile ((5, 1000000) ∷ [])), Number 0)
    ∷ (ProfileRefusal (profile ((5, 1000001) ∷ [])), Number 12)
    ∷ (ProfileRefusal (profile ((5, 4294967294) ∷ [])), Number 12)
    ∷ (ProfileRefusal (profile ((5, ban) ∷ [])), Number 0)
    ∷ (ProfileRefusal (profile ((5, 0) ∷ (6, 1000001) ∷ [])), Number 12)
    ∷ (ProfileRefusal (profile ((5, 1000001) ∷ (6, ban) ∷ [])), Number 12)
    -- 11 before 12
    ∷ (ProfileRefusal (profile ((6, 0) ∷ (5, 0) ∷ []) ++ (0 ∷ [])), Number 11)
    ∷ []

-- ---- rules 24 and 25
-- things on a ship, under prices and an allowance; nothing else is listed of them
abbrev league : List (ℕ × ℕ) → ℕ → List Thing → List Entry → Case
league prices allowance things es = (InLeague (terms (profile prices) allowance) (known []) (fit ship [] things), Entries es)

-- guns, of group 50, in High slots of their own
abbrev guns : ℕ → List Thing
guns n = map (λ i. one gun 0 i []) (from 0 n)

abbrev alone : Thing → List Thing
alone t = t ∷ []

abbrev pub LEAGUE : List Case
LEAGUE =
    -- banned in every rack
    league ((50, ban) ∷ []) 0 (alone (one gun 0 0 [])) (on_item 0 (Banned (pos 50)) ∷ [])
    ∷ league ((50, ban) ∷ []) 0 (alone (one gun 1 0 [])) (on_item 0 (Banned (pos 50)) ∷ [])
    ∷ league ((50, ban) ∷ []) 0 (alone (one gun 2 0 [])) (on_item 0 (Banned (pos 50)) ∷ [])
    ∷ league ((50, ban) ∷ []) 0 (alone (one gun 3 0 [])) (on_item 0 (Banned (pos 50)) ∷ [])
    ∷ league ((50, ban) ∷ []) 0 (alone (one gun 4 0 [])) (on_item 0 (Banned (pos 50)) ∷ [])
    ∷ league ((50, ban) ∷ []) 0 (alone (one gun 5 0 [])) (on_item 0 (Banned (pos 50)) ∷ [])
    -- and nowhere else: tubes and the fighter bay, implants, boosters, drones, the hold
    ∷ league ((1652, ban) ∷ []) 0 (alone (one squadron 6 0 [])) []
    ∷ league ((1652, ban) ∷ []) 0 (alone (one squadron 7 0 [])) []
    ∷ league ((300, ban) ∷ []) 0 (alone (one hardwiring 8 0 [])) []
    ∷ league ((300, ban) ∷ []) 0 (alone (one hardwiring 9 0 [])) []
    ∷ league ((100, ban) ∷ []) 0 (alone (one drone 10 0 [])) []
    ∷ league ((50, ban) ∷ []) 0 (alone (one gun 11 0 [])) []
    -- priced likewise
    ∷ league ((50, 3) ∷ []) 0 (alone (one gun 5 0 [])) (on_ship (Points 3 0) ∷ [])
    ∷ league ((1652, 3) ∷ []) 0 (alone (one squadron 6 0 [])) []
    ∷ league ((50, 3) ∷ []) 0 (alone (one gun 11 0 [])) []
    -- one below the points, at them, above; none and the most allowed
    ∷ league ((50, 3) ∷ []) 5 (guns 2) (on_ship (Points 6 5) ∷ [])
    ∷ league ((50, 3) ∷ []) 6 (guns 2) []
    ∷ league ((50, 3) ∷ []) 7 (guns 2) []
    ∷ league ((50, 0) ∷ []) 0 (guns 2) []
    ∷ league ((50, 1000000) ∷ []) 4294967295 (guns 2) []
    -- points above 16 bits, above 24 bits; an allowance above 16 bits
    ∷ league ((50, 65536) ∷ []) 65535 (guns 1) (on_ship (Points 65536 65535) ∷ [])
    ∷ league ((50, 1000000) ∷ []) 16777216 (guns 17) (on_ship (Points 17000000 16777216) ∷ [])
    ∷ league ((50, 3) ∷ []) 65537 (guns 2) []
    -- bans by pair, before the points; a ban costs nothing, nor does a group that is not listed
    ∷ league ((50, ban) ∷ (51, 3) ∷ []) 2 (one plate 2 0 [] ∷ one gun 0 0 [] ∷ one rifle 0 1 [] ∷ [])
    (on_item 1 (Banned (pos 50)) ∷ on_item 2 (Banned (pos 50)) ∷ on_ship (Points 3 2) ∷ [])
    ∷ league ((49, ban) ∷ (52, 7) ∷ []) 0 (one plate 2 0 [] ∷ one gun 0 0 [] ∷ []) []
    ∷ league [] 0 (guns 2) []
    -- once a pair, whatever its quantity
    ∷ league ((50, 3) ∷ []) 3 (alone (stack 5 gun 0 0 1 [])) []
    ∷ league ((50, 3) ∷ []) 2 (alone (stack 0 gun 0 0 1 [])) (on_ship (Points 3 2) ∷ [])
    -- any state
    ∷ league ((50, ban) ∷ []) 0 (alone (stack 1 gun 0 0 0 [])) (on_item 0 (Banned (pos 50)) ∷ [])
    -- a type that the catalogue lacks is of group 0
    ∷ league ((0, ban) ∷ []) 0 (alone (one unknown 0 0 []))
    (on_item 0 NotAModule ∷ on_item 0 (Banned (pos 0)) ∷ on_item 0 (UnknownType unknown) ∷ [])
    ∷ league ((0, 4) ∷ []) 3 (alone (one unknown 0 0 []))
    (on_item 0 NotAModule ∷ on_ship (Points 4 3) ∷ on_item 0 (UnknownType unknown) ∷ [])
    -- the group, and not the type: 10 is the gun's
    ∷ league ((10, ban) ∷ []) 0 (alone (one gun 0 0 [])) []
    -- without a profile the allowance is not read; on a ship that is no hull nothing stands behind NotAHull
    ∷ (InLeague (terms [] 0) (known []) (fit ship [] (guns 2)), Entries [])
    ∷ (InLeague (terms (profile ((50, ban) ∷ [])) 0) (known []) (fit gun [] (guns 2)), Entries (on_ship NotAHull ∷ []))
    ∷ []

-- ---- the list call with a profile
abbrev pub bad : List ℕ
bad = replicate 3 0

abbrev pub dear : List ℕ
dear = profile ((5, 1000001) ∷ [])

abbrev refuses : List ℕ → List ℕ → List ℕ → ℕ → Case
refuses catalogue fit p n = (LeagueCall (terms p 0) catalogue fit (replicate 30 7), Returns (n * 4294967296) (replicate 30 7))

abbrev pub PROFILED : List Case
PROFILED =
    refuses bare empty bad 11
    ∷ refuses bare empty dear 12
    -- behind 1 to 6
    ∷ refuses (replicate 3 0) empty bad 1
    ∷ refuses (types_at 5 5) empty bad 2
    ∷ refuses (words (1 ∷ 0 ∷ 0 ∷ 0 ∷ 0 ∷ 88 ∷ 0 ∷ [])) empty dear 3
    ∷ refuses bare (replicate 37 0) bad 4
    ∷ refuses bare (words (2 ∷ 0 ∷ 0 ∷ 0 ∷ 0 ∷ 0 ∷ 0 ∷ 9 ∷ 4 ∷ []) ++ replicate 10 0) dear 5
    ∷ refuses bare (replicate 28 0 ++ (4 ∷ replicate 7 0)) bad 6
    ∷ refuses bare (replicate 28 0 ++ (4 ∷ replicate 7 0)) dear 6
    -- before 10
    ∷ (LeagueCall (terms bad 0) bare empty [], Returns (11 * 4294967296) [])
    ∷ (LeagueCall (terms dear 0) bare empty [], Returns (12 * 4294967296) [])
    -- type 9 is of group 50: banned behind the two entries that it has without a profile; 10 counts all three
    ∷ (LeagueCall (terms (profile ((50, ban) ∷ [])) 0) small fitted (replicate 71 7), Returns (10 * 4294967296) (replicate 71 7))
    ∷ (
      LeagueCall (terms (profile ((50, ban) ∷ [])) 0) small fitted (replicate 73 7),
      Returns 3
          (words (0x00001500 ∷ 0 ∷ 9 ∷ 0 ∷ 0 ∷ 0 ∷ []) ++ words (0x00010301 ∷ 0 ∷ 0 ∷ 0 ∷ 0 ∷ 0 ∷ [])
          ++ words (0x00001801 ∷ 0 ∷ 50 ∷ 0 ∷ 0 ∷ 0 ∷ []) ++ (7 ∷ [])),
    )
    ∷ (
      LeagueCall (terms (profile ((50, 7) ∷ [])) 6) small fitted (replicate 72 7),
      Returns 3
          (words (0x00001500 ∷ 0 ∷ 9 ∷ 0 ∷ 0 ∷ 0 ∷ []) ++ words (0x00010301 ∷ 0 ∷ 0 ∷ 0 ∷ 0 ∷ 0 ∷ [])
          ++ words (0x00001900 ∷ 0 ∷ 7 ∷ 6 ∷ 0 ∷ 0 ∷ [])),
    )
    ∷ (LeagueCall (terms (profile ((50, 7) ∷ [])) 7) small flying [], Returns 0 [])
    ∷ []
