-- What the code holds of an entry, and of what decides whether a part still breaks the entry's rule.
use Rattle.std.specs.Prelude.{ℕ, ◌+◌, ◌<◌, ◌≡◌, Bool, true, false, ◌&&◌, cond, List, eqb, ltb, take, get_or}
use Rattle.std.specs.Prelude.{Option, None, Some, slice_get}
use Rattle.std.specs.Prelude.{Float}
use mathlib.Core.List.{foldl}
use Rattle.std.specs.Float.{binary64, nan}
use Rattle.std.specs.Float.Ieee.{add}
use Rattle.words.specs.Words.{given, sum_of}
use Rattle.numbers.specs.Names as Names
use Rattle.numbers.specs.Slots as Slots
use Rattle.numbers.specs.declared.Resource.TheVariants.{LaunchedDrones, CargoBay}
use Rattle.numbers.specs.Resources as Resources
use Rattle.image.specs.Bytes.{u8_at, u32_at}
use Rattle.floats.specs.Floats.{zero_f, of_nat, over}
use Rattle.entry.specs.declared.Entry.{Entry}
use Rattle.entry.specs.Entries.{number}
use Rattle.context.specs.declared.Context.{Context as Held}
use Rattle.context.specs.Context.{Pair, Context, is_in}
use Rattle.context.specs.Gathered.{pair_count}
use Rattle.context.specs.Held.{pair_in, pairs_in, context_in}
use Rattle.resource.specs.Resource.{is_launched, launched, cargo_volume, cargo_used}
use Rattle.racks.specs.Taking.{takes}
use Rattle.limits.specs.Limits.{in_group}
use Rattle.parts.specs.Parts.{chosen, size, holds}
use Rattle.cause.specs.declared.shown.Shown.{Shown}
use Rattle.cause.specs.declared.deciding.Deciding.{Deciding}
use Rattle.cause.specs.declared.deciding.Deciding.TheVariants.{Drones, Cargo, Counted, Nothing}
use Rattle.cause.specs.Members.{own, sub_of, slots_row, group_row, amount_of, allowed_by, is_member, limit, is_broken}

-- ---- an entry
abbrev pub shown_of : Entry → Shown
shown_of e = record { own = own e.target; rule = number e; sub = sub_of e }

-- as its bytes say it, from a place on
abbrev pub own_at : List ℕ → ℕ → Option ℕ
own_at b at = cond (eqb (u8_at b at) 0) None (Some (u32_at b (at + 4)))

abbrev pub shown_at : List ℕ → ℕ → Shown
shown_at b at = record { own = own_at b at; rule = u8_at b (at + 1); sub = u8_at b (at + 2) }

-- the pair that it is about is one of the fit's
abbrev pub Inside : Held → Shown → Type 0
Inside x s = (i : ℕ) → s.own ≡ Some i → i < pair_count x.fit.now

-- the entry at a position, if there is one, which is about one of the pairs
pub record Read (x : Held) (es : List Entry) (position : ℕ) (r : Option Shown) : Type 0 where
  pub entry : r ≡ given (slice_get es position) None (λ e. Some (shown_of e))
  pub inside : (s : Shown) → r ≡ Some s → Inside x s

-- ---- what its rule counts
abbrev pub in_slots : ℕ → Pair → Bool
in_slots kind o = given (slots_row kind) false λ row. takes row.0 o

abbrev pub slots_allowed : Context → ℕ → ℕ
slots_allowed x kind = given (slots_row kind) 0 λ row. allowed_by x row.1 x.ship_result

abbrev pub shares_group : ℕ → Pair → Pair → Bool
shares_group limit p o = given (group_row limit) false λ row. in_group p.group row.1 o

abbrev pub group_allowed : Context → ℕ → Pair → ℕ
group_allowed x limit p = given (group_row limit) 0 λ row. allowed_by x row.2 p.result

abbrev pub member_in : Held → Shown → Pair → Bool
member_in x s o = is_member (context_in x) (pairs_in x) s.own s.rule s.sub o

abbrev pub limit_in : Held → Shown → ℕ
limit_in x s = limit (context_in x) (pairs_in x) s.own s.rule s.sub

abbrev pub broken_in : Held → Shown → List Pair → Bool
broken_in x s qs = is_broken (context_in x) (pairs_in x) s.own s.rule s.sub qs

-- an array holds which of the first n pairs are counted, at the pair's position
abbrev pub Members : ℕ → Held → Shown → List Bool → Type 0
Members n x s flags = (i : ℕ) → i < n → get_or flags i false ≡ member_in x s (pair_in x i)

-- ---- what decides
-- of drones, of Cargo and of any other resource
abbrev pub load_broken : Held → ℕ → List Pair → Bool
load_broken x kind qs =
    let c = context_in x in
    cond (eqb kind (Resources.number LaunchedDrones)) (over (of_nat (launched qs)) (amount_of c Names.max_active_drones c.character_result))
    (cond (eqb kind (Resources.number CargoBay)) (over (cargo_used qs) (amount_of c Names.capacity c.ship_result)) true)

-- the drones that a pair has in space, and what it takes up in Cargo, if it is there
unfoldable pub stack_of : Pair → ℕ
stack_of p = cond (is_launched p) p.quantity 0

unfoldable pub room_of : Pair → Option Float
room_of p = cond (is_in Slots.cargo p) (Some (cargo_volume p)) None

-- arrays hold those of the first n pairs
abbrev pub Stacks : ℕ → Held → List ℕ → Type 0
Stacks n x stacks = (i : ℕ) → i < n → get_or stacks i 0 ≡ stack_of (pair_in x i)

abbrev pub Rooms : ℕ → Held → List (Option Float) → Type 0
Rooms n x rooms = (i : ℕ) → i < n → get_or rooms i None ≡ room_of (pair_in x i)

-- their sums, of rooms in order from +0
abbrev pub total : List ℕ → ℕ
total l = sum_of (λ k. k) l

abbrev pub with_room : Float → Option Float → Float
with_room sum room = given room sum (add binary64 sum)

unfoldable pub stowed : List (Option Float) → Float
stowed rooms = foldl with_room zero_f rooms

unfoldable pub decides : Held → Deciding → List Bool → Bool
decides x (Drones stacks available) kept = over (of_nat (total (chosen kept (take (pair_count x.fit.now) stacks)))) available
decides x (Cargo rooms before available) kept = over (stowed (chosen kept (take (pair_count x.fit.now) rooms))) available
decides x (Counted members limit) kept = ltb limit (size (chosen kept (take (pair_count x.fit.now) members)))
decides x Nothing kept = true

-- an array holds the sum of the rooms before each of the first n
abbrev pub Sums : ℕ → List (Option Float) → List Float → Type 0
Sums n rooms before = (i : ℕ) → i < n → get_or before i nan ≡ stowed (take i rooms)

-- the sums that a deciding holds are those of n pairs
unfoldable pub Ready : ℕ → Deciding → Type 0
Ready n (Drones stacks available) = Unit {0}
Ready n (Cargo rooms before available) = Sums n rooms before
Ready n (Counted members limit) = Unit {0}
Ready n Nothing = Unit {0}

-- it says of every part what the rule does
abbrev pub Decides : Held → Deciding → (List Pair → Bool) → Type 0
Decides x d broken = (kept : List Bool) → decides x d kept ≡ broken (chosen kept (pairs_in x))

-- ---- a part
-- those before pair i, which are tried after it, are all in it
abbrev pub Untried : ℕ → List Bool → Type 0
Untried i kept = (k : ℕ) → k < i → get_or kept k false ≡ true

-- the pair that the entry is about is in it
unfoldable pub has_own : Option ℕ → List Bool → Bool
has_own at kept = given at true (holds kept)

abbrev pub passes : Held → Option ℕ → Deciding → List Bool → Bool
passes x at d kept = has_own at kept && decides x d kept
