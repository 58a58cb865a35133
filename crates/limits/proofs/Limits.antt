-- Arrays of the pairs, filled one at a time; the states of fitted pairs; and a limit that an item has: an entry where more are used than it allows. One law for
-- groups and types.
use Prim.Native.Nat.{ℕ, suc, ◌+◌, ◌<◌}
use native.Mathlib.Nat.{eq-or-lt_of_le, ne_of_lt}
use native.Mathlib.Numerals.{add-one}
use native.Mathlib.Omega.{arith}
use mathlib.Core.Path.{◌≡◌, refl, sym, ap, subst, ◌∙◌}
use mathlib.Core.Bool.{Bool, true, false, cond, ◌&&◌}
use mathlib.Core.List.{List, [], map}
use mathlib.Core.Logic.{⊎_elim}
use Rattle.std.specs.Prelude.{Option, None, Some}
use Rattle.std.specs.Prelude.{slice_get}
use Rattle.std.specs.Bool.{then_some}
use Rattle.std.specs.Option.{option_map}
use Rattle.std.proofs.lemmas.Option.{slice_get-map}
use lib.Dec.{ltb, leb, leb-suc-zero, leb-suc-suc}
use lib.Ieee.{Float}
use lib.ListN.{length, get_or, get_or-map, set}
use lib.Seq.{get_or-set_same, get_or-set_other}
use Rattle.words.specs.Words.{◌>>=◌, given, each, when, when_above, count_of}
use Rattle.numbers.specs.Names as Names
use Rattle.floats.specs.Floats.{to_u}
use Rattle.catalogue.specs.Catalogue.{Id}
use Rattle.catalogue.specs.Lookups.{name_id}
use Rattle.fit.specs.Lookups.{value}
use Rattle.entry.specs.declared.Entry.{Entry}
use Rattle.entry.specs.declared.Rule.TheVariants.{MaxGroup, MaxType}
use Rattle.entry.specs.declared.Entries.{Entries}
use Rattle.entry.specs.Emitted.{Emitted}
use Rattle.entry.proofs.Emitted.{emitted-bind, emitted-bind_none}
use Rattle.context.specs.Context.{Pair, Context, is_fitted, on, said}
use Rattle.context.proofs.Loops.{said-then}
use Rattle.numbers.specs.declared.GroupLimit.{GroupLimit}
use Rattle.numbers.specs.declared.GroupLimit.TheVariants.{Fitted}
use Rattle.limits.specs.declared.Row.{Row}
use Rattle.limits.specs.Rows.{row_of, row_said, row_numbered}
use Rattle.limits.specs.Limits.{group_limit_rows, in_group, allowed_at, group_limit_at, group_limit, group_limits, of_type, type_limit_at, type_limit}

-- one element more of an array that is filled
pub kept_next : {A : Type 0} (f : ℕ → A) (d : A) (l : List A) (i : ℕ) {x : A} → i < length l → ((k : ℕ) → k < i → get_or l k d ≡ f k) → x ≡ f i
    → (k : ℕ) → k < i + 1 → get_or (set l i x) k d ≡ f k
kept_next {A} f d l i {x} h g e k q = ⊎_elim here before (eq-or-lt_of_le (omega (arith, q)))
  where
    At : ℕ → Type 0
    At j = get_or (set l i x) j d ≡ f j

    here : k ≡ i → At k
    here p = subst At (sym p) (get_or-set_same l i x d h ∙ e)

    before : k < i → At k
    before b = get_or-set_other l i k x d (ne_of_lt b) ∙ g k b

-- ---- the states
state-fits : (lowest state : ℕ) → ltb lowest (state + 1) ≡ leb lowest state
state-fits lowest state = ap (leb (suc lowest)) (add-one state) ∙ leb-suc-suc lowest state

-- a limit's state is reached, of a fitted pair
pub state-told : (alike fitted : Bool) (lowest state : ℕ) → alike && ltb lowest (cond fitted (state + 1) 0) ≡ (fitted && alike) && leb lowest state
state-told true true lowest state = state-fits lowest state
state-told true false lowest state = leb-suc-zero lowest
state-told false true lowest state = refl
state-told false false lowest state = refl

-- ---- what a limit allows
module _ (id : Id) (p : Pair) where
  pub no_limit : value p.result id ≡ None → None ≡ allowed_at id p
  unfolding allowed_at given
  no_limit e = rw e

  module _ {v : Float} (e : value p.result id ≡ Some v) where
    pub not_fitted : is_fitted p ≡ false → None ≡ allowed_at id p
    unfolding allowed_at given
    not_fitted f = rw (e, f)

    pub allows : is_fitted p ≡ true → {n : ℕ} → n ≡ to_u 32 v → Some n ≡ allowed_at id p
    unfolding allowed_at given
    allows f q = rw (e, f) (ap Some q)

-- what both rules say of a pair
limited : Option Float → Bool → ℕ → (ℕ → ℕ → Entry) → List Entry
limited o fitted used e = do
  allowed ← o
  when_above fitted used (to_u 32 allowed) λ u. e u (to_u 32 allowed)

module _ (o : Option Float) (fitted : Bool) (used : ℕ) (e : ℕ → ℕ → Entry) where
  allowed : Option ℕ
  allowed = given o None (λ v. cond fitted (Some (to_u 32 v)) None)

  unlimited : allowed ≡ None → [] ≡ limited o fitted used e
  unfolding allowed limited given when_above when ◌>>=◌
  unlimited = go o fitted
    where
      go : (q : Option Float) (f : Bool) → given q None (λ v. cond f (Some (to_u 32 v)) None) ≡ None → [] ≡ limited q f used e
      go None f h = refl
      go (Some v) true h = absurd (cc)
      go (Some v) false h = refl

  limited-to : {m : ℕ} → allowed ≡ Some m → when (ltb m used) (e used m) ≡ limited o fitted used e
  unfolding allowed limited given when_above when ◌>>=◌
  limited-to {m} = go o fitted
    where
      go : (q : Option Float) (f : Bool) → given q None (λ v. cond f (Some (to_u 32 v)) None) ≡ Some m
          → when (ltb m used) (e used m) ≡ limited q f used e
      go None f h = absurd (cc)
      go (Some v) true h = let q : to_u 32 v ≡ m = cc in rw q
      go (Some v) false h = absurd (cc)

-- ---- groups
module _ (limit : GroupLimit) (lowest : ℕ) (id : Id) (ps : List Pair) (p : Pair) where
  abbrev max-group : ℕ → ℕ → Entry
  max-group used allowed = on p (MaxGroup p.group limit used allowed)

  pub group-missing : allowed_at id p ≡ None → said p None ≡ group_limit_at limit lowest id ps p
  unfolding group_limit_at limited allowed_at allowed said
  group-missing = unlimited (value p.result id) (is_fitted p) (count_of (in_group p.group lowest) ps) max-group

  pub group-fitted : {group : Id} {used allowed : ℕ} → allowed_at id p ≡ Some allowed → group ≡ p.group → used ≡ count_of (in_group p.group lowest) ps
      → said p (then_some (ltb allowed used) (MaxGroup group limit used allowed)) ≡ group_limit_at limit lowest id ps p
  unfolding group_limit_at limited allowed_at allowed
  group-fitted {group} {used} {allowed} h g u =
      said-then p (ltb allowed used) (MaxGroup group limit used allowed)
      ∙ rw (g, u) (limited-to (value p.result id) (is_fitted p) (count_of (in_group p.group lowest) ps) max-group h)

module _ (x : Context) (ps : List Pair) (g : GroupLimit × ℕ × ℕ) where
  pub group-no_name : {b : Entries} → name_id x.names g.2 ≡ None → Emitted b b (group_limit x ps g)
  unfolding group_limit
  group-no_name e = emitted-bind_none _ e

  pub group-each : {b a : Entries} (id : Id) → name_id x.names g.2 ≡ Some id
      → Emitted b a (each ps (group_limit_at g.0 g.1 id ps)) → Emitted b a (group_limit x ps g)
  unfolding group_limit
  group-each id e w = emitted-bind _ e w

-- limit by limit, and for each the pairs in their order
pub by-limit : (x : Context) (ps : List Pair) → each group_limit_rows (group_limit x ps) ≡ group_limits x ps
unfolding group_limits
by-limit x ps = refl

-- ---- types
module _ (id : Id) (ps : List Pair) (p : Pair) where
  abbrev max-type : ℕ → ℕ → Entry
  max-type used allowed = on p (MaxType p.type used allowed)

  pub type-missing : allowed_at id p ≡ None → said p None ≡ type_limit_at id ps p
  unfolding type_limit_at limited allowed_at allowed said
  type-missing = unlimited (value p.result id) (is_fitted p) (count_of (of_type p.type) ps) max-type

  pub type-fitted : {type : Id} {used allowed : ℕ} → allowed_at id p ≡ Some allowed → type ≡ p.type → used ≡ count_of (of_type p.type) ps
      → said p (then_some (ltb allowed used) (MaxType type used allowed)) ≡ type_limit_at id ps p
  unfolding type_limit_at limited allowed_at allowed
  type-fitted {type} {used} {allowed} h t u =
      said-then p (ltb allowed used) (MaxType type used allowed)
      ∙ rw (t, u) (limited-to (value p.result id) (is_fitted p) (count_of (of_type p.type) ps) max-type h)

module _ (x : Context) (ps : List Pair) where
  pub type-no_name : {b : Entries} → name_id x.names Names.max_type_fitted ≡ None → Emitted b b (type_limit x ps)
  unfolding type_limit
  type-no_name e = emitted-bind_none _ e

  pub type-each : {b a : Entries} (id : Id) → name_id x.names Names.max_type_fitted ≡ Some id
      → Emitted b a (each ps (type_limit_at id ps)) → Emitted b a (type_limit x ps)
  unfolding type_limit
  type-each id e w = emitted-bind _ e w

-- ---- the rows of the table
-- a row as the code holds it
abbrev row : GroupLimit × ℕ × ℕ → Row
row g = record { limit = g.0; lowest = g.1; name = g.2 }

-- row k of the code's table, as the definition has it
pub row_is : (k : ℕ) → row_of (get_or (map row group_limit_rows) k (row (Fitted, 0, 0))) ≡ get_or group_limit_rows k (Fitted, 0, 0)
row_is k = ap row_of (get_or-map row group_limit_rows k (Fitted, 0, 0))

-- the row that is found by its number
pub row_found : (n : ℕ) {o : Option Row} → o ≡ slice_get (map row group_limit_rows) n → row_said o ≡ row_numbered n
row_found n e = ap (option_map row_of) (e ∙ slice_get-map row group_limit_rows n) ∙ back (slice_get group_limit_rows n)
  where
    back : (o : Option (GroupLimit × ℕ × ℕ)) → option_map row_of (option_map row o) ≡ o
    back None = refl
    back (Some g) = refl
