-- validate/item.rs, its last two rules: how many items of a group or a type a fit may have.
use Rattle.std.specs.Prelude.{ℕ, Bool, cond, ◌&&◌, Option, None, Some, List, [], ◌∷◌, ◌++◌, leb}
use Rattle.words.specs.Words.{◌>>=◌, given, each, when_above, count_of, same}
use Rattle.numbers.specs.Names as Names
use Rattle.numbers.specs.States as States
use Rattle.numbers.specs.declared.GroupLimit.{GroupLimit}
use Rattle.numbers.specs.declared.GroupLimit.TheVariants.{Fitted, Online, Active}
use Rattle.floats.specs.Floats.{to_u}
use Rattle.catalogue.specs.Catalogue.{Id}
use Rattle.catalogue.specs.Lookups.{name_id}
use Rattle.fit.specs.Lookups.{value}
use Rattle.entry.specs.declared.Entry.{Entry}
use Rattle.entry.specs.declared.Rule.TheVariants.{MaxGroup, MaxType}
use Rattle.context.specs.Context.{Pair, Context, is_fitted, on}

-- a group limit, the lowest state that it counts, and its attribute
abbrev pub group_limit_rows : List (GroupLimit × ℕ × ℕ)
group_limit_rows =
    (Fitted, States.offline, Names.max_group_fitted)
    ∷ (Online, States.online, Names.max_group_online)
    ∷ (Active, States.active, Names.max_group_active)
    ∷ []

-- how many a limit that a pair has allows it, where it is fitted
unfoldable pub allowed_at : Id → Pair → Option ℕ
allowed_at id p = given (value p.result id) None (λ v. cond (is_fitted p) (Some (to_u 32 v)) None)

-- ---- group_limits
-- a fitted pair of a group that `counts`: its state is the limit's lowest, or above
unfoldable pub in_group : Id → ℕ → Pair → Bool
in_group group lowest o = is_fitted o && same o.group group && leb lowest o.result.state

unfoldable pub group_limit_at : GroupLimit → ℕ → Id → List Pair → Pair → List Entry
group_limit_at limit lowest id ps p = do
  allowed ← value p.result id
  when_above (is_fitted p) (count_of (in_group p.group lowest) ps) (to_u 32 allowed) λ used.
      on p (MaxGroup p.group limit used (to_u 32 allowed))

-- one row of `group_limit_rows`
unfoldable pub group_limit : Context → List Pair → GroupLimit × ℕ × ℕ → List Entry
group_limit x ps g = do
  id ← name_id x.names g.2
  each ps (group_limit_at g.0 g.1 id ps)

unfoldable pub group_limits : Context → List Pair → List Entry
group_limits x ps = each group_limit_rows (group_limit x ps)

-- ---- type_limit
unfoldable pub of_type : Id → Pair → Bool
of_type type o = is_fitted o && same o.type type

unfoldable pub type_limit_at : Id → List Pair → Pair → List Entry
type_limit_at id ps p = do
  allowed ← value p.result id
  when_above (is_fitted p) (count_of (of_type p.type) ps) (to_u 32 allowed) λ used.
      on p (MaxType p.type used (to_u 32 allowed))

unfoldable pub type_limit : Context → List Pair → List Entry
type_limit x ps = do
  id ← name_id x.names Names.max_type_fitted
  each ps (type_limit_at id ps)

-- ---- validate, as far as this crate goes
abbrev pub limit_rules : Context → List Pair → List Entry
limit_rules x ps = group_limits x ps ++ type_limit x ps
