-- Document 02, P9: the smallest part of a fit that shows an entry of its list. The list is the officer's, without a profile.
use Rattle.std.specs.Prelude.{ℕ, Bool, true, not, ◌&&◌, cond, List, [], ◌∷◌, eqb, leb, length, take, get_or, slice_get}
use Rattle.words.specs.Words.{each, any_of, given}
use Rattle.numbers.specs.Slots as Slots
use Rattle.numbers.specs.Refusals as Refusals
use Rattle.image.specs.Bytes.{le}
use Rattle.floats.specs.Floats.{is_volume}
use Rattle.catalogue.specs.Catalogue.{Catalogue}
use Rattle.fit.specs.Fit.{Fit}
use Rattle.entry.specs.declared.Target.{Target}
use Rattle.entry.specs.declared.Target.TheVariants.{Ship, Item}
use Rattle.entry.specs.declared.Rule.{Rule}
use Rattle.entry.specs.declared.Entry.{Entry}
use Rattle.entry.specs.Entries.{fields, place}
use Rattle.context.specs.Context.{Pair, pairs, is_in}
use Rattle.lists.specs.Terms.{main}
use Rattle.lists.specs.Lists.{whole_list}
use Rattle.parts.specs.Parts.{size, every, holds, numbers_of, part_of, down_from, thinned}

-- ---- the same entry
-- the rules that carry an id, as their first word: Skill, MaxGroup, MaxType, NotASkill, UnknownType
abbrev pub WITH_ID : List ℕ
WITH_ID = 11 ∷ 17 ∷ 18 ∷ 21 ∷ 26 ∷ []

-- the id that a rule carries; the other rules carry none
unfoldable pub id_of : Rule → ℕ
id_of r = cond (any_of (eqb (fields r).0) WITH_ID) (get_or (fields r).2 0 0) 0

-- the same rule, sub and id; used and level numbers may differ
unfoldable pub alike : Rule → Rule → Bool
alike r s = eqb (fields r).0 (fields s).0 && eqb (fields r).1 (fields s).1 && eqb (id_of r) (id_of s)

unfoldable pub same_target : Target → Target → Bool
same_target t u = eqb (place t).0 (place u).0 && eqb (place t).1 (place u).1

-- an entry is about a target, of a rule
unfoldable pub is_about : Target → Rule → Entry → Bool
is_about t r e = same_target e.target t && alike r e.rule

-- ---- in a part
-- the target's pair is in it
unfoldable pub is_kept : List Bool → Target → Bool
is_kept kept Ship = true
is_kept kept (Item i) = holds kept i

-- its number there: as many as are kept before it
unfoldable pub renumbered : List Bool → Target → Target
renumbered kept Ship = Ship
renumbered kept (Item i) = Item (size (take i kept))

module _ (c : Catalogue) (f : Fit) (e : Entry) where
  -- the part still lists the entry, about the same item
  unfoldable pub shows : List Bool → Bool
  shows kept =
      is_kept kept e.target
      && any_of (is_about (renumbered kept e.target) e.rule) (whole_list main c (part_of f kept))

  -- from the last pair to the first, each is dropped where the entry stays without it
  unfoldable pub cause_of : List Bool
  cause_of = thinned shows (every (length (pairs c f))) (down_from (length (pairs c f)))

-- ---- the call
-- 15: a pair in Cargo whose volume is below zero, infinite or NaN
unfoldable pub bad_volume : Pair → Bool
bad_volume p = is_in Slots.cargo p && not (is_volume p.volume)

module _ (c : Catalogue) (f : Fit) (position : ℕ) where
  -- 14: the list ends before the position
  abbrev pub no_entry : Bool
  no_entry = leb (length (whole_list main c f)) position

  abbrev pub cause_refusals : List (ℕ × Bool)
  cause_refusals = (Refusals.no_entry, no_entry) ∷ (Refusals.bad_volume, any_of bad_volume (pairs c f)) ∷ []

  -- the kept pairs' numbers in the given fit, four bytes each
  unfoldable pub cause_bytes : List ℕ
  cause_bytes = given (slice_get (whole_list main c f) position) [] λ e. each (numbers_of (cause_of c f e)) (le 4)
