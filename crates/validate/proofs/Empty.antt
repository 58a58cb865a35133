-- Whether a list is empty, by how many entries each of its parts has.
use Prim.Native.Nat.{ℕ, ◌+◌, ◌<◌}
use native.Mathlib.Omega.{arith}
use mathlib.Core.Path.{◌≡◌, refl, sym, ◌∙◌, subst}
use mathlib.Core.Bool.{Bool, true, false, cond, ◌&&◌}
use mathlib.Core.List.{List, [], ◌∷◌, ◌++◌}
use lib.Dec.{eqb}
use lib.ListN.{length, length-append}
use borrow.Author.Tests.{eq-eqb, ne_eqb}
use Rattle.words.specs.Words.{is_empty}
use Rattle.catalogue.specs.Catalogue.{catalogue_of}
use Rattle.fit.specs.Fit.{fit_of, mode_of}
use Rattle.context.specs.Context.{Pair, Context}
use Rattle.context.specs.Gathered.{context_of, pairs_of}
use Rattle.resource.specs.Resource.{resources}
use Rattle.racks.specs.Racks.{racks_and_hardpoints}
use Rattle.slot.specs.Slot.{slot_rules}
use Rattle.item.specs.Item.{item_rules}
use Rattle.limits.specs.Limits.{limit_rules}
use Rattle.validate.specs.Kind.{is_hull, not_a_mode, not_a_skill}
use Rattle.validate.specs.Validate.{hull_rules, list_with, list_of}
use Rattle.validate.proofs.Hull.{no_hull, of_fit_lem}

module _ {A : Type 0} where
  pub empty-some : (l : List A) → 0 < length l → is_empty l ≡ false
  unfolding is_empty
  empty-some [] h = absurd (omega arith)
  empty-some (x ∷ l) h = refl

  -- a count of its elements tells
  pub empty-count : (l : List A) (k : ℕ) → k ≡ length l → eqb k 0 ≡ is_empty l
  unfolding is_empty
  empty-count [] k e = eq-eqb k 0 e
  empty-count (x ∷ l) k e = ne_eqb k 0 (λ q. omega (arith, e, q))

  pub some-length : (l : List A) → is_empty l ≡ false → 0 < length l
  unfolding is_empty
  some-length [] h = absurd (subst (λ (t : Bool). cond t (Prim.Unit {0}) ⊥) h tt)
  some-length (x ∷ l) h = omega arith

  pub empty-length : (l : List A) → is_empty l ≡ true → length l ≡ 0
  unfolding is_empty
  empty-length [] h = refl
  empty-length (x ∷ l) h = absurd (subst (λ (t : Bool). cond t ⊥ (Prim.Unit {0})) h tt)

-- two lists one after the other, or one that has something
module _ {A : Type 0} where
  empty-either : (t : Bool) (l m : List A) (x : A) → is_empty (cond t (l ++ m) (x ∷ [])) ≡ (t && (is_empty m && eqb (length l) 0))
  unfolding is_empty
  empty-either false l m x = refl
  empty-either true [] [] x = refl
  empty-either true [] (y ∷ m) x = refl
  empty-either true (z ∷ l) [] x = sym (ne_eqb (length (z ∷ l)) 0 (λ q. omega (arith, q)))
  empty-either true (z ∷ l) (y ∷ m) x = refl

rules-length : (x : Context) (ps : List Pair) → length (hull_rules x ps)
    ≡ length (resources x ps) + length (racks_and_hardpoints x ps) + length (slot_rules x ps) + length (item_rules x ps) + length (limit_rules x ps)
unfolding hull_rules
rules-length x ps = rw (length-append, length-append, length-append, length-append) (omega arith)

-- the rules of a hull list nothing where each part has no entry
pub rules_empty : (x : Context) (ps : List Pair) → is_empty (hull_rules x ps)
    ≡ eqb (length (resources x ps) + length (racks_and_hardpoints x ps) + length (slot_rules x ps) + length (item_rules x ps) + length (limit_rules x ps)) 0
rules_empty x ps = sym (empty-count (hull_rules x ps) _ (sym (rules-length x ps)))

module _ (catalogue fit : List ℕ) where
  -- a ship that is no hull is listed as such
  pub off_hull_some : is_hull (catalogue_of catalogue) (fit_of fit).frame.ship ≡ false
      → is_empty (list_of (catalogue_of catalogue) (fit_of fit)) ≡ false
  unfolding is_empty
  off_hull_some e = rw (sym (no_hull catalogue fit e _ ∙ of_fit_lem catalogue fit)) refl

  -- on a hull it is empty where the rules of a hull list nothing, and neither do those of the mode and the skills
  pub list_empty : is_empty (list_of (catalogue_of catalogue) (fit_of fit))
      ≡ (is_hull (catalogue_of catalogue) (fit_of fit).frame.ship && (is_empty (hull_rules (context_of catalogue fit) (pairs_of catalogue fit))
      && eqb (length (not_a_mode (catalogue_of catalogue) (mode_of (fit_of fit).frame) ++ not_a_skill (catalogue_of catalogue) (fit_of fit).skills)) 0))
  unfolding list_of list_with context_of pairs_of
  list_empty = empty-either _ _ _ _
