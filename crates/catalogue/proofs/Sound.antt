-- A catalogue is sound exactly when it is not refused, and what the first refusal is. The laws of three conditions and of a length serve
-- the old form too (crate `widening`).
use Prim.Native.Nat.{ℕ, ◌≤◌}
use native.Mathlib.Omega.{arith}
use mathlib.Core.Path.{◌≡◌, refl}
use mathlib.Core.Bool.{Bool, true, false, not, ◌||◌}
use mathlib.Core.List.{List, [], ◌∷◌}
use mathlib.Mathlib.Data.Bool.Basic.{or-eq-false-eq-eq-false-and-eq-false as neither}
use lib.ListN.{length}
use lib.Dec.{eqb, ltb}
use borrow.Author.Tests.{ltb-false, eqb-true, not-false}
use Rattle.words.specs.Words.{first_of}
use Rattle.catalogue.specs.Catalogue.{catalogue_of, size_of}
use Rattle.catalogue.specs.Refusals.{bad_length, bad_order, bad_field, catalogue_refusals, catalogue_refusal}
use Rattle.catalogue.specs.Sound.{Sound}

-- ---- a length that is not over the limit and is what the sizes say
module _ (b : List ℕ) (size : ℕ) (e : ltb 16777216 (length b) || not (eqb (length b) size) ≡ false) where
  pub length-is : length b ≡ size
  length-is = eqb-true _ _ (not-false _ ((neither (ltb 16777216 (length b)) (not (eqb (length b) size))).0 e).1)

  pub length-limit : length b ≤ 16777216
  length-limit = ltb-false _ _ ((neither (ltb 16777216 (length b)) (not (eqb (length b) size))).0 e).0

-- ---- the first of three conditions: of the length, the order, the fields
abbrev three : (l o f : Bool) → ℕ
three l o f = first_of ((1, l) ∷ (2, o) ∷ (3, f) ∷ [])

pub first-1 : {l : Bool} (o f : Bool) → l ≡ true → 1 ≡ three l o f
unfolding first_of
first-1 o f e = rw e

pub first-2 : {l o : Bool} (f : Bool) → l ≡ false → o ≡ true → 2 ≡ three l o f
unfolding first_of
first-2 f e g = rw (e, g)

pub first-3 : {l o f : Bool} → l ≡ false → o ≡ false → f ≡ true → 3 ≡ three l o f
unfolding first_of
first-3 e g h = rw (e, g, h)

pub first-none : {l o f : Bool} → l ≡ false → o ≡ false → f ≡ false → 0 ≡ three l o f
unfolding first_of
first-none e g h = rw (e, g, h)

pub none_first : (l o f : Bool) → three l o f ≡ 0 → (l ≡ false) × (o ≡ false) × (f ≡ false)
unfolding first_of
none_first true o f e = absurd (omega (arith, e))
none_first false true f e = absurd (omega (arith, e))
none_first false false true e = absurd (omega (arith, e))
none_first false false false e = (refl, refl, refl)

module _ (b : List ℕ) where
  pub fits-size : bad_length b ≡ false → length b ≡ size_of b
  unfolding bad_length
  fits-size e = length-is b (size_of b) e

  -- ---- the first refusal
  pub refused-1 : bad_length b ≡ true → 1 ≡ catalogue_refusal b
  unfolding catalogue_refusal catalogue_refusals
  refused-1 e = first-1 _ _ e

  pub refused-2 : bad_length b ≡ false → bad_order (catalogue_of b) ≡ true → 2 ≡ catalogue_refusal b
  unfolding catalogue_refusal catalogue_refusals
  refused-2 e f = first-2 _ e f

  pub refused-3 : bad_length b ≡ false → bad_order (catalogue_of b) ≡ false → bad_field (catalogue_of b) ≡ true → 3 ≡ catalogue_refusal b
  unfolding catalogue_refusal catalogue_refusals
  refused-3 e f g = first-3 e f g

  pub refused_none : bad_length b ≡ false → bad_order (catalogue_of b) ≡ false → bad_field (catalogue_of b) ≡ false → 0 ≡ catalogue_refusal b
  unfolding catalogue_refusal catalogue_refusals
  refused_none e f g = first-none e f g

  -- ---- sound is not refused
  pub accepted-sound : catalogue_refusal b ≡ 0 → Sound b
  unfolding catalogue_refusal catalogue_refusals bad_length
  accepted-sound e =
      let n = none_first (bad_length b) (bad_order (catalogue_of b)) (bad_field (catalogue_of b)) e in
      record { size = length-is b (size_of b) n.0; small = length-limit b (size_of b) n.0; order = n.1; fields = n.2 }
