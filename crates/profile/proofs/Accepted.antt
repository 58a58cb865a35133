-- When a profile is not refused: by its length, then by its prices.
use Prim.Native.Nat.{ℕ, ◌≤◌, ◌<◌}
use native.Mathlib.Omega.{arith}
use mathlib.Core.Path.{◌≡◌, refl}
use mathlib.Core.Bool.{Bool, true, false, not}
use mathlib.Core.List.{List, [], ◌∷◌}
use lib.Dec.{eqb, ltb}
use lib.ListN.{length}
use borrow.Author.Tests.{ltb-false, le-ltb, eq-eqb, eqb-true, not-false}
use Rattle.words.specs.Words.{is_empty, any_of, in_order, table_from, first_of}
use Rattle.words.proofs.Elements.{or_left, or_right}
use Rattle.numbers.specs.Sizes as Sizes
use Rattle.numbers.specs.Refusals as Refusals
use Rattle.image.specs.Bytes.{u32_at}
use Rattle.profile.specs.Profile.{group_count, size_of, prices_of, bad_profile, bad_prices, profile_refusals, profile_refusal}
use Rattle.profile.specs.Sound.{Sized, Sound}

-- no bytes, no groups
pub no_groups : (b : List ℕ) → length b ≡ 0 → group_count b ≡ 0
unfolding u32_at
no_groups [] e = refl
no_groups (x ∷ b) e = absurd (omega arith)

pub sized : (b : List ℕ) → bad_profile b ≡ false → Sized b
unfolding bad_profile is_empty
sized [] e = record { few = omega (arith, no_groups [] refl); size = λ h. absurd (omega (arith, h)) }
sized (x ∷ b) e =
    let l = x ∷ b in
    let many = ltb Sizes.most_groups (group_count l) in
    let other = not (eqb (length l) (size_of l)) in
    record {
      few = ltb-false Sizes.most_groups (group_count l) (or_left many other e);
      size = λ _. eqb-true (length l) (size_of l) (not-false _ (or_right many other e));
    }

pub profile-good : (b : List ℕ) → Sized b → bad_profile b ≡ false
unfolding bad_profile is_empty
profile-good [] s = refl
profile-good (x ∷ b) s =
    let l = x ∷ b in
    rw (le-ltb Sizes.most_groups (group_count l) s.few, eq-eqb (length l) (size_of l) (s.size (omega arith)))

-- with bytes and few groups, the length decides
pub profile-rest : (b : List ℕ) → 0 < length b → group_count b ≤ Sizes.most_groups → bad_profile b ≡ not (eqb (length b) (size_of b))
unfolding bad_profile is_empty
profile-rest [] h k = absurd (omega (arith, h))
profile-rest (x ∷ b) h k = rw (le-ltb Sizes.most_groups (group_count (x ∷ b)) k)

pub profile-bad : (b : List ℕ) → (Sized b → ⊥) → bad_profile b ≡ true
profile-bad b h = go (bad_profile b) refl
  where
    go : (t : Bool) → bad_profile b ≡ t → t ≡ true
    go true e = refl
    go false e = absurd (h (sized b e))

-- a profile with groups has the bytes for them
pub long : (b : List ℕ) → Sized b → 0 < group_count b → length b ≡ size_of b
long b s h = s.size (some_bytes b h)
  where
    some_bytes : (b : List ℕ) → 0 < group_count b → 0 < length b
    some_bytes [] h = absurd (omega (arith, no_groups [] refl, h))
    some_bytes (x ∷ b) h = omega arith

-- ---- the number, by the two tests
module _ (b : List ℕ) where
  pub number-11 : bad_profile b ≡ true → profile_refusal b ≡ Refusals.bad_profile
  unfolding profile_refusal profile_refusals first_of
  number-11 e = rw e

  pub number-12 : bad_profile b ≡ false → bad_prices (prices_of b) ≡ true → profile_refusal b ≡ Refusals.bad_prices
  unfolding profile_refusal profile_refusals first_of
  number-12 e q = rw (e, q)

  pub number-0 : bad_profile b ≡ false → bad_prices (prices_of b) ≡ false → profile_refusal b ≡ 0
  unfolding profile_refusal profile_refusals first_of
  number-0 e q = rw (e, q)

  -- a profile without a number is sound
  pub sound : profile_refusal b ≡ 0 → Sound b
  sound h = first (bad_profile b) refl
    where
      second : bad_profile b ≡ false → (t : Bool) → bad_prices (prices_of b) ≡ t → Sound b
      second e true q = absurd (omega (arith, number-12 e q, h))
      second e false q = record { sized = sized b e; prices = q }

      first : (t : Bool) → bad_profile b ≡ t → Sound b
      first true e = absurd (omega (arith, number-11 e, h))
      first false e = second e (bad_prices (prices_of b)) refl

-- no profile is sound
pub sound_none : Sound []
unfolding bad_profile bad_prices prices_of is_empty any_of in_order table_from u32_at
sound_none = sound [] (number-0 [] refl refl)
