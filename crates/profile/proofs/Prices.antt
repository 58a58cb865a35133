-- The prices of a profile: their order and their range, and what a search of the groups says.
use Prim.Native.Nat.{ℕ, ◌+◌, ◌*◌}
use native.Mathlib.Omega.{arith}
use mathlib.Core.Path.{◌≡◌, refl, sym, ap, ap₂, ◌∙◌, subst}
use mathlib.Core.Bool.{Bool, true, false, not, ◌&&◌, ◌||◌, true≢false}
use mathlib.Core.Logic.{inl, inr}
use lib.Dec.{ltb}
use mathlib.Core.List.{List, []}
use Rattle.std.specs.Prelude.{Option, None, Some}
use lib.IntN.{ℤ}
use lib.Signed.{lt_z}
use lib.ListN.{length, take, drop}
use borrow.Author.Tests.{not-false, ltb-false, eqb-true}
use Rattle.words.specs.Words.{table_from, table, from, any_of, in_order, find, given, same}
use Rattle.words.proofs.Tables.{map-table, any-table, any_false, find-table, find-alike, given_made}
use Rattle.words.proofs.Elements.{or_left, or_right}
use Rattle.numbers.specs.Sizes as Sizes
use Rattle.image.specs.Bytes.{u32_at, i32_at}
use Rattle.keys.specs.Keys.{key_at, Sorted, place_of}
use Rattle.keys.proofs.Orders.{ascending_sorted}
use Rattle.keys.proofs.Parts.{part-key, part-keys, place-below}
use Rattle.profile.specs.Profile.{Price, group_count, points_at, price_at, prices_of, is_ban, too_dear, bad_prices, points_of}
use Rattle.profile.specs.Sound.{Sound, Fair}
use Rattle.profile.proofs.Accepted.{no_groups}

module _ (b : List ℕ) where
  -- the part of the profile that holds the groups
  abbrev pub groups : List ℕ
  groups = take (4 * group_count b) (drop 4 b)

  -- ---- refusal 12, by parts
  abbrev ordered : Bool
  ordered = in_order lt_z (table (group_count b) (λ i. i32_at b (4 + 4 * i)))

  abbrev dear : Bool
  dear = any_of too_dear (table (group_count b) (λ i. u32_at b (points_at b + 4 * i)))

  pub prices-parts : bad_prices (prices_of b) ≡ not ordered || dear
  unfolding bad_prices prices_of
  prices-parts =
      ap₂ (λ (x y : Bool). x || y)
      (ap (λ (l : List ℤ). not (in_order lt_z l)) (map-table (λ x. x.group) (group_count b) (price_at b)))
      (any-table too_dear (λ x. x.points) (group_count b) (price_at b))

  pub prices-empty : group_count b ≡ 0 → prices_of b ≡ []
  unfolding prices_of table_from
  prices-empty e = ap (λ (n : ℕ). table n (price_at b)) e

  -- no bytes, no prices
  pub no_prices : length b ≡ 0 → prices_of b ≡ []
  no_prices e = prices-empty (no_groups b e)

  pub prices-none : group_count b ≡ 0 → bad_prices (prices_of b) ≡ false
  unfolding bad_prices any_of in_order
  prices-none e = ap bad_prices (prices-empty e)

  pub groups_sorted : Sound b → Sorted groups (group_count b)
  groups_sorted s =
      ascending_sorted groups (group_count b)
      (ap (in_order lt_z) (part-keys b 4 (group_count b)) ∙ not-false _ (or_left (not ordered) dear (sym prices-parts ∙ s.prices)))

  -- ---- the search
  -- what it says of a group's points
  abbrev points_for : Option ℕ → ℕ
  points_for o = given o 0 (λ i. u32_at b (points_at b + 4 * i))

  points-found : (group : ℤ) → points_of (prices_of b) group ≡ points_for (place_of groups (group_count b) group)
  unfolding points_of prices_of place_of
  points-found group =
      ap (λ o. given o 0 (λ x. x.points)) (find-table is n (price_at b))
      ∙ given_made (find (λ i. is (price_at b i)) (from 0 n)) (price_at b) 0 (λ x. x.points)
      ∙ ap points_for (find-alike (λ i. is (price_at b i)) (λ i. same (key_at groups i) group) n
      (λ i h. ap (λ z. same z group) (sym (part-key b 4 n i h))))
    where
      n : ℕ
      n = group_count b

      is : Price → Bool
      is x = same x.group group

  module _ (group : ℤ) where
    pub points-given : (i : ℕ) → place_of groups (group_count b) group ≡ Some i
        → points_of (prices_of b) group ≡ u32_at b (points_at b + 4 * i)
    unfolding given
    points-given i e = points-found group ∙ ap points_for e

    pub points-missing : place_of groups (group_count b) group ≡ None → points_of (prices_of b) group ≡ 0
    unfolding given
    points-missing e = points-found group ∙ ap points_for e

  -- a profile without groups has no points for any
  pub points_none : group_count b ≡ 0 → (group : ℤ) → points_of (prices_of b) group ≡ 0
  unfolding points_of find given
  points_none e group = ap (λ (l : List Price). points_of l group) (prices-empty e)

  -- ---- the range
  in_range : (x : ℕ) → too_dear x ≡ false → Fair x
  in_range x e = go (ltb Sizes.most_points x) refl (is_ban x) refl
    where
      go : (t : Bool) → ltb Sizes.most_points x ≡ t → (u : Bool) → is_ban x ≡ u → Fair x
      go false p u q = inl (ltb-false Sizes.most_points x p)
      go true p true q = inr (eqb-true x Sizes.banned q)
      go true p false q = absurd (true≢false (ap₂ (λ (t u : Bool). t && not u) (sym p) (sym q) ∙ e))

  -- points are at most 1,000,000, or a ban
  pub points-fair : Sound b → (group : ℤ) → Fair (points_of (prices_of b) group)
  points-fair s group = go (place_of groups (group_count b) group) refl
    where
      go : (o : Option ℕ) → place_of groups (group_count b) group ≡ o → Fair (points_of (prices_of b) group)
      go None e = inl (omega (arith, points-missing group e))
      go (Some i) e =
          let f : ℕ → ℕ = λ j. u32_at b (points_at b + 4 * j) in
          let cheap = or_right (not ordered) dear (sym prices-parts ∙ s.prices) in
          let below = place-below groups (group_count b) group i e in
          subst Fair (sym (points-given group i e)) (in_range (f i) (any_false too_dear (group_count b) f cheap i below))
