-- The drones in space and the cargo, one pair more at a time.
use Rattle.std.proofs.Common.{◌≡◌, ℕ, ◌+◌, Bool, true, false, cond, List, [], ◌∷◌, refl, ap, ◌∙◌}
use mathlib.Core.List.{foldl, foldl-append}
use lib.Ieee.{Float, binary64, add}
use Rattle.words.specs.Words.{table, table_from, only}
use Rattle.words.proofs.Tables.{only-more, sum_only_none, sum_only_more}
use Rattle.numbers.specs.Slots as Slots
use Rattle.floats.specs.Floats.{zero_f}
use Rattle.context.specs.Context.{Pair, is_in}
use Rattle.resource.specs.Resource.{is_launched, launched, cargo_volume, cargo_used}

module _ (f : ℕ → Pair) where
  pub launched-none : launched (table 0 f) ≡ 0
  unfolding launched
  launched-none = sum_only_none f is_launched (λ p. p.quantity)

  pub launched-more : (n : ℕ) → launched (table (n + 1) f) ≡ launched (table n f) + cond (is_launched (f n)) (f n).quantity 0
  unfolding launched
  launched-more = sum_only_more f is_launched (λ p. p.quantity)

  pub cargo-none : cargo_used (table 0 f) ≡ zero_f
  unfolding cargo_used only table_from
  cargo-none = refl

  pub cargo-more : (n : ℕ) → cargo_used (table (n + 1) f)
      ≡ cond (is_in Slots.cargo (f n)) (add binary64 (cargo_used (table n f)) (cargo_volume (f n))) (cargo_used (table n f))
  unfolding cargo_used
  cargo-more n = ap (foldl with_pair zero_f) (only-more f (is_in Slots.cargo) n) ∙ foldl-append with_pair zero_f so_far _ ∙ go (is_in Slots.cargo (f n))
    where
      with_pair : Float → Pair → Float
      with_pair sum p = add binary64 sum (cargo_volume p)

      so_far : List Pair
      so_far = only (is_in Slots.cargo) (table n f)

      go : (b : Bool) → foldl with_pair (foldl with_pair zero_f so_far) (cond b (f n ∷ []) [])
          ≡ cond b (with_pair (foldl with_pair zero_f so_far) (f n)) (foldl with_pair zero_f so_far)
      go true = refl
      go false = refl
