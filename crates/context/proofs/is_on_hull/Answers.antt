-- `context::is_on_hull` meets its contract: slot kinds 0 to 7.
use Prim.Native.Nat.{ℕ, zero, suc, ◌<◌}
use native.Mathlib.Omega.{arith}
use mathlib.Core.Path.{◌≡◌, refl, ap, ◌∙◌}
use mathlib.Core.Bool.{◌||◌}
use lib.Dec.{eqb, leb}
use borrow.Author.Tests.{lt-leb, ne_eqb}
use Rattle.fit.specs.Fit.{item_at}
use Rattle.context.specs.Context.{is_fitted, is_in, is_fighter_slot, is_on_hull}
use Rattle.context.proofs.is_on_hull.Goals as goal

beyond : (n : ℕ) → 7 < n → leb n 7 ≡ (leb n 5 || (eqb n 6 || eqb n 7))
beyond n h =
    rw (
      lt-leb n 7 h,
      lt-leb n 5 (omega (arith, h)),
      ne_eqb n 6 (λ e. omega (arith, e, h)),
      ne_eqb n 7 (λ e. omega (arith, e, h)),
    )

-- racks, tubes and the fighter bay are the first eight kinds
first-eight : (s : ℕ) → leb s 7 ≡ (leb s 5 || (eqb s 6 || eqb s 7))
first-eight zero = refl
first-eight (suc zero) = refl
first-eight (suc (suc zero)) = refl
first-eight (suc (suc (suc zero))) = refl
first-eight (suc (suc (suc (suc zero)))) = refl
first-eight (suc (suc (suc (suc (suc zero))))) = refl
first-eight (suc (suc (suc (suc (suc (suc zero)))))) = refl
first-eight (suc (suc (suc (suc (suc (suc (suc zero))))))) = refl
first-eight (suc (suc (suc (suc (suc (suc (suc (suc s)))))))) = beyond (suc (suc (suc (suc (suc (suc (suc (suc s)))))))) (omega arith)

pub returns : goal.returns
unfolding is_on_hull is_fitted is_fighter_slot is_in
returns c catalogue =
    let a = c.args in
    ap (λ (s : ℕ). leb s 7) c.item_slot.ensures ∙ first-eight (item_at a.fit.now a.i).slot
