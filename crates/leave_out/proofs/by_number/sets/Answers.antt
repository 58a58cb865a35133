-- `by_number::sets` meets its contract: a power of two.
use Prim.Native.Nat.{ℕ, ◌*◌, ◌%◌, ◌^◌, ◌≤◌, ◌<◌}
use native.Mathlib.Nat.{mod-eq_of_lt, one-mul}
use native.Mathlib.Omega.{arith}
use mathlib.Core.Path.{◌≡◌, sym, ◌∙◌, subst}
use lib.Pow.{pow-lt}
use Rattle.leave_out.proofs.Turning.{few-sets}
use Rattle.leave_out.proofs.by_number.sets.Goals as goal

module _ (n : ℕ) (h : n ≤ 16) where
  small : 1 * 2 ^ n < 2 ^ 32
  small = let q : n < 32 = omega (arith, h) in subst (λ (m : ℕ). m < 2 ^ 32) (sym (one-mul (2 ^ n))) (pow-lt q)

  power : 1 * 2 ^ n % 2 ^ 32 ≡ 2 ^ n
  power = mod-eq_of_lt small ∙ one-mul (2 ^ n)

pub returns : goal.returns
returns c =
    let p = power c.args.n c.requires in
    let m = few-sets c.args.n c.requires in
    (p, omega (arith, p, m))
