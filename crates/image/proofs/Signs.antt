-- Signed numbers of 32 bits are the machine's.
use mathlib.Core.Path.{◌≡◌, refl, ap, ◌∙◌}
use mathlib.Core.Bool.{Bool, true, false, cond}
use Prim.Native.Nat.{ℕ, suc, ◌-◌, ◌^◌}
use native.Mathlib.Omega.{arith}
use lib.Dec.{ltb}
use lib.IntN.{ℤ, pos, negsuc}
use mir.Syntax.{w32}
use mir.Val.{to_z, of_z, sel, SFits}
use mir.ValLaws.{to_z-of_z}
use Rattle.image.specs.Bytes.{signed32, bits32}

-- the definitions are the machine's own
pub bits_of_z : (z : ℤ) → bits32 z ≡ of_z w32 z
unfolding bits32
bits_of_z (pos n) = refl
bits_of_z (negsuc n) = omega arith

pub signed_to_z : (n : ℕ) → signed32 n ≡ to_z w32 n
unfolding signed32
signed_to_z n = go (ltb n (2 ^ 31))
  where
    go : (b : Bool) → cond b (pos n) (negsuc (2 ^ 32 - 1 - n)) ≡ sel b (pos n) (negsuc (2 ^ 32 - suc n))
    go true = refl
    go false = ap negsuc (omega arith)

-- the bits of a number stand for it
pub signed_bits : (z : ℤ) → SFits w32 z → signed32 (bits32 z) ≡ z
signed_bits z f = signed_to_z (bits32 z) ∙ ap (to_z w32) (bits_of_z z) ∙ to_z-of_z w32 z f

-- the same, of a number that the machine holds
pub signed_kept : (z : ℤ) → SFits w32 z → {n : ℕ} → n ≡ bits32 (to_z w32 (of_z w32 z)) → signed32 n ≡ z
signed_kept z f e = ap signed32 (e ∙ ap bits32 (to_z-of_z w32 z f)) ∙ signed_bits z f
