-- |x| is the library's.
use Rattle.std.proofs.Common.{◌≡◌, refl}
use Rattle.std.specs.Prelude.{false, Float}
use Rattle.std.specs.Float.{nan, inf, fin, float_with_sign}
use Rattle.floats.specs.Floats.{abs}

pub abs_is : (x : Float) → float_with_sign false x ≡ abs x
unfolding float_with_sign abs
abs_is nan = refl
abs_is (inf s) = refl
abs_is (fin s m e) = refl
