-- Volumes that sums can only grow by, and pairs of which some have none.
use Prim.Native.Nat.{ℕ, suc, ◌+◌}
use native.Mathlib.Omega.{arith}
use mathlib.Core.Path.{◌≡◌, refl, ap, ◌∙◌}
use mathlib.Core.Bool.{Bool, true, false, ◌&&◌, ◌||◌, cond}
use mathlib.Core.List.{List, [], ◌∷◌}
use lib.Dec.{ltb}
use lib.Ieee.{Float, nan, inf, fin, le}
use lib.ListN.{length}
use borrow.Author.Tests.{lt-ltb}
use Rattle.std.specs.Float.{float_is_finite}
use Rattle.words.specs.Words.{only, count_of, any_of}
use Rattle.floats.specs.Floats.{zero_f, is_volume}

pub fair-is : (x : Float) → le zero_f x && float_is_finite x ≡ is_volume x
unfolding is_volume float_is_finite le
fair-is nan = refl
fair-is (inf s) = never (le zero_f (inf s))
  where
    never : (b : Bool) → b && false ≡ false
    never true = refl
    never false = refl
fair-is (fin s m e) = always (le zero_f (fin s m e))
  where
    always : (b : Bool) → b && true ≡ b
    always true = refl
    always false = refl
