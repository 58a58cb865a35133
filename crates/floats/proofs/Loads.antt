-- What is over stays over where more is used, and a sum that is over does not fall by further terms. By the order of floats.
use Rattle.std.proofs.Common.{T, List, ◌++◌, sym, subst}
use mathlib.Core.List.{foldl-append, Memᴰ}
use lib.Ieee.{Float, binary64, add, le, fits}
use Rattle.floats.specs.Floats.{zero_f, over, total_from}
use Rattle.floats.proofs.Order.{le_refl, lt-le_trans, lt-not_nan}
use Rattle.floats.proofs.Sums.{total-fits, total-above}

pub over-mono : (u v a : Float) → T (le u v) → T (over u a) → T (over v a)
unfolding over
over-mono u v a h o = lt-le_trans _ u v o h

-- what is over is no NaN
pub over-self : (u a : Float) → T (over u a) → T (le u u)
unfolding over
over-self u a o = le_refl u (lt-not_nan _ u o)

-- any number of terms that are not below zero
pub total-grows : {A : Type 0} (f : A → Float) (u a : Float) (l m : List A) → T (fits binary64 u) → ((x : A) → Memᴰ x m → T (le zero_f (f x)))
    → T (over (total_from f u l) a) → T (le (total_from f u l) (total_from f u (l ++ m)))
unfolding over
total-grows f u a l m h p o =
    let v = total_from f u l in
    subst (λ (z : Float). T (le v z)) (sym (foldl-append (λ s x. add binary64 s (f x)) u l m)) (total-above f _ v m (total-fits f u l h) o p)
