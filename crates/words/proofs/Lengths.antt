-- How many elements a word lists at most.
use Prim.Native.Nat.{ℕ, ◌*◌, ◌≤◌}
use native.Mathlib.Nat.{mul-suc}
use native.Mathlib.Omega.{arith}
use mathlib.Core.Bool.{Bool, true, false, ◌&&◌}
use mathlib.Core.List.{List, [], ◌∷◌}
use Rattle.std.specs.Prelude.{Option, None, Some}
use lib.ListN.{length, length-append}
use lib.Dec.{ltb}
use Rattle.words.specs.Words.{◌>>=◌, each, when, unless, when_any, when_above, any_of}

module _ {A : Type 0} where
  pub few-when : (b : Bool) (e : A) → length (when b e) ≤ 1
  unfolding when
  few-when true e = omega arith
  few-when false e = omega arith

  pub few-unless : (b : Bool) (l : List A) → length (unless b l) ≤ length l
  unfolding unless
  few-unless true l = omega arith
  few-unless false l = omega arith

module _ {A B : Type 0} where
  pub few-any : (b : Bool) (t : A → Bool) (l : List A) (e : B) → length (when_any b t l e) ≤ 1
  unfolding when_any
  few-any b t l e = few-when (b && any_of t l) e

  module _ (f : A → List B) (c : ℕ) (h : (x : A) → length (f x) ≤ c) where
    pub few-bind : (o : Option A) → length (◌>>=◌ o f) ≤ c
    unfolding ◌>>=◌
    few-bind None = omega arith
    few-bind (Some x) = h x

    pub few-each : (l : List A) → length (each l f) ≤ c * length l
    unfolding each
    few-each [] = omega arith
    few-each (x ∷ l) = omega (arith, length-append (f x) (each l f), h x, few-each l, mul-suc c (length l))

pub few-above : {B : Type 0} (b : Bool) (used allowed : ℕ) (e : ℕ → B) → length (when_above b used allowed e) ≤ 1
unfolding when_above
few-above b used allowed e = few-when (b && ltb allowed used) (e used)
