-- What a loop does to each word, one element at a time: `take` for what is done, `drop` for what is left.
use Prim.Native.Nat.{ℕ, suc, ◌+◌, ◌<◌}
use native.Mathlib.Omega.{arith}
use mathlib.Core.Path.{◌≡◌, refl, sym, ap, ◌∙◌}
use mathlib.Core.Bool.{Bool, true, false, ◌||◌, cond}
use mathlib.Core.List.{List, [], ◌∷◌, ◌++◌, append-nil, append_assoc}
use lib.ListN.{length, get_or, take, drop}
use lib.Seq.{take-suc, drop-cons}
use Rattle.words.specs.Words.{each, only, sum_of, any_of}

module _ {A B : Type 0} (f : A → List B) where
  pub each_append : (l m : List A) → each (l ++ m) f ≡ each l f ++ each m f
  unfolding each
  each_append [] m = refl
  each_append (x ∷ l) m = ap (λ (r : List B). f x ++ r) (each_append l m) ∙ sym (append_assoc (f x) (each l f) (each m f))

  pub each_step : (l : List A) (i : ℕ) (d : A) → i < length l → each (take (suc i) l) f ≡ each (take i l) f ++ f (get_or l i d)
  unfolding each
  each_step l i d h =
      rw (take-suc l i d h) (each_append (take i l) (get_or l i d ∷ []) ∙ ap (λ (r : List B). each (take i l) f ++ r) (append-nil (f (get_or l i d))))

module _ {A : Type 0} where
  pub only-append : (t : A → Bool) (l m : List A) → only t (l ++ m) ≡ only t l ++ only t m
  unfolding only
  only-append t [] m = refl
  only-append t (x ∷ l) m = go (t x) (only-append t l m)
    where
      go : (b : Bool) → only t (l ++ m) ≡ only t l ++ only t m
          → cond b (x ∷ only t (l ++ m)) (only t (l ++ m)) ≡ cond b (x ∷ only t l) (only t l) ++ only t m
      go true h = ap (λ (r : List A). x ∷ r) h
      go false h = h

  pub sum_append : (f : A → ℕ) (l m : List A) → sum_of f (l ++ m) ≡ sum_of f l + sum_of f m
  unfolding sum_of
  sum_append f [] m = omega arith
  sum_append f (x ∷ l) m = let h = sum_append f l m in omega arith

  pub any_step : (t : A → Bool) (l : List A) (i : ℕ) (d : A) → i < length l → any_of t (drop i l) ≡ t (get_or l i d) || any_of t (drop (suc i) l)
  unfolding any_of
  any_step t l i d h = rw (drop-cons l i d h)
