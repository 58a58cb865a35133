-- Lists of ids: what stands in one, and one with no id twice is no longer than a list that has them all. By induction on them.
use Prim.Native.Nat.{suc, ◌≤◌, zero-le, suc-le-suc}
use mathlib.Core.Path.{◌≡◌, refl, sym, ap, ◌∙◌, subst}
use mathlib.Core.Bool.{Bool, true, false, ◌||◌}
use mathlib.Core.List.Memᴰ
use mathlib.Core.List.{List, [], ◌∷◌, Memᴰ}
use mathlib.Core.Logic.{◌⊎◌, inl, inr}
use lib.Dec.{T, T_not}
use lib.ListN.{length}
use Rattle.catalogue.specs.Catalogue.{Id}
use Rattle.words.specs.Words.{same, contains, any_of, each}
use Rattle.skill.specs.Wanted.{Once}
use Rattle.skill.proofs.Walking.{same-eq, same_refl}

or_left : (a b : Bool) → T a → T (a || b)
or_left true b h = tt
or_left false b h = absurd h

or_right : (a b : Bool) → T b → T (a || b)
or_right true b h = tt
or_right false b h = h

module _ {A : Type 0} where
  without : {x : A} {ys : List A} → Memᴰ x ys → List A
  without (Memᴰ.head {xs = xs} e) = xs
  without (Memᴰ.tail {x = y} m) = y ∷ without m

  without_length : {x : A} {ys : List A} (m : Memᴰ x ys) → length ys ≡ suc (length (without m))
  unfolding without
  without_length (Memᴰ.head e) = refl
  without_length (Memᴰ.tail m) = ap suc (without_length m)

  without_keeps : {x : A} {ys : List A} (m : Memᴰ x ys) (y : A) → (y ≡ x → ⊥) → Memᴰ y ys → Memᴰ y (without m)
  unfolding without
  without_keeps (Memᴰ.head e) y n k = elim (Memᴰ.cases_cons k) [ inl q ↦ absurd (n (q ∙ sym e)) | inr t ↦ t ]
  without_keeps (Memᴰ.tail {x = z} {xs = zs} m) y n k = go (λ t. without_keeps m y n t) (Memᴰ.cases_cons k)
    where
      go : (Memᴰ y zs → Memᴰ y (without m)) → (y ≡ z) ⊎ Memᴰ y zs → Memᴰ y (z ∷ without m)
      go f (inl q) = Memᴰ.head q
      go f (inr t) = Memᴰ.tail (f t)

pub mem_contains : (x : Id) (l : List Id) → Memᴰ x l → T (contains x l)
unfolding contains any_of
mem_contains x [] m = absurd (Memᴰ.not-nil m)
mem_contains x (y ∷ l) m = go (Memᴰ.cases_cons m) (mem_contains x l)
  where
    go : (x ≡ y) ⊎ Memᴰ x l → (Memᴰ x l → T (any_of (same x) l)) → T (same x y || any_of (same x) l)
    go (inl e) f = or_left (same x y) _ (subst (λ (z : Id). T (same x z)) e (same_refl x))
    go (inr t) f = or_right (same x y) _ (f t)

pub contains_mem : (x : Id) (l : List Id) → T (contains x l) → Memᴰ x l
unfolding contains any_of
contains_mem x [] h = absurd h
contains_mem x (y ∷ l) h = go (same x y) (same-eq x y) (contains_mem x l) h
  where
    go : (b : Bool) → (T b → x ≡ y) → (T (any_of (same x) l) → Memᴰ x l) → T (b || any_of (same x) l) → Memᴰ x (y ∷ l)
    go true e f h = Memᴰ.head (e tt)
    go false e f h = Memᴰ.tail (f h)

-- two lists of the same ids
pub contains_same : (xs ys : List Id) (x : Id) → (Memᴰ x xs → Memᴰ x ys) → (Memᴰ x ys → Memᴰ x xs) → contains x xs ≡ contains x ys
contains_same xs ys x f g =
    go (contains x xs) (contains x ys) (λ h. mem_contains x ys (f (contains_mem x xs h))) (λ h. mem_contains x xs (g (contains_mem x ys h)))
  where
    go : (a b : Bool) → (T a → T b) → (T b → T a) → a ≡ b
    go true true f g = refl
    go true false f g = absurd (f tt)
    go false true f g = absurd (g tt)
    go false false f g = refl

pub once-length : (xs ys : List Id) → Once xs → ((x : Id) → Memᴰ x xs → Memᴰ x ys) → length xs ≤ length ys
once-length [] ys o f = zero-le
once-length (x ∷ xs) ys o f =
    let m = f x (Memᴰ.head refl) in
    rw (without_length m)
    (suc-le-suc (once-length xs (without m) o.1
    (λ y k. without_keeps m y (λ e. T_not (contains x xs) o.0 (subst (λ (z : Id). T (contains z xs)) e (mem_contains y xs k))) (f y (Memᴰ.tail k)))))

-- ---- of what is made of each
module _ {A B : Type 0} where
  pub each_from : (l : List A) (f : A → List B) (y : B) → Memᴰ y (each l f) → (x : A) × Memᴰ x l × Memᴰ y (f x)
  unfolding each
  each_from [] f y m = absurd (Memᴰ.not-nil m)
  each_from (x ∷ l) f y m = go (Memᴰ.append_cases (f x) m) (each_from l f y)
    where
      go : Memᴰ y (f x) ⊎ Memᴰ y (each l f) → (Memᴰ y (each l f) → (z : A) × Memᴰ z l × Memᴰ y (f z))
          → (z : A) × Memᴰ z (x ∷ l) × Memᴰ y (f z)
      go (inl a) k = (x, Memᴰ.head refl, a)
      go (inr a) k = let h = k a in (h.0, Memᴰ.tail h.1, h.2)

  pub each-has : (f : A → List B) (y : B) {x : A} {l : List A} → Memᴰ x l → Memᴰ y (f x) → Memᴰ y (each l f)
  unfolding each
  each-has f y (Memᴰ.head {xs = xs} e) k = Memᴰ.append_left (each xs f) (subst (λ (z : A). Memᴰ y (f z)) e k)
  each-has f y (Memᴰ.tail {x = z} m) k = Memᴰ.append_right (f z) (each-has f y m k)
