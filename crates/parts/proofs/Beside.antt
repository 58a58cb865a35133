-- Two lists whose elements stand in a relation one by one, and what the words of the definitions do to that; the words over a list whose
-- elements are changed by a function. By induction on the lists.
use Prim.Native.Nat.{ℕ, ◌+◌}
use mathlib.Core.Path.{◌≡◌, refl, sym, ap, ap₂, ◌∙◌, subst}
use mathlib.Core.Bool.{Bool, true, false, ◌||◌, ◌&&◌, cond}
use mathlib.Core.List.{List, [], ◌∷◌, ◌++◌, map, foldl, Memᴰ}
use Rattle.std.specs.Prelude.{Option, None, Some}
use lib.Dec.{ltb}
use lib.ListN.{length, length-map}
use Rattle.words.specs.Words.{◌>>=◌, each, when, when_above, unless, only, count_of, sum_of, any_of}

pub data Beside {A B : Type 0} (R : A → B → Type 0) : List A → List B → Type 0 where
  nil : Beside R [] []
  cons : {a : A} {b : B} {l : List A} {m : List B} → R a b → Beside R l m → Beside R (a ∷ l) (b ∷ m)

module _ {A B : Type 0} {R : A → B → Type 0} where
  pub beside_join : {l l' : List A} {m m' : List B} → Beside R l m → Beside R l' m' → Beside R (l ++ l') (m ++ m')
  beside_join nil k = k
  beside_join (cons r h) k = cons r (beside_join h k)

  pub beside_when : (b b' : Bool) (e : A) (e' : B) → b ≡ b' → R e e' → Beside R (when b e) (when b' e')
  unfolding when
  beside_when b b' e e' q r = subst (λ (c : Bool). Beside R (cond b (e ∷ []) []) (cond c (e' ∷ []) [])) q (go b)
    where
      go : (c : Bool) → Beside R (cond c (e ∷ []) []) (cond c (e' ∷ []) [])
      go true = cons r nil
      go false = nil

  pub beside_above : (b b' : Bool) (n m limit : ℕ) (e : ℕ → A) (e' : ℕ → B) → b ≡ b' → n ≡ m → ((k : ℕ) → R (e k) (e' k))
      → Beside R (when_above b n limit e) (when_above b' m limit e')
  unfolding when_above
  beside_above b b' n m limit e e' q h r =
      subst (λ (k : ℕ). Beside R (when_above b n limit e) (when_above b' k limit e')) h
      (beside_when _ _ (e n) (e' n) (ap (λ (c : Bool). c && ltb limit n) q) (r n))

  pub beside_unless : (b : Bool) {l : List A} {m : List B} → Beside R l m → Beside R (unless b l) (unless b m)
  unfolding unless
  beside_unless true h = nil
  beside_unless false h = h

  pub beside_cond : (b : Bool) {l l' : List A} {m m' : List B} → Beside R l m → Beside R l' m' → Beside R (cond b l l') (cond b m m')
  beside_cond true h k = h
  beside_cond false h k = k

  module _ {I : Type 0} where
    pub beside_bind : (o : Option I) {f : I → List A} {g : I → List B} → ((x : I) → Beside R (f x) (g x)) → Beside R (◌>>=◌ o f) (◌>>=◌ o g)
    unfolding ◌>>=◌
    beside_bind None h = nil
    beside_bind (Some x) h = h x

    pub beside_each : (l : List I) {f : I → List A} {g : I → List B} → ((x : I) → Beside R (f x) (g x)) → Beside R (each l f) (each l g)
    unfolding each
    beside_each [] h = nil
    beside_each (x ∷ l) h = beside_join (h x) (beside_each l h)

  -- of a list, and of the same list changed
  pub beside_map : {I J : Type 0} (c : I → J) (l : List I) (f : I → List A) (g : J → List B) → ((x : I) → Memᴰ x l → Beside R (f x) (g (c x)))
      → Beside R (each l f) (each (map c l) g)
  unfolding each
  beside_map c [] f g h = nil
  beside_map c (x ∷ l) f g h = beside_join (h x (Memᴰ.head refl)) (beside_map c l f g (λ y m. h y (Memᴰ.tail m)))

  pub beside_any : (t : A → Bool) (u : B → Bool) → ((a : A) (b : B) → R a b → t a ≡ u b) → {l : List A} {m : List B} → Beside R l m → any_of t l ≡ any_of u m
  unfolding any_of
  beside_any t u h nil = refl
  beside_any t u h (cons {a} {b} r k) = ap₂ (λ (p q : Bool). p || q) (h a b r) (beside_any t u h k)

-- ---- a list changed by a function
module _ {A B : Type 0} (c : A → B) where
  pub any-map : (t : A → Bool) (u : B → Bool) (l : List A) → ((x : A) → Memᴰ x l → t x ≡ u (c x)) → any_of t l ≡ any_of u (map c l)
  unfolding any_of
  any-map t u [] h = refl
  any-map t u (x ∷ l) h = ap₂ (λ (p q : Bool). p || q) (h x (Memᴰ.head refl)) (any-map t u l (λ y m. h y (Memᴰ.tail m)))

  pub only-map : (t : A → Bool) (u : B → Bool) → ((x : A) → t x ≡ u (c x)) → (l : List A) → only u (map c l) ≡ map c (only t l)
  unfolding only
  only-map t u h [] = refl
  only-map t u h (x ∷ l) = ap (λ (b : Bool). cond b (c x ∷ only u (map c l)) (only u (map c l))) (sym (h x)) ∙ go (t x) (only-map t u h l)
    where
      go : (b : Bool) → only u (map c l) ≡ map c (only t l)
          → cond b (c x ∷ only u (map c l)) (only u (map c l)) ≡ map c (cond b (x ∷ only t l) (only t l))
      go true e = ap (λ (m : List B). c x ∷ m) e
      go false e = e

  pub count_map : (t : A → Bool) (u : B → Bool) → ((x : A) → t x ≡ u (c x)) → (l : List A) → count_of u (map c l) ≡ count_of t l
  unfolding count_of
  count_map t u h l = ap (λ (m : List B). length m) (only-map t u h l) ∙ length-map (only t l) c

  pub sum_map : (f : A → ℕ) (g : B → ℕ) → ((x : A) → f x ≡ g (c x)) → (l : List A) → sum_of f l ≡ sum_of g (map c l)
  unfolding sum_of
  sum_map f g h [] = refl
  sum_map f g h (x ∷ l) = ap₂ (λ (p q : ℕ). p + q) (h x) (sum_map f g h l)

  pub fold_map : {S : Type 0} (f : S → A → S) (g : S → B → S) → ((s : S) (x : A) → f s x ≡ g s (c x)) → (s : S) (l : List A)
      → foldl f s l ≡ foldl g s (map c l)
  fold_map f g h s [] = refl
  fold_map {S} f g h s (x ∷ l) = ap (λ (r : S). foldl f r l) (h s x) ∙ fold_map f g h (g s (c x)) l
