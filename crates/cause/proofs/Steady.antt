-- Two lists, of all pairs and of some, and whether each has an entry that passes: the entry is of a rule of theirs or not, the same for
-- both, and where it is, a further test of each decides. What the words of the definitions do to that.
use Prim.Native.Nat.{ℕ, suc}
use mathlib.Core.Path.{◌≡◌, refl, sym, ap, ◌∙◌}
use mathlib.Core.Bool.{Bool, true, false, ◌&&◌, ◌||◌, cond, true≢false}
use mathlib.Core.List.{List, [], ◌∷◌, ◌++◌}
use Rattle.std.specs.Prelude.{Option, None, Some, slice_get}
use Rattle.words.specs.Words.{◌>>=◌, each, when, unless, any_of}
use Rattle.words.proofs.All.{All, nil, cons}
use Rattle.parts.specs.Parts.{chosen, holds}

-- ---- a test of any, under the words
module _ {A : Type 0} (t : A → Bool) where
  or_assoc : (a b c : Bool) → a || (b || c) ≡ (a || b) || c
  or_assoc true b c = refl
  or_assoc false b c = refl

  pub any-append : (l m : List A) → any_of t (l ++ m) ≡ any_of t l || any_of t m
  unfolding any_of
  any-append [] m = refl
  any-append (x ∷ l) m = ap (λ (b : Bool). t x || b) (any-append l m) ∙ or_assoc (t x) (any_of t l) (any_of t m)

  or_false : (a : Bool) → a || false ≡ a
  or_false true = refl
  or_false false = refl

  pub any-when : (b : Bool) (e : A) → any_of t (when b e) ≡ b && t e
  unfolding any_of when
  any-when true e = or_false (t e)
  any-when false e = refl

-- ---- tests
never : {W : Type 0} → false ≡ true → W
never e = absurd (true≢false (sym e))

either : (a b p x y : Bool) → x ≡ a && p → y ≡ b && p → x || y ≡ (a || b) && p
either true true true x y e h = ap (λ (z : Bool). z || y) e
either true true false x y e h = ap (λ (z : Bool). z || y) e ∙ h
either true false true x y e h = ap (λ (z : Bool). z || y) e
either true false false x y e h = ap (λ (z : Bool). z || y) e ∙ h
either false true p x y e h = ap (λ (z : Bool). z || y) e ∙ h
either false false p x y e h = ap (λ (z : Bool). z || y) e ∙ h

of_either : {W : Type 0} (a b : Bool) → (a ≡ true → W) → (b ≡ true → W) → a || b ≡ true → W
of_either true b f g e = f refl
of_either false b f g e = g e

-- W: what is so where the entry is of a rule of theirs
pub record Steady {A : Type 0} (t : A → Bool) (bp bq : Bool) (W : Type 0) (l m : List A) : Type 0 where
  pub has : Bool
  pub first : any_of t l ≡ has && bp
  pub second : any_of t m ≡ has && bq
  pub whose : has ≡ true → W

module _ {A : Type 0} {t : A → Bool} {bp bq : Bool} {W : Type 0} where
  pub steady_none : Steady t bp bq W [] []
  unfolding any_of
  steady_none = record { has = false; first = refl; second = refl; whose = never }

  pub steady_join : {l l' m m' : List A} → Steady t bp bq W l m → Steady t bp bq W l' m' → Steady t bp bq W (l ++ l') (m ++ m')
  steady_join {l} {l'} {m} {m'} h k = record {
    has = h.has || k.has;
    first = any-append t l l' ∙ either h.has k.has bp (any_of t l) (any_of t l') h.first k.first;
    second = any-append t m m' ∙ either h.has k.has bq (any_of t m) (any_of t m') h.second k.second;
    whose = of_either h.has k.has h.whose k.whose;
  }

  -- an entry where b and the further test hold, about which only what decides is alike
  pub steady_test : (b tp tq : Bool) (e e' : A) → t e ≡ t e' → (t e ≡ true → tp ≡ bp) → (t e' ≡ true → tq ≡ bq) → (t e ≡ true → W)
      → Steady t bp bq W (when (b && tp) e) (when (b && tq) e')
  steady_test b tp tq e e' same hp hq w = record {
    has = b && t e;
    first = any-when t (b && tp) e ∙ decided b tp bp (t e) hp;
    second =
        any-when t (b && tq) e' ∙ decided b tq bq (t e') hq ∙ ap (λ (a : Bool). (b && a) && bq) (sym same);
    whose = of_both b (t e) w;
  }
    where
      decided : (b u p a : Bool) → (a ≡ true → u ≡ p) → (b && u) && a ≡ (b && a) && p
      decided false u p a h = refl
      decided true true true true h = refl
      decided true true false true h = h refl
      decided true false true true h = h refl
      decided true false false true h = refl
      decided true true p false h = refl
      decided true false p false h = refl

      of_both : (b a : Bool) → (a ≡ true → W) → b && a ≡ true → W
      of_both true a f e = f e
      of_both false a f e = never e

  -- an entry that nothing else decides
  pub steady_alone : (b : Bool) (e : A) → (t e ≡ true → true ≡ bp) → (t e ≡ true → true ≡ bq) → (t e ≡ true → W)
      → Steady t bp bq W (when b e) (when b e)
  steady_alone true e hp hq w = steady_test true true true e e refl hp hq w
  steady_alone false e hp hq w = steady_test false true true e e refl hp hq w

  pub steady_unless : (b : Bool) {l m : List A} → Steady t bp bq W l m → Steady t bp bq W (unless b l) (unless b m)
  unfolding unless
  steady_unless true h = steady_none
  steady_unless false h = h

  pub steady_cond : (b : Bool) {l l' m m' : List A} → Steady t bp bq W l m → Steady t bp bq W l' m'
      → Steady t bp bq W (cond b l l') (cond b m m')
  steady_cond true h k = h
  steady_cond false h k = k

  module _ {I : Type 0} where
    pub steady_bind : (o : Option I) {f g : I → List A} → ((x : I) → o ≡ Some x → Steady t bp bq W (f x) (g x))
        → Steady t bp bq W (◌>>=◌ o f) (◌>>=◌ o g)
    unfolding ◌>>=◌
    steady_bind None h = steady_none
    steady_bind (Some x) h = h x refl

    pub steady_each : {Q : I → Type 0} {l : List I} → All Q l → {f g : I → List A} → ((x : I) → Q x → Steady t bp bq W (f x) (g x))
        → Steady t bp bq W (each l f) (each l g)
    unfolding each
    steady_each nil h = steady_none
    steady_each (cons {x} q k) h = steady_join (h x q) (steady_each k h)

-- ---- of all pairs, and of those of a set, where the pair that an entry is about is in the set
module _ {A : Type 0} {t : A → Bool} {bp bq : Bool} {W : Type 0} where
  steady_in : {K : Type 0} {l m : List A} → Steady t bp bq (K × W) l m → Steady t bp bq W l m
  steady_in h = record { has = h.has; first = h.first; second = h.second; whose = λ e. (h.whose e).1 }

  -- a list of a pair that is not in the set has no entry that passes
  steady_off : {l' l m m' : List A} → Steady t bp bq ((false ≡ true) × W) l' m' → Steady t bp bq W l m → Steady t bp bq W (l' ++ l) m
  steady_off {l'} {l} h k = record {
    has = k.has;
    first = any-append t l' l ∙ ap (λ (b : Bool). b || any_of t l) (h.first ∙ out h.has h.whose) ∙ k.first;
    second = k.second;
    whose = k.whose;
  }
    where
      out : (b : Bool) → (b ≡ true → (false ≡ true) × W) → b && bp ≡ false
      out true f = never (f refl).0
      out false f = refl

  pub steady_chosen : {I : Type 0} (s : List Bool) (l : List I) (f g : I → List A)
      → ((i : ℕ) (p : I) → slice_get l i ≡ Some p → Steady t bp bq ((holds s i ≡ true) × W) (f p) (g p))
      → Steady t bp bq W (each l f) (each (chosen s l) g)
  unfolding each chosen
  steady_chosen [] [] f g h = steady_none
  steady_chosen (b ∷ s) [] f g h = steady_none
  steady_chosen [] (p ∷ l) f g h = steady_off (h 0 p refl) (steady_chosen [] l f g (λ i q e. h (suc i) q e))
  steady_chosen {I} (b ∷ s) (p ∷ l) f g h = go b (h 0 p refl) (steady_chosen s l f g (λ i q e. h (suc i) q e))
    where
      go : (b : Bool) → Steady t bp bq ((b ≡ true) × W) (f p) (g p) → Steady t bp bq W (each l f) (each (chosen s l) g)
          → Steady t bp bq W (f p ++ each l f) (each (cond b (p ∷ chosen s l) (chosen s l)) g)
      go true k m = steady_join (steady_in k) m
      go false k m = steady_off k m
