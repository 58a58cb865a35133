-- Whether another pair sits in a slot, told by how many do: the pair itself is one of them.
use Prim.Native.Nat.{ℕ, ◌+◌, ◌-◌, ◌<◌, ◌≤◌, min}
use native.Mathlib.Nat.{eq-or-lt_of_le, ne_of_lt}
use native.Mathlib.Omega.{arith}
use mathlib.Core.Path.{◌≡◌, refl, sym, ap, subst, ◌∙◌}
use mathlib.Core.Bool.{Bool, true, false, not, ◌&&◌, ◌||◌, cond}
use mathlib.Core.List.{List}
use mathlib.Core.Logic.{⊎_elim}
use mir.Val.{bool_byte}
use lib.Dec.{eqb, ltb}
use lib.ListN.{length, get_or, set}
use lib.Seq.{get_or-set_same, get_or-set_other}
use borrow.Author.Tests.{eqb-true, eqb-false, ltb-true, ltb-false, eq-eqb, ne_eqb, lt-ltb, le-ltb}
use Rattle.words.specs.Words.{table, any_of}
use Rattle.words.proofs.Tables.{any-more}
use Rattle.fit.specs.Fit.{item_at}
use Rattle.context.specs.Context.{Pair, is_other}
use Rattle.context.specs.Gathered.{pair_at}
use Rattle.slot.specs.Slot.{shares_slot}
use Rattle.slot.specs.AtPair.{Sits, Placed}

-- the same slot and the same index
pub sits_as : {s i t j place : ℕ} → s ≡ t → i ≡ j → Sits s i place → Sits t j place
sits_as p q h = record { number = rw (p, q) at h.number; small = rw q at h.small }

-- one place more
pub placed_next : (fit places : List ℕ) (i : ℕ) {place : ℕ} → i < length places → Placed i fit places
    → Sits (item_at fit i).slot (item_at fit i).index place
    → Placed (i + 1) fit (set places i place)
placed_next fit places i {place} h f s k q = ⊎_elim here before (eq-or-lt_of_le (omega (arith, q)))
  where
    At : ℕ → ℕ → Type 0
    At j = Sits (item_at fit j).slot (item_at fit j).index

    here : k ≡ i → At k (get_or (set places i place) k 0)
    here e = subst (λ (j : ℕ). At j (get_or (set places i place) j 0)) (sym e) (subst (At i) (sym (get_or-set_same places i place 0 h)) s)

    before : k < i → At k (get_or (set places i place) k 0)
    before g = subst (At k) (sym (get_or-set_other places i k place 0 (ne_of_lt g))) (f k g)

-- two numbers are the same where slots and indices are
pub sits_same : {s i a t j b : ℕ} → Sits s i a → Sits t j b → eqb a b ≡ eqb s t && eqb i j
sits_same {s} {i} {a} {t} {j} {b} x y = go (eqb s t) (eqb i j) refl refl
  where
    go : (u v : Bool) → eqb s t ≡ u → eqb i j ≡ v → eqb a b ≡ u && v
    go true true p q = eq-eqb a b (omega (arith, x.number, y.number, eqb-true s t p, eqb-true i j q))
    go true false p q = ne_eqb a b (λ e. eqb-false i j q (omega (arith, x.number, y.number, eqb-true s t p, e)))
    go false true p q = ne_eqb a b (λ e. eqb-false s t p (omega (arith, x.number, y.number, x.small, y.small, e)))
    go false false p q = ne_eqb a b (λ e. eqb-false s t p (omega (arith, x.number, y.number, x.small, y.small, e)))

-- what a test adds to a count
pub byte-cond : (b : Bool) → bool_byte b ≡ cond b 1 0
byte-cond true = refl
byte-cond false = refl

pub byte-le : (b : Bool) → bool_byte b ≤ 1
byte-le true = omega arith
byte-le false = omega arith

-- of the first j things, `there` pass a test, which that at `at` does: is there another?
pub record Told (at j there : ℕ) (any : Bool) : Type 0 where
  pub own : min 1 (j - at) ≤ there
  pub other : ltb (min 1 (j - at)) there ≡ any

pub told_none : (at : ℕ) {any : Bool} → any ≡ false → Told at 0 0 any
told_none at e = record { own = omega arith; other = le-ltb (min 1 (0 - at)) 0 (omega arith) ∙ sym e }

-- one thing more
pub told-next : {at j there k : ℕ} {any b : Bool} → (j ≡ at → b ≡ true) → k ≡ cond b 1 0 → Told at j there any
    → Told at (j + 1) (there + k) (any || (not (eqb j at) && b))
told-next {at} {j} {there} {k} {any} {b} passes e h = go any b (eqb j at) refl h.other refl
  where
    one : b ≡ true → k ≡ 1
    one p = e ∙ ap (λ (x : Bool). cond x 1 0) p

    None : b ≡ false → k ≡ 0
    None p = e ∙ ap (λ (x : Bool). cond x 1 0) p

    told : (y : Bool) → min 1 (j + 1 - at) ≤ there + k → ltb (min 1 (j + 1 - at)) (there + k) ≡ y → Told at (j + 1) (there + k) y
    told y p q = record { own = p; other = q }

    yes : min 1 (j + 1 - at) < there + k → Told at (j + 1) (there + k) true
    yes p = told true (omega (arith, p)) (lt-ltb (min 1 (j + 1 - at)) (there + k) p)

    no : min 1 (j + 1 - at) ≡ there + k → Told at (j + 1) (there + k) false
    no p = told false (omega (arith, p)) (le-ltb (min 1 (j + 1 - at)) (there + k) (omega (arith, p)))

    go : (y z w : Bool) → b ≡ z → ltb (min 1 (j - at)) there ≡ y → eqb j at ≡ w → Told at (j + 1) (there + k) (y || (not w && z))
    go true true true p q r = yes (omega (arith, one p, ltb-true (min 1 (j - at)) there q, eqb-true j at r))
    go true false true p q r = yes (omega (arith, one (passes (eqb-true j at r)), ltb-true (min 1 (j - at)) there q, eqb-true j at r))
    go false true true p q r = no (omega (arith, h.own, one p, ltb-false (min 1 (j - at)) there q, eqb-true j at r))
    go false false true p q r = no (omega (arith, h.own, one (passes (eqb-true j at r)), ltb-false (min 1 (j - at)) there q, eqb-true j at r))
    go true true false p q r = yes (omega (arith, h.own, one p, eqb-false j at r))
    go true false false p q r = yes (omega (arith, ltb-true (min 1 (j - at)) there q, None p, eqb-false j at r))
    go false true false p q r = yes (omega (arith, h.own, one p, eqb-false j at r))
    go false false false p q r = no (omega (arith, h.own, ltb-false (min 1 (j - at)) there q, None p, eqb-false j at r))

-- all things passed
pub told-all : {at n there : ℕ} {any : Bool} → at < n → Told at n there any → ltb 1 there ≡ any
told-all {at} {n} {there} l h =
    let e : min 1 (n - at) ≡ 1 = omega (arith, l) in
    ap (λ (m : ℕ). ltb m there) (sym e) ∙ h.other

-- ---- the pairs of a fit
-- a pair sits where another does
abbrev alike : Pair → Pair → Bool
alike p o = eqb o.slot p.slot && eqb o.index p.index

self : (p : Pair) → alike p p ≡ true
self p = rw (eq-eqb p.slot p.slot refl, eq-eqb p.index p.index refl)

module _ (catalogue fit : List ℕ) (i j : ℕ) where
  abbrev pair : ℕ → Pair
  pair = pair_at catalogue fit

  -- whether another of the first n shares the slot of pair i
  abbrev shared : ℕ → Bool
  shared n = any_of (shares_slot (pair i)) (table n pair)

  shares_is : not (eqb j i) && alike (pair i) (pair j) ≡ shares_slot (pair i) (pair j)
  unfolding shares_slot is_other
  shares_is = refl

  -- one pair more
  pub shares_next : {place a there k : ℕ} → Sits (pair i).slot (pair i).index place → Sits (pair j).slot (pair j).index a
      → k ≡ cond (eqb a place) 1 0 → Told i j there (shared j) → Told i (j + 1) (there + k) (shared (j + 1))
  shares_next {place} {a} {there} {k} s o e h =
      let b = sits_same o s in
      let told = told-next {at = i} {j = j} (λ q. b ∙ ap (λ (m : ℕ). alike (pair i) (pair m)) q ∙ self (pair i)) e h in
      record {
        own = told.own;
        other = told.other
            ∙ ap (λ (y : Bool). shared j || (not (eqb j i) && y)) b
            ∙ ap (λ (y : Bool). shared j || y) shares_is
            ∙ sym (any-more (shares_slot (pair i)) j pair);
      }
