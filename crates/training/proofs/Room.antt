-- How many skills are listed after all turns: at most those that were, and each wanted one that lacked and was not listed.
use Prim.Native.Nat.{ℕ, zero, suc, ◌+◌, ◌-◌, ◌≤◌, ◌<◌}
use native.Mathlib.Omega.{arith}
use mathlib.Core.Path.{◌≡◌, refl, sym, ap, ap₂, ◌∙◌}
use mathlib.Core.Bool.{Bool, true, false, not, ◌&&◌, ◌||◌, cond, true≢false}
use mathlib.Core.List.{List, [], ◌∷◌}
use lib.Dec.{ltb}
use lib.Signed.{lt_z}
use lib.ListN.{length}
use borrow.Author.Tests.{lt-ltb, ltb-true, not-true}
use Rattle.words.specs.Words.{only, count_of, any_of, in_order, same, contains}
use Rattle.words.proofs.Elements.{or_left, or_right}
use Rattle.catalogue.specs.Catalogue.{Id}
use Rattle.skill.specs.Skill.{Demand}
use Rattle.training.specs.Training.{Training, behind, raised}
use Rattle.training.specs.Turns.{level_of, gain, portion, turns, is_new, Listed}
use Rattle.training.proofs.Raising.{same-sym, order-tail, under-unlisted, gain-listed, gain-more_or_same}

-- a raised skill that was listed makes none more, another one more
raised-size : (is : List Id) (ls : List ℕ) (t : Id) (k : ℕ) → in_order lt_z is ≡ true → length (raised is ls t k).ids ≤ length is + cond (contains t is) 0 1
unfolding raised contains any_of
raised-size [] ls t k o = omega arith
raised-size (i ∷ is) [] t k o = omega arith
raised-size (i ∷ is) (l ∷ ls) t k o = go (same i t) refl (lt_z t i) refl (raised-size is ls t k (order-tail i is o))
  where
    go : (x : Bool) → same i t ≡ x → (y : Bool) → lt_z t i ≡ y → length (raised is ls t k).ids ≤ length is + cond (any_of (same t) is) 0 1
        → (let s = cond x (record { ids = i ∷ is; levels = (l + k) ∷ ls }) (cond y (record { ids = t ∷ i ∷ is; levels = k ∷ l ∷ ls }) (behind i l (raised is ls t k))) in
        length s.ids ≤ suc (length is) + cond (same t i || any_of (same t) is) 0 1)
    go true e y f r = omega arith
    go false e true f r =
        let q : ◌≡◌ {A = ℕ} (cond (same t i || any_of (same t) is) 0 1) 1 = ap (λ (b : Bool). cond b 0 1) (under-unlisted i is t o f) in
        omega (arith, q)
    go false e false f r =
        let q : ◌≡◌ {A = ℕ} (cond (same t i || any_of (same t) is) 0 1) (cond (any_of (same t) is) 0 1) = ap (λ (b : Bool). cond (b || any_of (same t) is) 0 1) (same-sym t i ∙ e) in
        omega (arith, q, r)

-- who was listed still is
raised_keeps : (is : List Id) (ls : List ℕ) (t : Id) (k : ℕ) (u : Id) → contains u (raised is ls t k).ids ≡ false → contains u is ≡ false
unfolding raised contains any_of
raised_keeps [] ls t k u h = refl
raised_keeps (i ∷ is) [] t k u h = h
raised_keeps (i ∷ is) (l ∷ ls) t k u h = go (same i t) (lt_z t i) h (raised_keeps is ls t k u)
  where
    go : (x y : Bool)
        → any_of (same u) (cond x (record { ids = i ∷ is; levels = (l + k) ∷ ls }) (cond y (record { ids = t ∷ i ∷ is; levels = k ∷ l ∷ ls }) (behind i l (raised is ls t k)))).ids ≡ false
        → (any_of (same u) (raised is ls t k).ids ≡ false → any_of (same u) is ≡ false)
        → same u i || any_of (same u) is ≡ false
    go true y q r = q
    go false true q r = or_right (same u t) (same u i || any_of (same u) is) q
    go false false q r =
        let a = or_left (same u i) (any_of (same u) (raised is ls t k).ids) q in
        let b = r (or_right (same u i) (any_of (same u) (raised is ls t k).ids) q) in
        ap₂ (λ (x y : Bool). x || y) a b

gain-size : (s : Training) (t : Id) (k : ℕ) → Listed s → length (gain s t k).ids ≤ length s.ids + cond (contains t s.ids) 0 1
unfolding gain
gain-size s t zero g = omega arith
gain-size s t (suc k) g = raised-size s.ids s.levels t (suc k) g.order

gain-keeps : (s : Training) (t : Id) (k : ℕ) (u : Id) → contains u (gain s t k).ids ≡ false → contains u s.ids ≡ false
unfolding gain
gain-keeps s t zero u h = h
gain-keeps s t (suc k) u h = raised_keeps s.ids s.levels t (suc k) u h

pub and_true : (a b : Bool) → a && b ≡ true → (a ≡ true) × (b ≡ true)
and_true true b q = (refl, q)
and_true false b q = absurd (true≢false (sym q))

-- who is new after a turn was new before it
new-before : (s : Training) (t : Id) (k : ℕ) (w : Demand) → Listed s → is_new (gain s t k) w ≡ true → is_new s w ≡ true
new-before s t k w g h =
    let p = and_true (ltb (level_of (gain s t k) w.0) w.1) (not (contains w.0 (gain s t k).ids)) h in
    let l = ltb-true (level_of (gain s t k) w.0) w.1 p.0 in
    let a = lt-ltb (level_of s w.0) w.1 (omega (arith, l, gain-more_or_same s t k w.0 g)) in
    let b = gain-keeps s t k w.0 (not-true (contains w.0 (gain s t k).ids) p.1) in
    ap₂ (λ (x y : Bool). x && not y) a b

count-fewer : {A : Type 0} (p q : A → Bool) → ((x : A) → p x ≡ true → q x ≡ true) → (l : List A) → count_of p l ≤ count_of q l
unfolding count_of only
count-fewer p q h [] = omega arith
count-fewer p q h (x ∷ l) = go (p x) (q x) (h x) (count-fewer p q h l)
  where
    go : (a b : Bool) → (a ≡ true → b ≡ true) → length (only p l) ≤ length (only q l)
        → length (cond a (x ∷ only p l) (only p l)) ≤ length (cond b (x ∷ only q l) (only q l))
    go true true f r = omega (arith, r)
    go true false f r = absurd (true≢false (sym (f refl)))
    go false true f r = omega (arith, r)
    go false false f r = r

count_head : (s : Training) (w : Demand) (ws : List Demand) → count_of (is_new s) (w ∷ ws) ≡ cond (is_new s w) 1 0 + count_of (is_new s) ws
unfolding count_of only
count_head s w ws = go (is_new s w)
  where
    go : (b : Bool) → length (cond b (w ∷ only (is_new s) ws) (only (is_new s) ws)) ≡ cond b 1 0 + length (only (is_new s) ws)
    go true = omega arith
    go false = omega arith

-- a turn lists one more at most, and only who is new
turn-size : (s : Training) (k : ℕ) (w : Demand) → Listed s → length (gain s w.0 (portion s k w)).ids ≤ length s.ids + cond (is_new s w) 1 0
turn-size s k w g = go (portion s k w) refl (contains w.0 s.ids) refl
  where
    go : (p : ℕ) → portion s k w ≡ p → (b : Bool) → contains w.0 s.ids ≡ b → length (gain s w.0 p).ids ≤ length s.ids + cond (is_new s w) 1 0
    go zero e b q = unfold gain in omega arith
    go (suc p) e true q =
        let a = gain-size s w.0 (suc p) g in
        let n : ◌≡◌ {A = ℕ} (cond (contains w.0 s.ids) 0 1) 0 = ap (λ (x : Bool). cond x 0 1) q in
        omega (arith, a, n)
    go (suc p) e false q =
        let a = gain-size s w.0 (suc p) g in
        let n : ◌≡◌ {A = ℕ} (cond (contains w.0 s.ids) 0 1) 1 = ap (λ (x : Bool). cond x 0 1) q in
        let l : level_of s w.0 < w.1 = omega (arith, e) in
        let m : ◌≡◌ {A = ℕ} (cond (is_new s w) 1 0) 1 = ap₂ (λ (x y : Bool). cond (x && not y) 1 0) (lt-ltb (level_of s w.0) w.1 l) q in
        omega (arith, a, n, m)

pub turns-size : (ws : List Demand) (s : Training) (k : ℕ) → Listed s → length (turns s k ws).0.ids ≤ length s.ids + count_of (is_new s) ws
turns-size [] s k g = unfold turns in omega arith
turns-size (w ∷ ws) s k g =
    let p = portion s k w in
    let s' = gain s w.0 p in
    let r = turns-size ws s' (k - p) (gain-listed s w.0 p g) in
    let a = turn-size s k w g in
    let b = count-fewer (is_new s') (is_new s) (λ x. new-before s w.0 p x g) ws in
    let c = count_head s w ws in
    let d : turns s k (w ∷ ws) ≡ turns s' (k - p) ws = unfold turns in refl in
    omega (arith, r, a, b, c, ap (λ (x : Training × ℕ). length x.0.ids) d)
