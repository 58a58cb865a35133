-- A level raised: its own skill has that many more, every other what it had, and the listed skills stay in order. By induction on them.
use Prim.Native.Nat.{ℕ, zero, suc, ◌+◌, ◌≤◌, ◌<◌}
use native.Mathlib.Nat.{lt_trans}
use native.Mathlib.Omega.{arith}
use mathlib.Core.Path.{◌≡◌, refl, sym, ap, ◌∙◌, subst}
use mathlib.Core.Bool.{Bool, true, false, ◌&&◌, ◌||◌, cond, true≢false}
use mathlib.Core.List.{List, [], ◌∷◌}
use lib.Signed.{lt_z}
use lib.IntN.{ℤ, pos, negsuc}
use lib.ListN.{length}
use borrow.Author.Tests.{lt-ltb, ltb-true, ltb-false, eqb-false, ne_eqb}
use Rattle.words.specs.Words.{in_order, same, contains, any_of}
use Rattle.words.proofs.Sames.{same_refl, same-eq}
use Rattle.catalogue.specs.Catalogue.{Id}
use Rattle.fit.specs.Lookups.{trained}
use Rattle.training.specs.Training.{Training, behind, raised}
use Rattle.training.specs.Turns.{level_of, gain, Listed}

-- ---- the order of ids
pub lt-lt : (a b c : ℤ) → lt_z a b ≡ true → lt_z b c ≡ true → lt_z a c ≡ true
lt-lt (pos a) (pos b) (pos c) p q = lt-ltb a c (lt_trans (ltb-true a b p) (ltb-true b c q))
lt-lt (pos a) (pos b) (negsuc c) p q = q
lt-lt (pos a) (negsuc b) c p q = absurd (true≢false (sym p))
lt-lt (negsuc a) (pos b) (pos c) p q = refl
lt-lt (negsuc a) (pos b) (negsuc c) p q = absurd (true≢false (sym q))
lt-lt (negsuc a) (negsuc b) (pos c) p q = refl
lt-lt (negsuc a) (negsuc b) (negsuc c) p q = lt-ltb c a (lt_trans (ltb-true c b q) (ltb-true b a p))

pub same-sym : (a b : ℤ) → same a b ≡ same b a
same-sym a b = go (same a b) refl (same b a) refl
  where
    go : (x : Bool) → same a b ≡ x → (y : Bool) → same b a ≡ y → x ≡ y
    go true p true q = refl
    go true p false q = absurd (true≢false (sym (subst (λ (z : ℤ). same z a ≡ true) (same-eq a b p) (same_refl a)) ∙ q))
    go false p true q = absurd (true≢false (sym (subst (λ (z : ℤ). same z b ≡ true) (same-eq b a q) (same_refl b)) ∙ p))
    go false p false q = refl

-- one that is under another is not that one
pub under-other : (a b : ℤ) → lt_z a b ≡ true → same b a ≡ false
unfolding same
under-other (pos a) (pos b) p = ne_eqb b a (λ e. omega (arith, e, ltb-true a b p))
under-other (pos a) (negsuc b) p = refl
under-other (negsuc a) (pos b) p = refl
under-other (negsuc a) (negsuc b) p = ne_eqb b a (λ e. omega (arith, e, ltb-true b a p))

-- one that is neither that one nor above it is under it
pub other_under : (a b : ℤ) → same a b ≡ false → lt_z b a ≡ false → lt_z a b ≡ true
unfolding same
other_under (pos a) (pos b) p q = let h = eqb-false a b p in lt-ltb a b (strict a b (ltb-false b a q) h)
  where
    strict : (x y : ℕ) → x ≤ y → (x ≡ y → ⊥) → x < y
    strict x y l n = omega (arith, l, n)
other_under (pos a) (negsuc b) p q = absurd (true≢false q)
other_under (negsuc a) (pos b) p q = refl
other_under (negsuc a) (negsuc b) p q = let h = eqb-false a b p in lt-ltb b a (strict b a (ltb-false a b q) (λ e. h (sym e)))
  where
    strict : (x y : ℕ) → x ≤ y → (x ≡ y → ⊥) → x < y
    strict x y l n = omega (arith, l, n)

-- ---- raised twice is raised once by both
pub raised-more : (is : List Id) (ls : List ℕ) (t : Id) (k m : ℕ)
    → raised (raised is ls t k).ids (raised is ls t k).levels t m ≡ raised is ls t (k + m)
unfolding raised
raised-more [] ls t k m =
    ap (λ (b : Bool). cond b (record { ids = t ∷ []; levels = (k + m) ∷ [] }) (cond (lt_z t t) (record { ids = t ∷ t ∷ []; levels = m ∷ k ∷ [] }) (behind t k (record { ids = t ∷ []; levels = m ∷ [] })))) (same_refl t)
raised-more (i ∷ is) [] t k m = refl
raised-more (i ∷ is) (l ∷ ls) t k m = go (same i t) refl (lt_z t i) refl (raised-more is ls t k m)
  where
    own : raised (t ∷ i ∷ is) (k ∷ l ∷ ls) t m ≡ record { ids = t ∷ i ∷ is; levels = (k + m) ∷ l ∷ ls }
    own = rw (same_refl t) refl

    go : (x : Bool) → same i t ≡ x → (y : Bool) → lt_z t i ≡ y
        → raised (raised is ls t k).ids (raised is ls t k).levels t m ≡ raised is ls t (k + m)
        → (let s = cond x (record { ids = i ∷ is; levels = (l + k) ∷ ls }) (cond y (record { ids = t ∷ i ∷ is; levels = k ∷ l ∷ ls }) (behind i l (raised is ls t k))) in
        raised s.ids s.levels t m ≡ cond x (record { ids = i ∷ is; levels = (l + (k + m)) ∷ ls }) (cond y (record { ids = t ∷ i ∷ is; levels = (k + m) ∷ l ∷ ls }) (behind i l (raised is ls t (k + m)))))
    go true e y f r = let q : l + k + m ≡ l + (k + m) = omega arith in rw (e, q) refl
    go false e true f r = own
    go false e false f r = rw (e, f) (ap (behind i l) r)

pub gain-more : (s : Training) (t : Id) (k : ℕ) → gain (raised s.ids s.levels t 1) t k ≡ raised s.ids s.levels t (suc k)
unfolding gain
gain-more s t zero = refl
gain-more s t (suc k) = let q : 1 + suc k ≡ suc (suc k) = omega arith in raised-more s.ids s.levels t 1 (suc k) ∙ ap (raised s.ids s.levels t) q

-- ---- levels
-- every other skill keeps its level
pub level-other : (is : List Id) (ls : List ℕ) (t : Id) (k : ℕ) (u : Id) → same t u ≡ false
    → trained (raised is ls t k).ids (raised is ls t k).levels u ≡ trained is ls u
unfolding raised trained
level-other [] ls t k u h = ap (λ (b : Bool). cond b k 0) h
level-other (i ∷ is) [] t k u h = refl
level-other (i ∷ is) (l ∷ ls) t k u h = go (same i t) refl (lt_z t i) (level-other is ls t k u h)
  where
    go : (x : Bool) → same i t ≡ x → (y : Bool)
        → trained (raised is ls t k).ids (raised is ls t k).levels u ≡ trained is ls u
        → (let s = cond x (record { ids = i ∷ is; levels = (l + k) ∷ ls }) (cond y (record { ids = t ∷ i ∷ is; levels = k ∷ l ∷ ls }) (behind i l (raised is ls t k))) in
        trained s.ids s.levels u ≡ cond (same i u) l (trained is ls u))
    go true e y r =
        let q : same i u ≡ false = ap (λ (z : Id). same z u) (same-eq i t e) ∙ h in
        ap (λ (b : Bool). cond b (l + k) (trained is ls u)) q ∙ sym (ap (λ (b : Bool). cond b l (trained is ls u)) q)
    go false e true r = ap (λ (b : Bool). cond b k (cond (same i u) l (trained is ls u))) h
    go false e false r = ap (λ (n : ℕ). cond (same i u) l n) r

-- the head of a list in order is under what follows
pub order-tail : (i : Id) (is : List Id) → in_order lt_z (i ∷ is) ≡ true → in_order lt_z is ≡ true
unfolding in_order
order-tail i [] h = refl
order-tail i (j ∷ is) h = both (lt_z i j) (in_order lt_z (j ∷ is)) h
  where
    both : (a b : Bool) → a && b ≡ true → b ≡ true
    both true b q = q
    both false b q = absurd (true≢false (sym q))

order-head : (i j : Id) (is : List Id) → in_order lt_z (i ∷ j ∷ is) ≡ true → lt_z i j ≡ true
unfolding in_order
order-head i j is h = both (lt_z i j) (in_order lt_z (j ∷ is)) h
  where
    both : (a b : Bool) → a && b ≡ true → a ≡ true
    both true b q = refl
    both false b q = absurd (true≢false (sym q))

order-cons : (i j : Id) (is : List Id) → lt_z i j ≡ true → in_order lt_z (j ∷ is) ≡ true → in_order lt_z (i ∷ j ∷ is) ≡ true
unfolding in_order
order-cons i j is p q = rw (p, q) refl

-- what is under the first is not listed
pub under_first : (i : Id) (is : List Id) (ls : List ℕ) (t : Id) → in_order lt_z (i ∷ is) ≡ true → lt_z t i ≡ true → trained (i ∷ is) ls t ≡ 0
unfolding trained
under_first i is [] t o h = refl
under_first i [] (l ∷ ls) t o h = ap (λ (b : Bool). cond b l 0) (under-other t i h)
under_first i (j ∷ is) (l ∷ ls) t o h =
    ap (λ (b : Bool). cond b l (trained (j ∷ is) ls t)) (under-other t i h)
    ∙ under_first j is ls t (order-tail i (j ∷ is) o) (lt-lt t i j h (order-head i j is o))

pub under-unlisted : (i : Id) (is : List Id) (t : Id) → in_order lt_z (i ∷ is) ≡ true → lt_z t i ≡ true → contains t (i ∷ is) ≡ false
unfolding contains any_of
under-unlisted i [] t o h = ap (λ (b : Bool). b || false) (same-sym t i ∙ under-other t i h)
under-unlisted i (j ∷ is) t o h =
    ap (λ (b : Bool). b || contains t (j ∷ is)) (same-sym t i ∙ under-other t i h)
    ∙ under-unlisted j is t (order-tail i (j ∷ is) o) (lt-lt t i j h (order-head i j is o))

-- its own level rises by that many
pub level-own : (is : List Id) (ls : List ℕ) (t : Id) (k : ℕ) → length is ≡ length ls → in_order lt_z is ≡ true
    → trained (raised is ls t k).ids (raised is ls t k).levels t ≡ trained is ls t + k
unfolding raised trained
level-own [] ls t k p o = ap (λ (b : Bool). cond b k 0) (same_refl t) ∙ omega arith
level-own (i ∷ is) [] t k p o = let z : suc (length is) ≡ 0 = p in absurd (omega arith)
level-own (i ∷ is) (l ∷ ls) t k p o = go (same i t) refl (lt_z t i) refl (level-own is ls t k (omega (arith, p)) (order-tail i is o))
  where
    go : (x : Bool) → same i t ≡ x → (y : Bool) → lt_z t i ≡ y
        → trained (raised is ls t k).ids (raised is ls t k).levels t ≡ trained is ls t + k
        → (let s = cond x (record { ids = i ∷ is; levels = (l + k) ∷ ls }) (cond y (record { ids = t ∷ i ∷ is; levels = k ∷ l ∷ ls }) (behind i l (raised is ls t k))) in
        trained s.ids s.levels t ≡ cond x l (trained is ls t) + k)
    go true e y f r = ap (λ (b : Bool). cond b (l + k) (trained is ls t)) e
    go false e true f r =
        let None = under_first i is (l ∷ ls) t o f in
        let past : cond (same i t) l (trained is ls t) ≡ trained is ls t = ap (λ (b : Bool). cond b l (trained is ls t)) e in
        let zero_left : trained is ls t ≡ 0 = sym past ∙ None in
        ap (λ (b : Bool). cond b k (cond (same i t) l (trained is ls t))) (same_refl t) ∙ omega (arith, zero_left)
    go false e false f r = ap (λ (b : Bool). cond b l (trained (raised is ls t k).ids (raised is ls t k).levels t)) e ∙ r

-- ---- listed skills stay in order, each with its level
pub raised-length : (is : List Id) (ls : List ℕ) (t : Id) (k : ℕ) → length is ≡ length ls → length (raised is ls t k).ids ≡ length (raised is ls t k).levels
unfolding raised
raised-length [] ls t k p = refl
raised-length (i ∷ is) [] t k p = p
raised-length (i ∷ is) (l ∷ ls) t k p = go (same i t) (lt_z t i) (raised-length is ls t k (omega (arith, p)))
  where
    go : (x y : Bool) → length (raised is ls t k).ids ≡ length (raised is ls t k).levels
        → (let s = cond x (record { ids = i ∷ is; levels = (l + k) ∷ ls }) (cond y (record { ids = t ∷ i ∷ is; levels = k ∷ l ∷ ls }) (behind i l (raised is ls t k))) in
        length s.ids ≡ length s.levels)
    go true y r = p
    go false true r = ap suc p
    go false false r = ap suc r

-- behind one that is under both the first and the new skill
order-behind : (h : Id) (is : List Id) (ls : List ℕ) (t : Id) (k : ℕ) → lt_z h t ≡ true → in_order lt_z (h ∷ is) ≡ true
    → in_order lt_z (h ∷ (raised is ls t k).ids) ≡ true
unfolding raised
order-behind h [] ls t k u o = order-cons h t [] u (one t)
  where
    one : (x : Id) → in_order lt_z (x ∷ []) ≡ true
    one x = unfold in_order in refl
order-behind h (i ∷ is) [] t k u o = o
order-behind h (i ∷ is) (l ∷ ls) t k u o = go (same i t) refl (lt_z t i) refl (λ v. order-behind i is ls t k v (order-tail h (i ∷ is) o))
  where
    go : (x : Bool) → same i t ≡ x → (y : Bool) → lt_z t i ≡ y
        → (lt_z i t ≡ true → in_order lt_z (i ∷ (raised is ls t k).ids) ≡ true)
        → (let s = cond x (record { ids = i ∷ is; levels = (l + k) ∷ ls }) (cond y (record { ids = t ∷ i ∷ is; levels = k ∷ l ∷ ls }) (behind i l (raised is ls t k))) in
        in_order lt_z (h ∷ s.ids) ≡ true)
    go true e y f r = o
    go false e true f r = order-cons h t (i ∷ is) u (order-cons t i is f (order-tail h (i ∷ is) o))
    go false e false f r = order-cons h i (raised is ls t k).ids (order-head h i is o) (r (other_under i t e f))

pub raised-order : (is : List Id) (ls : List ℕ) (t : Id) (k : ℕ) → in_order lt_z is ≡ true → in_order lt_z (raised is ls t k).ids ≡ true
unfolding raised
raised-order [] ls t k o = unfold in_order in refl
raised-order (i ∷ is) [] t k o = o
raised-order (i ∷ is) (l ∷ ls) t k o = go (same i t) refl (lt_z t i) refl
  where
    go : (x : Bool) → same i t ≡ x → (y : Bool) → lt_z t i ≡ y
        → (let s = cond x (record { ids = i ∷ is; levels = (l + k) ∷ ls }) (cond y (record { ids = t ∷ i ∷ is; levels = k ∷ l ∷ ls }) (behind i l (raised is ls t k))) in
        in_order lt_z s.ids ≡ true)
    go true e y f = o
    go false e true f = order-cons t i is f o
    go false e false f = order-behind i is ls t k (other_under i t e f) o

pub gain-listed : (s : Training) (t : Id) (k : ℕ) → Listed s → Listed (gain s t k)
unfolding gain
gain-listed s t zero g = g
gain-listed s t (suc k) g = record { paired = raised-length s.ids s.levels t (suc k) g.paired; order = raised-order s.ids s.levels t (suc k) g.order }

-- ---- the same of what a turn gives
pub gain-own : (s : Training) (t : Id) (k : ℕ) → Listed s → level_of (gain s t k) t ≡ level_of s t + k
unfolding gain
gain-own s t zero g = omega arith
gain-own s t (suc k) g = level-own s.ids s.levels t (suc k) g.paired g.order

pub gain-other : (s : Training) (t : Id) (k : ℕ) (u : Id) → same t u ≡ false → level_of (gain s t k) u ≡ level_of s u
unfolding gain
gain-other s t zero u h = refl
gain-other s t (suc k) u h = level-other s.ids s.levels t (suc k) u h

-- no level falls
pub gain-more_or_same : (s : Training) (t : Id) (k : ℕ) (u : Id) → Listed s → level_of s u ≤ level_of (gain s t k) u
gain-more_or_same s t k u g = go (same t u) refl
  where
    go : (b : Bool) → same t u ≡ b → level_of s u ≤ level_of (gain s t k) u
    go true e = let q = same-eq t u e in subst (λ (z : Id). level_of s z ≤ level_of (gain s t k) z) q (omega (arith, gain-own s t k g))
    go false e = omega (arith, gain-other s t k u e)
