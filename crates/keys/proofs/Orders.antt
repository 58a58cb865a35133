-- From an order of neighbours to one of any two, and what a search of ordered keys finds.
use mathlib.Core.Bool.{not-not}
use Rattle.std.proofs.Common.{◌≡◌, ℕ, zero, suc, ◌+◌, ◌-◌, ◌*◌, ◌<◌, ◌≤◌, max, Bool, true, false, cond, not, ◌&&◌, ◌||◌, ltb, ◌⊎◌, List, ℤ, sym, refl, ap, ◌∙◌, subst, ap₂, inl, inr, ⊎_elim, suc-le-suc, zero-le, le_of_suc-le-suc, not-suc-le-zero, eq-or-lt_of_le, add-one, arith, ltb-true, eq-eqb, ne_eqb, leb-true}
use Rattle.std.specs.Prelude.{None, Some}
use lib.Signed.{lt_z, le_z, mag}
use borrow.Author.Tests.{eqb-false}
use Rattle.words.specs.Words.{table, in_order, same}
use Rattle.words.proofs.Tables.{order-more, order-one, order-none, order_same, table_same, find_at, find_none}
use Rattle.image.specs.Bytes.{u32_at, i32_at}
use Rattle.keys.specs.Keys.{key_at, rank_of, Sorted, Parts, place_of, biased, stands}
use Rattle.keys.proofs.Ranks.{rank_lt, rank_le, rank_same, signed_range, rank_signed}

and_left : (a b : Bool) → a && b ≡ true → a ≡ true
and_left true b e = refl
and_left false b e = e

and_right : (a b : Bool) → a && b ≡ true → b ≡ true
and_right true b e = e
and_right false b e = absurd (subst (λ (t : Bool). cond t ⊥ (Prim.Unit {0})) e tt)

-- a turn of the loop: one more pair of neighbours
pub order-turn : {A : Type 0} (r : A → A → Bool) (f : ℕ → A) (i : ℕ) (ok b s : Bool) → 0 < i → ok ≡ in_order r (table i f)
    → s ≡ r (f (i - 1)) (f i) → b ≡ ok && s → b ≡ in_order r (table (i + 1) f)
order-turn r f i ok b s p e q h = h ∙ rw (e, q) (sym (order-more r i f p))

-- the same in a run of keys from s on
run_more : {A : Type 0} (r : A → A → Bool) (f : ℕ → A) (s i : ℕ) → 0 < i → in_order r (table (i + 1) (λ j. f (s + j)))
    ≡ in_order r (table i (λ j. f (s + j))) && r (f (s + i - 1)) (f (s + i))
run_more r f s i p =
    let k : s + (i - 1) ≡ s + i - 1 = omega arith in
    order-more r i (λ j. f (s + j)) p ∙ ap (λ (k : ℕ). in_order r (table i (λ j. f (s + j))) && r (f k) (f (s + i))) k

-- the loop's end, also where there is no neighbour
pub order-end : {A : Type 0} (r : A → A → Bool) (f : ℕ → A) (i n : ℕ) (ok : Bool) → 0 < i → n ≤ i → i ≤ max n 1 → ok ≡ in_order r (table i f)
    → ok ≡ in_order r (table n f)
order-end r f i zero ok p a b e = let q : i ≡ 1 = omega arith in e ∙ ap (λ (k : ℕ). in_order r (table k f)) q ∙ order-one r f ∙ sym (order-none r f)
order-end r f i (suc n) ok p a b e = let q : i ≡ suc n = omega arith in e ∙ ap (λ (k : ℕ). in_order r (table k f)) q

and_true : (a : Bool) → a ≡ a && true
and_true true = refl
and_true false = refl

and_assoc : (a b c : Bool) → (a && b) && c ≡ a && (b && c)
and_assoc true b c = refl
and_assoc false b c = refl

and_false : (a : Bool) → a && false ≡ false
and_false true = refl
and_false false = refl

or_true : (a : Bool) → a || true ≡ true
or_true true = refl
or_true false = refl

or_false : (a : Bool) → a || false ≡ a
or_false true = refl
or_false false = refl

-- a turn of a loop over the steps that fall
pub step_turn : {A : Type 0} (r : A → A → Bool) (f : ℕ → A) (i : ℕ) (ok fall : Bool) → 0 < i → ok ≡ in_order r (table i f)
    → fall ≡ not (r (f (i - 1)) (f i)) → ok && not fall ≡ in_order r (table (i + 1) f)
step_turn r f i ok fall p e q =
    order-turn r f i ok _ (not fall) p e (ap not q ∙ not-not _) refl

-- a fall in none of four runs so far, and in none of their next steps
no_fall : (p q s t a b c d f : Bool) → not f ≡ (p && q) && (s && t)
    → not (f || ((not a || not b) || (not c || not d))) ≡ ((p && a) && (q && b)) && ((s && c) && (t && d))
no_fall p q s t false b c d f h = rw (or_true f, and_false p) refl
no_fall p q s t true false c d f h = rw (or_true f, and_false q, and_false (p && true)) refl
no_fall p q s t true true false d f h = rw (or_true f, and_false s, and_false ((p && true) && (q && true))) refl
no_fall p q s t true true true false f h =
    rw (or_true f, and_false t, and_false (s && true), and_false ((p && true) && (q && true))) refl
no_fall p q s t true true true true f h = rw (or_false f, sym (and_true p), sym (and_true q), sym (and_true s), sym (and_true t)) h

-- ---- runs that share a key
module _ {A : Type 0} (r : A → A → Bool) where
  run_join : (f : ℕ → A) (a b : ℕ) → in_order r (table (a + b + 1) f) ≡ in_order r (table (a + 1) f) && in_order r (table (b + 1) (λ j. f (a + j)))
  run_join f a zero =
      let e : a + 0 + 1 ≡ a + 1 = omega arith in
      ap (λ (k : ℕ). in_order r (table k f)) e ∙ and_true (in_order r (table (a + 1) f))
      ∙ ap (λ (x : Bool). in_order r (table (a + 1) f) && x) (sym (order-one r (λ j. f (a + j))))
  run_join f a (suc b) =
      let e : a + suc b + 1 ≡ (a + b + 1) + 1 = omega arith in
      let p : a + b + 1 - 1 ≡ a + (b + 1 - 1) = omega arith in
      let q : a + b + 1 ≡ a + (b + 1) = omega arith in
      let s : suc b + 1 ≡ b + 1 + 1 = omega arith in
      let x = in_order r (table (a + 1) f) in
      ap (λ (k : ℕ). in_order r (table k f)) e ∙ order-more r (a + b + 1) f (omega arith)
      ∙ ap₂ (λ (o t : Bool). o && t) (run_join f a b) (ap₂ (λ (k l : ℕ). r (f k) (f l)) p q)
      ∙ and_assoc x (in_order r (table (b + 1) (λ j. f (a + j)))) (r (f (a + (b + 1 - 1))) (f (a + (b + 1))))
      ∙ ap (λ (t : Bool). x && t) (sym (order-more r (b + 1) (λ j. f (a + j)) (omega arith)))
      ∙ ap (λ (k : ℕ). x && in_order r (table k (λ j. f (a + j)))) (sym s)

  -- four runs of i keys, each from the last of h before it
  abbrev pub runs : (f : ℕ → A) (h i : ℕ) → Bool
  runs f h i =
      (in_order r (table i f) && in_order r (table i (λ j. f (h + j))))
      && (in_order r (table i (λ j. f (2 * h + j))) && in_order r (table i (λ j. f (3 * h + j))))

  pub runs_one : (f : ℕ → A) (h : ℕ) → true ≡ runs f h 1
  runs_one f h = rw (order-one r f, order-one r (λ j. f (h + j)), order-one r (λ j. f (2 * h + j)), order-one r (λ j. f (3 * h + j))) refl

  -- a turn of the loop: a fall is noted where one of the four next steps falls
  pub runs_turn : (f : ℕ → A) (h i : ℕ) (fall : Bool) {a b c d more : Bool} → 0 < i → not fall ≡ runs f h i → a ≡ not (r (f (i - 1)) (f i))
      → b ≡ not (r (f (h + i - 1)) (f (h + i))) → c ≡ not (r (f (2 * h + i - 1)) (f (2 * h + i)))
      → d ≡ not (r (f (3 * h + i - 1)) (f (3 * h + i))) → more ≡ fall || ((a || b) || (c || d)) → not more ≡ runs f h (i + 1)
  runs_turn f h i fall p e u v w x m =
      let or : Bool → Bool → Bool = λ y z. y || z in
      let run : ℕ → Bool = λ s. in_order r (table i (λ j. f (s + j))) in
      let step : ℕ → Bool = λ s. r (f (s + i - 1)) (f (s + i)) in
      ap not (m ∙ ap (or fall) (ap₂ or (ap₂ or u v) (ap₂ or w x)))
      ∙ no_fall (in_order r (table i f)) (run h) (run (2 * h)) (run (3 * h)) (r (f (i - 1)) (f i)) (step h) (step (2 * h)) (step (3 * h)) fall e
      ∙ sym (ap₂ (λ (y z : Bool). y && z) (ap₂ (λ (y z : Bool). y && z) (order-more r i f p) (run_more r f h i p))
      (ap₂ (λ (y z : Bool). y && z) (run_more r f (2 * h) i p) (run_more r f (3 * h) i p)))

  -- four runs of h + 1 keys
  four_join : (f : ℕ → A) (h i : ℕ) (a b c d : Bool) → i ≡ h + 1 → a ≡ in_order r (table i f) → b ≡ in_order r (table i (λ j. f (h + j)))
      → c ≡ in_order r (table i (λ j. f (2 * h + j))) → d ≡ in_order r (table i (λ j. f (3 * h + j)))
      → (a && b) && (c && d) ≡ in_order r (table (4 * h + 1) f)
  four_join f h i a b c d n p q s t =
      let g : ℕ → A = λ j. f (2 * h + j) in
      let two : h + h + 1 ≡ 2 * h + 1 = omega arith in
      let four : 2 * h + 2 * h + 1 ≡ 4 * h + 1 = omega arith in
      let last : in_order r (table i (λ j. f (3 * h + j))) ≡ in_order r (table i (λ j. g (h + j))) =
      ap (in_order r) (table_same i _ _ (λ j l. let e : 3 * h + j ≡ 2 * h + (h + j) = omega arith in ap f e)) in
      let ab : a && b ≡ in_order r (table (2 * h + 1) f) =
      ap₂ (λ (x y : Bool). x && y) (p ∙ ap (λ (k : ℕ). in_order r (table k f)) n) (q ∙ ap (λ (k : ℕ). in_order r (table k (λ j. f (h + j)))) n)
      ∙ sym (run_join f h h) ∙ ap (λ (k : ℕ). in_order r (table k f)) two in
      let cd : c && d ≡ in_order r (table (2 * h + 1) g) =
      ap₂ (λ (x y : Bool). x && y) (s ∙ ap (λ (k : ℕ). in_order r (table k g)) n) (t ∙ last ∙ ap (λ (k : ℕ). in_order r (table k (λ j. g (h + j)))) n)
      ∙ sym (run_join g h h) ∙ ap (λ (k : ℕ). in_order r (table k g)) two in
      ap₂ (λ (x y : Bool). x && y) ab cd ∙ sym (run_join f (2 * h) (2 * h)) ∙ ap (λ (k : ℕ). in_order r (table k f)) four

  pub runs_all : (f : ℕ → A) (h i : ℕ) → i ≡ h + 1 → runs f h i ≡ in_order r (table (4 * h + 1) f)
  runs_all f h i e = four_join f h i _ _ _ _ e refl refl refl refl

-- ---- any two
module _ (strict : Bool) (g : ℕ → ℕ) where
  next_le : (b : Bool) (x y : ℕ) → stands b x y ≡ true → x ≤ y
  next_le true x y e = omega (arith, ltb-true x y e)
  next_le false x y e = leb-true x y e

  -- what never descends from one to the next never descends at all
  pub any-le : (n : ℕ) → in_order (stands strict) (table n g) ≡ true → (j k : ℕ) → j ≤ k → k < n → g j ≤ g k
  any-le zero e j k p q = absurd (not-suc-le-zero q)
  any-le (suc zero) e j k p q = let h : j ≡ k = omega arith in omega (arith, ap g h)
  any-le (suc (suc n)) e j k p q =
      let m : in_order (stands strict) (table (suc n + 1) g) ≡ true = rw add-one e in
      let o = sym (order-more (stands strict) (suc n) g (omega arith)) ∙ m in
      let h : in_order (stands strict) (table (suc n) g) ≡ true = and_left (in_order (stands strict) (table (suc n) g))
      (stands strict (g (suc n - 1)) (g (suc n))) o in
      let l : g (suc n - 1) ≤ g (suc n) = next_le strict (g (suc n - 1)) (g (suc n))
      (and_right (in_order (stands strict) (table (suc n) g)) (stands strict (g (suc n - 1)) (g (suc n))) o) in
      let z : suc n - 1 ≡ n = omega arith in
      ⊎_elim
      (λ (x : k ≡ suc n).
      ⊎_elim (λ (y : j ≡ k). omega (arith, ap g y))
      (λ (y : j < k). omega (arith, any-le (suc n) h j n (omega (arith, x, y)) (omega arith), l, ap g x, ap g z))
      (eq-or-lt_of_le p))
      (λ (x : k < suc n). any-le (suc n) h j k p x)
      (eq-or-lt_of_le (le_of_suc-le-suc q))

-- ---- keys
module _ (keys : List ℕ) where
  pub key_range : (i : ℕ) → mag (key_at keys i) < 2147483648
  unfolding i32_at
  key_range i = signed_range (u32_at keys (4 * i))

  lt-ranks : (n : ℕ) → in_order lt_z (table n (key_at keys)) ≡ in_order (stands true) (table n (λ i. rank_of (key_at keys i)))
  lt-ranks = order_same lt_z (stands true) (key_at keys) (λ i. rank_of (key_at keys i)) (λ i j. rank_lt (key_at keys i) (key_at keys j) (key_range i) (key_range j))

  le-ranks : (n : ℕ) → in_order le_z (table n (key_at keys)) ≡ in_order (stands false) (table n (λ i. rank_of (key_at keys i)))
  le-ranks = order_same le_z (stands false) (key_at keys) (λ i. rank_of (key_at keys i)) (λ i j. rank_le (key_at keys i) (key_at keys j) (key_range i) (key_range j))

  pub ascending_sorted : (n : ℕ) → in_order lt_z (table n (key_at keys)) ≡ true → Sorted keys n
  ascending_sorted n e = any-le true (λ i. rank_of (key_at keys i)) n (sym (lt-ranks n) ∙ e)

  pub descending_sorted : (n : ℕ) → in_order le_z (table n (key_at keys)) ≡ true → Sorted keys n
  descending_sorted n e = any-le false (λ i. rank_of (key_at keys i)) n (sym (le-ranks n) ∙ e)

  -- ---- the order of the biased bits is that of the keys
  module _ (small : (i : ℕ) → u32_at keys i < 4294967296) where
    biased-rank : (i : ℕ) → biased 2147483648 (u32_at keys (4 * i)) ≡ rank_of (key_at keys i)
    unfolding i32_at
    biased-rank i = sym (rank_signed (u32_at keys (4 * i)) (small (4 * i)))

    pub biased-lt : (n : ℕ) → in_order (stands true) (table n (λ i. biased 2147483648 (u32_at keys (4 * i)))) ≡ in_order lt_z (table n (key_at keys))
    biased-lt n = ap (in_order (stands true)) (table_same n _ _ (λ i h. biased-rank i)) ∙ sym (lt-ranks n)

    pub biased-le : (n : ℕ) → in_order (stands false) (table n (λ i. biased 2147483648 (u32_at keys (4 * i)))) ≡ in_order le_z (table n (key_at keys))
    biased-le n = ap (in_order (stands false)) (table_same n _ _ (λ i h. biased-rank i)) ∙ sym (le-ranks n)

    pub biased-none : (n : ℕ) → in_order (stands true) (table n (λ i. biased 0 (u32_at keys (4 * i)))) ≡ in_order ltb (table n (λ i. u32_at keys (4 * i)))
    biased-none n = ap (in_order (stands true)) (table_same n _ _ (λ i h. let s = small (4 * i) in omega arith))

  -- ---- a search
  module _ (n : ℕ) (id : ℤ) (range : mag id < 2147483648) (r : ℕ) (parts : Parts keys n id r) where
    differs : (k : ℕ) → (rank_of (key_at keys k) ≡ rank_of id → ⊥) → same (key_at keys k) id ≡ false
    differs k f = rank_same (key_at keys k) id (key_range k) range ∙ ne_eqb _ _ f

    -- no key before r is the id
    pub before-differs : (k : ℕ) → k < r → same (key_at keys k) id ≡ false
    before-differs k l = differs k (λ q. omega (arith, parts.under k l, q))

    -- where a key from r on is not the id, no later one is
    pub after-differs : Sorted keys n → (i k : ℕ) → r ≤ i → same (key_at keys i) id ≡ false → i ≤ k → k < n → same (key_at keys k) id ≡ false
    after-differs sorted i k l e h g =
        let d : rank_of (key_at keys i) ≡ rank_of id → ⊥ = eqb-false _ _ (sym (rank_same (key_at keys i) id (key_range i) range) ∙ e) in
        differs k (λ q. d (between _ _ _ (parts.beyond i l (omega arith)) (sorted i k h g) q))
      where
        between : (a b c : ℕ) → a ≤ b → b ≤ c → c ≡ a → b ≡ a
        between a b c p q s = omega arith

    pub place_found : r < n → rank_of (key_at keys r) ≡ rank_of id → Some r ≡ place_of keys n id
    unfolding place_of
    place_found h e =
        sym (find_at (λ i. same (key_at keys i) id) n (λ i. i) r h before-differs
        (rank_same (key_at keys r) id (key_range r) range ∙ eq-eqb _ _ e))

    pub place_none : ((k : ℕ) → r ≤ k → k < n → rank_of id < rank_of (key_at keys k)) → None ≡ place_of keys n id
    unfolding place_of
    place_none f =
        sym (find_none (λ i. same (key_at keys i) id) n (λ i. i) (λ k h.
        differs k (λ q. ⊎_elim (λ (l : r ≤ k). omega (arith, f k l h, q)) (λ (l : k < r). omega (arith, parts.under k l, q)) (le-or_lt r k))))
      where
        le-or_lt : (a b : ℕ) → (a ≤ b) ⊎ (b < a)
        le-or_lt zero b = inl zero-le
        le-or_lt (suc a) zero = inr (suc-le-suc zero-le)
        le-or_lt (suc a) (suc b) = ⊎_elim (λ p. inl (suc-le-suc p)) (λ q. inr (suc-le-suc q)) (le-or_lt a b)
