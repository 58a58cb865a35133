-- Numbers of pairs read back from their bytes, and the set that they are the numbers of. By induction on the numbers.
use Prim.Native.Nat.{ℕ, zero, suc, ◌+◌, ◌*◌, ◌≤◌, ◌<◌}
use native.Mathlib.Nat.{not-suc-le-zero}
use native.Mathlib.Omega.{arith}
use mathlib.Core.Path.{◌≡◌, refl, sym, ap, ap₂, ◌∙◌, subst}
use mathlib.Core.Bool.{Bool, true, false, ◌||◌, cond}
use mathlib.Core.List.{List, [], ◌∷◌, ◌++◌}
use mathlib.Core.Logic.{◌⊎◌, inl, inr}
use lib.Dec.{T, eqb, ltb, lt→ltb}
use lib.ListN.{length, get_or, get_or-append}
use lib.Seq.{get_or-append-add}
use borrow.Author.Tests.{eq-eqb, ne_eqb}
use Rattle.words.specs.Words.{each, only, any_of, in_order, table_from, table, from}
use Rattle.words.proofs.All.{All, nil, cons}
use Rattle.words.proofs.Elements.{table-later}
use Rattle.words.proofs.Tables.{table_same}
use Rattle.image.specs.Bytes.{u32_at, le}
use Rattle.image.proofs.Puts.{u32_alike, le-u32}
use Rattle.parts.specs.Parts.{holds, numbers_of}
use Rattle.promises.proofs.Placed.{and_both}

-- ---- four bytes each
pub first_word : (x : ℕ) (l : List ℕ) → x < 4294967296 → u32_at (le 4 x ++ l) 0 ≡ x
first_word x l h = u32_alike (le 4 x ++ l) (le 4 x) 0 0 (λ b k. get_or-append (le 4 x) l 0 (0 + b) (omega (arith, k))) ∙ le-u32 x h

pub later_word : (x : ℕ) (l : List ℕ) (j : ℕ) → u32_at (le 4 x ++ l) (4 * (j + 1)) ≡ u32_at l (4 * j)
later_word x l j = u32_alike (le 4 x ++ l) l (4 * (j + 1)) (4 * j) λ b k.
    let q : 4 * (j + 1) + b ≡ 4 + (4 * j + b) = omega arith in
    ap (λ (i : ℕ). get_or (le 4 x ++ l) i 0) q ∙ get_or-append-add (le 4 x) l (4 * j + b) 0

pub read_back : (ns rest : List ℕ) → All (λ (n : ℕ). n < 4294967296) ns → table (length ns) (λ i. u32_at (each ns (le 4) ++ rest) (4 * i)) ≡ ns
unfolding table_from each
read_back [] rest nil = refl
read_back (x ∷ ns) rest (cons p h) =
    let l : List ℕ = each ns (le 4) ++ rest in
    ap₂ (λ (n : ℕ) (m : List ℕ). n ∷ m) (first_word x l p)
    (table-later 1 0 (length ns) (λ i. u32_at (le 4 x ++ l) (4 * i))
    ∙ table_same (length ns) (λ j. u32_at (le 4 x ++ l) (4 * (j + 1))) (λ j. u32_at l (4 * j)) (λ j _. later_word x l j)
    ∙ read_back ns rest h)

-- ---- some of the numbers from k on
all-only : {A : Type 0} {P : A → Type 0} (t : A → Bool) {l : List A} → All P l → All P (only t l)
unfolding only
all-only t nil = nil
all-only {A} {P} t (cons {x} {l} p h) = go (t x) (all-only t h)
  where
    go : (b : Bool) → All P (only t l) → All P (cond b (x ∷ only t l) (only t l))
    go true k = cons p k
    go false k = k

pub only-short : {A : Type 0} (t : A → Bool) (l : List A) → length (only t l) ≤ length l
unfolding only
only-short t [] = omega arith
only-short {A} t (x ∷ l) = go (t x) (only-short t l)
  where
    go : (b : Bool) → length (only t l) ≤ length l → length (cond b (x ∷ only t l) (only t l)) ≤ suc (length l)
    go true h = omega (arith, h)
    go false h = omega (arith, h)

from-below : (k n m : ℕ) → k + n ≤ m → All (λ (i : ℕ). i < m) (from k n)
unfolding table_from
from-below k zero m h = nil
from-below k (suc n) m h = cons {x = k} (omega (arith, h)) (from-below (suc k) n m (omega (arith, h)))

from-above : (j k n : ℕ) → j < k → All (λ (i : ℕ). j < i) (from k n)
unfolding table_from
from-above j k zero h = nil
from-above j k (suc n) h = cons h (from-above j (suc k) n (omega (arith, h)))

pub numbers_below : (s : List Bool) (m : ℕ) → length s ≤ m → All (λ (i : ℕ). i < m) (numbers_of s)
unfolding numbers_of
numbers_below s m h = all-only (holds s) (from-below 0 (length s) m (omega (arith, h)))

-- ascending
order-cons : (k : ℕ) (l : List ℕ) → All (λ (i : ℕ). k < i) l → T (in_order ltb l) → T (in_order ltb (k ∷ l))
unfolding in_order
order-cons k [] a h = tt
order-cons k (y ∷ l) (cons p a) h = and_both (ltb k y) (in_order ltb (y ∷ l)) (lt→ltb k y p) h

order_from : (t : ℕ → Bool) (k n : ℕ) → T (in_order ltb (only t (from k n)))
unfolding table_from only
order_from t k zero = unfold in_order in tt
order_from t k (suc n) = go (t k) (order_from t (suc k) n)
  where
    r : List ℕ
    r = only t (table_from (suc k) n (λ i. i))

    go : (b : Bool) → T (in_order ltb r) → T (in_order ltb (cond b (k ∷ r) r))
    go true h = order-cons k r (all-only t (from-above k (suc k) n (omega arith))) h
    go false h = h

pub numbers_ascend : (s : List Bool) → T (in_order ltb (numbers_of s))
unfolding numbers_of
numbers_ascend s = order_from (holds s) 0 (length s)

-- ---- the set that they are the numbers of
absent : (i : ℕ) {l : List ℕ} → All (λ (j : ℕ). i < j) l → any_of (eqb i) l ≡ false
unfolding any_of
absent i nil = refl
absent i (cons {x} {l} p h) = ap (λ (b : Bool). b || any_of (eqb i) l) (ne_eqb i x (λ e. omega (arith, e, p))) ∙ absent i h

first-or_later : (k i : ℕ) → k ≤ i → (i ≡ k) ⊎ (suc k ≤ i)
first-or_later zero zero h = inl refl
first-or_later zero (suc i) h = inr (omega arith)
first-or_later (suc k) zero h = absurd (not-suc-le-zero h)
first-or_later (suc k) (suc i) h = up (first-or_later k i (omega (arith, h)))
  where
    up : (i ≡ k) ⊎ (suc k ≤ i) → (suc i ≡ suc k) ⊎ (suc (suc k) ≤ suc i)
    up (inl e) = inl (ap suc e)
    up (inr l) = inr (omega (arith, l))

among_from : (t : ℕ → Bool) (i k n : ℕ) → k ≤ i → i < k + n → any_of (eqb i) (only t (from k n)) ≡ t i
unfolding table_from only any_of
among_from t i k zero h l = absurd (omega (arith, h, l))
among_from t i k (suc n) h l = go (first-or_later k i h) (λ m. among_from t i (suc k) n m (omega (arith, l)))
  where
    r : List ℕ
    r = only t (table_from (suc k) n (λ j. j))

    own : i ≡ k → (b : Bool) → t i ≡ b → any_of (eqb i) (cond b (k ∷ r) r) ≡ b
    own e true q = ap (λ (b : Bool). b || any_of (eqb i) r) (eq-eqb i k e)
    own e false q = absent i (all-only t (from-above i (suc k) n (omega (arith, e))))

    other : suc k ≤ i → (b : Bool) → any_of (eqb i) r ≡ t i → any_of (eqb i) (cond b (k ∷ r) r) ≡ t i
    other m true q = ap (λ (b : Bool). b || any_of (eqb i) r) (ne_eqb i k (λ e. omega (arith, e, m))) ∙ q
    other m false q = q

    go : (i ≡ k) ⊎ (suc k ≤ i) → (suc k ≤ i → any_of (eqb i) r ≡ t i) → any_of (eqb i) (cond (t k) (k ∷ r) r) ≡ t i
    go (inl e) f = subst (λ (j : ℕ). any_of (eqb i) (cond (t j) (k ∷ r) r) ≡ t i) e (own e (t i) refl)
    go (inr m) f = other m (t k) (f m)

pub table-all : (s : List Bool) → table (length s) (holds s) ≡ s
unfolding table_from
table-all [] = refl
table-all (b ∷ s) =
    ap (λ (l : List Bool). b ∷ l)
    (table-later 1 0 (length s) (holds (b ∷ s)) ∙ table_same (length s) (λ j. holds (b ∷ s) (j + 1)) (holds s) (λ j _. let q : j + 1 ≡ suc j = omega arith in ap (holds (b ∷ s)) q) ∙ table-all s)

pub set_back : (s : List Bool) (n : ℕ) → length s ≡ n → table n (λ i. any_of (eqb i) (numbers_of s)) ≡ s
unfolding numbers_of
set_back s n e =
    table_same n (λ i. any_of (eqb i) (numbers_of s)) (holds s) (λ i l. among_from (holds s) i 0 (length s) (omega arith) (omega (arith, l, e)))
    ∙ ap (λ (m : ℕ). table m (holds s)) (sym e)
    ∙ table-all s
