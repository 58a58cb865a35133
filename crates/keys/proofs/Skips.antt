-- A search that skips half of what is left, or nothing: what is known of it; and a guess that needs no search.
use Rattle.std.proofs.Common.{◌≡◌, ℕ, ◌+◌, ◌-◌, ◌*◌, ◌/◌, ◌<◌, ◌≤◌, Bool, true, false, cond, ◌||◌, eqb, ltb, leb, List, refl, arith, ltb-false, ltb-true, eqb-true, leb-true}
use Rattle.keys.specs.Keys.{key_at, rank_of, Sorted}

-- a quotient is 3 where x is under y, else 2
pub under-is : (x y : ℕ) → x < 4294967296 → y < 4294967296 → (12884901887 + y - x) / 4294967296 ≡ cond (ltb x y) 3 2
under-is x y p q = go (ltb x y) refl
  where
    go : (b : Bool) → ltb x y ≡ b → (12884901887 + y - x) / 4294967296 ≡ cond b 3 2
    go true e = let h = ltb-true x y e in omega arith
    go false e = let h = ltb-false x y e in omega arith

-- three or two halves, less two
module _ (half : ℕ) (b : Bool) {u : ℕ} where
  pub halves : u ≡ cond b 3 2 → half * u ≡ 2 * half + cond b half 0
  halves e = go b e
    where
      go : (b : Bool) → u ≡ cond b 3 2 → half * u ≡ 2 * half + cond b half 0
      go true e = rw e (omega arith)
      go false e = rw e (omega arith)

pub at_most_half : (half : ℕ) (b : Bool) → cond b half 0 ≤ half
at_most_half half true = omega arith
at_most_half half false = omega arith

-- what is known of a search: all keys before base are under the key, none from `end` on
pub record Searched (keys : List ℕ) (n key base end : ℕ) : Type 0 where
  pub within : end ≤ n
  pub ordered : base ≤ end
  pub under : (k : ℕ) → k < base → rank_of (key_at keys k) < key
  pub beyond : (k : ℕ) → end ≤ k → k < n → key ≤ rank_of (key_at keys k)

-- ---- a guess that passes both tests parts the keys
module _ (keys : List ℕ) (n key r : ℕ) (sorted : Sorted keys n) where
  pub guess_under : r ≤ n → (eqb r 0 || ltb (rank_of (key_at keys (r - 1))) key) ≡ true → (k : ℕ) → k < r → rank_of (key_at keys k) < key
  guess_under within e k h = go (eqb r 0) refl e
    where
      go : (b : Bool) → eqb r 0 ≡ b → (b || ltb (rank_of (key_at keys (r - 1))) key) ≡ true → rank_of (key_at keys k) < key
      go true q f = absurd (omega (arith, eqb-true r 0 q, h))
      go false q f = omega (arith, sorted k (r - 1) (omega (arith, h)) (omega (arith, within, h)), ltb-true (rank_of (key_at keys (r - 1))) key f)

  pub guess_over : (leb n r || leb key (rank_of (key_at keys r))) ≡ true → (k : ℕ) → r ≤ k → k < n → key ≤ rank_of (key_at keys k)
  guess_over e k h g = go (leb n r) refl e
    where
      go : (b : Bool) → leb n r ≡ b → (b || leb key (rank_of (key_at keys r))) ≡ true → key ≤ rank_of (key_at keys k)
      go true q f = absurd (omega (arith, leb-true n r q, h, g))
      go false q f = omega (arith, sorted r k h g, leb-true key (rank_of (key_at keys r)) f)
