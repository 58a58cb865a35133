-- The few words that the definitions are written in. A `do` line `x ← e` is Rust's `let Some(x) = e else { skip }`,
-- `each l λ x. ..` is `for x in l { .. }`, `when b e` is `if b { push(e) }`, `unless b l` is `if b { return }` before l.
use Rattle.std.specs.Prelude.{ℕ, zero, suc, ◌+◌, Bool, true, false, ◌&&◌, ◌||◌, cond, List, [], ◌∷◌, ◌++◌, length, ℤ, pos, negsuc, eqb, ltb}
use Rattle.std.specs.Prelude.{Option, None, Some}

module _ {A B : Type 0} where
  unfoldable pub ◌>>=◌ : Option A → (A → List B) → List B
  ◌>>=◌ None f = []
  ◌>>=◌ (Some a) f = f a

  unfoldable pub each : List A → (A → List B) → List B
  each [] f = []
  each (x ∷ l) f = f x ++ each l f

module _ {A : Type 0} where
  unfoldable pub when : Bool → A → List A
  when b e = cond b (e ∷ []) []

  unfoldable pub unless : Bool → List A → List A
  unless b l = cond b [] l

  -- those that pass
  unfoldable pub only : (A → Bool) → List A → List A
  only t [] = []
  only t (x ∷ l) = cond (t x) (x ∷ only t l) (only t l)

  unfoldable pub count_of : (A → Bool) → List A → ℕ
  count_of t l = length (only t l)

  unfoldable pub sum_of : (A → ℕ) → List A → ℕ
  sum_of f [] = 0
  sum_of f (x ∷ l) = f x + sum_of f l

  unfoldable pub any_of : (A → Bool) → List A → Bool
  any_of t [] = false
  any_of t (x ∷ l) = t x || any_of t l

  -- the first that passes
  unfoldable pub find : (A → Bool) → List A → Option A
  find t [] = None
  find t (x ∷ l) = cond (t x) (Some x) (find t l)

  unfoldable pub is_empty : List A → Bool
  is_empty [] = true
  is_empty (x ∷ l) = false

  -- each element and the next stand in the relation
  unfoldable pub in_order : (A → A → Bool) → List A → Bool
  in_order r [] = true
  in_order r (x ∷ []) = true
  in_order r (x ∷ y ∷ l) = r x y && in_order r (y ∷ l)

module _ {A B : Type 0} where
  -- an entry where b holds and some element passes
  unfoldable pub when_any : Bool → (A → Bool) → List A → B → List B
  when_any b t l e = when (b && any_of t l) e

  -- what is made of a value, or b where there is none
  unfoldable pub given : Option A → B → (A → B) → B
  given None b f = b
  given (Some a) b f = f a

-- an entry that shows what is used, where b holds and more is used than allowed
unfoldable pub when_above : {B : Type 0} → Bool → (used allowed : ℕ) → (ℕ → B) → List B
when_above b used allowed e = when (b && ltb allowed used) (e used)

-- f at i, i + 1, .., i + n - 1
unfoldable pub table_from : {A : Type 0} → ℕ → ℕ → (ℕ → A) → List A
table_from i zero f = []
table_from i (suc n) f = f i ∷ table_from (suc i) n f

-- f at 0, 1, .., n - 1
abbrev pub table : {A : Type 0} → ℕ → (ℕ → A) → List A
table n f = table_from 0 n f

-- n numbers from a on
abbrev pub from : ℕ → ℕ → List ℕ
from a n = table_from a n (λ i. i)

-- the first number whose condition holds; 0 where none does
unfoldable pub first_of : List (ℕ × Bool) → ℕ
first_of [] = 0
first_of (x ∷ l) = cond x.1 x.0 (first_of l)

-- two signed numbers are equal
unfoldable pub same : ℤ → ℤ → Bool
same (pos a) (pos b) = eqb a b
same (pos a) (negsuc b) = false
same (negsuc a) (pos b) = false
same (negsuc a) (negsuc b) = eqb a b

unfoldable pub contains : ℤ → List ℤ → Bool
contains a l = any_of (same a) l
