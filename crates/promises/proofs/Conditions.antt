-- Numbers with conditions: which is the first that holds. By cases on the conditions, one after the other.
use Prim.Native.Nat.{ℕ, ◌/◌, ◌≤◌, ◌<◌}
use native.Mathlib.Omega.{arith}
use mathlib.Core.Path.{◌≡◌, refl, sym, ◌∙◌}
use mathlib.Core.Bool.{Bool, true, false, not, cond}
use mathlib.Core.List.{[], ◌∷◌, ◌++◌}
use mathlib.Core.Logic.{◌⊎◌, inl, inr, ◌↔◌}
use lib.Dec.{T, T_not}
use Rattle.words.specs.Words.{first_of}
use Rattle.calls.proofs.First.{Numbered, first_small}
use Rattle.promises.specs.Answers.{Conditions, First, None}

pub first-is : (n : ℕ) (l : Conditions) → First n l → first_of l ≡ n
unfolding first_of
first-is n [] h = absurd h
first-is n (x ∷ l) h = go x.1 (first-is n l) h
  where
    go : (b : Bool) → (First n l → first_of l ≡ n) → ((x.0 ≡ n) × T b) ⊎ (T (not b) × First n l) → cond b x.0 (first_of l) ≡ n
    go true f (inl h) = h.0
    go true f (inr h) = absurd h.0
    go false f (inl h) = absurd h.1
    go false f (inr h) = f h.1

pub is_first : (n : ℕ) → 0 < n → (l : Conditions) → first_of l ≡ n → First n l
unfolding first_of
is_first n p [] e = absurd (omega arith)
is_first n p (x ∷ l) e = go x.1 (is_first n p l) e
  where
    go : (b : Bool) → (first_of l ≡ n → First n l) → cond b x.0 (first_of l) ≡ n → ((x.0 ≡ n) × T b) ⊎ (T (not b) × First n l)
    go true f e = inl (e, tt)
    go false f e = inr (tt, f e)

pub none_is : (l : Conditions) → None l → first_of l ≡ 0
unfolding first_of
none_is [] h = refl
none_is (x ∷ l) h = go x.1 h.0 (none_is l h.1)
  where
    go : (b : Bool) → T (not b) → first_of l ≡ 0 → cond b x.0 (first_of l) ≡ 0
    go true h e = absurd h
    go false h e = e

pub is_none : (top : ℕ) (l : Conditions) → Numbered top l → first_of l ≡ 0 → None l
unfolding first_of
is_none top [] h e = tt
is_none top (x ∷ l) h e = go x.1 (is_none top l h.2) e
  where
    go : (b : Bool) → (first_of l ≡ 0 → None l) → cond b x.0 (first_of l) ≡ 0 → T (not b) × None l
    go true f e = absurd (omega arith)
    go false f e = (tt, f e)

-- ---- a word whose upper half is the first number
module _ (top : ℕ) (l : Conditions) (numbered : Numbered top l) (w : ℕ) (e : first_of l ≡ w / 4294967296) where
  pub word-refused : (n : ℕ) → 0 < n → (w / 4294967296 ≡ n) ↔ First n l
  word-refused n p = (λ h. is_first n p l (e ∙ h), λ h. sym e ∙ first-is n l h)

  pub word-answered : (w / 4294967296 ≡ 0) ↔ None l
  word-answered = (λ h. is_none top l numbered (e ∙ h), λ h. sym e ∙ none_is l h)

  pub word-numbered : w / 4294967296 ≤ top
  word-numbered = omega (arith, e, first_small top l numbered)

-- ---- conditions behind others
pub prefix_first : (n : ℕ) (l m : Conditions) → First n l → First n (l ++ m)
prefix_first n [] m h = absurd h
prefix_first n (x ∷ l) m h = go (prefix_first n l m) h
  where
    go : (First n l → First n (l ++ m)) → ((x.0 ≡ n) × T x.1) ⊎ (T (not x.1) × First n l) → ((x.0 ≡ n) × T x.1) ⊎ (T (not x.1) × First n (l ++ m))
    go f (inl a) = inl a
    go f (inr a) = inr (a.0, f a.1)

pub behind-first : (n : ℕ) (l m : Conditions) → None l → First n m → First n (l ++ m)
behind-first n [] m h k = k
behind-first n (x ∷ l) m h k = inr (h.0, behind-first n l m h.1 k)

pub none-parts : (l m : Conditions) → None (l ++ m) → None l × None m
none-parts [] m h = (tt, h)
none-parts (x ∷ l) m h = let k = none-parts l m h.1 in ((h.0, k.0), k.1)

pub none-join : (l m : Conditions) → None l → None m → None (l ++ m)
none-join [] m h k = k
none-join (x ∷ l) m h k = (h.0, none-join l m h.1 k)

-- the numbers from low to high
abbrev pub Between : ℕ → ℕ → Conditions → Type 0
Between low high [] = Unit {0}
Between low high (x ∷ l) = (low ≤ x.0) × (x.0 ≤ high) × Between low high l

pub first-between : (low high n : ℕ) (l : Conditions) → Between low high l → First n l → (low ≤ n) × (n ≤ high)
first-between low high n [] b h = absurd h
first-between low high n (x ∷ l) b h = go (first-between low high n l b.2) h
  where
    go : (First n l → (low ≤ n) × (n ≤ high)) → ((x.0 ≡ n) × T x.1) ⊎ (T (not x.1) × First n l) → (low ≤ n) × (n ≤ high)
    go f (inl a) = (let e = a.0 in let p = b.0 in omega arith, let e = a.0 in let p = b.1 in omega arith)
    go f (inr a) = f a.1

-- ---- a number that stands nowhere
abbrev pub Without : ℕ → Conditions → Type 0
Without n [] = Unit {0}
Without n (x ∷ l) = (x.0 ≡ n → ⊥) × Without n l

pub never_first : (n : ℕ) (l : Conditions) → Without n l → First n l → ⊥
never_first n [] w h = h
never_first n (x ∷ l) w h = elim h [ inl a ↦ w.0 a.0 | inr a ↦ never_first n l w.1 a.1 ]

-- a condition that is not the first may as well not be asked
pub left_out : (n : ℕ) (b : Bool) (l m : Conditions) → (first_of (l ++ (n, b) ∷ m) ≡ n → ⊥) → first_of (l ++ (n, b) ∷ m) ≡ first_of (l ++ m)
unfolding first_of
left_out n b [] m h = go b h
  where
    go : (c : Bool) → (cond c n (first_of m) ≡ n → ⊥) → cond c n (first_of m) ≡ first_of m
    go true k = absurd (k refl)
    go false k = refl
left_out n b (x ∷ l) m h = go x.1 (left_out n b l m) h
  where
    go : (c : Bool) → ((first_of (l ++ (n, b) ∷ m) ≡ n → ⊥) → first_of (l ++ (n, b) ∷ m) ≡ first_of (l ++ m))
        → (cond c x.0 (first_of (l ++ (n, b) ∷ m)) ≡ n → ⊥)
        → cond c x.0 (first_of (l ++ (n, b) ∷ m)) ≡ cond c x.0 (first_of (l ++ m))
    go true f k = refl
    go false f k = f k

-- a condition that does not hold where those before it do not is never the first
pub never_reached : (n : ℕ) (l : Conditions) (b : Bool) (m : Conditions) → Without n l → (None l → T (not b)) → (First n m → ⊥) → First n (l ++ (n, b) ∷ m) → ⊥
never_reached n [] b m w f g h = elim h [ inl a ↦ T_not b (f tt) a.1 | inr a ↦ g a.1 ]
never_reached n (x ∷ l) b m w f g h =
    elim h [ inl a ↦ w.0 a.0 | inr a ↦ never_reached n l b m w.1 (λ k. f (a.0, k)) g a.1 ]

-- nor does it matter to another number
pub passed_over : (n k : ℕ) (l : Conditions) (b : Bool) (m : Conditions) → (k ≡ n → ⊥) → (None l → T (not b)) → First n (l ++ (k, b) ∷ m) ↔ First n (l ++ m)
passed_over n k [] b m w f = (λ h. elim h [ inl a ↦ absurd (w a.0) | inr a ↦ a.1 ], λ h. inr (f tt, h))
passed_over n k (x ∷ l) b m w f = (
  λ h. elim h [ inl a ↦ inl a | inr a ↦ inr (a.0, (passed_over n k l b m w (λ q. f (a.0, q))).0 a.1) ],
  λ h. elim h [ inl a ↦ inl a | inr a ↦ inr (a.0, (passed_over n k l b m w (λ q. f (a.0, q))).1 a.1) ],
)

-- one that stands in front, where those behind are not the first
pub front-first : (n : ℕ) (l m : Conditions) → (First n m → ⊥) → First n (l ++ m) → First n l
front-first n [] m g h = g h
front-first n (x ∷ l) m g h = elim h [ inl a ↦ inl a | inr a ↦ inr (a.0, front-first n l m g a.1) ]

-- where the last one is the first, none before it holds
pub last-first : (n : ℕ) (l : Conditions) (b : Bool) → Without n l → First n (l ++ (n, b) ∷ []) → None l × T b
last-first n [] b k h = elim h [ inl a ↦ (tt, a.1) | inr a ↦ absurd a.1 ]
last-first n (x ∷ l) b k h = go (last-first n l b k.1) h
  where
    go : (First n (l ++ (n, b) ∷ []) → None l × T b) → ((x.0 ≡ n) × T x.1) ⊎ (T (not x.1) × First n (l ++ (n, b) ∷ [])) → (T (not x.1) × None l) × T b
    go f (inl a) = absurd (k.0 a.0)
    go f (inr a) = let r = f a.1 in ((a.0, r.0), r.1)
