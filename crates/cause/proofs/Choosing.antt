-- What loops over the pairs and their flags do: one pair more is chosen where its flag is set. What is summed and counted of those.
use Prim.Native.Nat.{ℕ, zero, suc, ◌+◌, ◌≤◌, ◌<◌}
use native.Mathlib.Numerals.{add-one}
use native.Mathlib.Omega.{arith}
use mathlib.Core.Path.{◌≡◌, refl, sym, ap, ap₂, ◌∙◌}
use mathlib.Core.Bool.{Bool, true, false, ◌&&◌, cond}
use mathlib.Core.List.{List, [], ◌∷◌, ◌++◌, map, append-nil, foldl, foldl-append}
use lib.Ieee.{Float, binary64, add}
use lib.ListN.{length, length-append, get_or, take}
use lib.Seq.{take-suc, length-take-le}
use Rattle.std.specs.Prelude.{Option, None, Some}
use Rattle.words.specs.Words.{table, table_from, only, count_of, sum_of, given}
use Rattle.words.proofs.Steps.{only-append, sum_append}
use Rattle.words.proofs.Tables.{length-table, table_more, map-table}
use Rattle.numbers.specs.Slots as Slots
use Rattle.floats.specs.Floats.{zero_f}
use Rattle.context.specs.Context.{Pair, is_in}
use Rattle.resource.specs.Resource.{is_launched, launched, cargo_volume, cargo_used}
use Rattle.parts.specs.Parts.{chosen, size}
use Rattle.cause.specs.Decided.{stack_of, room_of, total, with_room, stowed}

take_more : {A : Type 0} (k : List A) (d : A) (i : ℕ) → i < length k → take (i + 1) k ≡ take i k ++ (get_or k i d ∷ [])
take_more k d i h = rw add-one (take-suc k i d h)

module _ {A : Type 0} where
  chosen-append : (s u : List Bool) (l m : List A) → length s ≡ length l → chosen (s ++ u) (l ++ m) ≡ chosen s l ++ chosen u m
  unfolding chosen
  chosen-append [] u [] m h = refl
  chosen-append [] u (x ∷ l) m h = let no : ⊥ = omega (arith, h) in absurd no
  chosen-append (b ∷ s) u [] m h = let no : ⊥ = omega (arith, h) in absurd no
  chosen-append (b ∷ s) u (x ∷ l) m h = go b (chosen-append s u l m (omega (arith, h)))
    where
      go : (b : Bool) → chosen (s ++ u) (l ++ m) ≡ chosen s l ++ chosen u m
          → cond b (x ∷ chosen (s ++ u) (l ++ m)) (chosen (s ++ u) (l ++ m)) ≡ cond b (x ∷ chosen s l) (chosen s l) ++ chosen u m
      go true e = ap (λ (r : List A). x ∷ r) e
      go false e = e

  chosen-end : (s : List Bool) (l : List A) (b : Bool) (x : A) → length s ≡ length l
      → chosen (s ++ (b ∷ [])) (l ++ (x ∷ [])) ≡ chosen s l ++ cond b (x ∷ []) []
  unfolding chosen
  chosen-end s l b x h = chosen-append s (b ∷ []) l (x ∷ []) h

  -- of a table, of another list
  pub chosen-more : (k : List Bool) (f : ℕ → A) (i : ℕ) → i < length k
      → chosen (take (i + 1) k) (table (i + 1) f) ≡ chosen (take i k) (table i f) ++ cond (get_or k i false) (f i ∷ []) []
  chosen-more k f i h =
      ap₂ chosen (take_more k false i h) (table_more i f)
      ∙ chosen-end (take i k) (table i f) (get_or k i false) (f i) (omega (arith, length-take-le i k (omega (arith, h)), length-table 0 i f))

  pub chosen-both : (k : List Bool) (l : List A) (d : A) (i : ℕ) → i < length k → i < length l
      → chosen (take (i + 1) k) (take (i + 1) l) ≡ chosen (take i k) (take i l) ++ cond (get_or k i false) (get_or l i d ∷ []) []
  chosen-both k l d i h m =
      ap₂ chosen (take_more k false i h) (take_more l d i m)
      ∙ chosen-end (take i k) (take i l) (get_or k i false) (get_or l i d)
      (omega (arith, length-take-le i k (omega (arith, h)), length-take-le i l (omega (arith, m))))

  chosen-all : (k : List Bool) (l : List A) (i : ℕ) → i ≤ length k → ((j : ℕ) → j < i → get_or k j false ≡ true) → chosen (take i k) (take i l) ≡ take i l
  unfolding chosen
  chosen-all k l zero h all = refl
  chosen-all [] l (suc i) h all = let no : ⊥ = omega (arith, h) in absurd no
  chosen-all (b ∷ k) [] (suc i) h all = refl
  chosen-all (b ∷ k) (x ∷ l) (suc i) h all =
      ap (λ (c : Bool). cond c (x ∷ chosen (take i k) (take i l)) (chosen (take i k) (take i l))) (all 0 (omega arith))
      ∙ ap (λ (r : List A). x ∷ r) (chosen-all k l i (omega (arith, h)) (λ j q. all (suc j) (omega (arith, q))))

  -- all before one that is not chosen
  pub chosen-before : (k : List Bool) (l : List A) (d : A) (i : ℕ) → i < length k → i < length l → ((j : ℕ) → j < i → get_or k j false ≡ true)
      → get_or k i false ≡ false → chosen (take (i + 1) k) (take (i + 1) l) ≡ take i l
  chosen-before k l d i h m all e =
      chosen-both k l d i h m ∙ ap (λ (b : Bool). chosen (take i k) (take i l) ++ cond b (get_or l i d ∷ []) []) e
      ∙ append-nil (chosen (take i k) (take i l)) ∙ chosen-all k l i (omega (arith, h)) all

  pub chosen-none : (k : List Bool) (l : List A) → chosen (take 0 k) l ≡ []
  unfolding chosen
  chosen-none k l = refl

-- ---- sums, and the flags that are set
pub total-none : total [] ≡ 0
unfolding sum_of
total-none = refl

pub total-with : (l : List ℕ) (b : Bool) (k : ℕ) → total (l ++ cond b (k ∷ []) []) ≡ total l + cond b k 0
unfolding sum_of
total-with l b k = sum_append (λ n. n) l (cond b (k ∷ []) []) ∙ ap (λ (n : ℕ). total l + n) (last b)
  where
    last : (b : Bool) → total (cond b (k ∷ []) []) ≡ cond b k 0
    last true = let e : k + 0 ≡ k = omega arith in e
    last false = refl

pub stowed-none : stowed [] ≡ zero_f
unfolding stowed
stowed-none = refl

pub stowed-with : (l : List (Option Float)) (b : Bool) (r : Option Float)
    → stowed (l ++ cond b (r ∷ []) []) ≡ cond b (with_room (stowed l) r) (stowed l)
unfolding stowed
stowed-with l b r = foldl-append with_room zero_f l (cond b (r ∷ []) []) ∙ last b
  where
    last : (b : Bool) → foldl with_room (foldl with_room zero_f l) (cond b (r ∷ []) [])
        ≡ cond b (with_room (foldl with_room zero_f l) r) (foldl with_room zero_f l)
    last true = refl
    last false = refl

pub stowed-next : (rooms : List (Option Float)) (i : ℕ) → i < length rooms
    → stowed (take (i + 1) rooms) ≡ with_room (stowed (take i rooms)) (get_or rooms i None)
stowed-next rooms i h = ap stowed (take_more rooms None i h) ∙ stowed-with (take i rooms) true (get_or rooms i None)

pub size-none : size [] ≡ 0
unfolding size count_of only
size-none = refl

pub size-with : (l : List Bool) (b m : Bool) → size (l ++ cond b (m ∷ []) []) ≡ size l + cond (m && b) 1 0
unfolding size count_of only
size-with l b m =
    ap (λ (r : List Bool). length r) (only-append (λ x. x) l (cond b (m ∷ []) []))
    ∙ length-append (only (λ x. x) l) (only (λ x. x) (cond b (m ∷ []) []))
    ∙ ap (λ (n : ℕ). length (only (λ x. x) l) + n) (last b m)
  where
    last : (b m : Bool) → length (only (λ x. x) (cond b (m ∷ []) [])) ≡ cond (m && b) 1 0
    last true true = refl
    last true false = refl
    last false true = refl
    last false false = refl

pub size-end : (k : List Bool) (i : ℕ) → i < length k → size (take (i + 1) k) ≡ size (take i k) + cond (get_or k i false) 1 0
unfolding size count_of only
size-end k i h =
    ap (λ (r : List Bool). length (only (λ x. x) r)) (take_more k false i h)
    ∙ ap (λ (r : List Bool). length r) (only-append (λ x. x) (take i k) (get_or k i false ∷ []))
    ∙ length-append (only (λ x. x) (take i k)) (only (λ x. x) (get_or k i false ∷ []))
    ∙ ap (λ (n : ℕ). length (only (λ x. x) (take i k)) + n) (last (get_or k i false))
  where
    last : (b : Bool) → length (only (λ x. x) (b ∷ [])) ≡ cond b 1 0
    last true = refl
    last false = refl

-- ---- what an array holds of each pair
module _ {A B : Type 0} (t : A → B) where
  array-table : (d : B) (array : List B) (f : ℕ → A) (n : ℕ) → n ≤ length array → ((i : ℕ) → i < n → get_or array i d ≡ t (f i))
      → take n array ≡ table n (λ i. t (f i))
  unfolding table_from
  array-table d array f zero h g = refl
  array-table d array f (suc n) h g =
      take-suc array n d (omega (arith, h))
      ∙ ap₂ (λ (l : List B) (b : B). l ++ (b ∷ [])) (array-table d array f n (omega (arith, h)) (λ i q. g i (omega (arith, q)))) (g n (omega arith))
      ∙ sym (table_more n (λ i. t (f i)))
      ∙ (let q : n + 1 ≡ suc n = omega arith in ap (λ (m : ℕ). table m (λ i. t (f i))) q)

  chosen-map : (s : List Bool) (l : List A) → chosen s (map t l) ≡ map t (chosen s l)
  unfolding chosen
  chosen-map [] l = refl
  chosen-map (b ∷ s) [] = refl
  chosen-map (b ∷ s) (x ∷ l) = go b (chosen-map s l)
    where
      go : (b : Bool) → chosen s (map t l) ≡ map t (chosen s l)
          → cond b (t x ∷ chosen s (map t l)) (chosen s (map t l)) ≡ map t (cond b (x ∷ chosen s l) (chosen s l))
      go true e = ap (λ (r : List B). t x ∷ r) e
      go false e = e

  -- of those that are chosen
  pub chosen-array : (d : B) (array : List B) (f : ℕ → A) (n : ℕ) → n ≤ length array → ((i : ℕ) → i < n → get_or array i d ≡ t (f i))
      → (s : List Bool) → chosen s (take n array) ≡ map t (chosen s (table n f))
  chosen-array d array f n h g s =
      ap (λ (l : List B). chosen s l) (array-table d array f n h g ∙ sym (map-table t n f)) ∙ chosen-map s (table n f)

pub size-map : {A : Type 0} (t : A → Bool) (l : List A) → size (map t l) ≡ count_of t l
unfolding size count_of only
size-map t [] = refl
size-map {A} t (x ∷ l) = go (t x) (size-map t l)
  where
    go : (b : Bool) → length (only (λ y. y) (map t l)) ≡ length (only t l)
        → length (cond b (b ∷ only (λ y. y) (map t l)) (only (λ y. y) (map t l))) ≡ length (cond b (x ∷ only t l) (only t l))
    go true e = ap suc e
    go false e = e

pub total-map : (l : List Pair) → total (map stack_of l) ≡ launched l
unfolding launched stack_of sum_of only
total-map [] = refl
total-map (p ∷ l) = go (is_launched p) (total-map l)
  where
    go : (b : Bool) → total (map stack_of l) ≡ sum_of (λ (q : Pair). q.quantity) (only is_launched l)
        → cond b p.quantity 0 + total (map stack_of l) ≡ sum_of (λ (q : Pair). q.quantity) (cond b (p ∷ only is_launched l) (only is_launched l))
    go true e = ap (λ (n : ℕ). p.quantity + n) e
    go false e = omega (arith, e)

pub stowed-map : (l : List Pair) → stowed (map room_of l) ≡ cargo_used l
unfolding stowed cargo_used room_of only given
stowed-map l = go zero_f l
  where
    with_pair : Float → Pair → Float
    with_pair sum p = add binary64 sum (cargo_volume p)

    one : (b : Bool) (s : Float) (p : Pair) (l : List Pair)
        → ((r : Float) → foldl with_room r (map room_of l) ≡ foldl with_pair r (only (is_in Slots.cargo) l))
        → foldl with_room (with_room s (cond b (Some (cargo_volume p)) None)) (map room_of l)
        ≡ foldl with_pair s (cond b (p ∷ only (is_in Slots.cargo) l) (only (is_in Slots.cargo) l))
    one true s p l h = h (with_pair s p)
    one false s p l h = h s

    go : (s : Float) (l : List Pair) → foldl with_room s (map room_of l) ≡ foldl with_pair s (only (is_in Slots.cargo) l)
    go s [] = refl
    go s (p ∷ l) = one (is_in Slots.cargo p) s p l (λ r. go r l)
