-- Rows of named entries: one added, and one looked at.
use Prim.Native.Nat.{ℕ, zero, suc, ◌+◌, ◌*◌, ◌≤◌, ◌<◌}
use native.Mathlib.Omega.{arith}
use mathlib.Core.Path.{◌≡◌, refl, sym, ap, ap₂, ◌∙◌}
use mathlib.Core.Bool.{Bool, true, false, ◌&&◌, ◌||◌, cond, not}
use mathlib.Core.List.{List, [], ◌∷◌, ◌++◌}
use lib.Dec.{ltb}
use lib.ListN.{length, get_or, set, take}
use lib.Seq.{get_or-set_same, get_or-set_other, take-suc}
use borrow.Author.Tests.{ltb-true, ltb-false, lt-ltb}
use Rattle.std.specs.Prelude.{Option}
use Rattle.words.specs.Words.{any_of, count_of, table_from, table, from}
use Rattle.words.proofs.Tables.{table_same, table_more, any-more}
use Rattle.marks.specs.Marks.{is_marked}
use Rattle.parts.specs.Parts.{chosen, size, holds}
use Rattle.cause.specs.Decided.{has_own}
use Rattle.leave_out.specs.Bits.{Marked, Bits}
use Rattle.leave_out.specs.declared.rows.Rows.{Rows}
use Rattle.leave_out.specs.Held.{own_left, counted_in, is_over, any_over, Added}
use Rattle.leave_out.proofs.Sharing.{chosen-shared}

-- ---- lists of flags
pub take-table : {A : Type 0} (l : List A) (d : A) (n : ℕ) → n ≤ length l → take n l ≡ table n (λ k. get_or l k d)
unfolding table_from
take-table l d zero h = refl
take-table {A} l d (suc n) h =
    let q : n + 1 ≡ suc n = omega arith in
    take-suc l n d (omega (arith, h))
    ∙ ap (λ (r : List A). r ++ (get_or l n d ∷ [])) (take-table l d n (omega (arith, h)))
    ∙ sym (table_more n (λ k. get_or l k d)) ∙ ap (λ (m : ℕ). table m (λ k. get_or l k d)) q

any-from : (t u : ℕ → Bool) (i n : ℕ) → ((k : ℕ) → k < i + n → t k ≡ u k) → any_of t (from i n) ≡ any_of u (from i n)
unfolding any_of table_from
any-from t u i zero h = refl
any-from t u i (suc n) h = ap₂ (λ (a b : Bool). a || b) (h i (omega arith)) (any-from t u (suc i) n (λ k q. h k (omega (arith, q))))

-- one that passes
any-last : (a b : Bool) → b ≡ true → a || b ≡ true
any-last true b e = refl
any-last false b e = e

pub any-at : (t : ℕ → Bool) (n r : ℕ) → r < n → t r ≡ true → any_of t (from 0 n) ≡ true
any-at t zero r h e = absurd (let q : ⊥ = omega (arith, h) in q)
any-at t (suc n) r h e =
    let q : suc n ≡ n + 1 = omega arith in
    ap (λ (m : ℕ). any_of t (from 0 m)) q ∙ any-more t n (λ k. k) ∙ last (ltb r n) refl (any-at t n r)
  where
    last : (b : Bool) → ltb r n ≡ b → (r < n → t r ≡ true → any_of t (from 0 n) ≡ true) → any_of t (from 0 n) || t n ≡ true
    last true l f = ap (λ (b : Bool). b || t n) (f (ltb-true r n l) e)
    last false l f =
        let s : r ≡ n = omega (arith, h, ltb-false r n l) in
        any-last (any_of t (from 0 n)) (t n) (ap t (sym s) ∙ e)

-- ---- a row added
module _ (n : ℕ) (few : n ≤ 256) (before after : Rows) (own : Option ℕ) (number limit : ℕ) (members : List Bool)
    (long : n ≤ length members) (owns : before.count < length before.owns) (limits : before.count < length before.limits)
    (counted_is : Marked (256 * before.count) n members before.counted after.counted)
    (owns_is : after.owns ≡ set before.owns before.count number)
    (limits_is : after.limits ≡ set before.limits before.count limit)
    (count_is : after.count ≡ before.count + 1)
    (number_is : (left : List Bool) → own_left number left ≡ has_own own left) where
  abbrev r : ℕ
  r = before.count

  abbrev over_by : List Bool → (own limit : ℕ) → List Bool → Bool
  over_by left own limit counted = own_left own left && ltb limit (size (chosen left counted))

  module _ (left : List Bool) (all : length left ≡ n) where
    old_row : (k : ℕ) → k < r → is_over after left k ≡ is_over before left k
    unfolding is_over counted_in
    old_row k h =
        let apart : (k ≡ r → ⊥) = λ e. omega (arith, e, h) in
        let counted = table_same (length left) (λ j. is_marked after.counted (256 * k + j)) (λ j. is_marked before.counted (256 * k + j))
        (λ j q. counted_is.ahead (256 * k + j) (omega (arith, q, h, few, all))) in
        let o = ap (λ (l : List ℕ). get_or l k 0) owns_is ∙ get_or-set_other before.owns r k number 0 apart in
        let m = ap (λ (l : List ℕ). get_or l k 0) limits_is ∙ get_or-set_other before.limits r k limit 0 apart in
        ap₂ (λ (a b : ℕ). over_by left a b (table (length left) (λ j. is_marked after.counted (256 * k + j)))) o m
        ∙ ap (over_by left (get_or before.owns k 0) (get_or before.limits k 0)) counted

    new_row : is_over after left r ≡ has_own own left && ltb limit (size (chosen left (take n members)))
    unfolding is_over counted_in
    new_row =
        let counted : table (length left) (λ j. is_marked after.counted (256 * r + j)) ≡ take n members =
        ap (λ (m : ℕ). table m (λ j. is_marked after.counted (256 * r + j))) all
        ∙ table_same n (λ j. is_marked after.counted (256 * r + j)) (λ j. get_or members j false) counted_is.here
        ∙ sym (take-table members false n long) in
        let o = ap (λ (l : List ℕ). get_or l r 0) owns_is ∙ get_or-set_same before.owns r number 0 owns in
        let m = ap (λ (l : List ℕ). get_or l r 0) limits_is ∙ get_or-set_same before.limits r limit 0 limits in
        ap₂ (λ (a b : ℕ). over_by left a b (table (length left) (λ j. is_marked after.counted (256 * r + j)))) o m
        ∙ ap (over_by left number limit) counted
        ∙ ap (λ (b : Bool). b && ltb limit (size (chosen left (take n members)))) (number_is left)

    over_more : any_over after left ≡ any_over before left || (has_own own left && ltb limit (size (chosen left (take n members))))
    unfolding any_over
    over_more =
        ap (λ (m : ℕ). any_of (is_over after left) (from 0 m)) count_is
        ∙ any-more (is_over after left) r (λ k. k)
        ∙ ap₂ (λ (a b : Bool). a || b)
        (any-from (is_over after left) (is_over before left) 0 r (λ k q. old_row k (omega (arith, q)))) new_row

  pub added : Added n before after (λ left. has_own own left && ltb limit (size (chosen left (take n members))))
  added = record {
    count = count_is;
    free = λ j q. counted_is.none j (omega (arith, q, count_is, few));
    over = over_more;
  }

-- ---- a row looked at, by bits
module _ (rows : Rows) (r : ℕ) (s : List Bool) (left : List ℕ) (few : length s ≤ 256) (bits : Bits s left) where
  row_count : (k : ℕ) → k ≡ count_of (λ j. is_marked left j && is_marked rows.counted (64 * (4 * r) + j)) (from 0 256)
      → k ≡ size (chosen s (counted_in rows.counted r (length s)))
  unfolding counted_in
  row_count k e =
      let q : 64 * (4 * r) ≡ 256 * r = omega arith in
      e ∙ ap (λ (at : ℕ). count_of (λ j. is_marked left j && is_marked rows.counted (at + j)) (from 0 256)) q
      ∙ chosen-shared s left rows.counted (256 * r) few bits

  pub over-row : (k : ℕ) → k ≡ count_of (λ j. is_marked left j && is_marked rows.counted (64 * (4 * r) + j)) (from 0 256)
      → own_left (get_or rows.owns r 0) s ≡ true → ltb (get_or rows.limits r 0) k ≡ is_over rows s r
  unfolding is_over
  over-row k e o =
      ap (ltb (get_or rows.limits r 0)) (row_count k e)
      ∙ ap (λ (b : Bool). b && ltb (get_or rows.limits r 0) (size (chosen s (counted_in rows.counted r (length s))))) (sym o)

  pub spared-row : own_left (get_or rows.owns r 0) s ≡ false → false ≡ is_over rows s r
  unfolding is_over
  spared-row o =
      ap (λ (b : Bool). b && ltb (get_or rows.limits r 0) (size (chosen s (counted_in rows.counted r (length s))))) (sym o)

-- ---- all rows
module _ (rows : Rows) (s : List Bool) where
  pub one-over : (r : ℕ) → r < rows.count → is_over rows s r ≡ true → false ≡ not (any_over rows s)
  unfolding any_over
  one-over r h e = ap not (sym (any-at (is_over rows s) rows.count r h e))

  pub none-over : (r : ℕ) → r ≡ rows.count → any_of (is_over rows s) (from 0 r) ≡ false → true ≡ not (any_over rows s)
  unfolding any_over
  none-over r h e = ap not (sym e ∙ ap (λ (m : ℕ). any_of (is_over rows s) (from 0 m)) h)

  pub over-next : (r : ℕ) → any_of (is_over rows s) (from 0 r) ≡ false → is_over rows s r ≡ false → any_of (is_over rows s) (from 0 (r + 1)) ≡ false
  over-next r e f = any-more (is_over rows s) r (λ k. k) ∙ ap₂ (λ (a b : Bool). a || b) e f

pub over_none : (rows : Rows) (s : List Bool) → any_of (is_over rows s) (from 0 0) ≡ false
unfolding any_of table_from
over_none rows s = refl

-- ---- own pairs by their numbers
pub own_some : (i : ℕ) (left : List Bool) → i < 256 → own_left i left ≡ holds left i
own_some i left h = ap (λ (b : Bool). cond b (holds left i) true) (lt-ltb i 256 h)
