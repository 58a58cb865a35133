-- Flags marked as bits, one more at a time; and rows added one after the other.
use Prim.Native.Nat.{ℕ, ◌+◌, ◌≤◌, ◌<◌}
use native.Mathlib.Nat.{eq-or-lt_of_le}
use native.Mathlib.Omega.{arith}
use mathlib.Core.Logic.{⊎_elim}
use mathlib.Core.Path.{◌≡◌, refl, sym, ap, ap₂, ◌∙◌, subst}
use mathlib.Core.Bool.{Bool, true, false, ◌&&◌, ◌||◌}
use mathlib.Core.List.{List}
use lib.Dec.{eqb, ltb}
use lib.ListN.{length, get_or, take, replicate, length-replicate, get_or-replicate}
use borrow.Author.Tests.{eq-eqb, ne_eqb, ltb-true, ltb-false}
use Rattle.words.proofs.Tables.{length-table, get_or-table, table_same}
use Rattle.marks.specs.Marks.{is_marked}
use Rattle.marks.proofs.Places.{none-marked}
use Rattle.parts.specs.Parts.{holds}
use Rattle.leave_out.specs.Bits.{Unmarked, Marked, Bits, marked_of}
use Rattle.leave_out.proofs.Sharing.{holds-past}
use Rattle.leave_out.proofs.Rowing.{take-table}

pub and_false : (a : Bool) → a && false ≡ false
and_false true = refl
and_false false = refl

pub and_true : (a : Bool) → a && true ≡ a
and_true true = refl
and_true false = refl

pub or_false : (a : Bool) → a || false ≡ a
or_false true = refl
or_false false = refl

-- ---- one flag more
module _ (place i : ℕ) (flags : List Bool) (first old new : List ℕ) (flag : Bool) (is : flag ≡ get_or flags i false)
    (h : Marked place i flags first old) (e : (j : ℕ) → is_marked new j ≡ is_marked old j || (flag && eqb (place + i) j)) where
  -- another place is as it was
  other : (j : ℕ) → (place + i ≡ j → ⊥) → is_marked new j ≡ is_marked old j
  other j n =
      e j ∙ ap (λ (b : Bool). is_marked old j || (flag && b)) (ne_eqb (place + i) j n)
      ∙ ap (λ (b : Bool). is_marked old j || b) (and_false flag) ∙ or_false (is_marked old j)

  own : is_marked new (place + i) ≡ get_or flags i false
  own =
      e (place + i) ∙ ap₂ (λ (a b : Bool). a || (flag && b)) (h.none (place + i) (omega arith)) (eq-eqb (place + i) (place + i) refl)
      ∙ and_true flag ∙ is

  pub marked-more : Marked place (i + 1) flags first new
  marked-more = record {
    here = λ j q.
        ⊎_elim
        (λ (p : j ≡ i). subst (λ (k : ℕ). is_marked new (place + k) ≡ get_or flags k false) (sym p) own)
        (λ (p : j < i). other (place + j) (λ r. omega (arith, r, p)) ∙ h.here j p)
        (eq-or-lt_of_le (omega (arith, q)));
    ahead = λ j q. other j (λ r. omega (arith, r, q)) ∙ h.ahead j q;
    none = λ j q. other j (λ r. omega (arith, r, q)) ∙ h.none j (omega (arith, q));
  }

pub marked_none : (place : ℕ) (flags : List Bool) (m : List ℕ) → Unmarked place m → Marked place 0 flags m m
marked_none place flags m h = record {
  here = λ j q. absurd (no j q);
  ahead = λ j q. refl;
  none = λ j q. h j (omega (arith, q));
}
  where
    no : (j : ℕ) → j < 0 → ⊥
    no j q = omega (arith, q)

-- words that are all 0
pub unmarked : (n place : ℕ) → Unmarked place (replicate n 0)
unmarked n place j h =
    none-marked (replicate n 0) (λ k q. get_or-replicate n k 0 0 (omega (arith, q, length-replicate {A = ℕ} n 0))) j

-- flags marked from the first place on are those of a set
pub marked-flags : (n : ℕ) (flags : List Bool) (old new : List ℕ) → n ≤ length flags → Marked 0 n flags old new
    → (marked_of n new ≡ take n flags) × Unmarked n new
marked-flags n flags old new h m = (
  table_same n (is_marked new) (λ k. get_or flags k false) here ∙ sym (take-table flags false n h),
  λ j q. m.none j (omega (arith, q)),
)
  where
    here : (k : ℕ) → k < n → is_marked new k ≡ get_or flags k false
    here k l = let q : k ≡ 0 + k = omega arith in ap (is_marked new) q ∙ m.here k l

-- what is marked are the bits of its set
pub own-bits : (n : ℕ) (m : List ℕ) → Unmarked n m → Bits (marked_of n m) m
own-bits n m h j = go (ltb j n) refl
  where
    go : (b : Bool) → ltb j n ≡ b → is_marked m j ≡ holds (marked_of n m) j
    go true e = sym (get_or-table n (is_marked m) j false (ltb-true j n e))
    go false e =
        let l : n ≤ j = ltb-false j n e in
        h j l ∙ sym (holds-past (marked_of n m) j (omega (arith, l, length-table 0 n (is_marked m))))
