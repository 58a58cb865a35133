-- `marks::next` meets its contract: the rest of a word, the words after it that are 0, and what stands in front of a word's lowest bit.
use Prim.Native.Nat.{ℕ, ◌+◌, ◌-◌, ◌*◌, ◌/◌, ◌%◌, ◌≤◌, ◌<◌}
use native.Mathlib.Omega.{arith}
use mathlib.Core.Path.{◌≡◌, refl, sym, ap, ◌∙◌}
use mathlib.Core.Bool.{Bool, true, false}
use mathlib.Core.List.{List}
use lib.Dec.{ltb}
use lib.ListN.{get_or}
use borrow.Author.Tests.{ltb-true, ltb-false}
use Rattle.marks.specs.Marks.{bit_of, is_marked}
use Rattle.marks.proofs.Places.{of_word, none_in_word}
use Rattle.marks.proofs.next.Goals as goal

-- the places from one on of which its word tells
near : (m : List ℕ) (first free : ℕ) → ((j : ℕ) → j < free → first % 64 + j < 64 → is_marked m (first + j) ≡ false) → (k : ℕ) → first ≤ k → k < first + free
    → k / 64 ≡ first / 64 → is_marked m k ≡ false
near m first free rest k g h same =
    let q : k ≡ first + (k - first) = omega arith in
    ap (is_marked m) q ∙ rest (k - first) (omega (arith, g, h)) (omega (arith, g, same))

-- those of the words after it, up to one, where these are 0
far : (m : List ℕ) (first free w : ℕ) → 64 - first % 64 ≤ free → ((j : ℕ) → j < free → first % 64 + j < 64 → is_marked m (first + j) ≡ false)
    → ((k : ℕ) → first / 64 + 1 ≤ k → k < w → get_or m k 0 ≡ 0) → (k : ℕ) → first ≤ k → k < 64 * w → is_marked m k ≡ false
far m first free w long rest empty k g h = go (ltb (first / 64) (k / 64)) refl
  where
    go : (t : Bool) → ltb (first / 64) (k / 64) ≡ t → is_marked m k ≡ false
    go true e = none_in_word m k (empty (k / 64) (omega (arith, ltb-true (first / 64) (k / 64) e)) (omega (arith, h)))
    go false e =
        let l : k / 64 ≤ first / 64 = ltb-false (first / 64) (k / 64) e in
        near m first free rest k g (omega (arith, l, long)) (omega (arith, l, g))

-- and those in that word, under its lowest bit
under_bit : (m : List ℕ) (first w z : ℕ) → z ≤ 64 → ((k : ℕ) → first ≤ k → k < 64 * w → is_marked m k ≡ false)
    → ((j : ℕ) → j < z → bit_of (get_or m w 0) j ≡ false) → (k : ℕ) → first ≤ k → k < 64 * w + z → is_marked m k ≡ false
under_bit m first w z few before under k g h = go (ltb k (64 * w)) refl
  where
    go : (t : Bool) → ltb k (64 * w) ≡ t → is_marked m k ≡ false
    go true e = before k g (ltb-true k (64 * w) e)
    go false e =
        let l : 64 * w ≤ k = ltb-false k (64 * w) e in
        let q : k ≡ 64 * w + (k - 64 * w) = omega arith in
        ap (is_marked m) q ∙ sym (of_word m w (k - 64 * w) (omega (arith, h, l, few))) ∙ under (k - 64 * w) (omega (arith, h, l))

pub returns-then-free-left : goal.returns-then-free-left
returns-then-free-left c =
    let a = c.args in
    let g = c.gap-free in
    let short = c.if-free-left.true in
    let at = c.min.ensures in
    record {
      ordered = omega (arith, at, c.requires.0);
      within = omega (arith, at);
      none = λ k p q. near a.marks.now a.from g.result g.ensures.1 k p (omega (arith, q, at)) (omega (arith, p, q, at, short));
      here = λ h.
          let e : c.min.result ≡ a.from + g.result = omega (arith, at, h) in
          ap (is_marked a.marks.now) e ∙ g.ensures.2 (omega (arith, short));
    }

pub returns-then-k-words : goal.returns-then-k-words
returns-then-k-words c =
    let a = c.args in
    let g = c.gap-free in
    let w = c.next_word-k in
    let past = c.if-k-words.true in
    record {
      ordered = c.requires.0;
      within = omega arith;
      none = λ k p q. far a.marks.now a.from g.result w.result (omega (arith, c.if-free-left.false)) g.ensures.1 w.ensures.2 k p (omega (arith, q, past));
      here = λ h. absurd (omega (arith, h));
    }

pub returns : goal.returns
returns c =
    let a = c.args in
    let g = c.gap-free in
    let w = c.next_word-k in
    let z = c.low_zeros in
    let on = c.if-k-words.false in
    let at = c.min-2.ensures in
    let before = far a.marks.now a.from g.result w.result (omega (arith, c.if-free-left.false)) g.ensures.1 w.ensures.2 in
    record {
      ordered = omega (arith, at, w.ensures.0, c.requires.0);
      within = omega (arith, at);
      none = λ k p q. under_bit a.marks.now a.from w.result z.result z.ensures.0 before z.ensures.1 k p (omega (arith, q, at));
      here = λ h.
          let few : z.result < 64 = z.ensures.3 (w.ensures.3 (omega (arith, on, w.ensures.1))) in
          let e : c.min-2.result ≡ 64 * w.result + z.result = omega (arith, at, h) in
          ap (is_marked a.marks.now) e ∙ sym (of_word a.marks.now w.result z.result few) ∙ z.ensures.2 few;
    }
