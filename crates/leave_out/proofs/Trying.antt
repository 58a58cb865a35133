-- Tries: the best set so far, one try after the other; sets as flags.
use Prim.Native.Nat.{ℕ, ◌+◌, ◌-◌, ◌^◌, ◌≤◌, ◌<◌}
use native.Mathlib.Omega.{arith}
use mathlib.Core.Path.{◌≡◌, refl, sym, ap, ◌∙◌}
use mathlib.Core.Bool.{Bool, true, false, ◌&&◌, cond, not}
use mathlib.Core.List.{List, map}
use lib.Dec.{ltb, leb}
use lib.ListN.{length, get_or, take}
use borrow.Author.Tests.{lt-ltb, le-ltb, leb-true}
use Rattle.words.specs.Words.{table_from}
use Rattle.words.proofs.Tables.{table_same, map-table, foldl_more}
use Rattle.marks.specs.Marks.{bit_of}
use Rattle.parts.specs.Parts.{every, size, less}
use Rattle.leave_out.specs.LeaveOut.{set_of, tried, all_tries}
use Rattle.leave_out.specs.Held.{better_by, best_of, IsFound}
use Rattle.leave_out.specs.declared.by_number.Found.{Found}
use Rattle.leave_out.proofs.Rowing.{take-table}

-- ---- flags
-- those that are left
pub flags-left : (n : ℕ) (left off : List Bool) → n ≤ length left → n ≤ length off
    → ((k : ℕ) → k < n → get_or left k false ≡ not (get_or off k false)) → take n left ≡ map not (take n off)
flags-left n left off h m e =
    take-table left false n h ∙ table_same n (λ k. get_or left k false) (λ k. not (get_or off k false)) e
    ∙ sym (ap (map not) (take-table off false n m) ∙ map-table not n (λ k. get_or off k false))

-- those of a number
pub flags-numbered : (n m : ℕ) (set : List Bool) → n ≤ length set → ((k : ℕ) → k < n → get_or set k false ≡ bit_of m k) → take n set ≡ set_of n m
unfolding set_of
flags-numbered n m set h e = take-table set false n h ∙ table_same n (λ k. get_or set k false) (bit_of m) e

-- ---- what a try checks
pub tried-back : (n : ℕ) (b : List Bool) (k : ℕ) → k < n → less b k ≡ tried n b k
unfolding tried
tried-back n b k h = sym (ap (λ (c : Bool). cond c (less b k) (set_of n (k - n))) (lt-ltb k n h))

pub tried-number : (n : ℕ) (b : List Bool) (m : ℕ) → set_of n m ≡ tried n b (n + m)
unfolding tried
tried-number n b m =
    let q : m ≡ n + m - n = omega arith in
    ap (set_of n) q ∙ sym (ap (λ (c : Bool). cond c (less b (n + m)) (set_of n (n + m - n))) (le-ltb (n + m) n (omega arith)))

module _ (t : List Bool → Bool) (n : ℕ) where
  pub better-is : (b : List Bool) (k : ℕ) (s : List Bool) → s ≡ tried n b k → cond (t s && ltb (size s) (size b)) s b ≡ better_by t n b k
  unfolding better_by
  better-is b k s e = ap (λ (u : List Bool). cond (t u && ltb (size u) (size b)) u b) e

  pub best_none : every n ≡ best_of t n 0
  unfolding best_of table_from
  best_none = refl

  pub best-more : (k : ℕ) → better_by t n (best_of t n k) k ≡ best_of t n (k + 1)
  unfolding best_of
  best-more k = sym (foldl_more (λ j. j) (better_by t n) (every n) k)

  -- one try more, of a set that was tried on the best so far
  pub best-next : (k : ℕ) (s b after : List Bool) → b ≡ best_of t n k → s ≡ tried n b k → after ≡ cond (t s && ltb (size s) (size b)) s b
      → after ≡ best_of t n (k + 1)
  best-next k s b after e q h = h ∙ better-is b k s q ∙ ap (λ (u : List Bool). better_by t n u k) e ∙ best-more k

-- ---- sets by number
module _ (back : List Bool) (n : ℕ) where
  -- at first it is the one before them
  pub found_back : (size_is : ℕ) → size_is ≡ size back → IsFound back n (record { number = 65536; size = size_is }) back
  found_back size_is e = (refl, e)

  -- a set that is better, by its number
  pub found-number : (m k : ℕ) (best : List Bool) (b : Bool) → m < 65536 → k ≡ size (set_of n m) → b ≡ true
      → IsFound back n (record { number = m; size = k }) (cond b (set_of n m) best)
  found-number m k best b h e q = (
    ap (λ (t : Bool). cond t (set_of n m) back) (lt-ltb m 65536 h) ∙ ap (λ (t : Bool). cond t (set_of n m) best) (sym q),
    e ∙ ap (λ (t : Bool). size (cond t (set_of n m) best)) (sym q),
  )

  pub found-same : (m : ℕ) (best : List Bool) (b : Bool) (found : Found) → IsFound back n found best → b ≡ false
      → IsFound back n found (cond b (set_of n m) best)
  found-same m best b found h q = (
    h.0 ∙ ap (λ (t : Bool). cond t (set_of n m) best) (sym q),
    h.1 ∙ ap (λ (t : Bool). size (cond t (set_of n m) best)) (sym q),
  )

-- ---- how many tries
pub few-numbered : (n tries : ℕ) → n < tries → tries ≤ all_tries n → (n ≤ 16) × (tries - n ≤ 2 ^ n)
unfolding all_tries
few-numbered n tries h k = go (leb n 16) refl k
  where
    go : (b : Bool) → leb n 16 ≡ b → tries ≤ n + cond b (2 ^ n) 0 → (n ≤ 16) × (tries - n ≤ 2 ^ n)
    go true e k = (leb-true n 16 e, omega (arith, k))
    go false e k = absurd (let no : ⊥ = omega (arith, k, h) in no)
