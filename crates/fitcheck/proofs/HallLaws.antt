-- The hall: where its fits stand, what each adds to the word, and the call by its refusals.
use Prim.Native.Nat.{ℕ, zero, suc, ◌+◌, ◌*◌, ◌≤◌, ◌<◌}
use native.Mathlib.Nat.{eq-or-lt_of_le, le_of_suc-le-suc}
use native.Mathlib.Numerals.{add-one}
use native.Mathlib.Omega.{arith}
use mathlib.Core.Path.{◌≡◌, refl, ap, ap₂}
use mathlib.Core.Bool.{Bool, true, false, not, ◌&&◌, ◌||◌, cond}
use mathlib.Core.List.{List, [], ◌∷◌}
use mathlib.Core.Logic.{⊎_elim}
use lib.Dec.{eqb, ltb}
use lib.ListN.{length, take, drop}
use borrow.Author.Tests.{lt-ltb, le-ltb, ltb-false, eq-eqb, ne_eqb, eqb-true, not-false}
use Rattle.words.specs.Words.{table, is_empty, first_of}
use Rattle.numbers.specs.Sizes as Sizes
use Rattle.numbers.specs.Refusals as Refusals
use Rattle.words.proofs.Elements.{or_left, or_right}
use Rattle.words.proofs.Tables.{count-more, count_none}
use Rattle.catalogue.specs.Catalogue.{Catalogue, catalogue_of}
use Rattle.catalogue.specs.Refusals.{catalogue_refusals, catalogue_refusal}
use Rattle.fit.specs.Fit.{fit_of, item_count, result_count}
use Rattle.fit.specs.Refusals.{fit_refusal}
use Rattle.lists.specs.Terms.{main}
use Rattle.lists.specs.Lists.{whole_list}
use Rattle.fitcheck.specs.Hall.{fit_count, length_at, fit_start, fit_at, fits, bad_input, Laid, fit_refused, is_clear, is_faulted, share_of, word_of}
use Rattle.fitcheck.specs.Hall.{HallAnswer, hall_by, hall_call, hall_returned}
use Rattle.calls.proofs.First.{first-kept, first_past, numbered-catalogue}

-- ---- where fits stand
module _ (input : List ℕ) where
  pub start_none : fit_start input 0 ≡ 4 + 4 * fit_count input
  unfolding fit_start
  start_none = refl

  pub start-next : (i : ℕ) → fit_start input (i + 1) ≡ fit_start input i + length_at input i
  unfolding fit_start
  start-next i = rw add-one

  start-least : (i : ℕ) → 4 + 4 * fit_count input ≤ fit_start input i
  unfolding fit_start
  start-least zero = omega arith
  start-least (suc i) = omega (arith, start-least i)

  -- a fit ends before any later one begins
  end-within : (i n : ℕ) → i < n → fit_start input i + length_at input i ≤ fit_start input n
  unfolding fit_start
  end-within i zero h = absurd (omega arith)
  end-within i (suc n) h =
      ⊎_elim
      (λ (q : i ≡ n). rw q (omega arith))
      (λ (q : i < n). omega (arith, end-within i n q))
      (eq-or-lt_of_le (le_of_suc-le-suc h))

  -- ---- refusal 4
  pub laid : bad_input input ≡ false → Laid input
  unfolding bad_input
  laid e =
      let s = ltb (length input) 4 in
      let k = ltb Sizes.most_fits (fit_count input) in
      let n = not (eqb (fit_start input (fit_count input)) (length input)) in
      record {
        few = ltb-false Sizes.most_fits (fit_count input) (or_right s k (or_left (s || k) n e));
        size = eqb-true (fit_start input (fit_count input)) (length input) (not-false _ (or_right (s || k) n e));
      }

  pub laid_long : Laid input → 4 + 4 * fit_count input ≤ length input
  laid_long l = omega (arith, start-least (fit_count input), l.size)

  pub input_good : Laid input → bad_input input ≡ false
  unfolding bad_input
  input_good l =
      rw (
        le-ltb (length input) 4 (omega (arith, laid_long l)),
        le-ltb Sizes.most_fits (fit_count input) l.few,
        eq-eqb (fit_start input (fit_count input)) (length input) l.size,
      )

  -- what contradicts the lengths is refused
  pub input_bad : (Laid input → ⊥) → bad_input input ≡ true
  input_bad h = go (bad_input input) refl
    where
      go : (t : Bool) → bad_input input ≡ t → t ≡ true
      go true e = refl
      go false e = absurd (h (laid e))

  -- each fit stands within the input
  pub laid_within : Laid input → (i : ℕ) → i < fit_count input → fit_start input i + length_at input i ≤ length input
  laid_within l i h = omega (arith, end-within i (fit_count input) h, l.size)

-- ---- what one fit adds
module _ (c : Catalogue) (b : List ℕ) where
  accepted : fit_refusal b ≡ 0 → fit_refused b ≡ false
  unfolding fit_refused
  accepted e = le-ltb 0 (fit_refusal b) (omega (arith, e))

  turned_away : 0 < fit_refusal b → fit_refused b ≡ true
  unfolding fit_refused
  turned_away h = lt-ltb 0 (fit_refusal b) h

  abbrev whole : Bool
  whole = is_empty (whole_list main c (fit_of b)) && eqb (item_count b) (result_count b)

  -- 65,536 where refused, else by the list and the two numbers
  judged : (r w : Bool) → fit_refused b ≡ r → whole ≡ w → cond r 65536 (cond w 1 256) ≡ share_of c b
  unfolding share_of is_faulted is_clear
  judged true w p q = rw p
  judged false true p q = rw (p, q)
  judged false false p q = rw (p, q)

  pub share_unread : 0 < fit_refusal b → 65536 ≡ share_of c b
  share_unread h = judged true whole (turned_away h) refl

  module _ (e : fit_refusal b ≡ 0) where
    pub share_clear : is_empty (whole_list main c (fit_of b)) ≡ true → item_count b ≡ result_count b → 1 ≡ share_of c b
    share_clear h q = judged false true (accepted e) (ap₂ ◌&&◌ h (eq-eqb (item_count b) (result_count b) q))

    pub share_faulted : is_empty (whole_list main c (fit_of b)) ≡ false → 256 ≡ share_of c b
    share_faulted h = judged false false (accepted e) (ap (λ (t : Bool). t && eqb (item_count b) (result_count b)) h)

    -- whatever is listed
    pub share_unequal : (item_count b ≡ result_count b → ⊥) → 256 ≡ share_of c b
    share_unequal h = judged false false (accepted e) (go (is_empty (whole_list main c (fit_of b))) (ne_eqb (item_count b) (result_count b) h))
      where
        go : (l : Bool) {q : Bool} → q ≡ false → (l && q) ≡ false
        go true p = p
        go false p = refl

-- ---- the word, one fit more at a time
module _ (c : Catalogue) (f : ℕ → List ℕ) where
  pub word_none : word_of c (table 0 f) ≡ 0
  unfolding word_of hall_returned
  word_none = omega (arith, count_none f (is_clear c), count_none f (is_faulted c), count_none f fit_refused)

  pub word_more : (n : ℕ) → word_of c (table (n + 1) f) ≡ word_of c (table n f) + share_of c (f n)
  unfolding word_of hall_returned share_of
  word_more n = omega (arith, count-more f (is_clear c) n, count-more f (is_faulted c) n, count-more f fit_refused n)

-- the part that is lent for fit i
pub part-fit : (input : List ℕ) (i : ℕ) {at n : ℕ} → at ≡ fit_start input i → n ≡ length_at input i → take n (drop at input) ≡ fit_at input i
part-fit input i p q = rw (p, q)

pub word-all : (c : Catalogue) (input : List ℕ) → word_of c (table (fit_count input) (fit_at input)) ≡ word_of c (fits input)
unfolding fits
word-all c input = refl

-- ---- the hall call
by_number : (k : ℕ) (a : HallAnswer) → 0 < k → hall_returned (hall_by k a) ≡ k * Sizes.word
unfolding hall_by hall_returned
by_number zero a h = absurd (omega arith)
by_number (suc k) a h = refl

module _ (catalogue input : List ℕ) where
  pub hall_unread : 0 < catalogue_refusal catalogue → hall_returned (hall_call catalogue input) ≡ catalogue_refusal catalogue * Sizes.word
  unfolding hall_call catalogue_refusal
  hall_unread h =
      rw (first-kept (catalogue_refusals catalogue) ((Refusals.bad_size, bad_input input) ∷ []) h)
      (by_number (first_of (catalogue_refusals catalogue)) _ h)

  module _ (e : catalogue_refusal catalogue ≡ 0) where
    pub hall_bad : bad_input input ≡ true → hall_returned (hall_call catalogue input) ≡ Refusals.bad_size * Sizes.word
    unfolding hall_call catalogue_refusal first_of hall_by hall_returned
    hall_bad b = rw (first_past 6 (catalogue_refusals catalogue) ((Refusals.bad_size, bad_input input) ∷ []) (numbered-catalogue catalogue) e, b) (omega arith)

    pub hall_counted : bad_input input ≡ false → hall_returned (hall_call catalogue input) ≡ word_of (catalogue_of catalogue) (fits input)
    unfolding hall_call catalogue_refusal first_of hall_by hall_returned word_of
    hall_counted b = rw (first_past 6 (catalogue_refusals catalogue) ((Refusals.bad_size, bad_input input) ∷ []) (numbered-catalogue catalogue) e, b)
