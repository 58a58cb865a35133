-- Document 01, "Hall number": u32 K, K lengths, then K fits end to end; how many are clear, faulted and refused. What clear means is
-- document 02's P6.
use Rattle.std.specs.Prelude.{ℕ, zero, suc, ◌+◌, ◌*◌, ◌≤◌, ◌≡◌, Bool, false, not, ◌&&◌, ◌||◌, cond, List, [], ◌∷◌, ◌++◌, eqb, ltb, length, take, drop}
use Rattle.words.specs.Words.{table, count_of, is_empty, first_of}
use Rattle.numbers.specs.Sizes as Sizes
use Rattle.numbers.specs.Refusals as Refusals
use Rattle.image.specs.Bytes.{u32_at}
use Rattle.catalogue.specs.Catalogue.{Catalogue, catalogue_of}
use Rattle.catalogue.specs.Refusals.{catalogue_refusals}
use Rattle.fit.specs.Fit.{fit_of, item_count, result_count}
use Rattle.fit.specs.Refusals.{fit_refusal}
use Rattle.lists.specs.Terms.{main}
use Rattle.lists.specs.Lists.{whole_list}

module _ (input : List ℕ) where
  abbrev pub fit_count : ℕ
  fit_count = u32_at input 0

  abbrev pub length_at : ℕ → ℕ
  length_at i = u32_at input (4 + 4 * i)

  -- where fit i begins
  unfoldable pub fit_start : ℕ → ℕ
  fit_start zero = 4 + 4 * fit_count
  fit_start (suc i) = fit_start i + length_at i

  -- its bytes
  abbrev pub fit_at : ℕ → List ℕ
  fit_at i = take (length_at i) (drop (fit_start i) input)

  unfoldable pub fits : List (List ℕ)
  fits = table fit_count fit_at

  -- 4: under 4 bytes, K over 64, or 4 + 4K plus the lengths is not the input's length
  unfoldable pub bad_input : Bool
  bad_input = ltb (length input) 4 || ltb Sizes.most_fits fit_count || not (eqb (fit_start fit_count) (length input))

  -- not refused by 4
  pub record Laid : Type 0 where
    pub few : fit_count ≤ Sizes.most_fits
    pub size : fit_start fit_count ≡ length input

-- refusal 4 to 6
unfoldable pub fit_refused : List ℕ → Bool
fit_refused b = ltb 0 (fit_refusal b)

module _ (c : Catalogue) where
  -- nothing is listed, and there are as many results as items: rules look at pairs, so all of it was read
  unfoldable pub is_clear : List ℕ → Bool
  is_clear b = cond (fit_refused b) false (is_empty (whole_list main c (fit_of b)) && eqb (item_count b) (result_count b))

  -- any other
  unfoldable pub is_faulted : List ℕ → Bool
  is_faulted b = not (is_clear b || fit_refused b)

pub data HallAnswer : Type 0 where
  HallRefused : ℕ → HallAnswer
  Numbers : (clear faulted refused : ℕ) → HallAnswer

-- how many of some fits are clear, faulted and refused
abbrev pub numbers_of : Catalogue → List (List ℕ) → HallAnswer
numbers_of c fs = Numbers (count_of (is_clear c) fs) (count_of (is_faulted c) fs) (count_of fit_refused fs)

unfoldable pub hall_by : ℕ → HallAnswer → HallAnswer
hall_by zero a = a
hall_by (suc n) a = HallRefused (suc n)

unfoldable pub hall_call : (catalogue input : List ℕ) → HallAnswer
hall_call catalogue input =
    hall_by (first_of (catalogue_refusals catalogue ++ (Refusals.bad_size, bad_input input) ∷ [])) (numbers_of (catalogue_of catalogue) (fits input))

-- clear + 256 * faulted + 65,536 * refused in the count's place
unfoldable pub hall_returned : HallAnswer → ℕ
hall_returned (HallRefused n) = n * Sizes.word
hall_returned (Numbers clear faulted refused) = clear + 256 * faulted + 65536 * refused

-- ---- the word, fit by fit
module _ (c : Catalogue) where
  -- 1 where a fit is clear, 256 where it is faulted, 65,536 where it is refused
  unfoldable pub share_of : List ℕ → ℕ
  share_of b = cond (is_clear c b) 1 0 + 256 * cond (is_faulted c b) 1 0 + 65536 * cond (fit_refused b) 1 0

  -- of some fits
  unfoldable pub word_of : List (List ℕ) → ℕ
  word_of fs = hall_returned (numbers_of c fs)
