-- Document 01, "Hall number": what the word of a hall call says, and of each fit what its list call says.
use Rattle.std.specs.Prelude.{ℕ, ◌+◌, ◌/◌, ◌%◌, ◌≤◌, ◌<◌, ◌≡◌, List, [], ◌∷◌, ◌++◌, ◌⊎◌, ◌↔◌, T, length}
use Rattle.words.specs.Words.{count_of}
use Rattle.catalogue.specs.Catalogue.{catalogue_of}
use Rattle.fit.specs.Fit.{item_count, result_count}
use Rattle.fitcheck.specs.Hall.{fit_count, fits, bad_input, is_clear, is_faulted, fit_refused}
use Rattle.promises.specs.Answers.{Outcome, refusal, count, Conditions, catalogue_conditions, First, None}

abbrev pub hall_conditions : (catalogue input : List ℕ) → Conditions
hall_conditions catalogue input = catalogue_conditions catalogue ++ (4, bad_input input) ∷ []

-- the three numbers of an answered call, taken out of its word
abbrev pub clear_in : ℕ → ℕ
clear_in word = word % 256

abbrev pub faulted_in : ℕ → ℕ
faulted_in word = word / 256 % 256

abbrev pub refused_in : ℕ → ℕ
refused_in word = word / 65536

pub record HallAnswers (catalogue input : List ℕ) (word : ℕ) : Type 0 where
  -- the word's upper half is the first number whose condition holds; then its lower half is 0
  pub refused : (n : ℕ) → 0 < n → (word / 4294967296 ≡ n) ↔ First n (hall_conditions catalogue input)
  pub answered : (word / 4294967296 ≡ 0) ↔ None (hall_conditions catalogue input)
  pub nothing : 0 < word / 4294967296 → word % 4294967296 ≡ 0
  -- else the word has the three numbers, each by its definition, and they add up to K, which is at most 64
  pub clear : word / 4294967296 ≡ 0 → clear_in word ≡ count_of (is_clear (catalogue_of catalogue)) (fits input)
  pub faulted : word / 4294967296 ≡ 0 → faulted_in word ≡ count_of (is_faulted (catalogue_of catalogue)) (fits input)
  pub turned_away : word / 4294967296 ≡ 0 → refused_in word ≡ count_of fit_refused (fits input)
  pub total : word / 4294967296 ≡ 0 → clear_in word + faulted_in word + refused_in word ≡ fit_count input
  pub few : word / 4294967296 ≡ 0 → fit_count input ≤ 64

-- a fit in the hall, beside its own list call on the main page with no profile and any buffer: clear where that answers with no entry and
-- there are as many results as items, refused where that refuses with 4 to 6
pub record Judged (catalogue fit buffer : List ℕ) (o : Outcome) : Type 0 where
  pub clear : T (is_clear (catalogue_of catalogue) fit) ↔ ((refusal o ≡ 0) × (count o ≡ 0) × (item_count fit ≡ result_count fit))
  pub turned_away : T (fit_refused fit) ↔ ((4 ≤ refusal o) × (refusal o ≤ 6))
  -- faulted where it answers with entries, or with unequal numbers, if the buffer has room for the longest list
  pub faulted : 135696 ≤ length buffer
      → T (is_faulted (catalogue_of catalogue) fit) ↔ ((refusal o ≡ 0) × ((0 < count o) ⊎ (item_count fit ≡ result_count fit → ⊥)))
