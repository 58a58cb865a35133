-- A fit with some of its pairs alone: document 02, P9 and P13. A set of pairs is a list of flags, one for each pair.
use Rattle.std.specs.Prelude.{ℕ, zero, suc, Bool, true, false, cond, List, [], ◌∷◌, T, length, get_or, set}
use Rattle.words.specs.Words.{only, count_of, table, from}
use Rattle.fit.specs.Fit.{Fit}

-- those whose flag is set
unfoldable pub chosen : {A : Type 0} → List Bool → List A → List A
chosen [] l = []
chosen (b ∷ s) [] = []
chosen (b ∷ s) (x ∷ l) = cond b (x ∷ chosen s l) (chosen s l)

-- every one of n pairs
abbrev pub every : ℕ → List Bool
every n = table n λ _. true

-- how many it has
unfoldable pub size : List Bool → ℕ
size s = count_of (λ b. b) s

-- whether pair i is in it
abbrev pub holds : List Bool → ℕ → Bool
holds s i = get_or s i false

-- every pair of one set is in the other
abbrev pub Inside : List Bool → List Bool → Type 0
Inside s u = (i : ℕ) → T (holds s i) → T (holds u i)

-- it, less pair i
abbrev pub less : List Bool → ℕ → List Bool
less s i = set s i false

-- the numbers of its pairs, ascending
unfoldable pub numbers_of : List Bool → List ℕ
numbers_of s = only (holds s) (from 0 (length s))

-- the fit with the pairs of a set alone, numbered anew; items and results that are in no pair fall away
unfoldable pub part_of : Fit → List Bool → Fit
part_of f s = record {
  frame = f.frame;
  skills = f.skills;
  levels = f.levels;
  items = chosen s f.items;
  results = chosen s f.results;
}

-- ---- taking off in turn
-- n - 1, n - 2, .., 0
unfoldable pub down_from : ℕ → List ℕ
down_from zero = []
down_from (suc n) = n ∷ down_from n

-- one after the other, each is dropped where the set passes without it
unfoldable pub thinned : (List Bool → Bool) → List Bool → List ℕ → List Bool
thinned t s [] = s
thinned t s (i ∷ is) = thinned t (cond (t (less s i)) (less s i) s) is
