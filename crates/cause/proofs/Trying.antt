-- The flags of the first n pairs in an array: one is taken off, all are tried in turn.
use Prim.Native.Nat.{ℕ, zero, suc, ◌+◌, ◌-◌, ◌≤◌, ◌<◌}
use native.Mathlib.Omega.{arith}
use mathlib.Core.Path.{◌≡◌, refl, sym, ap, ◌∙◌}
use mathlib.Core.Bool.{Bool, true, false, ◌&&◌, cond}
use mathlib.Core.List.{List, [], ◌∷◌}
use lib.ListN.{length, get_or, set, take, replicate}
use lib.Seq.{take-set-lt, get_or-set_other}
use Rattle.std.specs.Prelude.{Option, None, Some}
use Rattle.std.proofs.lemmas.List.{take-replicate, get_or-replicate}
use Rattle.words.specs.Words.{given, table, table_from}
use Rattle.parts.specs.Parts.{every, holds, less, down_from, thinned}
use Rattle.cause.specs.Decided.{has_own, Untried}

-- ---- the entry's own pair, which is one of the first n
module _ (n : ℕ) (flags : List Bool) where
  read_first : (i : ℕ) → i < n → holds (take n flags) i ≡ holds flags i
  read_first i h = go n i flags h
    where
      go : (n i : ℕ) (l : List Bool) → i < n → holds (take n l) i ≡ holds l i
      go zero i l h = let no : ⊥ = omega (arith, h) in absurd no
      go (suc n) i [] h = refl
      go (suc n) zero (b ∷ l) h = refl
      go (suc n) (suc i) (b ∷ l) h = go n i l (omega (arith, h))

  pub own-first : (at : Option ℕ) → ((i : ℕ) → at ≡ Some i → i < n) → has_own at flags ≡ has_own at (take n flags)
  unfolding has_own given
  own-first None h = refl
  own-first (Some i) h = sym (read_first i (h i refl))

  pub less-first : (i : ℕ) → i < n → take n (set flags i false) ≡ less (take n flags) i
  less-first i h = take-set-lt n flags i false h

-- those before one that is taken off are still there
pub still-untried : (flags : List Bool) (i n : ℕ) → n ≤ i → Untried n flags → Untried n (set flags i false)
still-untried flags i n h all = λ k l. get_or-set_other flags i k false false (λ e. omega (arith, e, l, h)) ∙ all k l

pub every-true : (m k : ℕ) → k < m → get_or (replicate m true) k false ≡ true
every-true m k h = get_or-replicate m k true false h

-- ---- in turn
pub every-first : (n m : ℕ) → n ≤ m → take n (replicate m true) ≡ every n
unfolding table_from
every-first n m h = take-replicate n m true h ∙ go 0 n
  where
    go : (i n : ℕ) → replicate n true ≡ table_from i n (λ _. true)
    go i zero = refl
    go i (suc n) = ap (λ (l : List Bool). true ∷ l) (go (suc i) n)

module _ (t : List Bool → Bool) where
  pub thinned-next : (s u : List Bool) (i : ℕ) → u ≡ cond (t (less s i)) (less s i) s → thinned t u (down_from i) ≡ thinned t s (down_from (suc i))
  unfolding thinned down_from
  thinned-next s u i e = ap (λ (r : List Bool). thinned t r (down_from i)) e

  pub thinned-none : (s : List Bool) → thinned t s (down_from 0) ≡ s
  unfolding thinned down_from
  thinned-none s = refl
