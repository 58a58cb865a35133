-- Loops that count the pairs that pass a test, one pair a turn.
use Prim.Native.Nat.{ℕ, ◌+◌}
use mathlib.Core.Path.{◌≡◌, sym, ap, ◌∙◌}
use mathlib.Core.Bool.{Bool, cond}
use mathlib.Core.List.{List}
use Rattle.words.specs.Words.{count_of, table}
use Rattle.words.proofs.Tables.{count-more}
use Rattle.context.specs.Context.{Pair}
use Rattle.context.specs.Gathered.{pair_count, pair_at, pairs_of}
use Rattle.context.proofs.Pairs.{pairs-table}

module _ (t : Pair → Bool) (catalogue fit : List ℕ) where
  -- one pair more
  pub count_turn : {i used k : ℕ} {b : Bool} → used ≡ count_of t (table i (pair_at catalogue fit)) → b ≡ t (pair_at catalogue fit i)
      → k ≡ cond b 1 0 → used + k ≡ count_of t (table (i + 1) (pair_at catalogue fit))
  count_turn {i} {used} {k} {b} p q e =
      let f = pair_at catalogue fit in
      ap (λ (n : ℕ). n + k) p
      ∙ ap (λ (n : ℕ). count_of t (table i f) + n) (e ∙ ap (λ (x : Bool). cond x 1 0) q)
      ∙ sym (count-more f t i)

  -- all pairs passed
  pub count-all : {i used : ℕ} → i ≡ pair_count fit → used ≡ count_of t (table i (pair_at catalogue fit))
      → used ≡ count_of t (pairs_of catalogue fit)
  count-all e p = p ∙ ap (λ (n : ℕ). count_of t (table n (pair_at catalogue fit))) e ∙ ap (count_of t) (sym (pairs-table catalogue fit))
