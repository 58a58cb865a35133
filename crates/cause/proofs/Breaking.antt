-- What an entry's rule counts and whether it is still broken, by its number.
use Prim.Native.Nat.{ℕ, ◌<◌}
use mathlib.Core.Path.{◌≡◌, refl, sym, ap, ◌∙◌}
use mathlib.Core.Bool.{Bool, true, false, ◌&&◌, ◌||◌, not, cond}
use mathlib.Core.List.{List, [], ◌∷◌}
use lib.Dec.{eqb, ltb}
use borrow.Author.Tests.{ne_eqb}
use Rattle.std.specs.Prelude.{Option, None, Some, slice_get}
use Rattle.words.specs.Words.{given, count_of, any_of, table}
use Rattle.words.proofs.Elements.{elem_table}
use Rattle.context.specs.declared.Context.{Context as Held}
use Rattle.context.specs.Context.{Pair, Context}
use Rattle.context.specs.Gathered.{pair_count, pair_at, pairs_of}
use Rattle.context.specs.Held.{pairs_in, context_in}
use Rattle.context.proofs.Pairs.{pairs-table}
use Rattle.cause.specs.Members.{is_beside, allowed_beside, is_counted, is_member, limit, is_broken}
use Rattle.cause.specs.Decided.{load_broken}

-- ---- of an entry about a pair
module _ (x : Context) (p : Pair) (rule sub : ℕ) where
  pub beside-other : (o : Pair) → (rule ≡ 8 → ⊥) → (rule ≡ 10 → ⊥) → (rule ≡ 17 → ⊥) → (rule ≡ 18 → ⊥) → false ≡ is_beside x rule sub p o
  unfolding is_beside
  beside-other o a b c d = rw (ne_eqb rule 8 a, ne_eqb rule 10 b, ne_eqb rule 17 c, ne_eqb rule 18 d) refl

  pub allowed-other : (rule ≡ 17 → ⊥) → (rule ≡ 18 → ⊥) → 0 ≡ allowed_beside x rule sub p
  unfolding allowed_beside
  allowed-other c d = rw (ne_eqb rule 17 c, ne_eqb rule 18 d) refl

-- the pair that an entry is about
pub own-there : (catalogue fit : List ℕ) (at : Option ℕ) (i : ℕ) → at ≡ Some i → i < pair_count fit
    → given at None (slice_get (pairs_of catalogue fit)) ≡ Some (pair_at catalogue fit i)
unfolding given
own-there catalogue fit at i e h =
    ap (λ (o : Option ℕ). given o None (slice_get (pairs_of catalogue fit))) e
    ∙ ap (λ (l : List Pair). slice_get l i) (pairs-table catalogue fit) ∙ elem_table (pair_count fit) (pair_at catalogue fit) i h

-- ---- of any entry
module _ (x : Context) (ps : List Pair) (at : Option ℕ) (rule sub : ℕ) where
  module _ (n : rule ≡ 2 → ⊥) where
    pub member-beside : (p o : Pair) → given at None (slice_get ps) ≡ Some p → {b : Bool} → b ≡ is_beside x rule sub p o
        → b ≡ is_member x ps at rule sub o
    unfolding is_member given
    member-beside p o e q = rw (ne_eqb rule 2 n, e) q

    pub member-none : (o : Pair) → at ≡ None → false ≡ is_member x ps at rule sub o
    unfolding is_member given
    member-none o e = rw (ne_eqb rule 2 n, e) refl

    pub limit-beside : (p : Pair) → given at None (slice_get ps) ≡ Some p → {k : ℕ} → k ≡ allowed_beside x rule sub p → k ≡ limit x ps at rule sub
    unfolding limit given
    limit-beside p e q = rw (ne_eqb rule 2 n, e) q

    pub limit-none : at ≡ None → 0 ≡ limit x ps at rule sub
    unfolding limit given
    limit-none e = rw (ne_eqb rule 2 n, e) refl

  pub broken-counted : (rule ≡ 1 → ⊥) → is_counted rule ≡ true → (qs : List Pair)
      → ltb (limit x ps at rule sub) (count_of (is_member x ps at rule sub) qs) ≡ is_broken x ps at rule sub qs
  unfolding is_broken
  broken-counted n e qs = rw (ne_eqb rule 1 n, e) refl

  pub broken-other : (rule ≡ 1 → ⊥) → is_counted rule ≡ false → (qs : List Pair) → true ≡ is_broken x ps at rule sub qs
  unfolding is_broken
  broken-other n e qs = rw (ne_eqb rule 1 n, e) refl

pub broken-load : (x : Held) (at : Option ℕ) (rule sub : ℕ) → rule ≡ 1 → (qs : List Pair)
    → load_broken x sub qs ≡ is_broken (context_in x) (pairs_in x) at rule sub qs
unfolding is_broken is_counted any_of
broken-load x at rule sub e qs = rw e refl
