-- A loop over the pairs that writes at most one entry for each.
use Prim.Native.Nat.{ℕ, ◌+◌, ◌≤◌, ◌<◌}
use native.Mathlib.Omega.{arith}
use mathlib.Core.Path.{◌≡◌, refl, sym, ap}
use mathlib.Core.Bool.{Bool, true, false}
use mathlib.Core.List.{List, ◌∷◌, []}
use Rattle.std.specs.Prelude.{None, Some}
use Rattle.std.specs.Bool.{then_some}
use lib.ListN.{length}
use Rattle.words.specs.Words.{each, table, when}
use Rattle.numbers.specs.Sizes.{most_pairs}
use Rattle.fit.specs.Sound as Fit
use Rattle.entry.specs.declared.Entry.{Entry}
use Rattle.entry.specs.declared.Rule.{Rule}
use Rattle.entry.specs.declared.Entries.{Entries}
use Rattle.entry.specs.Emitted.{Emitted}
use Rattle.entry.proofs.Emitted.{emitted_none, emitted-same, emitted-table_none, emitted-table_next, emitted-table_all}
use Rattle.context.specs.Context.{Pair, on, said}
use Rattle.context.specs.Gathered.{pair_count, pair_at, pairs_of}
use Rattle.context.proofs.Pairs.{pairs-table}

-- the pairs before i are done
pub record Passed (catalogue fit : List ℕ) (f : Pair → List Entry) (b a : Entries) (i : ℕ) : Type 0 where
  pub within : i ≤ pair_count fit
  pub few : a.n ≤ b.n + i
  pub wrote : Emitted b a (each (table i (pair_at catalogue fit)) f)

module _ (catalogue fit : List ℕ) (f : Pair → List Entry) where
  pub passed_none : (b : Entries) → Passed catalogue fit f b b 0
  passed_none b = record { within = omega arith; few = omega arith; wrote = emitted-table_none f (pair_at catalogue fit) b }

  pub passed_more : ((p : Pair) → length (f p) ≤ 1) → {b a a' : Entries} {i : ℕ} → i < pair_count fit → Passed catalogue fit f b a i
      → Emitted a a' (f (pair_at catalogue fit i)) → Passed catalogue fit f b a' (i + 1)
  passed_more one {b} {a} {a'} {i} h v w = record {
    within = omega arith;
    few = omega (arith, v.few, w.count, one (pair_at catalogue fit i));
    wrote = emitted-table_next f (pair_at catalogue fit) i v.wrote w;
  }

  pub passed_all : {b a : Entries} {i : ℕ} → Fit.Sound fit → pair_count fit ≤ i → Passed catalogue fit f b a i
      → Emitted b a (each (pairs_of catalogue fit) f) × (a.n ≤ b.n + most_pairs)
  passed_all s h v = (
    emitted-same (ap (λ (l : List Pair). each l f) (sym (pairs-table catalogue fit)))
        (emitted-table_all f (pair_at catalogue fit) v.within h v.wrote),
    omega (arith, s.sized.items, v.within, v.few),
  )

-- an entry where a test holds
pub said-then : (p : Pair) (b : Bool) (r : Rule) → said p (then_some b r) ≡ when b (on p r)
unfolding said when
said-then p true r = refl
said-then p false r = refl

module _ (catalogue fit : List ℕ) (rule : Pair → List Entry) {b a : Entries} {i : ℕ} (h : i < pair_count fit) where
  -- one pair more, with an entry about it
  pub passed_entry : {r : Rule} {a' : Entries} → said (pair_at catalogue fit i) (Some r) ≡ rule (pair_at catalogue fit i)
      → Emitted a a' (on (pair_at catalogue fit i) r ∷ []) → Passed catalogue fit rule b a i → Passed catalogue fit rule b a' (i + 1)
  unfolding said
  passed_entry e w v = record {
    within = omega arith;
    few = omega (arith, v.few, w.count);
    wrote = emitted-table_next rule (pair_at catalogue fit) i v.wrote (emitted-same e w);
  }

  -- and with none
  pub passed_silent : said (pair_at catalogue fit i) None ≡ rule (pair_at catalogue fit i) → Passed catalogue fit rule b a i
      → Passed catalogue fit rule b a (i + 1)
  unfolding said
  passed_silent e v = record {
    within = omega arith;
    few = omega (arith, v.few);
    wrote = emitted-table_next rule (pair_at catalogue fit) i v.wrote (emitted-same e (emitted_none a));
  }
