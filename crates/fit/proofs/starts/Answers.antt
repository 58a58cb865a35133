-- `fit::starts` meets its contract. The invariant: all places up to j hold where their result's attributes begin.
use Prim.Native.Nat.{ℕ, ◌+◌, ◌≤◌, ◌<◌}
use native.Mathlib.Nat.{eq-or-lt_of_le}
use native.Mathlib.Omega.{arith}
use mathlib.Core.List.{List}
use mathlib.Core.Logic.{⊎_elim}
use mathlib.Core.Path.{◌≡◌, refl, ◌∙◌, ap, sym}
use lib.ListN.{length, get_or, set, length-set, replicate}
use lib.Seq.{get_or-set_same, get_or-set_other}
use Rattle.fit.specs.Fit.{result_count, count_at, start_at}
use Rattle.fit.proofs.Decoded.{start_none, start-next, start-within}
use Rattle.fit.proofs.starts.Goals as goal

-- all places up to the first, where nothing was added yet
first : (b s : List ℕ) → get_or s 0 0 ≡ 0 → (k : ℕ) → k ≤ 0 → get_or s k 0 ≡ start_at b k
first b s e k h =
    let q : k ≡ 0 = omega arith in
    ap (λ (i : ℕ). get_or s i 0) q ∙ e ∙ sym (start_none b) ∙ ap (start_at b) (sym q)

-- one place more
next : (b s : List ℕ) (j v : ℕ) → j + 1 < length s → ((k : ℕ) → k ≤ j → get_or s k 0 ≡ start_at b k) → v ≡ start_at b (j + 1)
    → (k : ℕ) → k ≤ j + 1 → get_or (set s (j + 1) v) k 0 ≡ start_at b k
next b s j v l f e k h =
    ⊎_elim
    (λ (q : k ≡ j + 1). ap (λ (i : ℕ). get_or (set s (j + 1) v) i 0) q ∙ get_or-set_same s (j + 1) v 0 l ∙ e ∙ ap (start_at b) (sym q))
    (λ (q : k < j + 1). get_or-set_other s (j + 1) k v 0 (λ x. omega (arith, x, q)) ∙ f k (omega (arith, q)))
    (eq-or-lt_of_le h)

pub loop-j-init : goal.loop-j-init
loop-j-init c =
    let a = c.args in
    record {
      long = refl;
      sum = sym (start_none a.fit.now);
      begins = first a.fit.now (replicate 259 0) refl;
    }

-- the layout is that of the image
told : {l b : List ℕ} → l ≡ b → (j : ℕ) → count_at l j ≡ count_at b j
told e j = ap (λ (x : List ℕ). count_at x j) e

pub overflow_add-sum : goal.overflow_add-sum
overflow_add-sum c = omega (arith, c.loop-j.invariant.sum, start-within c.args.fit.now c.requires.sized c.loop-j.j (omega (arith, ap result_count c.new-layout.ensures)), told c.new-layout.ensures c.loop-j.j)

pub loop-j-preserved : goal.loop-j-preserved
loop-j-preserved c =
    let l = c.loop-j in
    let b = c.args.fit.now in
    let e : l.sum + c.count_at.result ≡ start_at b (l.j + 1) = omega (arith, l.invariant.sum, start-next b l.j, told c.new-layout.ensures l.j) in
    record {
      long = length-set _ _ _ ∙ l.invariant.long;
      sum = e;
      begins = next b l.s l.j (l.sum + c.count_at.result) (omega (arith, l.invariant.long)) l.invariant.begins e;
    }
