-- `fit_refusals::bad_size` meets its contract: each test that fails contradicts what `Sized` says; where none does, all of it holds.
use Rattle.std.proofs.Common.{ℕ, Bool, true, false, not, ◌≡◌, ◌+◌, sym, ap, ◌∙◌, eqb, refl, arith}
use mathlib.Core.Bool.{true≢false}
use borrow.Author.Tests.{eqb-true, eq-eqb}
use Rattle.image.specs.Bytes.{u32_at}
use Rattle.fit.specs.Refusals.{bad_size}
use Rattle.fit.specs.Fit.{start_at}
use Rattle.fit.proofs.Soundness.{size-bad, size-good}
use Rattle.fit_refusals.proofs.bad_size.Goals as goal

pub returns-then-fit-lt36 : goal.returns-then-fit-lt36
returns-then-fit-lt36 c = sym (size-bad _ (λ z. omega arith))

pub returns-then-s-gt-MOST_SKILLS : goal.returns-then-s-gt-MOST_SKILLS
returns-then-s-gt-MOST_SKILLS c = sym (size-bad _ (λ z. omega arith))

pub returns-then-f-gt-MOST_ITEMS : goal.returns-then-f-gt-MOST_ITEMS
returns-then-f-gt-MOST_ITEMS c = sym (size-bad _ (λ z. omega arith))

pub returns-then-r-gt-MOST_RESULTS : goal.returns-then-r-gt-MOST_RESULTS
returns-then-r-gt-MOST_RESULTS c = sym (size-bad _ (λ z. omega arith))

pub returns-then-a-gt-MOST_ATTRIBUTES : goal.returns-then-a-gt-MOST_ATTRIBUTES
returns-then-a-gt-MOST_ATTRIBUTES c = sym (size-bad _ (λ z. omega arith))

pub returns-then-fit-s : goal.returns-then-fit-s
returns-then-fit-s c = sym (size-bad _ (λ z. omega arith))

-- the counts decide
pub returns : goal.returns
returns c =
    let b = c.args.fit.now in
    let n = c.counted.result in
    let a = c.size_at-a.result in
    let told : n ≡ start_at b (u32_at b 8 + 2) = c.counted.ensures ∙ ap (λ (k : ℕ). start_at b (k + 2)) c.size_at-r.ensures.0 in
    let sound : n ≡ a → bad_size b ≡ false = λ e.
    size-good b record {
      size = omega arith;
      skills = omega arith;
      items = omega arith;
      results = omega arith;
      attributes = omega arith;
      counts = omega (arith, told, e);
    } in
    let unsound : (n ≡ a → ⊥) → bad_size b ≡ true = λ h. size-bad b (λ z. h (omega (arith, told, z.counts))) in
    go n a (eqb n a) refl sound unsound
  where
    go : {bad : Bool} (n a : ℕ) (t : Bool) → eqb n a ≡ t → (n ≡ a → bad ≡ false) → ((n ≡ a → ⊥) → bad ≡ true) → not (eqb n a) ≡ bad
    go n a true e s u = ap not e ∙ sym (s (eqb-true n a e))
    go n a false e s u = ap not e ∙ sym (u (λ q. true≢false (sym (eq-eqb n a q) ∙ e)))
