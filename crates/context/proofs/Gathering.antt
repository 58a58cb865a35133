-- One pair more is gathered: what is kept of those before stays.
use Prim.Native.Nat.{ℕ, ◌+◌, ◌<◌}
use native.Mathlib.Nat.{eq-or-lt_of_le}
use native.Mathlib.Omega.{arith}
use mathlib.Core.Path.{◌≡◌, ap, sym, subst, ◌∙◌}
use mathlib.Core.List.{List}
use mathlib.Core.Logic.{⊎_elim}
use Rattle.std.specs.Prelude.{Some, slice_get}
use lib.ListN.{length, set, length-set}
use Rattle.std.proofs.lemmas.List.{get_or-set_same, get_or-set_other}
use Rattle.std.proofs.lemmas.Option.{slice_get-get_or, slice_get_within, get_or_from_slice_get}
use Rattle.catalogue.specs.Catalogue.{catalogue_of}
use Rattle.context.specs.declared.PairFacts.{PairFacts}
use Rattle.context.specs.Gathered.{pair_at, facts_of, Pairs}

module _ {A : Type 0} (l : List A) (i : ℕ) (x : A) where
  get-set : i < length l → slice_get (set l i x) i ≡ Some x
  get-set h = slice_get-get_or (set l i x) i x (omega (arith, length-set l i x)) ∙ ap Some (get_or-set_same l i x x h)

  get-other : (k : ℕ) (y : A) → (k ≡ i → ⊥) → slice_get l k ≡ Some y → slice_get (set l i x) k ≡ Some y
  get-other k y other e =
      slice_get-get_or (set l i x) k y (omega (arith, length-set l i x, slice_get_within l k y e))
      ∙ ap Some (get_or-set_other l i k x y other ∙ get_or_from_slice_get l k y y e)

pub pairs-more : (catalogue fit : List ℕ) (pairs : List PairFacts) (i : ℕ) (x : PairFacts) → i < length pairs
    → x ≡ facts_of (catalogue_of catalogue) (pair_at catalogue fit i).type → Pairs catalogue fit i pairs → Pairs catalogue fit (i + 1) (set pairs i x)
pairs-more catalogue fit pairs i x within e before k h =
    ⊎_elim
    (λ (q : k ≡ i). subst (λ (n : ℕ). slice_get (set pairs i x) n ≡ Some (facts_of (catalogue_of catalogue) (pair_at catalogue fit n).type)) (sym q)
    (get-set pairs i x within ∙ ap Some e))
    (λ (q : k < i). get-other pairs i x k _ (λ r. omega (arith, r, q)) (before k q))
    (eq-or-lt_of_le (omega (arith, h)))
