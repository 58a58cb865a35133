-- The pairs of a part are those that were chosen, numbered anew: each by how many are chosen before it. By induction on the flags.
use Prim.Native.Nat.{ℕ, suc, ◌+◌}
use native.Mathlib.Omega.{arith}
use mathlib.Core.Path.{◌≡◌, refl, ap, ap₂, ◌∙◌, subst}
use mathlib.Core.Bool.{Bool, true, false, cond}
use mathlib.Core.List.Memᴰ
use mathlib.Core.List.{List, [], ◌∷◌, map, Memᴰ}
use lib.Dec.{T}
use lib.ListN.{take}
use Rattle.catalogue.specs.Catalogue.{Catalogue}
use Rattle.fit.specs.Fit.{Result, Fit}
use Rattle.fit.specs.Fit as Fit
use Rattle.context.specs.Context.{Pair, pair_of, pairs_from, pairs}
use Rattle.parts.specs.Parts.{chosen, size, holds, part_of}
use Rattle.parts.proofs.Flags.{size_none, size-cons}

-- a pair with another number
abbrev pub moved : (ℕ → ℕ) → Pair → Pair
moved φ p = record {
  position = φ p.position;
  type = p.type;
  quantity = p.quantity;
  slot = p.slot;
  index = p.index;
  group = p.group;
  category = p.category;
  rack = p.rack;
  hardpoint = p.hardpoint;
  volume = p.volume;
  result = p.result;
}

-- a pair's number in a part
abbrev pub number_in : List Bool → ℕ → ℕ
number_in s a = size (take a s)

pairs-none : (c : Catalogue) (n : ℕ) (is : List Fit.Item) → pairs_from c n is [] ≡ []
unfolding pairs_from
pairs-none c n [] = refl
pairs-none c n (i ∷ is) = refl

-- from position n on in the fit, from position k on in the part
part-pairs : (c : Catalogue) (φ : ℕ → ℕ) (n k : ℕ) (s : List Bool) (is : List Fit.Item) (rs : List Result)
    → ((j : ℕ) → φ (n + j) ≡ k + size (take j s))
    → pairs_from c k (chosen s is) (chosen s rs) ≡ map (moved φ) (chosen s (pairs_from c n is rs))
unfolding chosen pairs_from
part-pairs c φ n k [] is rs h = refl
part-pairs c φ n k (b ∷ s) [] rs h = refl
part-pairs c φ n k (b ∷ s) (i ∷ is) [] h = pairs-none c k (cond b (i ∷ chosen s is) (chosen s is))
part-pairs c φ n k (b ∷ s) (i ∷ is) (r ∷ rs) h = go b (λ m g. part-pairs c φ (suc n) m s is rs g) h
  where
    later : (j : ℕ) → φ (suc n + j) ≡ φ (n + suc j)
    later j = let q : suc n + j ≡ n + suc j = omega arith in ap φ q

    go : (b : Bool)
        → ((m : ℕ) → ((j : ℕ) → φ (suc n + j) ≡ m + size (take j s))
        → pairs_from c m (chosen s is) (chosen s rs) ≡ map (moved φ) (chosen s (pairs_from c (suc n) is rs)))
        → ((j : ℕ) → φ (n + j) ≡ k + size (take j (b ∷ s)))
        → pairs_from c k (cond b (i ∷ chosen s is) (chosen s is)) (cond b (r ∷ chosen s rs) (chosen s rs))
        ≡ map (moved φ) (cond b (pair_of c n i r ∷ chosen s (pairs_from c (suc n) is rs)) (chosen s (pairs_from c (suc n) is rs)))
    go true rest g =
        let own : k ≡ φ n = let p : n ≡ n + 0 = omega arith in let e = g 0 in let z = size_none in let w = ap φ p in omega (arith, e, z, w) in
        ap₂ (λ (m : ℕ) (l : List Pair). pair_of c m i r ∷ l) own
        (rest (suc k) (λ j. later j ∙ g (suc j) ∙ (let e = size-cons true (take j s) in omega (arith, e))))
    go false rest g = rest k (λ j. later j ∙ g (suc j) ∙ (let e = size-cons false (take j s) in omega (arith, e)))

pub pairs-part : (c : Catalogue) (f : Fit) (s : List Bool) → pairs c (part_of f s) ≡ map (moved (number_in s)) (chosen s (pairs c f))
unfolding pairs part_of
pairs-part c f s = part-pairs c (number_in s) 0 0 s f.items f.results λ j.
    let q : 0 + j ≡ j = omega arith in
    let r : size (take j s) ≡ 0 + size (take j s) = omega arith in
    ap (λ (m : ℕ). size (take m s)) q ∙ r

-- a chosen pair's flag is set
held-from : (c : Catalogue) (n : ℕ) (s : List Bool) (is : List Fit.Item) (rs : List Result) (p : Pair) → Memᴰ p (chosen s (pairs_from c n is rs))
    → (j : ℕ) × (p.position ≡ n + j) × T (holds s j)
unfolding chosen pairs_from
held-from c n [] is rs p m = absurd (Memᴰ.not-nil m)
held-from c n (b ∷ s) [] rs p m = absurd (Memᴰ.not-nil m)
held-from c n (b ∷ s) (i ∷ is) [] p m = absurd (Memᴰ.not-nil m)
held-from c n (b ∷ s) (i ∷ is) (r ∷ rs) p m = go b (held-from c (suc n) s is rs p) m
  where
    later : (j : ℕ) → suc n + j ≡ n + suc j
    later j = omega arith

    go : (b : Bool) → (Memᴰ p (chosen s (pairs_from c (suc n) is rs)) → (j : ℕ) × (p.position ≡ suc n + j) × T (holds s j))
        → Memᴰ p (cond b (pair_of c n i r ∷ chosen s (pairs_from c (suc n) is rs)) (chosen s (pairs_from c (suc n) is rs)))
        → (j : ℕ) × (p.position ≡ n + j) × T (holds (b ∷ s) j)
    go true f (Memᴰ.head e) = (0, ap (λ (q : Pair). q.position) e ∙ (let q : n ≡ n + 0 = omega arith in q), tt)
    go true f (Memᴰ.tail k) = let h = f k in (suc h.0, h.1 ∙ later h.0, h.2)
    go false f k = let h = f k in (suc h.0, h.1 ∙ later h.0, h.2)

pub chosen-held : (c : Catalogue) (f : Fit) (s : List Bool) (p : Pair) → Memᴰ p (chosen s (pairs c f)) → T (holds s p.position)
unfolding pairs
chosen-held c f s p m =
    let h = held-from c 0 s f.items f.results p m in
    let q : h.0 ≡ p.position = (let e = h.1 in omega (arith, e)) in
    subst (λ (a : ℕ). T (holds s a)) q h.2
