-- What is copied: records side by side are one part of the image; stores to two places in turn are two stores.
use Prim.Native.Nat.{ℕ, zero, suc, ◌+◌, ◌-◌, ◌*◌, ◌≤◌, ◌<◌}
use native.Mathlib.Nat.{mul-suc, mul-zero, mul-add, mul-le-mul_left}
use native.Mathlib.Omega.{arith}
use mathlib.Core.Path.{◌≡◌, refl, sym, ap, ap₂, ◌∙◌}
use mathlib.Core.Bool.{Bool, true, false, cond}
use mathlib.Core.List.{List, [], ◌∷◌, ◌++◌}
use lib.ListN.{length, take, drop, set, length-append}
use lib.Seq.{take-add, drop-drop, set_comm}
use Rattle.words.specs.Words.{table_from, from, each, only}
use Rattle.words.proofs.Steps.{each_append}
use Rattle.image.specs.Bytes.{put}
use Rattle.image.proofs.Stores.{put-append}
use Rattle.image.proofs.Parts.{part_length}
use Rattle.trim.specs.Trim.{copied}

-- ---- products of a width
pub step_room : (w i n : ℕ) → i < n → w * i + w ≤ w * n
step_room w i n h = omega (arith, mul-suc w i, mul-le-mul_left w h)

pub part_room : (w f t n : ℕ) → f ≤ t → t ≤ n → w * f + w * (t - f) ≤ w * n
part_room w f t n h l =
    let e : f + (t - f) ≡ t = omega (arith, h) in
    omega (arith, mul-add w f (t - f), ap (λ (k : ℕ). w * k) e, mul-le-mul_left w l)

-- ---- a run of records
pub copied-run : (b : List ℕ) (at w f d : ℕ) → copied b at w (from f d) ≡ take (w * d) (drop (at + w * f) b)
unfolding copied each table_from
copied-run b at w f zero = ap (λ (k : ℕ). take k (drop (at + w * f) b)) (sym (mul-zero w))
copied-run b at w f (suc d) =
    let x = drop (at + w * f) b in
    let e : at + w * suc f ≡ at + w * f + w = omega (arith, mul-suc w f) in
    let k : w * suc d ≡ w + w * d = omega (arith, mul-suc w d) in
    ap (λ (l : List ℕ). take w x ++ l) (copied-run b at w (suc f) d ∙ ap (λ (i : ℕ). take (w * d) (drop i b)) e ∙ ap (take (w * d)) (sym (drop-drop w (at + w * f) b)))
    ∙ sym (take-add w (w * d) x)
    ∙ ap (λ (i : ℕ). take i x) (sym k)

-- as long as its records are wide
pub copied-length : (p : ℕ → Bool) (b : List ℕ) (at w i d : ℕ) → at + w * (i + d) ≤ length b
    → length (copied b at w (only p (from i d))) ≡ w * length (only p (from i d))
unfolding copied each only table_from
copied-length p b at w i zero h = sym (mul-zero w)
copied-length p b at w i (suc d) h = go (p i) (copied-length p b at w (suc i) d (omega (arith, h, ap (λ (k : ℕ). w * k) e)))
  where
    e : suc i + d ≡ i + suc d
    e = omega arith

    rest : List ℕ
    rest = only p (from (suc i) d)

    wide : length (take w (drop (at + w * i) b)) ≡ w
    wide = part_length b (at + w * i) w (omega (arith, h, step_room w i (i + suc d) (omega arith)))

    go : (t : Bool) → length (copied b at w rest) ≡ w * length rest
        → length (copied b at w (cond t (i ∷ rest) rest)) ≡ w * length (cond t (i ∷ rest) rest)
    go false q = q
    go true q = length-append (take w (drop (at + w * i) b)) (copied b at w rest) ∙ omega (arith, wide, q, mul-suc w (length rest))

pub copied-append : (b : List ℕ) (at w : ℕ) (is js : List ℕ) → copied b at w (is ++ js) ≡ copied b at w is ++ copied b at w js
unfolding copied
copied-append b at w is js = each_append (λ i. take w (drop (at + w * i) b)) is js

-- a byte stored in front of others
put_front : (l : List ℕ) (at : ℕ) (v : ℕ) (i : ℕ) (vs : List ℕ) → at < i → set (put l i vs) at v ≡ put (set l at v) i vs
put_front l at v i [] h = refl
put_front l at v i (x ∷ vs) h =
    put_front (set l i x) at v (i + 1) vs (omega arith) ∙ ap (λ (m : List ℕ). put m (i + 1) vs) (set_comm l i at x v (λ e. omega (arith, e, h)))

-- bytes stored in front of others
put-swap : (l : List ℕ) (i : ℕ) (xs : List ℕ) (j : ℕ) (ys : List ℕ) → j + length ys ≤ i → put (put l i xs) j ys ≡ put (put l j ys) i xs
put-swap l i xs j [] h = refl
put-swap l i xs j (y ∷ ys) h =
    let k : j + suc (length ys) ≤ i = h in
    ap (λ (m : List ℕ). put m (j + 1) ys) (put_front l j y i xs (omega (arith, k))) ∙ put-swap (set l j y) i xs (j + 1) ys (omega (arith, k))

-- two stores go on, one of them in front of the other
pub put_both : (l : List ℕ) (a v : ℕ) (xs xs' ys ys' : List ℕ) → a + length xs + length xs' ≤ v
    → put (put (put (put l a xs) v ys) (a + length xs) xs') (v + length ys) ys' ≡ put (put l a (xs ++ xs')) v (ys ++ ys')
put_both l a v xs xs' ys ys' h =
    ap (λ (m : List ℕ). put m (v + length ys) ys') (put-swap (put l a xs) v ys (a + length xs) xs' h)
    ∙ sym (put-append (put (put l a xs) (a + length xs) xs') v ys ys')
    ∙ ap (λ (m : List ℕ). put m v (ys ++ ys')) (sym (put-append l a xs xs'))

-- ---- the kept records of a block, run after run: keys from a on, values from v on
pub copied_none : (b : List ℕ) (at w : ℕ) → copied b at w [] ≡ []
unfolding copied each
copied_none b at w = refl

pub copy_step : (out out₁ out₂ : List ℕ) (a v keys values : ℕ) (xs xs' ys ys' : List ℕ) → out₁ ≡ put (put out a xs) v ys
    → out₂ ≡ put (put out₁ keys xs') values ys' → keys ≡ a + length xs → values ≡ v + length ys → a + length xs + length xs' ≤ v
    → out₂ ≡ put (put out a (xs ++ xs')) v (ys ++ ys')
copy_step out out₁ out₂ a v keys values xs xs' ys ys' e q k w h =
    q
    ∙ ap₂ (λ (m : List ℕ) (i : ℕ). put m i ys') (ap₂ (λ (m : List ℕ) (i : ℕ). put m i xs') e k) w
    ∙ put_both out a v xs xs' ys ys' h

pub copy_done : (out out₁ : List ℕ) (a v : ℕ) (xs ys : List ℕ) → out₁ ≡ put (put out a xs) v ys → v ≡ a + length xs → out₁ ≡ put out a (xs ++ ys)
copy_done out out₁ a v xs ys e h = e ∙ ap (λ (i : ℕ). put (put out a xs) i ys) h ∙ sym (put-append out a xs ys)
