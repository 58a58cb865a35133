-- Bytes side by side: parts one after the other, and records of one width copied from where they stand. By induction on the lists.
use Prim.Native.Nat.{ℕ, zero, suc, ◌+◌, ◌*◌, ◌≤◌, ◌<◌}
use native.Mathlib.Nat.{mul-suc}
use native.Mathlib.Omega.{arith}
use mathlib.Core.Path.{◌≡◌, refl, sym, ap, ◌∙◌}
use mathlib.Core.List.{List, [], ◌∷◌, ◌++◌}
use lib.ListN.{length, get_or, take, drop, length-append, get_or-append}
use lib.Seq.{get_or-append-add, drop-append-add, get_or-take, get_or-drop, drop-drop, take_at, take-add}
use Rattle.words.specs.Words.{each, table_from, from}
use Rattle.words.proofs.All.{All, nil, cons}
use Rattle.image.proofs.Parts.{part_length}
use Rattle.trim.specs.Trim.{copied}

-- ---- parts
-- parts one after the other, and where part i begins
unfoldable pub joined : List (List ℕ) → List ℕ
joined [] = []
joined (p ∷ ps) = p ++ joined ps

unfoldable pub start_of : List (List ℕ) → ℕ → ℕ
start_of [] i = 0
start_of (p ∷ ps) zero = 0
start_of (p ∷ ps) (suc i) = length p + start_of ps i

pub part_at : (ps : List (List ℕ)) (i j : ℕ) → j < length (get_or ps i [])
    → get_or (joined ps) (start_of ps i + j) 0 ≡ get_or (get_or ps i []) j 0
unfolding joined start_of
part_at [] i j h = absurd (omega (arith, h))
part_at (p ∷ ps) zero j h =
    let z : 0 + j ≡ j = omega arith in
    ap (λ (k : ℕ). get_or (p ++ joined ps) k 0) z ∙ get_or-append p (joined ps) 0 j h
part_at (p ∷ ps) (suc i) j h =
    let z : length p + start_of ps i + j ≡ length p + (start_of ps i + j) = omega arith in
    ap (λ (k : ℕ). get_or (p ++ joined ps) k 0) z ∙ get_or-append-add p (joined ps) (start_of ps i + j) 0 ∙ part_at ps i j h

pub joined_length : (ps : List (List ℕ)) → length (joined ps) ≡ start_of ps (length ps)
unfolding joined start_of
joined_length [] = refl
joined_length (p ∷ ps) = length-append p (joined ps) ∙ ap (λ (n : ℕ). length p + n) (joined_length ps)

-- part i whole
pub part-whole : (ps : List (List ℕ)) (i : ℕ) → take (length (get_or ps i [])) (drop (start_of ps i) (joined ps)) ≡ get_or ps i []
unfolding joined start_of
part-whole [] i = refl
part-whole (p ∷ ps) zero = take_at p (joined ps) (length p) refl
part-whole (p ∷ ps) (suc i) = ap (take (length (get_or ps i []))) (drop-append-add p (joined ps) (start_of ps i)) ∙ part-whole ps i

-- ---- records of a width, copied
module _ (b : List ℕ) (at w : ℕ) where
  abbrev pub Inside : ℕ → Type 0
  Inside i = at + w * i + w ≤ length b

  pub copied-length : {is : List ℕ} → All Inside is → length (copied b at w is) ≡ w * length is
  unfolding each copied
  copied-length nil = omega arith
  copied-length (cons {x = i} {l = is} h hs) =
      length-append (take w (drop (at + w * i) b)) (copied b at w is)
      ∙ omega (arith, part_length b (at + w * i) w h, copied-length hs, mul-suc w (length is))

  pub copied_at : {is : List ℕ} → All Inside is → (k c : ℕ) → k < length is → c < w
      → get_or (copied b at w is) (w * k + c) 0 ≡ get_or b (at + w * get_or is k 0 + c) 0
  unfolding each copied
  copied_at nil k c h l = absurd (omega (arith, h))
  copied_at (cons {x = i} {l = is} p hs) zero c h l =
      let z : w * 0 + c ≡ c = omega arith in
      let part = take w (drop (at + w * i) b) in
      ap (λ (k : ℕ). get_or (part ++ copied b at w is) k 0) z
      ∙ get_or-append part (copied b at w is) 0 c (omega (arith, l, part_length b (at + w * i) w p))
      ∙ get_or-take w (drop (at + w * i) b) c 0 l ∙ get_or-drop (at + w * i) b c 0
  copied_at (cons {x = i} {l = is} p hs) (suc k) c h l =
      let part = take w (drop (at + w * i) b) in
      let z : w * suc k + c ≡ length part + (w * k + c) = omega (arith, mul-suc w k, part_length b (at + w * i) w p) in
      ap (λ (j : ℕ). get_or (part ++ copied b at w is) j 0) z
      ∙ get_or-append-add part (copied b at w is) (w * k + c) 0
      ∙ copied_at hs k c (omega (arith, h)) l

-- all of a block
module _ (b : List ℕ) (at w : ℕ) where
  copied-from : (k n : ℕ) → copied b at w (from k n) ≡ take (w * n) (drop (at + w * k) b)
  unfolding table_from each copied
  copied-from k zero = let z : w * 0 ≡ 0 = omega arith in sym (ap (λ (n : ℕ). take n (drop (at + w * k) b)) z)
  copied-from k (suc n) =
      let z : w + w * n ≡ w * suc n = omega (arith, mul-suc w n) in
      let y : at + w * suc k ≡ at + w * k + w = omega (arith, mul-suc w k) in
      ap (λ (l : List ℕ). take w (drop (at + w * k) b) ++ l)
      (copied-from (suc k) n ∙ ap (λ (j : ℕ). take (w * n) (drop j b)) y ∙ ap (take (w * n)) (sym (drop-drop w (at + w * k) b)))
      ∙ sym (take-add w (w * n) (drop (at + w * k) b)) ∙ ap (λ (j : ℕ). take j (drop (at + w * k) b)) z

  pub copied_all : (n : ℕ) → copied b at w (from 0 n) ≡ take (w * n) (drop at b)
  copied_all n = copied-from 0 n ∙ (let z : at + w * 0 ≡ at = omega arith in ap (λ (j : ℕ). take (w * n) (drop j b)) z)
