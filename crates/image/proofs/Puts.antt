-- Bytes stored in a list: what stands at each place afterwards. Numbers read where bytes are alike.
use Prim.Native.Nat.{ℕ, zero, suc, ◌+◌, ◌-◌, ◌^◌, ◌≤◌, ◌<◌}
use native.Mathlib.Nat.{add-zero}
use native.Mathlib.Omega.{arith}
use mathlib.Core.Path.{◌≡◌, refl, sym, ap, ap₂, ◌∙◌}
use mathlib.Core.Bool.{Bool, cond}
use mathlib.Core.List.{List, [], ◌∷◌}
use lib.IntN.{ℤ, pos, negsuc}
use lib.Signed.{mag}
use lib.ListN.{length, get_or, set, take, drop, length-set}
use lib.Seq.{get_or-set_same, get_or-set_other, set_comm, drop-cons}
use borrow.Author.Tests.{lt-ltb, le-ltb}
use Rattle.image.specs.Bytes.{u16_at, u32_at, i32_at, signed32, bits32, le, put}

-- before the stored bytes
pub put-before : (l : List ℕ) (at : ℕ) (vs : List ℕ) (j : ℕ) → j < at → get_or (put l at vs) j 0 ≡ get_or l j 0
put-before l at [] j h = refl
put-before l at (v ∷ vs) j h = put-before (set l at v) (at + 1) vs j (omega arith) ∙ get_or-set_other l at j v 0 (λ e. omega (arith, e))

-- behind them
pub put-behind : (l : List ℕ) (at : ℕ) (vs : List ℕ) (j : ℕ) → at + length vs ≤ j → get_or (put l at vs) j 0 ≡ get_or l j 0
put-behind l at [] j h = refl
put-behind l at (v ∷ vs) j h =
    let k : at + suc (length vs) ≤ j = h in
    put-behind (set l at v) (at + 1) vs j (omega (arith, k)) ∙ get_or-set_other l at j v 0 (λ e. omega (arith, e, k))

-- among them
pub put-among : (l : List ℕ) (at : ℕ) (vs : List ℕ) (j : ℕ) → j < length vs → at + length vs ≤ length l → get_or (put l at vs) (at + j) 0 ≡ get_or vs j 0
put-among l at [] j h room = absurd (omega arith)
put-among l at (v ∷ vs) zero h room =
    let k : at + suc (length vs) ≤ length l = room in
    rw add-zero (put-before (set l at v) (at + 1) vs at (omega arith) ∙ get_or-set_same l at v 0 (omega (arith, k)))
put-among l at (v ∷ vs) (suc j) h room =
    let k : at + suc (length vs) ≤ length l = room in
    let q : at + suc j ≡ at + 1 + j = omega arith in
    ap (λ (i : ℕ). get_or (put (set l at v) (at + 1) vs) i 0) q
    ∙ put-among (set l at v) (at + 1) vs j (omega (arith, h)) (omega (arith, k, length-set l at v))

-- a byte stored in front of others
pub put_front : (l : List ℕ) (at : ℕ) (v : ℕ) (i : ℕ) (vs : List ℕ) → at < i → set (put l i vs) at v ≡ put (set l at v) i vs
put_front l at v i [] h = refl
put_front l at v i (x ∷ vs) h =
    put_front (set l i x) at v (i + 1) vs (omega arith) ∙ ap (λ (m : List ℕ). put m (i + 1) vs) (set_comm l i at x v (λ e. omega (arith, e, h)))

-- ---- numbers
pub u16_alike : (l m : List ℕ) (i j : ℕ) → ((b : ℕ) → b < 2 → get_or l (i + b) 0 ≡ get_or m (j + b) 0) → u16_at l i ≡ u16_at m j
unfolding u16_at
u16_alike l m i j h =
    let a : get_or l i 0 ≡ get_or m j 0 = simp add-zero at (h 0 (omega arith)) in
    omega (arith, a, h 1 (omega arith))

pub u32_alike : (l m : List ℕ) (i j : ℕ) → ((b : ℕ) → b < 4 → get_or l (i + b) 0 ≡ get_or m (j + b) 0) → u32_at l i ≡ u32_at m j
unfolding u32_at
u32_alike l m i j h =
    let a : get_or l i 0 ≡ get_or m j 0 = simp add-zero at (h 0 (omega arith)) in
    omega (arith, a, h 1 (omega arith), h 2 (omega arith), h 3 (omega arith))

pub i32_alike : (l m : List ℕ) (i j : ℕ) → ((b : ℕ) → b < 4 → get_or l (i + b) 0 ≡ get_or m (j + b) 0) → i32_at l i ≡ i32_at m j
unfolding i32_at
i32_alike l m i j h = ap signed32 (u32_alike l m i j h)

-- four bytes of a number are read as that number
pub le-u32 : (x : ℕ) → x < 4294967296 → u32_at (le 4 x) 0 ≡ x
unfolding u32_at
le-u32 x h = omega (arith, h)

pub bits_small : (z : ℤ) → mag z < 2147483648 → bits32 z < 4294967296
unfolding bits32
bits_small (pos n) h = omega (arith, h)
bits_small (negsuc n) h = omega (arith, h)

pub signed_bits : (z : ℤ) → mag z < 2147483648 → signed32 (bits32 z) ≡ z
unfolding signed32 bits32
signed_bits (pos n) h = ap (λ (b : Bool). cond b (pos n) (negsuc (2 ^ 32 - 1 - n))) (lt-ltb n (2 ^ 31) (omega (arith, h)))
signed_bits (negsuc n) h =
    let k : 2 ^ 32 - 1 - (2 ^ 32 - 1 - n) ≡ n = omega (arith, h) in
    let m = 2 ^ 32 - 1 - n in
    ap (λ (b : Bool). cond b (pos m) (negsuc (2 ^ 32 - 1 - m))) (le-ltb m (2 ^ 31) (omega (arith, h))) ∙ ap negsuc k

pub le-i32 : (z : ℤ) → mag z < 2147483648 → i32_at (le 4 (bits32 z)) 0 ≡ z
unfolding i32_at
le-i32 z h = ap signed32 (le-u32 (bits32 z) (bits_small z h)) ∙ signed_bits z h

-- ---- bytes moved up, from the last to the first
module _ (b : List ℕ) (end by : ℕ) where
  -- those from i on, where they stand then
  abbrev pub moved : ℕ → List ℕ
  moved i = put b (i + by) (take (end - i) (drop i b))

  pub moved_none : moved end ≡ b
  moved_none = let q : end - end ≡ 0 = omega arith in ap (λ (k : ℕ). put b (end + by) (take k (drop end b))) q

  pub moved_next : (i j : ℕ) → i ≡ suc j → i ≤ end → end ≤ length b → set (moved i) (j + by) (get_or b j 0) ≡ moved j
  moved_next i j e h room =
      let x = take (end - i) (drop i b) in
      let v = get_or b j 0 in
      let n : end - j ≡ suc (end - i) = omega (arith, e, h) in
      let front : drop j b ≡ v ∷ drop i b = drop-cons b j 0 (omega (arith, e, h, room)) ∙ ap (λ (k : ℕ). v ∷ drop k b) (sym e) in
      let all : take (end - j) (drop j b) ≡ v ∷ x = ap₂ (λ (k : ℕ) (l : List ℕ). take k l) n front in
      let at : i + by ≡ j + by + 1 = omega (arith, e) in
      put_front b (j + by) v (i + by) x (omega (arith, e))
      ∙ ap (λ (k : ℕ). put (set b (j + by) v) k x) at
      ∙ sym (ap (put b (j + by)) all)
