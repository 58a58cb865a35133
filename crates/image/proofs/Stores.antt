-- Bytes of numbers, and bytes stored in a list: lengths, numbers side by side, stores one after the other.
use mathlib.Core.Path.{◌≡◌, refl, ap, sym, ◌∙◌}
use mathlib.Core.List.{List, [], ◌∷◌, ◌++◌}
use Prim.Native.Nat.{ℕ, zero, suc, ◌+◌, ◌*◌, ◌/◌, ◌%◌, ◌^◌, ◌≤◌, ◌<◌}
use native.Mathlib.Nat.{suc-add, zero-add, pow-succ', mul_assoc}
use native.Mathlib.Numerals.{add-one}
use native.Mathlib.Omega.{arith}
use lib.ListN.{length, get_or, set, take, drop, length-set, length-append, length-drop, take-append-drop}
use lib.Seq.{set_at, append_snoc, take-suc, drop-drop, length-take-le}
use Rattle.image.specs.Bytes.{le, put}

pub length-le : (n x : ℕ) → length (le n x) ≡ n
length-le zero x = refl
length-le (suc n) x = ap suc (length-le n (x / 256))

-- a byte below a number
pub le-byte : (n t x : ℕ) → t < 256 → le (suc n) (t + 256 * x) ≡ t ∷ le n x
le-byte n t x h =
    let d : (t + 256 * x) % 256 ≡ t = omega arith in
    let q : (t + 256 * x) / 256 ≡ x = omega arith in
    ap (λ (y : ℕ). y ∷ le n ((t + 256 * x) / 256)) d ∙ ap (λ (y : ℕ). t ∷ le n y) q

-- a number of n bytes below another
pub le-append : (n m a b : ℕ) → a < 256 ^ n → le (n + m) (a + 256 ^ n * b) ≡ le n a ++ le m b
le-append zero m a b h =
    let z : a + 256 ^ 0 * b ≡ b = omega arith in
    ap (λ (k : ℕ). le k (a + 256 ^ 0 * b)) (zero-add m) ∙ ap (le m) z
le-append (suc n) m a b h =
    let p : 256 ^ suc n ≡ 256 * 256 ^ n = pow-succ' 256 n in
    let q : 256 ^ suc n * b ≡ 256 * (256 ^ n * b) = ap (λ (k : ℕ). k * b) p ∙ mul_assoc 256 (256 ^ n) b in
    let e : a + 256 ^ suc n * b ≡ a % 256 + 256 * (a / 256 + 256 ^ n * b) = omega (arith, q) in
    let d : a % 256 < 256 = omega arith in
    let f : a / 256 < 256 ^ n = omega (arith, p, h) in
    ap (λ (k : ℕ). le k (a + 256 ^ suc n * b)) (suc-add n m)
    ∙ ap (λ (x : ℕ). le (suc (n + m)) x) e
    ∙ le-byte (n + m) (a % 256) (a / 256 + 256 ^ n * b) d
    ∙ ap (λ (r : List ℕ). a % 256 ∷ r) (le-append n m (a / 256) b f)

pub length-put : (l : List ℕ) (i : ℕ) (vs : List ℕ) → length (put l i vs) ≡ length l
length-put l i [] = refl
length-put l i (v ∷ vs) = length-put (set l i v) (i + 1) vs ∙ length-set l i v

pub put-append : (l : List ℕ) (i : ℕ) (vs ws : List ℕ) → put l i (vs ++ ws) ≡ put (put l i vs) (i + length vs) ws
put-append l i [] ws = ap (λ (k : ℕ). put l k ws) (omega arith)
put-append l i (v ∷ vs) ws =
    put-append (set l i v) (i + 1) vs ws ∙ ap (λ (k : ℕ). put (put (set l i v) (i + 1) vs) k ws) (omega arith)

-- one more byte of vs
pub put_next : (l : List ℕ) (at : ℕ) (vs : List ℕ) (i : ℕ) → i < length vs → set (put l at (take i vs)) (at + i) (get_or vs i 0) ≡ put l at (take (i + 1) vs)
put_next l at vs i h =
    ap (λ (k : ℕ). set (put l at (take i vs)) (at + k) (get_or vs i 0)) (sym (length-take-le i vs (omega arith)))
    ∙ sym (put-append l at (take i vs) (get_or vs i 0 ∷ []))
    ∙ ap (put l at) (sym (ap (λ (k : ℕ). take k vs) (add-one i) ∙ take-suc vs i 0 h))

-- over m, which stands between p and q and is as long as vs
pub put-between : (p m q vs : List ℕ) (n : ℕ) → length p ≡ n → length m ≡ length vs → put (p ++ (m ++ q)) n vs ≡ p ++ (vs ++ q)
put-between p [] q [] n h e = refl
put-between p [] q (v ∷ vs) n h e = let z : 0 ≡ suc (length vs) = e in absurd (omega arith)
put-between p (x ∷ m) q [] n h e = let z : suc (length m) ≡ 0 = e in absurd (omega arith)
put-between p (x ∷ m) q (v ∷ vs) n h e =
    ap (λ (l : List ℕ). put l (n + 1) vs) (set_at p x (m ++ q) v n h ∙ sym (append_snoc p v (m ++ q)))
    ∙ put-between (p ++ (v ∷ [])) m q vs (n + 1) (length-append p (v ∷ []) ∙ omega (arith, h)) (omega (arith, e))
    ∙ append_snoc p v (vs ++ q)

-- what stands before and behind stays as it was
pub put-parts : (l : List ℕ) (at : ℕ) (vs : List ℕ) → at + length vs ≤ length l → put l at vs ≡ take at l ++ (vs ++ drop (at + length vs) l)
put-parts l at vs h =
    let n = length vs in
    let d : n ≤ length (drop at l) = omega (arith, length-drop at l) in
    let parts : take at l ++ (take n (drop at l) ++ drop (at + n) l) ≡ l =
    ap (λ (q : List ℕ). take at l ++ (take n (drop at l) ++ q)) (sym (drop-drop n at l))
    ∙ ap (λ (q : List ℕ). take at l ++ q) (take-append-drop n (drop at l)) ∙ take-append-drop at l in
    ap (λ (m : List ℕ). put m at vs) (sym parts)
    ∙ put-between (take at l) (take n (drop at l)) (drop (at + n) l) vs at (length-take-le at l (omega arith)) (length-take-le n (drop at l) d)
