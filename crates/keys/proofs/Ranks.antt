-- The order of signed numbers of 32 bits is that of their ranks.
use Rattle.std.proofs.Common.{◌≡◌, ℕ, ◌+◌, ◌-◌, ◌%◌, ◌<◌, ◌≤◌, Bool, true, false, cond, eqb, ltb, leb, List, get_or, ℤ, pos, negsuc, sym, refl, ◌∙◌, arith, w8, Fits, ltb-false, ltb-true, le-ltb, lt-ltb, eq-eqb, ne_eqb, eqb-true, le-leb, leb-false, leb-true}
use lib.Signed.{lt_z, le_z, mag}
use borrow.Author.Tests.{lt-leb, eqb-false}
use Rattle.words.specs.Words.{same}
use Rattle.image.specs.Bytes.{u32_at, signed32, bits32}
use Rattle.keys.specs.Keys.{rank_of, biased}

-- two tests of numbers agree where each follows from the other
ltb_iff : (a b c d : ℕ) → (a < b → c < d) → (b ≤ a → d ≤ c) → ltb a b ≡ ltb c d
ltb_iff a b c d f g = go (ltb a b) refl
  where
    go : (t : Bool) → ltb a b ≡ t → ltb a b ≡ ltb c d
    go true e = e ∙ sym (lt-ltb c d (f (ltb-true a b e)))
    go false e = e ∙ sym (le-ltb c d (g (ltb-false a b e)))

leb-iff : (a b c d : ℕ) → (a ≤ b → c ≤ d) → (b < a → d < c) → leb a b ≡ leb c d
leb-iff a b c d f g = go (leb a b) refl
  where
    go : (t : Bool) → leb a b ≡ t → leb a b ≡ leb c d
    go true e = e ∙ sym (le-leb c d (f (leb-true a b e)))
    go false e = e ∙ sym (lt-leb c d (g (leb-false a b e)))

eqb-iff : (a b c d : ℕ) → (a ≡ b → c ≡ d) → (c ≡ d → a ≡ b) → eqb a b ≡ eqb c d
eqb-iff a b c d f g = go (eqb a b) refl
  where
    go : (t : Bool) → eqb a b ≡ t → eqb a b ≡ eqb c d
    go true e = e ∙ sym (eq-eqb c d (f (eqb-true a b e)))
    go false e = e ∙ sym (ne_eqb c d (λ q. eqb-false a b e (g q)))

-- ---- of numbers in the range of an i32
pub rank_lt : (y z : ℤ) → mag y < 2147483648 → mag z < 2147483648 → lt_z y z ≡ ltb (rank_of y) (rank_of z)
unfolding rank_of
rank_lt (pos a) (pos b) p q = ltb_iff a b (a + 2147483648) (b + 2147483648) (λ h. omega (arith, h)) (λ h. omega (arith, h))
rank_lt (pos a) (negsuc b) p q = sym (le-ltb (a + 2147483648) (2147483647 - b) (omega arith))
rank_lt (negsuc a) (pos b) p q = sym (lt-ltb (2147483647 - a) (b + 2147483648) (omega arith))
rank_lt (negsuc a) (negsuc b) p q = ltb_iff b a (2147483647 - a) (2147483647 - b) (λ h. omega (arith, h, p, q)) (λ h. omega (arith, h, p, q))

pub rank_le : (y z : ℤ) → mag y < 2147483648 → mag z < 2147483648 → le_z y z ≡ leb (rank_of y) (rank_of z)
unfolding rank_of
rank_le (pos a) (pos b) p q = leb-iff a b (a + 2147483648) (b + 2147483648) (λ h. omega (arith, h)) (λ h. omega (arith, h))
rank_le (pos a) (negsuc b) p q = sym (lt-leb (a + 2147483648) (2147483647 - b) (omega arith))
rank_le (negsuc a) (pos b) p q = sym (le-leb (2147483647 - a) (b + 2147483648) (omega arith))
rank_le (negsuc a) (negsuc b) p q = leb-iff b a (2147483647 - a) (2147483647 - b) (λ h. omega (arith, h, p, q)) (λ h. omega (arith, h, p, q))

pub rank_same : (y z : ℤ) → mag y < 2147483648 → mag z < 2147483648 → same y z ≡ eqb (rank_of y) (rank_of z)
unfolding rank_of same
rank_same (pos a) (pos b) p q = eqb-iff a b (a + 2147483648) (b + 2147483648) (λ h. omega (arith, h)) (λ h. omega (arith, h))
rank_same (pos a) (negsuc b) p q = sym (ne_eqb (a + 2147483648) (2147483647 - b) (λ h. omega (arith, h)))
rank_same (negsuc a) (pos b) p q = sym (ne_eqb (2147483647 - a) (b + 2147483648) (λ h. omega (arith, h)))
rank_same (negsuc a) (negsuc b) p q = eqb-iff a b (2147483647 - a) (2147483647 - b) (λ h. omega (arith, h, p, q)) (λ h. omega (arith, h, p, q))

pub bits_same : (y z : ℤ) → mag y < 2147483648 → mag z < 2147483648 → same y z ≡ eqb (bits32 y) (bits32 z)
unfolding bits32 same
bits_same (pos a) (pos b) p q = refl
bits_same (pos a) (negsuc b) p q = sym (ne_eqb a (4294967295 - b) (λ h. omega (arith, h, p, q)))
bits_same (negsuc a) (pos b) p q = sym (ne_eqb (4294967295 - a) b (λ h. omega (arith, h, p, q)))
bits_same (negsuc a) (negsuc b) p q = eqb-iff a b (4294967295 - a) (4294967295 - b) (λ h. omega (arith, h)) (λ h. omega (arith, h, p, q))

-- ---- of 32 bits
pub signed_range : (n : ℕ) → mag (signed32 n) < 2147483648
unfolding signed32
signed_range n = go (ltb n 2147483648) refl
  where
    go : (t : Bool) → ltb n 2147483648 ≡ t → mag (cond t (pos n) (negsuc (4294967295 - n))) < 2147483648
    go true e = ltb-true n 2147483648 e
    go false e = omega (arith, ltb-false n 2147483648 e)

pub rank_signed : (x : ℕ) → x < 4294967296 → rank_of (signed32 x) ≡ biased 2147483648 x
unfolding signed32 rank_of
rank_signed x h = go (ltb x 2147483648) refl
  where
    go : (t : Bool) → ltb x 2147483648 ≡ t → rank_of (cond t (pos x) (negsuc (4294967295 - x))) ≡ (x + 2147483648) % 4294967296
    go true e = omega (arith, ltb-true x 2147483648 e)
    go false e = omega (arith, ltb-false x 2147483648 e)

pub rank_bits : (z : ℤ) → mag z < 2147483648 → rank_of z ≡ biased 2147483648 (bits32 z)
unfolding bits32 rank_of
rank_bits (pos n) h = omega arith
rank_bits (negsuc n) h = omega arith

-- four bytes are below 2 ^ 32
pub u32_small : (b : List ℕ) → ((i : ℕ) → Fits w8 (get_or b i 0)) → (i : ℕ) → u32_at b i < 4294967296
unfolding u32_at
u32_small b h i = omega (arith, (h i).fits, (h (i + 1)).fits, (h (i + 2)).fits, (h (i + 3)).fits)
