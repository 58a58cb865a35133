-- A number read in a part of a list of bytes is the one read in the whole.
use Prim.Native.Nat.{ℕ, ◌+◌, ◌≤◌, ◌<◌}
use native.Mathlib.Nat.{add_assoc, add-zero}
use native.Mathlib.Omega.{arith}
use mathlib.Core.Path.{◌≡◌, ap, ◌∙◌}
use mathlib.Core.List.{List}
use lib.ListN.{length, get_or, take, drop, length-take, length-drop}
use lib.Seq.{get_or-take, get_or-drop}
use Rattle.std.specs.Int.{w16, w32, w64, from_le_bytes}
use Rattle.image.specs.Bytes.{u16_at, u32_at, u64_at, signed32, i32_at}

pub part_length : (b : List ℕ) (at n : ℕ) → at + n ≤ length b → length (take n (drop at b)) ≡ n
part_length b at n h = simp (length-take, length-drop) (omega arith)

module _ (b : List ℕ) (at n : ℕ) where
  byte : (i : ℕ) → i < n → get_or (take n (drop at b)) i 0 ≡ get_or b (at + i) 0
  byte i h = get_or-take n (drop at b) i 0 h ∙ get_or-drop at b i 0

  pub part-u32 : (i : ℕ) → i + 4 ≤ n → u32_at (take n (drop at b)) i ≡ u32_at b (at + i)
  unfolding u32_at
  part-u32 i h =
      rw (
        byte i (omega arith),
        byte (i + 1) (omega arith),
        byte (i + 2) (omega arith),
        byte (i + 3)
            (omega arith),
        add_assoc at i 1,
        add_assoc at i 2,
        add_assoc at i 3,
      )

  pub part-u64 : (i : ℕ) → i + 8 ≤ n → u64_at (take n (drop at b)) i ≡ u64_at b (at + i)
  unfolding u64_at
  part-u64 i h = rw (part-u32 i (omega arith), part-u32 (i + 4) (omega arith), add_assoc at i 4)

  pub part-i32 : (i : ℕ) → i + 4 ≤ n → i32_at (take n (drop at b)) i ≡ i32_at b (at + i)
  unfolding i32_at
  part-i32 i h = ap signed32 (part-u32 i h)

-- ---- bytes that are read at once
module _ (b : List ℕ) (at : ℕ) where
  first : (n : ℕ) → 0 < n → get_or (take n (drop at b)) 0 0 ≡ get_or b at 0
  first n h = byte b at n 0 h ∙ ap (λ (k : ℕ). get_or b k 0) (add-zero at)

  pub whole_u16 : from_le_bytes w16 (take 2 (drop at b)) ≡ u16_at b at
  unfolding u16_at
  whole_u16 = omega (arith, first 2 (omega arith), byte b at 2 1 (omega arith))

  pub whole_u32 : from_le_bytes w32 (take 4 (drop at b)) ≡ u32_at b at
  unfolding u32_at
  whole_u32 =
      let n = byte b at 4 in
      omega (arith, first 4 (omega arith), n 1 (omega arith), n 2 (omega arith), n 3 (omega arith))

  pub whole_u64 : from_le_bytes w64 (take 8 (drop at b)) ≡ u64_at b at
  unfolding u64_at u32_at
  whole_u64 =
      let n = byte b at 8 in
      rw (
        first 8 (omega arith),
        n 1 (omega arith),
        n 2 (omega arith),
        n 3 (omega arith),
        n 4 (omega arith),
        n 5 (omega arith),
        n 6 (omega arith),
        n 7 (omega arith),
        add_assoc at 4 1,
        add_assoc at 4 2,
        add_assoc at 4 3,
      ) (omega arith)
