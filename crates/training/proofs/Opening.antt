-- A skill stored in the arrays, at a place that is opened for it: what stands where then, by the bytes that were moved and stored.
use Prim.Native.Nat.{ℕ, suc, ◌+◌, ◌*◌, ◌-◌, ◌≤◌, ◌<◌}
use native.Mathlib.Omega.{arith}
use mathlib.Core.Path.{◌≡◌, sym, ap, ap₂, ◌∙◌}
use mathlib.Core.List.{List}
use lib.IntN.{ℤ}
use lib.Signed.{mag}
use lib.ListN.{length, get_or, set, take, drop, length-drop}
use lib.Seq.{get_or-take, get_or-drop, get_or-set_same, get_or-set_other}
use Rattle.image.specs.Bytes.{u8_at, bits32, le, put}
use Rattle.image.proofs.Stores.{length-put, length-le, put_next}
use Rattle.image.proofs.Parts.{part_length}
use Rattle.image.proofs.Puts.{put-before, put-behind, put-among, i32_alike, le-i32, moved}
use Rattle.keys.specs.Keys.{key_at}

-- ---- bytes moved down, from the first to the last
module _ (b : List ℕ) (at by : ℕ) where
  -- those before i, where they stand then
  abbrev pub lowered : ℕ → List ℕ
  lowered i = put b (at - by) (take (i - at) (drop at b))

  pub lowered_none : lowered at ≡ b
  lowered_none = let q : at - at ≡ 0 = omega arith in ap (λ (k : ℕ). put b (at - by) (take k (drop at b))) q

  -- the next one stands where it did
  pub lowered_read : (i : ℕ) → by ≤ at → at ≤ i → i ≤ length b → get_or (lowered i) i 0 ≡ get_or b i 0
  lowered_read i l h room =
      let n = part_length b at (i - at) (omega (arith, h, room)) in
      put-behind b (at - by) (take (i - at) (drop at b)) i (omega (arith, l, h, n))

  pub lowered_next : (i : ℕ) → by ≤ at → at ≤ i → i < length b → set (lowered i) (i - by) (get_or b i 0) ≡ lowered (i + 1)
  lowered_next i l h room =
      let e : i - by ≡ at - by + (i - at) = omega (arith, l, h) in
      let d : i ≡ at + (i - at) = omega (arith, h) in
      let m : i - at + 1 ≡ i + 1 - at = omega (arith, h) in
      ap₂ (λ (k x : ℕ). set (lowered i) k x) e (ap (λ (k : ℕ). get_or b k 0) d ∙ sym (get_or-drop at b (i - at) 0))
      ∙ put_next b (at - by) (drop at b) (i - at) (omega (arith, length-drop at b, h, room))
      ∙ ap (λ (k : ℕ). put b (at - by) (take k (drop at b))) m

-- ---- those from a place to an end moved up by one, and the skill stored at the place
abbrev pub ids-above : List ℕ → (end place : ℕ) → ℤ → List ℕ
ids-above ids end place id = put (moved ids (4 * end) 4 (4 * place)) (4 * place) (le 4 (bits32 id))

abbrev pub levels-above : List ℕ → (end place level : ℕ) → List ℕ
levels-above levels end place level = set (moved levels end 1 place) place level

module _ (ids levels : List ℕ) (end : ℕ) (id : ℤ) (range : mag id < 2147483648) (place : ℕ) (within : place ≤ end) (level : ℕ)
    (room : 4 * end + 4 ≤ length ids) (space : end + 1 ≤ length levels) where
  abbrev opened : List ℕ
  opened = moved ids (4 * end) 4 (4 * place)

  opened_length : length opened ≡ length ids
  opened_length = length-put ids (4 * place + 4) (take (4 * end - 4 * place) (drop (4 * place) ids))

  four : length (le 4 (bits32 id)) ≡ 4
  four = length-le 4 (bits32 id)

  -- the ids
  pub above_front_id : (k : ℕ) → k < place → key_at (ids-above ids end place id) k ≡ key_at ids k
  above_front_id k h =
      i32_alike (ids-above ids end place id) ids (4 * k) (4 * k) (λ b q.
      put-before opened (4 * place) (le 4 (bits32 id)) (4 * k + b) (omega (arith, h, q)) ∙ put-before ids (4 * place + 4) (take (4 * end - 4 * place) (drop (4 * place) ids)) (4 * k + b) (omega (arith, h, q)))

  pub above_here_id : key_at (ids-above ids end place id) place ≡ id
  above_here_id =
      i32_alike (ids-above ids end place id) (le 4 (bits32 id)) (4 * place) 0 (λ b q.
      let z : b ≡ 0 + b = omega arith in
      put-among opened (4 * place) (le 4 (bits32 id)) b (omega (arith, q, four)) (omega (arith, four, opened_length, room, within))
      ∙ ap (λ (i : ℕ). get_or (le 4 (bits32 id)) i 0) z)
      ∙ le-i32 id range

  pub above_back_id : (k : ℕ) → place ≤ k → k < end → key_at (ids-above ids end place id) (suc k) ≡ key_at ids k
  above_back_id k l h =
      i32_alike (ids-above ids end place id) ids (4 * suc k) (4 * k) (λ b q.
      let i = 4 * (k - place) + b in
      let mid = take (4 * end - 4 * place) (drop (4 * place) ids) in
      let n : length mid ≡ 4 * end - 4 * place = part-size in
      let e : 4 * suc k + b ≡ 4 * place + 4 + i = omega (arith, l) in
      let d : 4 * place + i ≡ 4 * k + b = omega (arith, l) in
      put-behind opened (4 * place) (le 4 (bits32 id)) (4 * suc k + b) (omega (arith, four, l))
      ∙ ap (λ (j : ℕ). get_or opened j 0) e
      ∙ put-among ids (4 * place + 4) mid i (omega (arith, n, l, h, q)) (omega (arith, n, room, within))
      ∙ get_or-take (4 * end - 4 * place) (drop (4 * place) ids) i 0 (omega (arith, l, h, q))
      ∙ get_or-drop (4 * place) ids i 0
      ∙ ap (λ (j : ℕ). get_or ids j 0) d)
    where
      part-size : length (take (4 * end - 4 * place) (drop (4 * place) ids)) ≡ 4 * end - 4 * place
      part-size = part_length ids (4 * place) (4 * end - 4 * place) (omega (arith, room, within))

  -- the levels
  levels-part : length (take (end - place) (drop place levels)) ≡ end - place
  levels-part = part_length levels place (end - place) (omega (arith, space, within))

  pub above_front_level : (k : ℕ) → k < place → u8_at (levels-above levels end place level) k ≡ u8_at levels k
  above_front_level k h =
      get_or-set_other (moved levels end 1 place) place k level 0 (λ e. omega (arith, e, h)) ∙ put-before levels (place + 1) (take (end - place) (drop place levels)) k (omega (arith, h))

  pub above_here_level : u8_at (levels-above levels end place level) place ≡ level
  above_here_level = get_or-set_same (moved levels end 1 place) place level 0 (omega (arith, length-put levels (place + 1) (take (end - place) (drop place levels)), space, within))

  pub above_back_level : (k : ℕ) → place ≤ k → k < end → u8_at (levels-above levels end place level) (suc k) ≡ u8_at levels k
  above_back_level k l h =
      let e : suc k ≡ place + 1 + (k - place) = omega (arith, l) in
      let d : place + (k - place) ≡ k = omega (arith, l) in
      get_or-set_other (moved levels end 1 place) place (suc k) level 0 (λ q. omega (arith, q, l))
      ∙ ap (λ (j : ℕ). get_or (moved levels end 1 place) j 0) e
      ∙ put-among levels (place + 1) (take (end - place) (drop place levels)) (k - place) (omega (arith, levels-part, l, h)) (omega (arith, levels-part, space, within))
      ∙ get_or-take (end - place) (drop place levels) (k - place) 0 (omega (arith, l, h))
      ∙ get_or-drop place levels (k - place) 0
      ∙ ap (λ (j : ℕ). get_or levels j 0) d

-- ---- those from a first place to a place moved down by one, and the skill stored before the place
abbrev pub ids-below : List ℕ → (from place : ℕ) → ℤ → List ℕ
ids-below ids from place id = put (lowered ids (4 * from) 4 (4 * place)) (4 * place - 4) (le 4 (bits32 id))

abbrev pub levels-below : List ℕ → (from place level : ℕ) → List ℕ
levels-below levels from place level = set (lowered levels from 1 place) (place - 1) level

module _ (ids levels : List ℕ) (from : ℕ) (id : ℤ) (range : mag id < 2147483648) (place : ℕ) (some : 1 ≤ from) (within : from ≤ place) (level : ℕ)
    (room : 4 * place ≤ length ids) (space : place ≤ length levels) where
  abbrev sunk : List ℕ
  sunk = lowered ids (4 * from) 4 (4 * place)

  sunk_length : length sunk ≡ length ids
  sunk_length = length-put ids (4 * from - 4) (take (4 * place - 4 * from) (drop (4 * from) ids))

  low-size : length (take (4 * place - 4 * from) (drop (4 * from) ids)) ≡ 4 * place - 4 * from
  low-size = part_length ids (4 * from) (4 * place - 4 * from) (omega (arith, room, within))

  four_long : length (le 4 (bits32 id)) ≡ 4
  four_long = length-le 4 (bits32 id)

  -- the ids
  pub below_front_id : (k : ℕ) → from + k < place → key_at (ids-below ids from place id) (from - 1 + k) ≡ key_at ids (from + k)
  below_front_id k h =
      i32_alike (ids-below ids from place id) ids (4 * (from - 1 + k)) (4 * (from + k)) (λ b q.
      let e : 4 * (from - 1 + k) + b ≡ 4 * from - 4 + (4 * k + b) = omega (arith, some) in
      let d : 4 * from + (4 * k + b) ≡ 4 * (from + k) + b = omega arith in
      let low = take (4 * place - 4 * from) (drop (4 * from) ids) in
      put-before sunk (4 * place - 4) (le 4 (bits32 id)) (4 * (from - 1 + k) + b) (omega (arith, h, q, some))
      ∙ ap (λ (j : ℕ). get_or sunk j 0) e
      ∙ put-among ids (4 * from - 4) low (4 * k + b) (omega (arith, low-size, h, q)) (omega (arith, low-size, room, within))
      ∙ get_or-take (4 * place - 4 * from) (drop (4 * from) ids) (4 * k + b) 0 (omega (arith, h, q))
      ∙ get_or-drop (4 * from) ids (4 * k + b) 0
      ∙ ap (λ (j : ℕ). get_or ids j 0) d)

  pub below_here_id : key_at (ids-below ids from place id) (place - 1) ≡ id
  below_here_id =
      i32_alike (ids-below ids from place id) (le 4 (bits32 id)) (4 * (place - 1)) 0 (λ b q.
      let e : 4 * (place - 1) + b ≡ 4 * place - 4 + b = omega (arith, some, within) in
      let z : b ≡ 0 + b = omega arith in
      ap (λ (j : ℕ). get_or (ids-below ids from place id) j 0) e
      ∙ put-among sunk (4 * place - 4) (le 4 (bits32 id)) b (omega (arith, q, four_long)) (omega (arith, four_long, sunk_length, room, some, within))
      ∙ ap (λ (i : ℕ). get_or (le 4 (bits32 id)) i 0) z)
      ∙ le-i32 id range

  pub below_back_id : (k : ℕ) → place ≤ k → key_at (ids-below ids from place id) k ≡ key_at ids k
  below_back_id k l =
      i32_alike (ids-below ids from place id) ids (4 * k) (4 * k) (λ b q.
      put-behind sunk (4 * place - 4) (le 4 (bits32 id)) (4 * k + b) (omega (arith, four_long, l, some, within))
      ∙ put-behind ids (4 * from - 4) (take (4 * place - 4 * from) (drop (4 * from) ids)) (4 * k + b) (omega (arith, low-size, l, within)))

  -- the levels
  low-levels : length (take (place - from) (drop from levels)) ≡ place - from
  low-levels = part_length levels from (place - from) (omega (arith, space, within))

  pub below_front_level : (k : ℕ) → from + k < place → u8_at (levels-below levels from place level) (from - 1 + k) ≡ u8_at levels (from + k)
  below_front_level k h =
      get_or-set_other (lowered levels from 1 place) (place - 1) (from - 1 + k) level 0 (λ e. omega (arith, e, h, some))
      ∙ put-among levels (from - 1) (take (place - from) (drop from levels)) k (omega (arith, low-levels, h)) (omega (arith, low-levels, space, within))
      ∙ get_or-take (place - from) (drop from levels) k 0 (omega (arith, h))
      ∙ get_or-drop from levels k 0

  pub below_here_level : u8_at (levels-below levels from place level) (place - 1) ≡ level
  below_here_level =
      get_or-set_same (lowered levels from 1 place) (place - 1) level 0
      (omega (arith, length-put levels (from - 1) (take (place - from) (drop from levels)), space, some, within))

  pub below_back_level : (k : ℕ) → place ≤ k → u8_at (levels-below levels from place level) k ≡ u8_at levels k
  below_back_level k l =
      get_or-set_other (lowered levels from 1 place) (place - 1) k level 0 (λ e. omega (arith, e, l, some, within))
      ∙ put-behind levels (from - 1) (take (place - from) (drop from levels)) k (omega (arith, low-levels, l, within))
