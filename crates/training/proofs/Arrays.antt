-- A skill raised in the arrays that hold it: by where a search has ended, and by the bytes that were stored.
use Prim.Native.Nat.{ℕ, zero, suc, ◌+◌, ◌*◌, ◌-◌, ◌≤◌, ◌<◌}
use native.Mathlib.Omega.{arith}
use mathlib.Core.Path.{◌≡◌, refl, sym, ap, ◌∙◌, subst}
use mathlib.Core.Bool.{Bool, true, false, ◌&&◌}
use mathlib.Core.List.{List}
use lib.Dec.{ltb}
use lib.IntN.{ℤ}
use lib.Signed.{lt_z, mag}
use lib.ListN.{length, set, take, drop}
use lib.Seq.{get_or-set_same, get_or-set_other, set-get_or}
use borrow.Author.Tests.{lt-ltb, le-ltb, ltb-true, ltb-false}
use Rattle.words.specs.Words.{table, in_order, same}
use Rattle.words.proofs.Tables.{table_same}
use Rattle.image.specs.Bytes.{u8_at, i32_at}
use Rattle.keys.specs.Keys.{key_at, rank_of, Sorted}
use Rattle.keys.proofs.Ranks.{rank_lt}
use Rattle.keys.proofs.Orders.{key_range, ascending_sorted, before-differs, after-differs}
use Rattle.keys.proofs.Parts.{part-key}
use Rattle.fit.specs.Lookups.{trained}
use Rattle.training.specs.Training.{Training, raised}
use Rattle.training.specs.Turns.{level_of, gain, Listed, held_in, Parted}
use Rattle.training.proofs.Raising.{same-sym, other_under}
use Rattle.training.proofs.Places.{put_in, level-there, stored, trained-none}
use Rattle.training.proofs.Opening.{ids-above, levels-above, above_front_id, above_here_id, above_back_id}
use Rattle.training.proofs.Opening.{above_front_level, above_here_level, above_back_level, ids-below, levels-below}
use Rattle.training.proofs.Opening.{below_front_id, below_here_id, below_back_id, below_front_level, below_here_level, below_back_level}

-- ---- the ids that are searched: a part of the array
module _ (ids : List ℕ) (from len : ℕ) where
  abbrev pub searched : List ℕ
  searched = take (4 * len) (drop (4 * from) ids)

  pub in_part : (k : ℕ) → k < len → key_at searched k ≡ key_at ids (from + k)
  in_part k h =
      let e : 4 * from + 4 * k ≡ 4 * (from + k) = omega arith in
      part-key ids (4 * from) len k h ∙ ap (i32_at ids) e

  pub part-sorted : in_order lt_z (table len (λ i. key_at ids (from + i))) ≡ true → Sorted searched len
  part-sorted e = ascending_sorted searched len (ap (in_order lt_z) (table_same len (key_at searched) (λ i. key_at ids (from + i)) in_part) ∙ e)

module _ (ids levels : List ℕ) (from len : ℕ) (id : ℤ) (range : mag id < 2147483648) (at : ℕ) (parts : Parted ids from len id at) where
  abbrev held : Training
  held = held_in ids levels from len

  abbrev key : ℕ → ℤ
  key k = key_at ids (from + k)

  abbrev level-at : ℕ → ℕ
  level-at k = u8_at levels (from + k)

  within : at ≤ len
  within = parts.within

  -- ---- by the search
  before : (k : ℕ) → k < at → (same (key k) id ≡ false) × (lt_z id (key k) ≡ false)
  before k h =
      let part = searched ids from len in
      let e = sym (in_part ids from len k (omega (arith, h, within))) in (
        ap (λ (z : ℤ). same z id) e ∙ before-differs part len id range at parts k h,
        ap (lt_z id) e ∙ rank_lt id (key_at part k) range (key_range part k) ∙ le-ltb (rank_of id) (rank_of (key_at part k)) (omega (arith, parts.under k h)),
      )

  there : at < len → same (key at) id ≡ false → (same (key at) id ≡ false) × (lt_z id (key at) ≡ true)
  there h e =
      let b = subst (λ (z : ℤ). rank_of id ≤ rank_of z) (in_part ids from len at h) (parts.beyond at (omega arith) h) in
      let above = rank_lt (key at) id (key_range ids (from + at)) range ∙ le-ltb (rank_of (key at)) (rank_of id) b in
      (e, other_under id (key at) (same-sym id (key at) ∙ e) above)

  -- ---- it stands there
  module _ (inside : at < len) (found : same (key at) id ≡ true) where
    abbrev rest : ℕ
    rest = len - suc at

    all : suc rest + at ≡ len
    all = omega (arith, inside)

    pub found-level : level_of held id ≡ level-at at
    found-level = sym (ap (λ (n : ℕ). trained (table n key) (table n level-at) id) all) ∙ level-there id key level-at at rest before found

    found-raised : (by : ℕ) → from + at < length levels
        → held_in ids (set levels (from + at) (level-at at + by)) from len ≡ raised held.ids held.levels id by
    found-raised by room =
        let ls = set levels (from + at) (level-at at + by) in
        sym (ap (λ (n : ℕ). held_in ids ls from n) all)
        ∙ stored id key level-at at rest before found by (λ k. u8_at ls (from + k))
        (λ k other. get_or-set_other levels (from + at) (from + k) (level-at at + by) 0 (λ e. other (omega (arith, e))))
        (get_or-set_same levels (from + at) (level-at at + by) 0 room)
        ∙ ap (λ (n : ℕ). raised (table n key) (table n level-at) id by) all

    pub found-gain : (by : ℕ) → from + at < length levels → held_in ids (set levels (from + at) (level-at at + by)) from len ≡ gain held id by
    unfolding gain
    found-gain zero room =
        let q : level-at at + 0 ≡ level-at at = omega arith in
        ap (λ (ls : List ℕ). held_in ids ls from len) (ap (set levels (from + at)) q ∙ set-get_or levels (from + at) 0)
    found-gain (suc by) room = found-raised (suc by) room

  -- ---- it does not
  module _ (missing : ltb at len && same (key at) id ≡ false) where
    other : at < len → same (key at) id ≡ false
    other h = ap (λ (b : Bool). b && same (key at) id) (sym (lt-ltb at len h)) ∙ missing

    differs : Listed held → (k : ℕ) → k < len → same (key k) id ≡ false
    differs g k h = go (ltb k at) refl
      where
        go : (b : Bool) → ltb k at ≡ b → same (key k) id ≡ false
        go true e = (before k (ltb-true k at e)).0
        go false e =
            let l = ltb-false k at e in
            let j : at < len = omega (arith, l, h) in
            ap (λ (z : ℤ). same z id) (sym (in_part ids from len k h))
            ∙ after-differs (searched ids from len) len id range at parts (part-sorted ids from len g.order) at k (omega arith)
            (ap (λ (z : ℤ). same z id) (in_part ids from len at j) ∙ other j) l h

    pub missing-level : Listed held → level_of held id ≡ 0
    missing-level g = trained-none id key level-at 0 len (λ k _ q. differs g k (omega (arith, q)))

    -- ---- what is stored puts it in: f and g are ids and levels then, from their first place on
    put-there : (level : ℕ) (f : ℕ → ℤ) (g : ℕ → ℕ) → ((k : ℕ) → k < at → (f k ≡ key k) × (g k ≡ level-at k)) → (f at ≡ id) × (g at ≡ level)
        → ((k : ℕ) → at ≤ k → k < len → (f (suc k) ≡ key k) × (g (suc k) ≡ level-at k))
        → ◌≡◌ {A = Training} (record { ids = table (len + 1) f; levels = table (len + 1) g }) (raised held.ids held.levels id level)
    put-there level f g front here back =
        let m = len - at in
        let n : suc m + at ≡ len + 1 = omega (arith, within) in
        let o : m + at ≡ len = omega (arith, within) in
        sym (ap (λ (j : ℕ). record { ids = table j f; levels = table j g }) n)
        ∙ put_in id key level-at f g level at m front here (λ k l h. back k l (omega (arith, h, within)))
        before (λ h. there (omega (arith, h)) (other (omega (arith, h))))
        ∙ ap (λ (j : ℕ). raised (table j key) (table j level-at) id level) o

    pub inserted_up : (level : ℕ) → 4 * (from + len) + 4 ≤ length ids → from + len + 1 ≤ length levels
        → held_in (ids-above ids (from + len) (from + at) id) (levels-above levels (from + len) (from + at) level) from (len + 1)
        ≡ raised held.ids held.levels id level
    inserted_up level room space =
        let end = from + len in
        let place = from + at in
        let is = ids-above ids end place id in
        let ls = levels-above levels end place level in
        let w : place ≤ end = omega (arith, within) in
        put-there level (λ k. key_at is (from + k)) (λ k. u8_at ls (from + k))
        (λ k h. (
          above_front_id ids levels end id range place w level room space (from + k) (omega (arith, h)),
          above_front_level ids levels end id range place w level room space (from + k) (omega (arith, h)),
        ))
        (above_here_id ids levels end id range place w level room space, above_here_level ids levels end id range place w level room space)
        (λ k l h.
        let e : from + suc k ≡ suc (from + k) = omega arith in (
          ap (key_at is) e ∙ above_back_id ids levels end id range place w level room space (from + k) (omega (arith, l)) (omega (arith, h)),
          ap (u8_at ls) e ∙ above_back_level ids levels end id range place w level room space (from + k) (omega (arith, l)) (omega (arith, h)),
        ))

    pub inserted_down : (level : ℕ) → 1 ≤ from → 4 * (from + len) ≤ length ids → from + len ≤ length levels
        → held_in (ids-below ids from (from + at) id) (levels-below levels from (from + at) level) (from - 1) (len + 1)
        ≡ raised held.ids held.levels id level
    inserted_down level some long wide =
        let place = from + at in
        let is = ids-below ids from place id in
        let ls = levels-below levels from place level in
        let w : from ≤ place = omega arith in
        let room : 4 * place ≤ length ids = omega (arith, within, long) in
        let space : place ≤ length levels = omega (arith, within, wide) in
        let here : from - 1 + at ≡ place - 1 = omega (arith, some) in
        put-there level (λ k. key_at is (from - 1 + k)) (λ k. u8_at ls (from - 1 + k))
        (λ k h. (
          below_front_id ids levels from id range place some w level room space k (omega (arith, h)),
          below_front_level ids levels from id range place some w level room space k (omega (arith, h)),
        )) (
          ap (key_at is) here ∙ below_here_id ids levels from id range place some w level room space,
          ap (u8_at ls) here ∙ below_here_level ids levels from id range place some w level room space,
        )
        (λ k l h.
        let e : from - 1 + suc k ≡ from + k = omega (arith, some) in (
          ap (key_at is) e ∙ below_back_id ids levels from id range place some w level room space (from + k) (omega (arith, l)),
          ap (u8_at ls) e ∙ below_back_level ids levels from id range place some w level room space (from + k) (omega (arith, l)),
        ))
