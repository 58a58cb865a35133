-- `Profile::points_of` meets its contract: a group's place among the groups is that of its points.
use Prim.Native.Nat.{ℕ, ◌+◌, ◌*◌, ◌<◌, ◌≤◌}
use native.Mathlib.Omega.{arith}
use mathlib.Core.Path.{◌≡◌, ◌∙◌, ap, sym}
use mathlib.Core.List.{List}
use Rattle.std.specs.Prelude.{Option}
use lib.IntN.{ℤ}
use lib.ListN.{length, take, drop}
use mir.ValLaws.{to_z-of_z}
use mir.Syntax.{w32}
use Rattle.image.specs.Bytes.{u32_at}
use Rattle.image.proofs.Parts.{part_length}
use Rattle.keys.proofs.Parts.{place-below, place-alike, sorted_alike}
use Rattle.keys.specs.Keys.{place_of}
use Rattle.profile.specs.Profile.{group_count, size_of}
use Rattle.profile.specs.Sound.{Sound}
use Rattle.profile.proofs.Accepted.{long}
use Rattle.profile.proofs.Prices.{groups, groups_sorted, points-given, points-missing, points_none}
use Rattle.profile.proofs.Profile.points_of.Goals.{In-Some}
use Rattle.profile.proofs.Profile.points_of.Goals as goal

module _ (b : List ℕ) {n : ℕ} (e : n ≡ group_count b) where
  -- it has groups, and the bytes for them
  whole : Sound b → (n ≡ 0 → ⊥) → length b ≡ size_of b
  whole s h = long b s.sized (omega (arith, e, h))

  -- what is searched are the groups
  searched : {l : List ℕ} → l ≡ take (4 * n) (drop 4 b) → l ≡ groups b
  searched p = p ∙ ap (λ (n : ℕ). take (4 * n) (drop 4 b)) e

  -- what the search says
  told : {l k : List ℕ} {m : ℕ} → (k ≡ l) × (m ≡ n) → l ≡ take (4 * n) (drop 4 b) → {y z : ℤ} → y ≡ z → {o : Option ℕ} → o ≡ place_of k m y
      → place_of (groups b) (group_count b) z ≡ o
  told f p q h = sym (h ∙ place-alike _ _ _ _ (f.0 ∙ searched p) (f.1 ∙ e) _ _ q)

pub returns-then-n-eq0 : goal.returns-then-n-eq0
returns-then-n-eq0 c =
    let b = c.self.inside.bytes.now in
    rw (← c.self.view_is) (sym (points_none b (omega (arith, c.group_count-n.ensures, c.if-n-eq0.true)) c.args.group))

pub part-groups-requires : goal.part-groups-requires
part-groups-requires c =
    let n = c.group_count-n.ensures in
    omega (arith, n, whole c.self.inside.bytes.now n c.self.invariant c.if-n-eq0.false)

pub new-requires : goal.new-requires
new-requires c =
    let b = c.self.inside.bytes.now in
    let n = c.group_count-n in
    let s = c.self.invariant in (
      omega (
        arith,
        ap length c.part-groups.ensures,
        part_length b 4 (4 * n.result) (omega (arith, n.ensures, whole b n.ensures s c.if-n-eq0.false)),
      ),
      sorted_alike _ _ _ _ (searched b n.ensures c.part-groups.ensures) n.ensures (groups_sorted b s),
    )

-- its points stand within the profile
within : (c : In-Some) → let b = c.self.inside.bytes.now in
    (c.group_count-n.result ≡ group_count b)
    × (c.in-Some.i < group_count b)
    × (length b ≡ size_of b)
    × (group_count b ≤ 4096)
within c =
    let b = c.self.inside.bytes.now in
    let n = c.group_count-n.ensures in
    let s = c.self.invariant in
    let e = told b n c.new.ensures c.part-groups.ensures (to_z-of_z w32 c.args.group c.ranges.group) c.in-Some.ensures in
    (n, place-below _ _ _ _ e, whole b n s c.if-n-eq0.false, s.sized.few)

pub overflow_mul-i : goal.overflow_mul-i
overflow_mul-i c = omega (arith, within c)

pub overflow_add-n-in-Some : goal.overflow_add-n-in-Some
overflow_add-n-in-Some c = omega (arith, within c)

pub u32_at-requires : goal.u32_at-requires
u32_at-requires c = omega (arith, within c)

pub returns-in-Some : goal.returns-in-Some
returns-in-Some c =
    let b = c.self.inside.bytes.now in
    let i = c.in-Some.i in
    let e = told b c.group_count-n.ensures c.new.ensures c.part-groups.ensures (to_z-of_z w32 c.args.group c.ranges.group) c.in-Some.ensures in
    rw (← c.self.view_is) (c.u32_at.ensures ∙ ap (λ (n : ℕ). u32_at b (4 + 4 * n + 4 * i)) c.group_count-n.ensures ∙ sym (points-given b c.args.group i e))

pub returns-in-None : goal.returns-in-None
returns-in-None c =
    let b = c.self.inside.bytes.now in
    let e = told b c.group_count-n.ensures c.new.ensures c.part-groups.ensures (to_z-of_z w32 c.args.group c.ranges.group) c.in-None.ensures in
    rw (← c.self.view_is) (sym (points-missing b c.args.group e))
