-- `profile::bad_prices` meets its contract: the groups are the keys of a part, and the points follow.
use Prim.Native.Nat.{ℕ, ◌+◌, ◌*◌, ◌/◌}
use native.Mathlib.Omega.{arith}
use mathlib.Core.Bool.{Bool}
use mathlib.Core.List.{List}
use mathlib.Core.Path.{◌≡◌, ◌∙◌, ap, sym}
use lib.Signed.{lt_z}
use lib.ListN.{length, take, drop}
use Rattle.words.specs.Words.{in_order, table}
use Rattle.image.specs.Bytes.{i32_at}
use Rattle.keys.proofs.Parts.{part-order}
use Rattle.keys.specs.Keys.{key_at}
use Rattle.profile.specs.Profile.{group_count, size_of}
use Rattle.profile.specs.Sound.{Sized}
use Rattle.profile.proofs.Accepted.{long}
use Rattle.profile.proofs.Prices.{prices-parts, prices-none}
use Rattle.profile.proofs.bad_prices.Goals as goal

-- a profile with groups has the bytes for them
whole : (b : List ℕ) {n : ℕ} → Sized b → n ≡ group_count b → (n ≡ 0 → ⊥) → length b ≡ size_of b
whole b s e h = long b s (omega (arith, e, h))

-- what `ascend` says, of the groups themselves
told : (b : List ℕ) {n : ℕ} {groups : List ℕ} {r : Bool} → n ≡ group_count b → length b ≡ size_of b → groups ≡ take (4 * n) (drop 4 b)
    → r ≡ in_order lt_z (table (length groups / 4) (key_at groups)) → r ≡ in_order lt_z (table (group_count b) (λ i. i32_at b (4 + 4 * i)))
told b {n} e s p q = q ∙ part-order b 4 n lt_z (omega (arith, e, s)) p ∙ ap (λ (k : ℕ). in_order lt_z (table k (λ i. i32_at b (4 + 4 * i)))) e

pub returns-then-n-eq0 : goal.returns-then-n-eq0
returns-then-n-eq0 c = sym (prices-none c.args.profile.now (omega (arith, c.group_count-n.ensures, c.if-n-eq0.true)))

pub part-groups-requires : goal.part-groups-requires
part-groups-requires c =
    let n = c.group_count-n.ensures in
    omega (arith, n, whole c.args.profile.now c.requires n c.if-n-eq0.false)

pub any_too_dear-requires : goal.any_too_dear-requires
any_too_dear-requires c =
    let n = c.group_count-n.ensures in
    (n, omega (arith, n, c.requires.few), omega (arith, n, whole c.args.profile.now c.requires n c.if-n-eq0.false))

pub returns-then-ascend : goal.returns-then-ascend
returns-then-ascend c =
    let b = c.args.profile.now in
    let n = c.group_count-n.ensures in
    sym (prices-parts b ∙ rw (sym (told b n (whole b c.requires n c.if-n-eq0.false) c.part-groups.ensures c.ascend.ensures), c.if-ascend.true, sym c.any_too_dear.ensures))

pub returns : goal.returns
returns c =
    let b = c.args.profile.now in
    let n = c.group_count-n.ensures in
    sym (prices-parts b ∙ rw (sym (told b n (whole b c.requires n c.if-n-eq0.false) c.part-groups.ensures c.ascend.ensures), c.if-ascend.false))
