-- `profile::group_count` meets its contract: a profile that is shorter than its size has no bytes, and so no groups.
use Prim.Native.Nat.{ℕ, zero, suc, ◌+◌, ◌*◌, ◌<◌}
use native.Mathlib.Omega.{arith}
use mathlib.Core.Path.{◌≡◌, refl, sym}
use lib.ListN.{length}
use Rattle.profile.specs.Profile.{group_count}
use Rattle.profile.proofs.Accepted.{no_groups}
use Rattle.profile.proofs.group_count.Goals as goal

pub returns-then-profile-lt4 : goal.returns-then-profile-lt4
returns-then-profile-lt4 c =
    let b = c.args.profile.now in
    sym (no_groups b (empty (length b) (group_count b) c.requires.size c.if-profile-lt4.true))
  where
    empty : (n k : ℕ) → (0 < n → n ≡ 4 + 8 * k) → n < 4 → n ≡ 0
    empty zero k s l = refl
    empty (suc n) k s l = absurd (omega (arith, s (omega arith), l))
