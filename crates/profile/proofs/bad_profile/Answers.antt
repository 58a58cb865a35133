-- `profile::bad_profile` meets its contract: each test that fails contradicts what `Sized` says; where none does, all of it holds.
use Prim.Native.Nat.{ℕ, ◌+◌, ◌*◌}
use native.Mathlib.Omega.{arith}
use mathlib.Core.Path.{◌≡◌, sym, ap, ◌∙◌}
use mathlib.Core.Bool.{not}
use lib.Dec.{eqb}
use lib.ListN.{length}
use Rattle.profile.proofs.Accepted.{no_groups, profile-good, profile-bad, profile-rest}
use Rattle.profile.proofs.bad_profile.Goals as goal

pub returns-then-profile-eq0 : goal.returns-then-profile-eq0
returns-then-profile-eq0 c =
    let b = c.args.profile.now in
    let none : length b ≡ 0 = omega (arith, c.if-profile-eq0.true) in
    sym (profile-good b (record { few = omega (arith, no_groups b none); size = λ h. absurd (omega (arith, h, none)) }))

pub returns-then-profile-lt4 : goal.returns-then-profile-lt4
returns-then-profile-lt4 c = sym (profile-bad _ (λ z. omega (arith, z.size (omega arith))))

pub returns-then-n-gt-MOST_GROUPS : goal.returns-then-n-gt-MOST_GROUPS
returns-then-n-gt-MOST_GROUPS c = sym (profile-bad _ (λ z. omega (arith, z.few)))

pub returns : goal.returns
returns c =
    let b = c.args.profile.now in
    let n = c.size_at-n.ensures.0 in
    ap (λ (n : ℕ). not (eqb (length b) (4 + 8 * n))) n ∙ sym (profile-rest b (omega arith) (omega (arith, n)))
