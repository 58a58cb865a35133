-- `fit_refusals::bad_order` meets its contract: the skill ids are the keys of a part, and the results follow.
use Prim.Native.Nat.{ℕ, ◌+◌, ◌*◌, ◌/◌}
use native.Mathlib.Omega.{arith}
use mathlib.Core.List.{List}
use mathlib.Core.Path.{◌≡◌, ◌∙◌, ap, sym}
use mathlib.Core.Bool.{Bool}
use lib.Signed.{lt_z}
use lib.ListN.{length, take, drop}
use Rattle.words.specs.Words.{in_order, table}
use Rattle.image.specs.Bytes.{i32_at}
use Rattle.keys.proofs.Parts.{part-order}
use Rattle.keys.specs.Keys.{key_at}
use Rattle.fit.specs.Fit.{skill_count, skills_at}
use Rattle.fit.specs.Sound.{Sized}
use Rattle.fit_refusals.proofs.Refused.{order-parts}
use Rattle.fit_refusals.proofs.bad_order.Goals as goal

-- what `ascend` says, of the skill ids themselves
told : (b : List ℕ) {n : ℕ} {l ids : List ℕ} {r : Bool} → (l ≡ b) × Sized b → n ≡ skill_count b → ids ≡ take (4 * n) (drop 28 l)
    → r ≡ in_order lt_z (table (length ids / 4) (key_at ids)) → r ≡ in_order lt_z (table (skill_count b) (λ i. i32_at b (skills_at b + 4 * i)))
told b {n} s e part r =
    r ∙ part-order b 28 n lt_z (omega (arith, s.1.size, e)) (part ∙ ap (λ (l : List ℕ). take (4 * n) (drop 28 l)) s.0) ∙ ap (λ (k : ℕ). in_order lt_z (table k (λ i. i32_at b (28 + 4 * i)))) e

pub returns-then-ascend : goal.returns-then-ascend
returns-then-ascend c =
    let b = c.args.layout.now in
    sym (order-parts b ∙ rw (sym (told b c.bytes.ensures c.skills-n.ensures.0 c.part-ids.ensures c.ascend.ensures), c.if-ascend.true, sym c.any_disordered.ensures))

pub returns : goal.returns
returns c =
    let b = c.args.layout.now in
    sym (order-parts b ∙ rw (sym (told b c.bytes.ensures c.skills-n.ensures.0 c.part-ids.ensures c.ascend.ensures), c.if-ascend.false))
