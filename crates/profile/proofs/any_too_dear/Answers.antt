-- `profile::any_too_dear` meets its contract. The invariant: the verdict so far is that of the first i groups.
use Rattle.std.proofs.Common.{ℕ, ◌||◌, ◌≡◌, ◌+◌, ◌*◌, sym, ap, ap₂, ◌∙◌, arith}
use Rattle.words.specs.Words.{table, any_of}
use Rattle.words.proofs.Tables.{any_none, any-more}
use Rattle.image.specs.Bytes.{u32_at}
use Rattle.profile.specs.Profile.{too_dear}
use Rattle.profile.proofs.any_too_dear.Goals as goal

pub loop-i-init : goal.loop-i-init
loop-i-init c = sym (any_none _ _)

pub loop-i-preserved : goal.loop-i-preserved
loop-i-preserved c =
    let l = c.loop-i in
    let a = c.args in
    let f : ℕ → ℕ = λ j. u32_at a.profile.now (4 + 4 * a.n + 4 * j) in
    ap₂ ◌||◌ l.invariant (c.too_dear-found.ensures ∙ ap too_dear c.u32_at.ensures) ∙ sym (any-more too_dear l.i f)

pub returns : goal.returns
returns c =
    let l = c.loop-i in
    let b = c.args.profile.now in
    let e : l.i ≡ c.args.n = omega arith in
    l.invariant
    ∙ ap (λ (k : ℕ). any_of too_dear (table k (λ j. u32_at b (4 + 4 * c.args.n + 4 * j)))) e
    ∙ ap (λ (k : ℕ). any_of too_dear (table k (λ j. u32_at b (4 + 4 * k + 4 * j)))) c.requires.0
