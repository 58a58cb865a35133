-- `catalogue_refusals::any_above` meets its contract. The invariant: the verdict so far is that of the first i numbers.
use Rattle.std.proofs.Common.{ℕ, Bool, ◌||◌, ◌+◌, ◌*◌, sym, ap, ◌∙◌, ltb}
use Rattle.words.proofs.Tables.{any_none, any-more}
use Rattle.image.specs.Bytes.{u32_at}
use Rattle.catalogue_refusals.proofs.any_above.Goals as goal

pub loop-i-init : goal.loop-i-init
loop-i-init c = sym (any_none _ _)

pub loop-i-preserved : goal.loop-i-preserved
loop-i-preserved c =
    let l = c.loop-i in
    let a = c.args in
    let f : ℕ → ℕ = λ j. u32_at a.b.now (a.at + a.step * j) in
    ap (λ (x : ℕ). l.found || ltb a.limit x) c.u32_at.ensures
    ∙ ap (λ (t : Bool). t || ltb a.limit (f l.i)) l.invariant
    ∙ sym (any-more (ltb a.limit) l.i f)
