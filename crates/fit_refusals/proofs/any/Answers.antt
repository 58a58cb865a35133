-- `fit_refusals::any` meets its contract. The invariant: the verdict so far is that of the first i.
use Rattle.std.proofs.Common.{Bool, ◌||◌, sym, ap₂, ◌∙◌}
use Rattle.words.proofs.Tables.{any_none, any-more}
use Rattle.fit_refusals.proofs.any.Goals as goal

pub loop-i-init : goal.loop-i-init
loop-i-init g c = λ p h. sym (any_none _ _)

pub loop-i-preserved : goal.loop-i-preserved
loop-i-preserved g c = λ p h.
    let l = c.loop-i in
    ap₂ ◌||◌ (l.invariant p h) (h l.i c.is_bad-bad.result c.loop-i-test.true c.is_bad-bad.ensures) ∙ sym (any-more (λ (r : Bool). r) l.i p)
