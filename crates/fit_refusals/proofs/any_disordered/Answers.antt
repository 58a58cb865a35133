-- `fit_refusals::any_disordered` meets its contract. The invariant: the verdict so far is that of the first j results, and `start` is where the next one's ids begin.
use Rattle.std.proofs.Common.{ℕ, ◌||◌, ◌≡◌, ◌+◌, sym, ap, ap₂, ◌∙◌, arith}
use Rattle.words.proofs.Tables.{any_none, any-more}
use Rattle.words.specs.Words.{any_of, table}
use Rattle.fit.specs.Fit.{result_count, result_of}
use Rattle.fit.proofs.Soundness.{disordered}
use Rattle.fit.proofs.Decoded.{start_none, start-next, start-within, all_results_lem}
use Rattle.fit_refusals.proofs.Refused.{result-told}
use Rattle.fit_refusals.proofs.any_disordered.Goals as goal

pub loop-j-init : goal.loop-j-init
loop-j-init c = let b = c.args.layout.now in (sym (start_none b), sym (any_none disordered (result_of b)))

-- a result's attributes end within all
pub disordered-bad-requires : goal.disordered-bad-requires
disordered-bad-requires c =
    let z = c.results-j-end.ensures in
    omega (arith, z.1, z.1.size, start-within c.args.layout.now z.1 c.loop-j.j (omega (arith, z.0)))

pub overflow_add-start : goal.overflow_add-start
overflow_add-start c =
    let z = c.results-j-end.ensures in
    omega (arith, z.1, z.1.size, start-within c.args.layout.now z.1 c.loop-j.j (omega (arith, z.0)))

pub loop-j-preserved : goal.loop-j-preserved
loop-j-preserved c =
    let l = c.loop-j in
    let b = c.args.layout.now in
    let k = c.count_at-k in
    let s = c.disordered-bad.ensures ∙ result-told b l.j l.start k.result l.invariant.0 k.ensures.0 in (
      omega (arith, start-next b l.j),
      ap₂ ◌||◌ l.invariant.1 s ∙ sym (any-more disordered l.j (result_of b)),
    )

pub returns : goal.returns
returns c =
    let l = c.loop-j in
    let b = c.args.layout.now in
    let e : l.j ≡ result_count b + 2 = omega (arith, c.results-j-end.ensures.0) in
    l.invariant.1
    ∙ ap (λ (k : ℕ). any_of disordered (table k (result_of b))) e
    ∙ ap (any_of disordered) (sym (all_results_lem b))
