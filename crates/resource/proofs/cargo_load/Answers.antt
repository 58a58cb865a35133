-- `resource::cargo_load` meets its contract: one pair more at a time.
use Rattle.std.proofs.Common.{◌≡◌, ℕ, cond, sym, ap, ◌∙◌, arith, w32}
use lib.Ieee.{Float, binary64, add, of_bits}
use mir.ValLaws.{to_z-of_z}
use Rattle.words.specs.Words.{table}
use Rattle.numbers.specs.Slots as Slots
use Rattle.fit.specs.Fit.{result_of}
use Rattle.fit.specs.Lookups.{amount}
use Rattle.context.specs.Context.{is_in}
use Rattle.context.specs.Gathered.{pair_count}
use Rattle.context.specs.Held.{pair_in}
use Rattle.context.proofs.Pairs.{pairs-table}
use Rattle.resource.specs.Resource.{cargo_volume, cargo_used}
use Rattle.resource.proofs.Sums.{cargo-none, cargo-more}
use Rattle.resource.proofs.cargo_load.Goals as goal

pub loop-i-init : goal.loop-i-init
unfolding of_bits
loop-i-init c = sym (cargo-none (pair_in c.args.context.now))

pub loop-i-preserved : goal.loop-i-preserved
loop-i-preserved c =
    let l = c.loop-i in
    let f = pair_in c.args.context.now in
    let p = f l.i in
    c.cargo_with-used.ensures ∙ ap (λ (s : Float). cond (is_in Slots.cargo p) (add binary64 s (cargo_volume p)) s) l.invariant ∙ sym (cargo-more f l.i)

pub returns : goal.returns
returns c =
    let l = c.loop-i in
    let x = c.args.context.now in
    let e : l.i ≡ pair_count x.fit.now = omega (arith, l.auto.i-end, c.loop-i-test.false, c.pair_count-i-end.ensures) in (
      l.invariant ∙ ap (λ (k : ℕ). cargo_used (table k (pair_in x))) e ∙ ap cargo_used (sym (pairs-table x.catalogue.now x.fit.now)),
      c.amount-available.ensures ∙ ap (amount (result_of x.fit.now 0)) (to_z-of_z w32 c.args.capacity c.ranges.capacity),
    )
