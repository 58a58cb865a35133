-- `league::validate` meets its contract: nothing without a profile, else one rule after the other.
use native.Mathlib.Omega.{arith}
use mathlib.Core.Path.{sym, ap, ◌∙◌}
use mathlib.Core.List.{List}
use borrow.Author.Tests.{eqb-true}
use lib.Dec.{ltb}
use lib.ListN.{length}
use Rattle.words.proofs.Lengths.{few-when}
use Rattle.profile.specs.Profile.{Price, prices_of}
use Rattle.profile.proofs.Prices.{no_prices}
use Rattle.entry.specs.declared.Rule.TheVariants.{Points}
use Rattle.entry.specs.Entries.{on_ship}
use Rattle.entry.proofs.Emitted.{emitted-same, emitted_none, emitted-append}
use Rattle.context.specs.Held.{pairs_in}
use Rattle.league.specs.League.{league}
use Rattle.league.proofs.Tallies.{over-is}
use Rattle.league.proofs.Without.{no_profile}
use Rattle.league.proofs.validate.Goals as goal

pub returns-then-is_empty : goal.returns-then-is_empty
returns-then-is_empty c =
    let a = c.args in
    let ps = pairs_in a.context.now in
    let None = no_prices a.profile.now (eqb-true (length a.profile.now) 0 (sym c.is_empty.ensures ∙ c.if-is_empty.true)) in (
      emitted-same (sym (ap (λ (l : List Price). league l a.allowance ps) None ∙ no_profile a.allowance ps)) (emitted_none _),
      omega arith,
    )

pub returns : goal.returns
unfolding league
returns c =
    let w = c.emit_when.ensures in
    let a = c.args in
    let points = c.tally-points.result in
    let u = c.tally-points.ensures in (
      emitted-append u.0 (emitted-same (over-is (prices_of a.profile.now) a.allowance (pairs_in a.context.now) u.1) w),
      omega (arith, u.2, w.count, few-when (ltb a.allowance points) (on_ship (Points points a.allowance))),
    )
