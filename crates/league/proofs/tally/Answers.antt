-- `league::tally` meets its contract. The invariant: rule 24 and the points of the first i pairs, at most 1,000,000 each.
use Prim.Native.Nat.{ℕ}
use native.Mathlib.Omega.{arith}
use mathlib.Core.Path.{◌≡◌, sym, ap, ◌∙◌}
use mir.Syntax.{w32}
use mir.Val.{to_z, of_z}
use mir.ValLaws.{to_z-of_z}
use Rattle.words.specs.Words.{table}
use Rattle.profile.specs.Profile.{prices_of}
use Rattle.catalogue.specs.Catalogue.{catalogue_of}
use Rattle.fit.specs.Fit.{item_at}
use Rattle.entry.proofs.Emitted.{emitted-same}
use Rattle.context.specs.Gathered.{pair_count, pair_at}
use Rattle.context.proofs.Pairs.{pairs-table}
use Rattle.context.proofs.Types.{told-group}
use Rattle.context.proofs.Loops.{passed_none, passed_more, passed_all}
use Rattle.league.specs.League.{banned, points}
use Rattle.league.proofs.Tallies.{banned-is, cost-is, banned-few, points_none, points-more}
use Rattle.league.proofs.tally.Goals as goal

pub loop-i-init : goal.loop-i-init
loop-i-init c = (passed_none _ _ _ _, sym (points_none _ _), omega arith)

pub banned_at-requires : goal.banned_at-requires
banned_at-requires c =
    let few = c.args.context.now.gathered.fit_sound.sized.items in
    (omega (arith, few), omega (arith, few, c.loop-i.invariant.0.few))

pub cost_of-points-requires : goal.cost_of-points-requires
cost_of-points-requires c = c.price_at-price.ensures.1

pub overflow_add-points : goal.overflow_add-points
overflow_add-points c =
    omega (arith, c.cost_of-points.ensures.1, c.loop-i.invariant.2, c.args.context.now.gathered.fit_sound.sized.items)

pub loop-i-preserved : goal.loop-i-preserved
loop-i-preserved c =
    let l = c.loop-i in
    let x = c.args.context.now in
    let prices = prices_of c.args.profile.now in
    let f = pair_at x.catalogue.now x.fit.now in
    let g = c.group_priced-group in
    let group : to_z w32 (of_z w32 g.result) ≡ (f l.i).group =
    to_z-of_z w32 g.result (record { sfits = g.type_inv }) ∙ g.ensures
    ∙ told-group (catalogue_of x.catalogue.now) (item_at x.fit.now l.i).type c.type_at.ensures in
    let price = c.price_at-price.ensures.0 in
    let cost = c.cost_of-points.ensures.0 ∙ cost-is prices (f l.i) group price in (
      passed_more _ _ _ (banned-few prices) (omega arith) l.invariant.0 (emitted-same (banned-is prices (f l.i) group price) c.banned_at.ensures),
      omega (arith, points-more prices f l.i, cost, l.invariant.1),
      omega (arith, c.cost_of-points.ensures.1, l.invariant.2),
    )

pub returns : goal.returns
unfolding banned
returns c =
    let l = c.loop-i in
    let x = c.args.context.now in
    let prices = prices_of c.args.profile.now in
    let f = pair_at x.catalogue.now x.fit.now in
    let e : l.i ≡ pair_count x.fit.now = omega (arith, l.invariant.0.within) in
    let w = passed_all x.catalogue.now x.fit.now _ x.gathered.fit_sound (omega arith) l.invariant.0 in (
      w.0,
      l.invariant.1 ∙ ap (λ (k : ℕ). points prices (table k f)) e ∙ ap (points prices) (sym (pairs-table x.catalogue.now x.fit.now)),
      w.1,
    )
