-- `distance::surplus` meets its contract, by whether the ship is a hull.
use Rattle.std.proofs.Common.{Bool, cond, sym, ap, ◌∙◌}
use Rattle.words.specs.Words.{sum_of}
use Rattle.catalogue.specs.Catalogue.{catalogue_of}
use Rattle.fit.specs.Fit.{fit_of}
use Rattle.racks.specs.Racks.{RACKS}
use Rattle.leave_out.specs.LeaveOut.{above, surplus}
use Rattle.leave_out.proofs.Racking.{surplus-same}
use Rattle.leave_out.proofs.distance.surplus.Goals as goal

pub returns-then-is_hull : goal.returns-then-is_hull
unfolding surplus
returns-then-is_hull c =
    let x = c.args.context.now in
    let all = sum_of (above (catalogue_of x.catalogue.now) (fit_of x.fit.now)) RACKS in
    c.all_above.ensures ∙ surplus-same x ∙ ap (λ (b : Bool). cond b all 0) (sym c.if-is_hull.true ∙ c.is_hull.ensures)

pub returns : goal.returns
unfolding surplus
returns c =
    let x = c.args.context.now in
    let all = sum_of (above (catalogue_of x.catalogue.now) (fit_of x.fit.now)) RACKS in
    ap (λ (b : Bool). cond b all 0) (sym c.if-is_hull.false ∙ c.is_hull.ensures)
