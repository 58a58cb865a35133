-- `Trimmer::new` meets its contract: the first window is marked.
use mathlib.Core.Path.{refl, sym}
use Rattle.std.specs.Prelude.{Ok}
use Rattle.trim.proofs.Filling.{filled-few, filled_whole, made_ok, made_err}
use Rattle.trim.proofs.trimmer.Trimmer.new.Goals as goal

pub returns-in_err-fill : goal.returns-in_err-fill
returns-in_err-fill c =
    made_err c.args.window.catalogue.now c.args.fit.now c.from_residual.result c.from_residual.ensures.0 (sym c.in_err-fill.ensures.many)

pub invariant_of-result : goal.invariant_of-result
invariant_of-result c =
    let w = c.args.window in
    let k = c.fill in
    let few = sym c.in_ok-fill.ensures.many in
    record {
      few = filled-few w k.new.self c.args.fit.now 0 (Ok c.in_ok-fill.field-0) c.in_ok-fill.ensures few;
      whole = filled_whole w k.new.self c.args.fit.now 0 (Ok c.in_ok-fill.field-0) c.in_ok-fill.ensures few;
    }

pub returns : goal.returns
returns c =
    made_ok c.args.window.catalogue.now c.args.fit.now _ (sym c.in_ok-fill.ensures.many) c.in_ok-fill.ensures.catalogue refl
