-- `calls::list_accepted` meets its contract: the list, in the buffer where that holds any list of the fit, else by way of a place.
use native.Mathlib.Omega.{arith}
use Rattle.catalogue.specs.Catalogue.{catalogue_of}
use Rattle.fit.specs.Fit.{fit_of}
use Rattle.lists.specs.Terms.{terms, read_by}
use Rattle.lists.specs.Lists.{list_for}
use Rattle.calls.proofs.Giving.{gave_list}
use Rattle.calls.proofs.list_accepted.Goals as goal

pub returns-then-most-out : goal.returns-then-most-out
returns-then-most-out c =
    let a = c.args in
    let t = read_by a.asked.reader (terms a.profile.now a.asked.allowance) in
    let x = catalogue_of a.catalogue.now in
    gave_list (list_for t x (fit_of a.fit.now)) (omega (arith, c.if-most-out.true, c.most_entries-most.ensures.0 t x)) (rw (c.new-context.ensures.0, c.new-context.ensures.1) at c.write.ensures.0)

pub placed-requires : goal.placed-requires
placed-requires c =
    let a = c.args in
    let t = read_by a.asked.reader (terms a.profile.now a.asked.allowance) in
    record {
      size = omega arith;
      fit_bound = rw (c.new-context.ensures.0, c.new-context.ensures.1) (omega (arith, c.if-most-le-SMALL_PLACE.true, c.most_entries-most.ensures.0 t (catalogue_of a.catalogue.now)));
    }

pub placed-requires-2 : goal.placed-requires-2
placed-requires-2 c =
    let a = c.args in
    let t = read_by a.asked.reader (terms a.profile.now a.asked.allowance) in
    record {
      size = omega arith;
      fit_bound = rw (c.new-context.ensures.0, c.new-context.ensures.1) (omega (arith, c.most_entries-most.ensures.1, c.most_entries-most.ensures.0 t (catalogue_of a.catalogue.now)));
    }

pub overflow_mul-most : goal.overflow_mul-most
overflow_mul-most c = omega (arith, c.most_entries-most.ensures.1)
