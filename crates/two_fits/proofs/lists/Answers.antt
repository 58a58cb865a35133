-- `two_fits::lists` meets its contract: the two contracts of the list call, and the promise on what they leave.
use native.Mathlib.Omega.{arith}
use mathlib.Core.Path.{refl, subst}
use Rattle.lists.specs.Terms.{terms, limited, read_by}
use Rattle.fitcheck.specs.Calls.{list_call}
use Rattle.promises.specs.Compare.{Alike, Bytes}
use Rattle.promises.proofs.Comparing.{list_kept}
use Rattle.promises.proofs.Hauling.{haul_lists, hold-one, hold_kept}
use Rattle.two_fits.specs.Kept.{ListsKept, HeldOnce, ListsHauled}
use Rattle.two_fits.proofs.Left.{left_is, of_both}
use Rattle.two_fits.proofs.lists.Goals as goal

pub returns : goal.returns
returns c =
    let a = c.args in
    let catalogue = a.catalogue.now in
    let league = read_by a.reader (terms a.profile.now a.allowance) in
    let t = limited a.first.pairs a.first.skills league in
    let t' = limited a.second.pairs a.second.skills league in
    let old = a.old.now in
    let new = a.new.now in
    let e = left_is a.before.now (list_call t catalogue old a.before.now) c.fit_list-a.ensures in
    let e' = left_is a.after.now (list_call t' catalogue new a.after.now) c.fit_list-b.ensures in
    let bytes : Bytes new = λ i. omega (arith, c.type_inv.new i) in
    let alike : Alike t t' = record { profile = refl; allowance = refl; reader = refl } in
    let kept = list_kept t t' catalogue old new a.before.now a.after.now alike bytes in
    let hauled : ListsHauled catalogue old new _ _ = λ h answered answered'. (
      haul_lists t t' catalogue old new a.before.now a.after.now alike h answered answered',
      λ v. hold_kept t t' catalogue old new a.before.now a.after.now alike bytes h v answered answered',
    ) in
    let once = hold-one t catalogue old a.before.now in
    let once' = hold-one t' catalogue new a.after.now in
    (e, e', of_both (ListsKept catalogue old new) e e' kept, of_both (ListsHauled catalogue old new) e e' hauled, subst HeldOnce e once, subst HeldOnce e' once')
