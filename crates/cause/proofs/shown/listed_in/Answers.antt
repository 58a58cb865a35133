-- `shown::listed_in` meets its contract: by how many entries were written, and by the bytes of the one that is asked for.
use Rattle.std.proofs.Common.{◌≡◌, ℕ, ◌*◌, ◌≤◌, ◌<◌, List, length, refl, sym, ap, ◌∙◌, subst, arith}
use lib.ListN.{drop}
use Rattle.std.specs.Prelude.{Some}
use Rattle.catalogue.specs.Catalogue.{catalogue_of}
use Rattle.fit.specs.Fit.{fit_of}
use Rattle.profile.proofs.Accepted.{sound_none}
use Rattle.entry.specs.declared.Entry.{Entry}
use Rattle.entry.specs.Entries.{written}
use Rattle.entry.specs.Wrote.{Wrote}
use Rattle.entry.proofs.Wrote.{wrote_count, wrote-written}
use Rattle.lists.specs.Terms.{main}
use Rattle.lists.specs.Lists.{whole_list}
use Rattle.cause.specs.Decided.{Read}
use Rattle.cause.specs.declared.shown.Shown.{Shown}
use Rattle.cause.proofs.ReadBack.{officers, read-none, read-some}
use Rattle.cause.proofs.shown.listed_in.Goals as goal

pub new-profile-requires : goal.new-profile-requires
new-profile-requires c = sound_none

pub returns-then-count-position : goal.returns-then-count-position
returns-then-count-position c =
    let x = c.args.context.now in
    let cat = catalogue_of x.catalogue.now in
    let f = fit_of x.fit.now in
    let same = officers c.new-profile.result c.new-profile.ensures cat f in
    let w = subst (Wrote c.args.place.now 0 c.write-count.new.out c.write-count.result) same c.write-count.ensures.0 in
    read-none x (whole_list main cat f) refl c.args.position (omega (arith, wrote_count w, c.if-count-position.true))

pub returns : goal.returns
unfolding written
returns c =
    let x = c.args.context.now in
    let cat = catalogue_of x.catalogue.now in
    let f = fit_of x.fit.now in
    let es = whole_list main cat f in
    let same = officers c.new-profile.result c.new-profile.ensures cat f in
    let w = subst (Wrote c.args.place.now 0 c.write-count.new.out c.write-count.result) same c.write-count.ensures.0 in
    let count = wrote_count w in
    let room : 24 * length es ≤ length c.args.place.now = omega (arith, count, c.write-count.ensures.1, c.requires) in
    let few = x.gathered.fit_sound.sized.items in
    let told = read-some x es refl c.args.position (omega (arith, few)) c.write-count.new.out (omega (arith, count, c.if-count-position.false))
    (drop (24 * length es) c.args.place.now) (wrote-written w room) in
    subst (λ (s : Shown). Read x es c.args.position (Some s)) (sym c.read.ensures) told
