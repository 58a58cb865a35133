-- `listed::list` meets its contract: what was written is the officer's list.
use Rattle.std.proofs.Common.{◌*◌, ◌≤◌, length, subst, arith}
use lib.ListN.{drop}
use Rattle.catalogue.specs.Catalogue.{catalogue_of}
use Rattle.fit.specs.Fit.{fit_of}
use Rattle.profile.proofs.Accepted.{sound_none}
use Rattle.entry.specs.Entries.{written}
use Rattle.entry.specs.Wrote.{Wrote}
use Rattle.entry.proofs.Wrote.{wrote_count, wrote-written}
use Rattle.cause.proofs.ReadBack.{officers}
use Rattle.leave_out.specs.Held.{entries_in}
use Rattle.leave_out.proofs.listed.list.Goals as goal

pub new-profile-requires : goal.new-profile-requires
new-profile-requires c = sound_none

pub returns : goal.returns
unfolding written
returns c =
    let a = c.args in
    let x = a.context.now in
    let es = entries_in x in
    let same = officers c.new-profile.result c.new-profile.ensures (catalogue_of x.catalogue.now) (fit_of x.fit.now) in
    let w = subst (Wrote a.place.now 0 c.write.new.out c.write.result) same c.write.ensures.0 in
    let room : 24 * length es ≤ length a.place.now = omega (arith, wrote_count w, c.write.ensures.1, c.requires) in
    (record { rest = drop (24 * length es) a.place.now; bytes = wrote-written w room }, wrote_count w)
