-- `listed::take_all` meets its contract: one entry more.
use Rattle.std.proofs.Common.{◌≡◌, length, Some, refl, sym, ap, ◌∙◌, subst, arith}
use lib.ListN.{length-append}
use Rattle.words.specs.Words.{each}
use Rattle.entry.specs.Entries.{entry_bytes}
use Rattle.cause.specs.declared.shown.Shown.{Shown}
use Rattle.cause.specs.Decided.{Read}
use Rattle.cause.proofs.Entries.{entries-length}
use Rattle.cause.proofs.ReadBack.{read-some}
use Rattle.cause.proofs.Caused.{there}
use Rattle.leave_out.specs.Held.{entries_in}
use Rattle.leave_out.proofs.Listing.{begun_none, begun-room, begun-more, begun-all}
use Rattle.leave_out.proofs.listed.take_all.Goals as goal

pub loop-i-init : goal.loop-i-init
loop-i-init c = begun_none c.args.context.now c.args.rows.now c.requires.free.0 c.requires.free.1

pub overflow_mul-i : goal.overflow_mul-i
overflow_mul-i c =
    let a = c.args in
    let es = entries_in a.context.now in
    let l = c.requires.listed in
    let q = ap length l.0.bytes ∙ length-append (each es entry_bytes) l.0.rest in
    omega (arith, q, entries-length es, l.1, c.loop-i-test.true, c.well_formed)

pub read-requires : goal.read-requires
read-requires c =
    let a = c.args in
    let es = entries_in a.context.now in
    let l = c.requires.listed in
    let q = ap length l.0.bytes ∙ length-append (each es entry_bytes) l.0.rest in
    omega (arith, q, entries-length es, l.1, c.loop-i-test.true)

pub take_in-requires : goal.take_in-requires
take_in-requires c =
    let a = c.args in
    let x = a.context.now in
    let few = x.gathered.fit_sound.sized.items in
    let l = c.requires.listed in
    let r = subst (λ (s : Shown). Read x (entries_in x) c.loop-i.i (Some s)) (sym c.read.ensures)
    (read-some x (entries_in x) refl c.loop-i.i (omega (arith, few)) a.place.now (omega (arith, c.loop-i-test.true, l.1)) l.0.rest l.0.bytes) in
    let t = there x c.loop-i.i c.read.result r in
    record {
      inside = r.inside c.read.result refl;
      room = begun-room x c.loop-i.i c.loop-i.rows c.loop-i.invariant c.read.result t.0 t.1 t.2 (omega (arith, few));
      free = c.loop-i.invariant.free;
    }

pub loop-i-preserved : goal.loop-i-preserved
loop-i-preserved c =
    let a = c.args in
    let x = a.context.now in
    let l = c.requires.listed in
    let few = x.gathered.fit_sound.sized.items in
    let r = subst (λ (s : Shown). Read x (entries_in x) c.loop-i.i (Some s)) (sym c.read.ensures)
    (read-some x (entries_in x) refl c.loop-i.i (omega (arith, few)) a.place.now (omega (arith, c.loop-i-test.true, l.1)) l.0.rest l.0.bytes) in
    let t = there x c.loop-i.i c.read.result r in
    begun-more x c.loop-i.i c.loop-i.rows c.loop-i.invariant c.read.result t.0 t.1 t.2 c.take_in.new.rows c.take_in.ensures

pub returns : goal.returns
returns c =
    let a = c.args in
    let x = a.context.now in
    let few = x.gathered.fit_sound.sized.items in
    let e : c.loop-i.i ≡ length (entries_in x) = omega (arith, c.loop-i.auto.i-end, c.loop-i-test.false, c.requires.listed.1) in
    begun-all x c.loop-i.i c.loop-i.rows e (omega (arith, few)) c.loop-i.invariant
