-- `racks::report` meets its contract, by whether the attribute is known.
use native.Mathlib.Omega.{arith}
use mathlib.Core.Path.{◌≡◌, sym, ap, ◌∙◌}
use lib.Dec.{ltb}
use mir.Syntax.{w32}
use mir.Val.{to_z, of_z}
use borrow.Author.Rules.{rules}
use Rattle.words.specs.Words.{count_of}
use Rattle.words.proofs.Lengths.{few-when}
use Rattle.floats.specs.Floats.{to_u}
use Rattle.fit.specs.Fit.{result_of}
use Rattle.fit.specs.Lookups.{amount}
use Rattle.entry.specs.declared.Rule.TheVariants.{Slots}
use Rattle.entry.specs.Entries.{on_ship}
use Rattle.entry.proofs.Emitted.{emitted-same, emitted_none}
use Rattle.context.specs.Gathered.{context_of, pairs_of}
use Rattle.racks.specs.Racks.{slots}
use Rattle.racks.specs.Taking.{takes}
use Rattle.racks.proofs.Reports.{slots-is, slots-none}
use Rattle.racks.proofs.report.Goals as goal

pub returns-in-Some : goal.returns-in-Some
returns-in-Some c =
    let w = c.emit_when.ensures in
    let row = c.args.row in
    let catalogue = c.args.context.now.catalogue.now in
    let fit = c.args.context.now.fit.now in
    let used = c.used-used.result in
    let available = c.to_u32-available.result in
    let z : to_z w32 (of_z w32 c.in-Some.id) ≡ c.in-Some.id = search rules in
    let e = c.to_u32-available.ensures.0 ∙ ap (to_u 32) (c.amount.ensures ∙ ap (amount (result_of fit 0)) z) in
    let id = sym c.attribute_id.ensures ∙ c.in-Some.is in (
      emitted-same (slots-is catalogue fit row.slot row.name used c.in-Some.id available id e ∙ ap (slots (context_of catalogue fit) row.slot row.name) c.used-used.ensures) w,
      omega (arith, w.count, few-when (ltb available used) (on_ship (Slots row.slot used available))),
    )

pub returns-in_default : goal.returns-in_default
returns-in_default c =
    let row = c.args.row in
    let catalogue = c.args.context.now.catalogue.now in
    let fit = c.args.context.now.fit.now in
    let unknown = sym c.attribute_id.ensures ∙ c.in_default.is in (
      emitted-same (slots-none catalogue fit row.slot row.name (count_of (takes row.slot) (pairs_of catalogue fit)) unknown) (emitted_none _),
      omega arith,
    )
