-- `catalogue_refusals::bad_field` meets its contract: the first field over its limit, or none.
use Rattle.std.proofs.Common.{◌≡◌, sym, ◌∙◌}
use Rattle.catalogue.proofs.Tables.{name_over, mark-over, flag_over, bad-field}
use Rattle.catalogue_refusals.proofs.bad_field.Goals as goal

pub returns-then-any_above : goal.returns-then-any_above
returns-then-any_above c =
    let b = c.args.blocks.now in
    let n = c.names-names.ensures in
    let names : name_over b ≡ c.any_above.result = sym (c.any_above.ensures ∙ simp (c.bytes-catalogue.ensures.0, n.0, n.1)) in
    rw (bad-field b, names, c.if-any_above.true)

pub returns-then-any_above-2 : goal.returns-then-any_above-2
returns-then-any_above-2 c =
    let b = c.args.blocks.now in
    let n = c.names-names.ensures in
    let e = c.effects-effects.ensures in
    let names : name_over b ≡ c.any_above.result = sym (c.any_above.ensures ∙ simp (c.bytes-catalogue.ensures.0, n.0, n.1)) in
    let marks : mark-over b ≡ c.any_above-2.result = sym (c.any_above-2.ensures ∙ simp (c.bytes-catalogue.ensures.0, e.0, e.1)) in
    rw (bad-field b, names, c.if-any_above.false, marks, c.if-any_above-2.true)

pub returns : goal.returns
returns c =
    let b = c.args.blocks.now in
    let n = c.names-names.ensures in
    let e = c.effects-effects.ensures in
    let t = c.types-types.ensures in
    let names : name_over b ≡ c.any_above.result = sym (c.any_above.ensures ∙ simp (c.bytes-catalogue.ensures.0, n.0, n.1)) in
    let marks : mark-over b ≡ c.any_above-2.result = sym (c.any_above-2.ensures ∙ simp (c.bytes-catalogue.ensures.0, e.0, e.1)) in
    let flags : flag_over b ≡ c.any_above-3.result = sym (c.any_above-3.ensures ∙ simp (c.bytes-catalogue.ensures.0, t.0, t.1)) in
    rw (bad-field b, names, c.if-any_above.false, marks, c.if-any_above-2.false, flags)
