-- `Prepared::subsystem_taken` meets its contract: a subsystem, a name that is known, the value of its attribute, and another with it.
use mathlib.Core.Path.{◌≡◌, sym, ap, ◌∙◌}
use lib.IntN.{ℤ}
use mir.Syntax.{w32}
use mir.Val.{of_z, to_z}
use borrow.Author.Rules.{rules}
use Rattle.words.specs.Words.{any_of}
use Rattle.fit.specs.Lookups.{value}
use Rattle.context.specs.Held.{pair_in, pairs_in, context_in}
use Rattle.slot.specs.Slot.{shares_part}
use Rattle.slot.proofs.Numbers.{part_named, no_subsystem, part-unnamed, part-missing, part-given}
use Rattle.slot.proofs.Prepared.subsystem_taken.Goals as goal

pub returns-then-not-is_in : goal.returns-then-not-is_in
returns-then-not-is_in c =
    let a = c.args in
    let y = a.self.now.context.now in
    no_subsystem (context_in y) _ (pair_in y a.i)
    (sym c.is_in.ensures ∙ c.if-not-is_in.true)

pub returns-in_default : goal.returns-in_default
returns-in_default c =
    let a = c.args in
    let y = a.self.now.context.now in
    part-unnamed (context_in y) _ (pair_in y a.i)
    (sym (part_named y.catalogue.now y.fit.now a.self.now.named.part) ∙ c.in_default.is)

pub returns-in_default-value : goal.returns-in_default-value
returns-in_default-value c =
    let a = c.args in
    let y = a.self.now.context.now in
    let p = pair_in y a.i in
    let z : c.in-Some.id ≡ to_z w32 (of_z w32 c.in-Some.id) = search rules in
    part-missing (context_in y) _ p c.in-Some.id
    (sym (part_named y.catalogue.now y.fit.now a.self.now.named.part) ∙ c.in-Some.is)
    (ap (value p.result) z ∙ sym c.value.ensures ∙ c.in_default-value.is)

pub returns : goal.returns
returns c =
    let a = c.args in
    let y = a.self.now.context.now in
    let p = pair_in y a.i in
    let ps = pairs_in y in
    let z : c.in-Some.id ≡ to_z w32 (of_z w32 c.in-Some.id) = search rules in
    part-given (context_in y) ps p c.in-Some.id
    (sym (part_named y.catalogue.now y.fit.now a.self.now.named.part) ∙ c.in-Some.is)
    c.in-Some-value.part (ap (value p.result) z ∙ sym c.value.ensures ∙ c.in-Some-value.is)
    (sym c.is_in.ensures ∙ c.if-not-is_in.false)
    (c.shares_part.ensures ∙ ap (λ (i : ℤ). any_of (shares_part i c.in-Some-value.part p) ps) (sym z))
