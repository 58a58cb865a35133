-- `Prepared::slot_number` meets its contract: the name by the slot.
use mathlib.Core.Path.{sym, ap, ap₂, ◌∙◌}
use mathlib.Core.List.{List}
use Prim.Native.Nat.{ℕ}
use native.Mathlib.Omega.{arith}
use Rattle.std.specs.Prelude.{Option, None}
use Rattle.words.specs.Words.{given}
use Rattle.catalogue.specs.Catalogue.{Id, Name}
use Rattle.catalogue.specs.Lookups.{name_id}
use Rattle.context.specs.Held.{context_in, pair_in}
use Rattle.slot.proofs.Numbers.{context-names, number-implant, number-booster, number-none}
use Rattle.slot.proofs.Prepared.slot_number.Goals as goal

-- the id of a name
abbrev id-by : Option ℕ → List Name → Option Id
id-by name names = given name None (name_id names)

pub returns-in-8 : goal.returns-in-8
unfolding given
returns-in-8 c =
    let a = c.args in
    let y = a.self.now.context.now in
    let name = number-implant (pair_in y a.i) c.item_slot.ensures c.in-8.is in
    a.self.now.named.implantness ∙ ap₂ id-by (sym name) (context-names y.catalogue.now y.fit.now)

pub returns-in-9 : goal.returns-in-9
unfolding given
returns-in-9 c =
    let a = c.args in
    let y = a.self.now.context.now in
    let name = number-booster (pair_in y a.i) c.item_slot.ensures c.in-9.is in
    a.self.now.named.boosterness ∙ ap₂ id-by (sym name) (context-names y.catalogue.now y.fit.now)

pub returns-in_default : goal.returns-in_default
unfolding given
returns-in_default c =
    let a = c.args in
    let y = a.self.now.context.now in
    let x = context_in y in
    let name = number-none (pair_in y a.i) c.item_slot.ensures (λ e. omega arith) (λ e. omega arith) in
    ap (λ (o : Option ℕ). id-by o x.names) (sym name)
