-- `training::Plan::stands` meets its contract.
use Prim.Native.Nat.{◌+◌}
use mathlib.Core.Path.{sym, ap, ◌∙◌}
use mathlib.Core.Bool.{Bool, ◌&&◌}
use borrow.Author.Tests.{lt-ltb}
use Rattle.words.specs.Words.{same}
use Rattle.words.proofs.Ids.{bits_same}
use Rattle.keys.specs.Keys.{key_at}
use Rattle.training.proofs.Plan.stands.Goals as goal

pub returns-then-at-self : goal.returns-then-at-self
returns-then-at-self c =
    let a = c.args in
    let p = a.self.now in
    let k = c.i32_at in
    bits_same k.result a.id (record { sfits = k.type_inv }) c.ranges.id
    ∙ ap (λ z. same z a.id) k.ensures
    ∙ sym (ap (λ (b : Bool). b && same (key_at p.ids (p.from + a.at)) a.id) (lt-ltb a.at p.len c.if-at-self.true))
