-- `racks::takes` meets its contract, by what the kind names.
use Rattle.std.proofs.Common.{◌≡◌, ap, ◌∙◌, Bool, rules}
use Rattle.numbers.specs.Slots.{number}
use Rattle.numbers.proofs.Casts.{casts}
use Rattle.context.specs.Context.{Pair, is_in}
use Rattle.context.specs.Held.{pair_in}
use Rattle.racks.proofs.Taking.{armed, racked}
use Rattle.racks.proofs.takes.Goals as goal

pub returns-in-Turret : goal.returns-in-Turret
returns-in-Turret c =
    let a = c.args in
    c.takes_hardpoint.ensures ∙ ap (λ (t : Pair → Bool). t (pair_in a.context.now a.i)) (armed a.slot c.in-Turret.is)

pub returns-in_default : goal.returns-in_default
returns-in_default c =
    let a = c.args in
    let p = pair_in a.context.now a.i in
    let e : c.is_in.result ≡ is_in (number a.slot) p = search (rules, casts.1 a.slot) in
    e ∙ ap (λ (t : Pair → Bool). t p) (racked a.slot c.in_default.not-Turret c.in_default.not-Launcher)
