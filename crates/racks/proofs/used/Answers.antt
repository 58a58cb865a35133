-- `racks::used` meets its contract, by what the kind names.
use Rattle.std.proofs.Common.{Bool, ap, ◌∙◌, rules}
use Rattle.words.specs.Words.{count_of}
use Rattle.numbers.specs.Slots.{number}
use Rattle.numbers.proofs.Casts.{casts}
use Rattle.context.specs.Context.{Pair, is_in}
use Rattle.context.specs.Held.{pairs_in}
use Rattle.racks.specs.Racks.{takes_hardpoint}
use Rattle.racks.proofs.Taking.{armed, racked}
use Rattle.racks.proofs.used.Goals as goal

pub returns-in-Turret : goal.returns-in-Turret
returns-in-Turret c =
    let a = c.args in
    c.count.ensures (takes_hardpoint a.slot) (λ i b h post. search rules)
    ∙ ap (λ (t : Pair → Bool). count_of t (pairs_in a.context.now)) (armed a.slot c.in-Turret.is)

pub returns-in_default : goal.returns-in_default
returns-in_default c =
    let a = c.args in
    c.count-in_default.ensures (is_in (number a.slot)) (λ i b h post. search (rules, casts.1 a.slot))
    ∙ ap (λ (t : Pair → Bool). count_of t (pairs_in a.context.now)) (racked a.slot c.in_default.not-Turret c.in_default.not-Launcher)
