-- `item::any_flagged` meets its contract. The invariant: whether any of the ids passed is flagged.
use mathlib.Core.Path.{sym, refl}
use Rattle.words.proofs.Tables.{any_none}
use Rattle.words.proofs.Elements.{any-turn}
use Rattle.keys.specs.Keys.{key_at}
use Rattle.item.specs.Flags.{flag_of}
use Rattle.item.proofs.any_flagged.Goals as goal

pub loop-k-init : goal.loop-k-init
loop-k-init c = sym (any_none _ _)

pub loop-k-preserved : goal.loop-k-preserved
loop-k-preserved c =
    let a = c.args in
    any-turn (flag_of a.flags.now) (key_at a.ids.now) c.loop-k.k c.loop-k.found _ c.flag_at-found.result
    c.loop-k.invariant c.flag_at-found.ensures refl
