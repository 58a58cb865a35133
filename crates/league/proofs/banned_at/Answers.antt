-- `league::banned_at` meets its contract: the entry is that of `emit_when`.
use mathlib.Core.Path.{ap}
use lib.IntN.{ℤ}
use mir.Syntax.{w32}
use mir.ValLaws.{to_z-of_z}
use Rattle.words.specs.Words.{when}
use Rattle.profile.specs.Profile.{is_ban}
use Rattle.entry.specs.declared.Rule.TheVariants.{Banned}
use Rattle.entry.specs.Entries.{on_item}
use Rattle.entry.proofs.Emitted.{emitted-same}
use Rattle.league.proofs.banned_at.Goals as goal

pub returns : goal.returns
returns c =
    let a = c.args in
    emitted-same (ap (λ (z : ℤ). when (is_ban a.price) (on_item a.i (Banned z))) (to_z-of_z w32 a.group c.ranges.group))
    c.emit_when.ensures
