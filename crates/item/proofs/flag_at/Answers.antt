-- `item::flag_at` meets its contract: the bits that are read are those of the id.
use Prim.Native.Nat.{ℕ}
use mathlib.Core.Path.{ap, ◌∙◌}
use Rattle.image.specs.Bytes.{i32_at, signed32}
use Rattle.item.specs.Flags.{flag_of}
use Rattle.item.proofs.Flags.{flag_signed}
use Rattle.item.proofs.flag_at.Goals as goal

pub returns : goal.returns
unfolding i32_at
returns c =
    let flags = c.args.flags.now in
    let u = c.u32_at in
    flag_signed flags u.result u.type_inv ∙ ap (λ (n : ℕ). flag_of flags (signed32 n)) u.ensures
