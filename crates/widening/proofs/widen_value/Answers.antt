-- `widening::widen_value` meets its contract: four bytes are copied, and eight stored behind them.
use Prim.Native.Nat.{◌+◌}
use native.Mathlib.Omega.{arith}
use mathlib.Core.Path.{ap, ◌∙◌}
use mathlib.Core.List.{List}
use Prim.Native.Nat.{ℕ}
use lib.Ieee.{Float}
use lib.ListN.{length}
use Rattle.image.specs.Bytes.{le, put}
use Rattle.image.proofs.Parts.{part_length}
use Rattle.floats.specs.Floats.{f32_at, f64_bits}
use Rattle.widening.specs.Widen.{wide_bits}
use Rattle.widening.proofs.Bytes.{put-wide}
use Rattle.widening.proofs.widen_value.Goals as goal

pub copy-requires : goal.copy-requires
copy-requires c =
    omega (arith, ap length c.part.ensures, part_length c.args.old.now c.args.at 4 (omega (arith, c.requires.0)), c.requires.1)

pub returns : goal.returns
unfolding wide_bits
returns c =
    let a = c.args in
    c.put_f64.ensures
    ∙ ap (λ (x : Float). put c.copy.new.out (a.to + 4) (le 8 (f64_bits x))) c.f32_wide_at.ensures
    ∙ ap (λ (l : List ℕ). put l (a.to + 4) (le 8 (f64_bits (f32_at a.old.now (a.at + 4))))) (c.copy.ensures ∙ ap (put a.out.now a.to) c.part.ensures)
    ∙ put-wide a.old.now a.out.now a.at a.to (omega (arith, c.requires.0))
