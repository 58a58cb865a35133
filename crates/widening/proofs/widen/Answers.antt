-- `widening::widen` meets its contract: what stands before the values is copied, then each value is stored.
use Prim.Native.Nat.{ℕ, ◌+◌, ◌*◌}
use native.Mathlib.Omega.{arith}
use mathlib.Core.Path.{◌≡◌, ap, ◌∙◌}
use mathlib.Core.List.{List}
use lib.ListN.{length}
use Rattle.image.specs.Bytes.{put}
use Rattle.image.proofs.Parts.{part_length}
use Rattle.catalogue.specs.Catalogue.{base_values_at}
use Rattle.widening.specs.Widen.{wide_values}
use Rattle.widening.proofs.Bytes.{put-widened}
use Rattle.widening.proofs.widen.Goals as goal

pub copy-requires : goal.copy-requires
copy-requires c =
    let e = rw c.new.ensures at c.bases-b.ensures in
    let at = c.bases-b.result.at + 4 * c.bases-b.result.n in
    omega (arith, ap length c.part.ensures, part_length c.args.old.now 0 at (omega (arith, e, c.requires)), e, c.requires)

pub returns : goal.returns
returns c =
    let a = c.args in
    let e = rw c.new.ensures at c.bases-b.ensures in
    let at = c.bases-b.result.at + 4 * c.bases-b.result.n in
    let here : at ≡ base_values_at a.old.now = omega (arith, e) in
    c.widen_values.ensures
    ∙ ap (λ (l : List ℕ). put l at (wide_values a.old.now c.bases-b.result.n)) (c.copy.ensures ∙ ap (put a.out.now 0) c.part.ensures)
    ∙ put-widened a.old.now c.requires.0 a.out.now at c.bases-b.result.n here e.1
