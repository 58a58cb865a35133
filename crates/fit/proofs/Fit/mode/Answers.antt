-- `Fit::mode` meets its contract: the flag says whether the mode is given.
use mathlib.Core.Path.{◌≡◌, ◌∙◌, sym}
use mir.Val.{to_z, of_z}
use mir.ValLaws.{to_z-of_z}
use mir.Syntax.{w32}
use borrow.Author.Tests.{eq-eqb, ne_eqb}
use Rattle.image.specs.Bytes.{i32_at}
use Rattle.fit.specs.Fit.{fit_of, mode_of}
use Rattle.fit.proofs.Fit.mode.Goals as goal

pub returns-then-u32_at-eq0 : goal.returns-then-u32_at-eq0
unfolding fit_of mode_of
returns-then-u32_at-eq0 c = rw (← c.self.view_is) (simp (sym c.u32_at.ensures, eq-eqb _ 0 c.if-u32_at-eq0.true))

pub returns-else-u32_at-eq0 : goal.returns-else-u32_at-eq0
unfolding fit_of mode_of
returns-else-u32_at-eq0 c =
    let e : to_z w32 (of_z w32 c.i32_at.result) ≡ i32_at c.self.inside.bytes.now 24 = to_z-of_z w32 c.i32_at.result (record { sfits = c.i32_at.type_inv }) ∙ c.i32_at.ensures in
    rw (← c.self.view_is) (simp (sym c.u32_at.ensures, ne_eqb _ 0 c.if-u32_at-eq0.false, e))
