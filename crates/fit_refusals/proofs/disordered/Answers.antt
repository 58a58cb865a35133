-- `fit_refusals::disordered` meets its contract: the keys of the part are those of the whole.
use Prim.Native.Nat.{ℕ, ◌+◌, ◌*◌, ◌/◌}
use native.Mathlib.Omega.{arith}
use mathlib.Core.Bool.{not}
use mathlib.Core.List.{List}
use mathlib.Core.Path.{◌≡◌, ◌∙◌, ap, ap₂}
use lib.Signed.{lt_z}
use lib.ListN.{length, take, drop}
use Rattle.words.specs.Words.{in_order, table}
use Rattle.image.proofs.Parts.{part_length}
use Rattle.keys.specs.Keys.{key_at}
use Rattle.fit.specs.Fit.{ids_at}
use Rattle.fit.specs.Sound.{ids_part}
use Rattle.fit.proofs.Decoded.{ids_all}
use Rattle.fit_refusals.proofs.disordered.Goals as goal

pub returns : goal.returns
unfolding ids_part
returns c =
    let a = c.args in
    let b = a.layout.now in
    let ids = c.part-ids.result.now in
    let e = c.part-ids.ensures
    ∙ ap₂ (λ (l : List ℕ) (k : ℕ). take (4 * a.n) (drop (k + 4 * a.start) l)) c.bytes.ensures.0 c.ids_at.ensures in
    let many : length ids / 4 ≡ a.n =
    omega (arith, ap length e, part_length b (ids_at b + 4 * a.start) (4 * a.n) (omega arith)) in
    ap not
    (c.ascend-ok.ensures
    ∙ ap (λ (k : ℕ). in_order lt_z (table k (key_at ids))) many
    ∙ ap (in_order lt_z) (ap (λ (l : List ℕ). table a.n (key_at l)) e ∙ ids_all b a.start a.n))
