-- `catalogue_refusals::ascend_unsigned` meets its contract: the keys in their part are those in the whole.
use Prim.Native.Nat.{ℕ, ◌*◌, ◌/◌}
use native.Mathlib.Omega.{arith}
use mathlib.Core.Path.{◌≡◌, ◌∙◌, ap}
use mathlib.Core.List.{List}
use lib.Dec.{ltb}
use lib.ListN.{length}
use Rattle.words.specs.Words.{table, in_order}
use Rattle.image.specs.Bytes.{u32_at}
use Rattle.catalogue.proofs.Tables.{numbers_part}
use Rattle.catalogue_refusals.proofs.ascend_unsigned.Goals as goal

pub returns : goal.returns
returns c =
    let a = c.args in
    let keys = c.keys_of.result.now in
    let many : length keys / 4 ≡ a.b.n = omega (arith, c.keys_of.ensures.1) in
    c.ascend_unsigned.ensures
    ∙ ap (λ (n : ℕ). in_order ltb (table n (λ i. u32_at keys (4 * i)))) many
    ∙ ap (λ (l : List ℕ). in_order ltb (table a.b.n (λ i. u32_at l (4 * i)))) c.keys_of.ensures.0
    ∙ ap (in_order ltb) (numbers_part a.blocks.now a.b.at a.b.n)
