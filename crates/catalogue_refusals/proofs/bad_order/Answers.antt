-- `catalogue_refusals::bad_order` meets its contract: the first block that is out of order, or none.
use Prim.Native.Nat.{ℕ, ◌+◌, ◌*◌}
use mathlib.Core.Path.{◌≡◌, ◌∙◌, ap₂}
use mathlib.Core.Bool.{Bool}
use mathlib.Core.List.{List}
use lib.Dec.{ltb}
use lib.Signed.{lt_z, le_z}
use Rattle.words.specs.Words.{in_order, table}
use Rattle.image.specs.Bytes.{u32_at, i32_at}
use Rattle.catalogue.proofs.Tables.{bad-order}
use Rattle.catalogue_refusals.proofs.bad_order.Goals as goal

-- the three orders of n keys from a place on
abbrev names_rise : List ℕ → ℕ → ℕ → Bool
names_rise b at n = in_order ltb (table n (λ i. u32_at b (at + 4 * i)))

abbrev ids_rise : List ℕ → ℕ → ℕ → Bool
ids_rise b at n = in_order lt_z (table n (λ i. i32_at b (at + 4 * i)))

abbrev ids_stay : List ℕ → ℕ → ℕ → Bool
ids_stay b at n = in_order le_z (table n (λ i. i32_at b (at + 4 * i)))

-- what a check says of a block, said of where the block is
told : (order : ℕ → ℕ → Bool) {at at' n n' : ℕ} {r : Bool} {A : Type 0} → (at ≡ at') × (n ≡ n') × A → r ≡ order at n → r ≡ order at' n'
told order block r = r ∙ ap₂ order block.0 block.1

pub returns-then-not-ascend_unsigned : goal.returns-then-not-ascend_unsigned
returns-then-not-ascend_unsigned c =
    let b = c.args.blocks.now in
    rw (bad-order b, ← told (names_rise b) c.names.ensures c.ascend_unsigned.ensures, c.if-not-ascend_unsigned.true)

pub returns-then-not-ascend : goal.returns-then-not-ascend
returns-then-not-ascend c =
    let b = c.args.blocks.now in
    rw (bad-order b, ← told (names_rise b) c.names.ensures c.ascend_unsigned.ensures, c.if-not-ascend_unsigned.false, ← told (ids_rise b) c.effects.ensures c.ascend.ensures, c.if-not-ascend.true)

pub returns-then-not-ascend-2 : goal.returns-then-not-ascend-2
returns-then-not-ascend-2 c =
    let b = c.args.blocks.now in
    rw (bad-order b, ← told (names_rise b) c.names.ensures c.ascend_unsigned.ensures, c.if-not-ascend_unsigned.false, ← told (ids_rise b) c.effects.ensures c.ascend.ensures, c.if-not-ascend.false, ← told (ids_rise b) c.types.ensures c.ascend-2.ensures, c.if-not-ascend-2.true)

pub returns-then-not-never_descend : goal.returns-then-not-never_descend
returns-then-not-never_descend c =
    let b = c.args.blocks.now in
    rw (bad-order b, ← told (names_rise b) c.names.ensures c.ascend_unsigned.ensures, c.if-not-ascend_unsigned.false, ← told (ids_rise b) c.effects.ensures c.ascend.ensures, c.if-not-ascend.false, ← told (ids_rise b) c.types.ensures c.ascend-2.ensures, c.if-not-ascend-2.false, ← told (ids_stay b) c.links.ensures c.never_descend.ensures, c.if-not-never_descend.true)

pub returns : goal.returns
returns c =
    let b = c.args.blocks.now in
    rw (bad-order b, ← told (names_rise b) c.names.ensures c.ascend_unsigned.ensures, c.if-not-ascend_unsigned.false, ← told (ids_rise b) c.effects.ensures c.ascend.ensures, c.if-not-ascend.false, ← told (ids_rise b) c.types.ensures c.ascend-2.ensures, c.if-not-ascend-2.false, ← told (ids_stay b) c.links.ensures c.never_descend.ensures, c.if-not-never_descend.false, ← told (ids_stay b) c.bases.ensures c.never_descend-2.ensures)
