-- `fit_refusals::bad_item` meets its contract: the parts of an item, as the image lists it.
use Prim.Native.Nat.{ℕ, ◌+◌, ◌*◌}
use mathlib.Core.Path.{◌∙◌, ap₂, sym}
use mathlib.Core.List.{List}
use Rattle.image.specs.Bytes.{u8_at, u16_at}
use Rattle.fit.specs.Fit.{item_at}
use Rattle.fit_refusals.proofs.bad_item.Goals as goal

pub returns : goal.returns
returns c =
    let a = c.args in
    let b = a.layout.now in
    let e = c.bytes-fit.ensures.0 in
    let p = c.items_at.ensures in
    c.bad_place.ensures (item_at b a.i)
    (sym (c.u8_at-slot.ensures ∙ ap₂ (λ (l : List ℕ) (k : ℕ). u8_at l (k + 12 * a.i + 8)) e p))
    (sym (c.u8_at-reserved.ensures ∙ ap₂ (λ (l : List ℕ) (k : ℕ). u8_at l (k + 12 * a.i + 9)) e p))
    (sym (c.u16_at-index.ensures ∙ ap₂ (λ (l : List ℕ) (k : ℕ). u16_at l (k + 12 * a.i + 10)) e p))
