-- `training::Plan::write` meets its contract: five stores, one behind the other.
use Prim.Native.Nat.{ℕ, ◌+◌, ◌-◌, ◌*◌}
use native.Mathlib.Omega.{arith}
use mathlib.Core.Path.{◌≡◌, ap, ap₂, ◌∙◌}
use mathlib.Core.List.{List}
use lib.ListN.{length, get_or, take, drop, length-drop}
use lib.Seq.{take_all}
use mir.Syntax.{w8}
use mir.Val.{Fits}
use borrow.Author.Rules.{rules}
use Rattle.image.specs.Bytes.{le, put}
use Rattle.image.proofs.Stores.{length-put, length-le}
use Rattle.image.proofs.Parts.{part_length}
use Rattle.fit.specs.Fit.{items_at}
use Rattle.training.proofs.Writing.{image_parts, put_five}
use Rattle.training.proofs.Plan.write.Goals as goal

-- how long the buffer is after each store
pub copy-requires : goal.copy-requires
copy-requires c =
    let b = c.args.fit.now in
    let s = c.bytes-bytes.ensures.1.sized.size in
    let head = c.part.ensures ∙ ap (λ l. take 24 (drop 4 l)) c.bytes-bytes.ensures.0 in
    omega (arith, ap length head, part_length b 4 24 (omega (arith, s)), ap length c.put_u32.ensures, length-put c.args.out.now 0 (le 4 c.args.self.now.len), c.requires, s)

pub returns : goal.returns
returns c =
    let a = c.args in
    let b = a.fit.now in
    let p = a.self.now in
    let from = p.from in
    let n = p.len in
    let small : (i : ℕ) → Fits w8 (get_or p.ids i 0) = λ i. search rules in
    let same = c.bytes-bytes.ensures.0 in
    let s = c.bytes-bytes.ensures.1.sized.size in
    let head = c.part.ensures ∙ ap (λ l. take 24 (drop 4 l)) same in
    let rest : take (length b - items_at b) (drop (items_at b) b) ≡ drop (items_at b) b = take_all (length b - items_at b) (drop (items_at b) b) (omega (arith, length-drop (items_at b) b)) in
    let tail = c.part-4.ensures
    ∙ ap₂ (λ (l : List ℕ) (i : ℕ). take (length l - i) (drop i l)) same (c.items_at-at.ensures ∙ ap items_at c.layout.ensures)
    ∙ rest in
    let first = c.put_u32.ensures in
    let second = c.copy.ensures ∙ ap₂ (λ (l m : List ℕ). put l 4 m) first head in
    let third = c.copy-2.ensures ∙ ap₂ (λ (l m : List ℕ). put l 28 m) second c.part-2.ensures in
    let fourth = c.copy-3.ensures ∙ ap₂ (λ (l m : List ℕ). put l (28 + 4 * n) m) third c.part-3.ensures in
    let l2 = part_length b 4 24 (omega (arith, s)) in
    let l3 = part_length p.ids (4 * from) (4 * n) (omega (arith, p.within)) in
    let l4 = part_length p.levels from n (omega (arith, p.within)) in
    c.copy-4.ensures
    ∙ ap₂ (λ (l t : List ℕ). put l (28 + 5 * n) t) fourth tail
    ∙ put_five a.out.now (le 4 n) (take 24 (drop 4 b)) (take (4 * n) (drop (4 * from) p.ids)) (take n (drop from p.levels)) (drop (items_at b) b)
    4 28 (28 + 4 * n) (28 + 5 * n) (length-le 4 n) (omega (arith, l2)) (omega (arith, l3)) (omega (arith, l4))
    ∙ ap (put a.out.now 0) (image_parts b p.ids p.levels small from n (omega (arith, p.within)) (omega (arith, p.within)))
