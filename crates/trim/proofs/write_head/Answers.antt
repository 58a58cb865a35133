-- `trim::write_head` meets its contract: five stores, one behind the other.
use Prim.Native.Nat.{ℕ, ◌+◌, ◌-◌, ◌*◌}
use native.Mathlib.Omega.{arith}
use mathlib.Core.Path.{◌≡◌, ap, ◌∙◌}
use mathlib.Core.List.{List, ◌++◌, append_assoc}
use lib.ListN.{length, take, drop, length-append}
use Rattle.image.specs.Bytes.{le, put}
use Rattle.image.proofs.Stores.{length-le}
use Rattle.image.proofs.Parts.{part_length}
use Rattle.catalogue.specs.Catalogue.{name_count, effect_count, types_at}
use Rattle.trim.proofs.Image.{put-join}
use Rattle.trim.proofs.write_head.Goals as goal

joined : (a b c d e : List ℕ) → (((a ++ b) ++ c) ++ d) ++ e ≡ a ++ (b ++ (c ++ (d ++ e)))
joined a b c d e = simp append_assoc

pub part-requires : goal.part-requires
part-requires c = omega (arith, ap length c.bytes-bytes.ensures.0, c.bytes-bytes.ensures.1.size)

pub copy-requires : goal.copy-requires
copy-requires c =
    let b = c.args.catalogue.now in
    let l = part_length b 0 8 (omega (arith, c.bytes-bytes.ensures.1.size)) in
    let e = c.part.ensures ∙ ap (λ (l : List ℕ). take 8 l) c.bytes-bytes.ensures.0 in
    omega (arith, ap length e, l, c.requires.0)

pub put_u32-requires : goal.put_u32-requires
put_u32-requires c =
    omega (arith, c.requires.0, c.copy.auto.out)

pub part-requires-2 : goal.part-requires-2
part-requires-2 c =
    let b = c.args.catalogue.now in
    omega (arith, ap length c.bytes-bytes.ensures.0, c.bytes-bytes.ensures.1.size, c.types-at.ensures.0, ap types_at c.blocks-2.ensures)

pub copy-requires-2 : goal.copy-requires-2
copy-requires-2 c =
    let a = c.args in
    let b = a.catalogue.now in
    let s = c.bytes-bytes.ensures.1 in
    let n = c.types-at.result.at - 20 in
    let at = ap types_at c.blocks-2.ensures in
    let l = part_length b 20 n (omega (arith, s.size, c.types-at.ensures.0, at)) in
    let e = c.part-2.ensures ∙ ap (λ (l : List ℕ). take n (drop 20 l)) c.bytes-bytes.ensures.0 in
    let size = c.put_u32-3.auto.out ∙ c.put_u32-2.auto.out ∙ c.put_u32.auto.out ∙ c.copy.auto.out in
    omega (arith, ap length e, l, size, c.types-at.ensures.0, at, c.requires.0)

pub returns : goal.returns
returns c =
    let a = c.args in
    let b = a.catalogue.now in
    let k = a.kept in
    let out = a.out.now in
    let same = c.bytes-bytes.ensures.0 in
    let x = take 8 b in
    let t = le 4 k.types in
    let l = le 4 k.links in
    let e = le 4 k.bases in
    let n = take (8 * name_count b + 8 * effect_count b) (drop 20 b) in
    let sizes : length x ≡ 8 = part_length b 0 8 (omega (arith, c.bytes-bytes.ensures.1.size)) in
    let at : c.types-at.result.at - 20 ≡ 8 * name_count b + 8 * effect_count b =
    omega (arith, c.types-at.ensures.0, ap types_at c.blocks-2.ensures) in
    let rest = c.part-2.ensures ∙ ap (λ (m : List ℕ). take (c.types-at.result.at - 20) (drop 20 m)) same
    ∙ ap (λ (i : ℕ). take i (drop 20 b)) at in
    let p₁ = length-append x t in
    let p₂ = length-append (x ++ t) l in
    let p₃ = length-append ((x ++ t) ++ l) e in
    let q₁ = length-le 4 k.types in
    let q₂ = length-le 4 k.links in
    let q₃ = length-le 4 k.bases in
    let e₁ : c.copy.new.out ≡ put out 0 x = c.copy.ensures ∙ ap (put out 0) (c.part.ensures ∙ ap (λ (m : List ℕ). take 8 m) same) in
    let e₂ = put-join out c.copy.new.out c.put_u32.new.out 0 x 8 t e₁ c.put_u32.ensures (omega (arith, sizes)) in
    let e₃ = put-join out c.put_u32.new.out c.put_u32-2.new.out 0 (x ++ t) 12 l e₂ c.put_u32-2.ensures (omega (arith, sizes, p₁, q₁)) in
    let e₄ = put-join out c.put_u32-2.new.out c.put_u32-3.new.out 0 ((x ++ t) ++ l) 16 e e₃ c.put_u32-3.ensures
    (omega (arith, sizes, p₁, q₁, p₂, q₂)) in
    let e₅ = put-join out c.put_u32-3.new.out c.copy-2.new.out 0 (((x ++ t) ++ l) ++ e) 20 n e₄
    (c.copy-2.ensures ∙ ap (put c.put_u32-3.new.out 20) rest) (omega (arith, sizes, p₁, q₁, p₂, q₂, p₃, q₃)) in
    e₅ ∙ ap (put out 0) (joined x t l e n)
