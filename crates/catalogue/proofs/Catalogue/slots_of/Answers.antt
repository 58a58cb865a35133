-- `Catalogue::slots_of` meets its contract: the links of the type are those from the first on, up to one of another type or the last of all.
use Prim.Native.Nat.{ℕ}
use native.Mathlib.Omega.{arith}
use mathlib.Core.Path.{◌∙◌, sym}
use mir.Syntax.{w32}
use mir.Val.{to_z, of_z}
use mir.ValLaws.{to_z-of_z}
use Rattle.catalogue.specs.Lookups.{rack_of, hardpoint_of}
use Rattle.catalogue.proofs.Walking.{none_found, all_found, last_more}
use Rattle.catalogue.proofs.Catalogue.slots_of.Goals as goal

pub loop-i-init : goal.loop-i-init
loop-i-init c =
    let b = c.self.inside.blocks in
    let e = rw (← c.self.view_is) at c.link_keys.ensures in
    let z = to_z-of_z w32 c.args.id c.ranges.id in
    let none = none_found b c.self.invariant c.args.id c.ranges.id.sfits c.first_key-i.result (rw (e.0, e.1, z) at c.first_key-i.ensures) in
    rw z (record { rack = none 1 6; hardpoint = none 7 8 })

pub returns-then-not-is_id : goal.returns-then-not-is_id
unfolding rack_of hardpoint_of
returns-then-not-is_id c =
    rw (← c.self.view_is) (
    let b = c.self.inside.blocks in
    let l = c.loop-i in
    let e = c.links-b.ensures in
    let z = to_z-of_z w32 c.args.id c.ranges.id in
    let keys = rw (← c.self.view_is) at c.link_keys.ensures in
    let p = rw (keys.0, keys.1, z) at c.first_key-i.ensures in
    let other = rw (c.bytes.ensures.0, e.0, z) at (sym c.is_id.ensures ∙ c.if-not-is_id.true) in
    let all = λ (low high : ℕ). all_found b c.self.invariant c.args.id c.ranges.id.sfits c.first_key-i.result p low high l.i (omega arith) (omega (arith, e.1)) (λ _. other) in
    record { rack = rw z at l.invariant.rack ∙ all 1 6; hardpoint = rw z at l.invariant.hardpoint ∙ all 7 8 }
    )

pub loop-i-preserved : goal.loop-i-preserved
loop-i-preserved c =
    let l = c.loop-i in
    let told = rw (← c.self.view_is) at c.with_link-found.ensures in
    let b = c.self.inside.blocks in
    let z = to_z w32 (of_z w32 c.args.id) in
    let here = rw (c.bytes.ensures.0, c.links-b.ensures.0) at (sym c.is_id.ensures ∙ c.if-not-is_id.false) in
    record {
      rack = told.rack ∙ rw (l.invariant.rack, last_more b z 1 6 l.i here);
      hardpoint = told.hardpoint ∙ rw (l.invariant.hardpoint, last_more b z 7 8 l.i here);
    }

pub returns : goal.returns
unfolding rack_of hardpoint_of
returns c =
    rw (← c.self.view_is) (
    let b = c.self.inside.blocks in
    let l = c.loop-i in
    let e = c.links-b.ensures in
    let z = to_z-of_z w32 c.args.id c.ranges.id in
    let keys = rw (← c.self.view_is) at c.link_keys.ensures in
    let p = rw (keys.0, keys.1, z) at c.first_key-i.ensures in
    let all = λ (low high : ℕ). all_found b c.self.invariant c.args.id c.ranges.id.sfits c.first_key-i.result p low high l.i (omega arith)
    (omega (arith, e.1, p.within)) (λ h. absurd (omega (arith, h, e.1))) in
    record { rack = rw z at l.invariant.rack ∙ all 1 6; hardpoint = rw z at l.invariant.hardpoint ∙ all 7 8 }
    )
