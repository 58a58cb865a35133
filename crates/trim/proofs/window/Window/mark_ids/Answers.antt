-- `Window::mark_ids` meets its contract. The invariant: the runs of the first j ids are marked.
use mathlib.Core.Path.{◌≡◌, refl, sym}
use lib.IntN.{pos}
use lib.ListN.{get_or}
use lib.Seq.{take_all}
use mir.Syntax.{w32}
use mir.Val.{of_z, to_z}
use borrow.Author.Rules.{rules}
use Rattle.trim.proofs.Marking.{under_in, more-none, more-next, more-same}
use Rattle.trim.specs.declared.part.Part.TheVariants.{Types, Links, Bases}
use Rattle.trim.proofs.window.Window.mark_ids.Goals as goal

pub loop-j-init : goal.loop-j-init
loop-j-init g c = more-none _ _ refl refl refl

pub mark_found-requires : goal.mark_found-requires
mark_found-requires g c =
    let l = c.loop-j in
    let b = c.args.self.now.catalogue.now in
    let x = get_or c.args.ids.now l.j (pos 0) in
    let id : x ≡ to_z w32 (of_z w32 x) = search rules in
    let same = sym l.invariant.catalogue in (
      under_in b _ Types x _ _ (c.each_from-types.ensures l.j c.loop-j-test.true) c.keys.ensures.0 c.keys.ensures.1 id same,
      under_in b _ Links x _ _ (c.each_from-links.ensures l.j c.loop-j-test.true) c.keys-2.ensures.0 c.keys-2.ensures.1 id same,
      under_in b _ Bases x _ _ (c.each_from-bases.ensures l.j c.loop-j-test.true) c.keys-3.ensures.0 c.keys-3.ensures.1 id same,
    )

pub loop-j-preserved : goal.loop-j-preserved
loop-j-preserved g c =
    let l = c.loop-j in
    let x = get_or c.args.ids.now l.j (pos 0) in
    let id : to_z w32 (of_z w32 x) ≡ x = sym (search rules) in
    more-next c.args.self.now l.self c.mark_found.new.self c.args.ids.now l.j (to_z w32 (of_z w32 x)) (search rules) l.invariant c.mark_found.ensures id

pub returns : goal.returns
returns g c = more-same _ _ _ _ (take_all c.loop-j.j c.args.ids.now (search rules)) c.loop-j.invariant
