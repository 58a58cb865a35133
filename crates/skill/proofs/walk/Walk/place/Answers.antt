-- `skill::Walk::place` meets its contract: a skill that is not there, or the first that is found.
use mathlib.Core.Path.{sym, ap, ◌∙◌}
use lib.ListN.{get_or, take}
use lib.IntN.{ℤ, pos}
use mir.Syntax.{w32}
use mir.ValLaws.{to_z-of_z}
use borrow.Author.Rules.{rules}
use Rattle.std.specs.Prelude.{position}
use Rattle.words.specs.Words.{table, any_of, same}
use Rattle.skill.proofs.Places.{not-among, placed_at}
use Rattle.skill.proofs.walk.Walk.place.Goals as goal

pub returns-then-not-is_among : goal.returns-then-not-is_among
returns-then-not-is_among c =
    let w = c.args.self.now in
    let held = table w.len (λ k. get_or w.ids k (pos 0)) in
    not-among w c.args.id
    (ap (λ (z : ℤ). any_of (λ (x : ℤ). same x z) held) (sym (to_z-of_z w32 c.args.id c.ranges.id)) ∙ sym c.is_among.ensures ∙ c.if-not-is_among.true)

pub returns : goal.returns
returns c =
    let w = c.args.self.now in
    placed_at w c.args.id (search rules) c.first_place.result
    (c.first_place.ensures ∙ ap (λ (z : ℤ). position (λ (x : ℤ). same x z) (take w.len w.ids)) (to_z-of_z w32 c.args.id c.ranges.id))
