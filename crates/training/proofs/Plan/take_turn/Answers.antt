-- `training::Plan::take_turn` meets its contract: the skill stands at its place, or it lacks nothing, or it is put in.
use Prim.Native.Nat.{ℕ, ◌+◌, ◌*◌, min}
use native.Mathlib.Omega.{arith}
use mathlib.Core.Path.{◌≡◌, sym, ap, ◌∙◌, subst}
use mathlib.Core.Bool.{Bool}
use mathlib.Core.List.{List}
use lib.Dec.{ltb}
use lib.IntN.{ℤ}
use lib.ListN.{length, take, drop}
use mir.Val.{of_z, to_z, SFits}
use mir.ValLaws.{to_z-of_z}
use mir.Syntax.{w32}
use borrow.Author.Tests.{ltb-true}
use Rattle.words.specs.Words.{same}
use Rattle.image.proofs.Parts.{part_length}
use Rattle.keys.specs.Keys.{key_at, Sorted, Parts}
use Rattle.training.specs.Training.{raised}
use Rattle.training.specs.Turns.{Parted}
use Rattle.training.specs.Plans.{plan_of, stands_at}
use Rattle.training.specs.declared.Plan.{Plan}
use Rattle.training.proofs.Room.{and_true}
use Rattle.training.proofs.Arrays.{part-sorted}
use Rattle.training.proofs.Turning.{turn-found, turn-none, turn-new}
use Rattle.training.proofs.Plan.take_turn.Goals.{then-given-ne0, else-given-ne0}
use Rattle.training.proofs.Plan.take_turn.Goals as goal

-- an id came by its bits
module _ (p : Plan) (id : ℤ) (fits : SFits w32 id) (at : ℕ) where
  abbrev read : ℤ
  read = to_z w32 (of_z w32 id)

  -- the place parts the ids
  parted : {ids keys : List ℕ} {n : ℕ} → ids ≡ take (4 * p.len) (drop (4 * p.from) p.ids) → (keys ≡ ids) × (n ≡ p.len) → Parts keys n read at
      → Parted p.ids p.from p.len id at
  parted e k v = rw (← e, ← k.0, ← k.1, ← to_z-of_z w32 id fits) v

  -- whether the skill stands there
  told : {t : Bool} → t ≡ stands_at p at read → t ≡ stands_at p at id
  told e = e ∙ ap (stands_at p at) (to_z-of_z w32 id fits)

pub new-requires : goal.new-requires
new-requires c =
    let p = c.args.self.now in
    let e = c.part-ids.ensures in (
      omega (arith, ap length e, part_length p.ids (4 * p.from) (4 * p.len) (omega (arith, c.requires))),
      subst (λ (l : List ℕ). Sorted l p.len) (sym e) (part-sorted p.ids p.from p.len c.requires.2.order),
    )

pub returns-then-stands : goal.returns-then-stands
returns-then-stands c =
    let a = c.args in
    let p = a.self.now in
    let at = c.first_from-at.result in
    let parts = parted p a.id c.ranges.id at c.part-ids.ensures c.new.ensures c.first_from-at.ensures in
    let there = and_true (ltb at p.len) (same (key_at p.ids (p.from + at)) a.id) (sym (told p a.id c.ranges.id at c.stands.ensures) ∙ c.if-stands.true) in
    let inside = ltb-true at p.len there.0 in (
      turn-found p.ids p.levels p.from p.len a.id c.ranges.id.sfits at parts a.wanted a.steps c.portion-given.result
          inside there.1 (omega (arith, inside, c.requires)) c.portion-given.ensures,
      record { longer = omega arith; lower = omega arith; near = omega arith },
    )

pub returns : goal.returns
returns c =
    let a = c.args in
    let p = a.self.now in
    let at = c.first_from-at.result in
    let parts = parted p a.id c.ranges.id at c.part-ids.ensures c.new.ensures c.first_from-at.ensures in
    let missing = sym (told p a.id c.ranges.id at c.stands.ensures) ∙ c.if-stands.false in
    let given = c.portion-given-2.result in
    let whole : given ≡ min a.wanted a.steps = omega (arith, c.portion-given-2.ensures) in
    elim c.if-given-ne0.branch [
      | then-given-ne0 w ↦ (
        rw w.self-is (turn-new p.ids p.levels p.from p.len a.id c.ranges.id.sfits at parts a.wanted a.steps given missing c.requires.2 whole (omega (arith, w.if-given-ne0.true))
            (w.insert.ensures.0 ∙ ap (λ (z : ℤ). raised (plan_of p).ids (plan_of p).levels z given) (to_z-of_z w32 a.id c.ranges.id))),
        rw w.self-is (let g = w.insert.ensures.1 in record { longer = g.longer; lower = g.lower; near = g.near }),
      )
      | else-given-ne0 w ↦ (
        rw w.self-is (turn-none p.ids p.levels p.from p.len a.id c.ranges.id.sfits at parts a.wanted a.steps given missing c.requires.2 whole (omega (arith, w.if-given-ne0.false))),
        rw w.self-is (record { longer = omega arith; lower = omega arith; near = omega arith }),
      )
    ]
