-- `slot::validate` meets its contract. The invariant: what is written so far is said of the first i pairs.
use Prim.Native.Nat.{ℕ}
use native.Mathlib.Omega.{arith}
use mathlib.Core.Path.{◌≡◌, sym, ap, ◌∙◌}
use mathlib.Core.List.{List}
use Rattle.words.specs.Words.{each, table}
use Rattle.entry.proofs.Emitted.{emitted-same, emitted-table_none, emitted-table_next}
use Rattle.context.specs.Context.{Pair}
use Rattle.context.specs.Gathered.{pair_count}
use Rattle.context.specs.Held.{pair_in, pairs_in, context_in}
use Rattle.context.proofs.Pairs.{pairs-table}
use Rattle.slot.specs.Slot.{slot_checks}
use Rattle.slot.proofs.validate.Goals as goal

pub loop-i-init : goal.loop-i-init
loop-i-init c = (omega arith, emitted-table_none _ _ _)

-- pairs are no more than items, of which there are 256 at most
pub slot_checks-requires : goal.slot_checks-requires
slot_checks-requires c =
    omega (arith, c.pair_count-i-end.ensures, c.args.context.now.gathered.fit_sound.sized.items, c.loop-i-test.true, c.loop-i.invariant.0, c.requires)

pub loop-i-preserved : goal.loop-i-preserved
loop-i-preserved c =
    let w = c.slot_checks.ensures in (
      omega (arith, w.few, c.loop-i.invariant.0),
      emitted-table_next _ _ c.loop-i.i c.loop-i.invariant.1 (w.wrote _ _ _ (rw c.new-prepared.ensures at c.item_at-item.ensures)),
    )

pub returns : goal.returns
returns c =
    let x = c.args.context.now in
    let checks = slot_checks (context_in x) (pairs_in x) in
    let e : c.loop-i.i ≡ pair_count x.fit.now = omega arith in (
      emitted-same
          (ap (λ (m : ℕ). each (table m (pair_in x)) checks) e
          ∙ ap (λ (ps : List Pair). each ps checks) (sym (pairs-table x.catalogue.now x.fit.now)))
          c.loop-i.invariant.1,
      omega (arith, c.pair_count-i-end.ensures, x.gathered.fit_sound.sized.items, c.loop-i.invariant.0),
    )
