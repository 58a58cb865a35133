-- `league::cost_of` meets its contract.
use native.Mathlib.Omega.{arith}
use mathlib.Core.Path.{sym, ap}
use mathlib.Core.Bool.{Bool, cond}
use mathlib.Core.Logic.{inl, inr}
use borrow.Author.Tests.{eq-eqb, ne_eqb}
use Rattle.numbers.specs.Sizes as Sizes
use Rattle.league.proofs.cost_of.Goals as goal

pub returns-then-price-eq-BANNED : goal.returns-then-price-eq-BANNED
returns-then-price-eq-BANNED c =
    let n = c.args.price in
    (sym (ap (λ (t : Bool). cond t 0 n) (eq-eqb n Sizes.banned c.if-price-eq-BANNED.true)), omega arith)

pub returns-else-price-eq-BANNED : goal.returns-else-price-eq-BANNED
returns-else-price-eq-BANNED c =
    let n = c.args.price in (
      sym (ap (λ (t : Bool). cond t 0 n) (ne_eqb n Sizes.banned c.if-price-eq-BANNED.false)),
      elim c.requires [ inl h ↦ h | inr e ↦ absurd (c.if-price-eq-BANNED.false e) ],
    )
