-- `members::is_beside` meets its contract, by the rule's number.
use Rattle.std.proofs.Common.{◌≡◌, ap, ◌∙◌, ℤ, arith, rules, w32, to_z, of_z}
use Rattle.context.specs.Held.{pair_in, context_in}
use Rattle.limits.specs.Limits.{of_type}
use Rattle.cause.specs.Members.{is_beside}
use Rattle.cause.proofs.Breaking.{beside-other}
use Rattle.cause.proofs.members.is_beside.Goals as goal

pub returns-in-8 : goal.returns-in-8
unfolding is_beside
returns-in-8 c = rw c.in-8.is c.in_slot_of.ensures

pub returns-in-10 : goal.returns-in-10
unfolding is_beside
returns-in-10 c = rw c.in-10.is c.covers.ensures

pub returns-in-17 : goal.returns-in-17
unfolding is_beside
returns-in-17 c = rw c.in-17.is c.shares_group.ensures

pub returns-in-18 : goal.returns-in-18
unfolding is_beside
returns-in-18 c =
    let a = c.args in
    let z : to_z w32 (of_z w32 c.item_type.result) ≡ c.item_type.result = search rules in
    rw c.in-18.is (c.of_type.ensures ∙ ap (λ (t : ℤ). of_type t (pair_in a.context.now a.j)) (z ∙ c.item_type.ensures))

pub returns-in_default : goal.returns-in_default
returns-in_default c =
    let a = c.args in
    let x = a.context.now in
    beside-other (context_in x) (pair_in x a.i) a.shown.rule a.shown.sub (pair_in x a.j) (λ e. omega arith) (λ e. omega arith) (λ e. omega arith)
    (λ e. omega arith)
