-- `Deciding::of_resource` meets its contract, by the resource's number.
use Rattle.std.proofs.Common.{◌≡◌, ◌≤◌, ℕ, List, sym, ap, ap₂, ◌∙◌, subst, refl, Bool, arith}
use Rattle.std.specs.Prelude.{None}
use lib.Ieee.{Float}
use lib.ListN.{length, take}
use Rattle.words.specs.Words.{table}
use Rattle.context.specs.Context.{Pair}
use Rattle.context.specs.Gathered.{pair_count}
use Rattle.context.proofs.Pairs.{pairs-table}
use Rattle.cause.proofs.Choosing.{chosen-array, total-map, stowed-map}
use borrow.Author.Tests.{ne_eqb}
use Rattle.numbers.specs.Names as Names
use Rattle.floats.specs.Floats.{of_nat, over}
use Rattle.context.specs.Held.{pair_in, pairs_in, context_in}
use Rattle.resource.specs.Resource.{launched, cargo_used}
use Rattle.parts.specs.Parts.{chosen}
use Rattle.cause.specs.Members.{amount_of}
use Rattle.cause.specs.Decided.{stack_of, room_of, total, stowed, load_broken, decides, Sums, Ready}
use Rattle.cause.proofs.Looking.{of_ship, of_character}
use Rattle.cause.proofs.deciding.Deciding.of_resource.Goals as goal

pub returns-then-resource : goal.returns-then-resource
unfolding decides Ready
returns-then-resource c =
    let x = c.args.context.now in
    let e = c.amount_of.ensures ∙ ap (amount_of (context_in x) Names.max_active_drones) (of_character x.catalogue.now x.fit.now) in
    let n = pair_count x.fit.now in
    let room : n ≤ length c.stacks.result = omega (arith, x.gathered.fit_sound.sized.items) in
    let broken : (kept : List Bool) → over (of_nat (total (chosen kept (take n c.stacks.result)))) c.amount_of.result ≡ load_broken x c.args.resource (chosen kept (pairs_in x)) =
    λ kept.
    let qs = chosen kept (table n (pair_in x)) in
    let used = ap total (chosen-array stack_of 0 c.stacks.result (pair_in x) n room c.stacks.ensures kept) ∙ total-map qs
    ∙ ap (λ (ps : List Pair). launched (chosen kept ps)) (sym (pairs-table x.catalogue.now x.fit.now)) in
    rw c.if-resource.true (ap₂ (λ (u : ℕ) (a : Float). over (of_nat u) a) used e) in
    record { broken = broken; ready = tt }

pub returns-then-resource-2 : goal.returns-then-resource-2
unfolding decides Ready
returns-then-resource-2 c =
    let x = c.args.context.now in
    let e = c.amount_of-then-resource-2.ensures ∙ ap (amount_of (context_in x) Names.capacity) (of_ship x.catalogue.now x.fit.now) in
    let n = pair_count x.fit.now in
    let rooms = c.rooms-rooms.result in
    let room : n ≤ length rooms = omega (arith, x.gathered.fit_sound.sized.items) in
    let broken : (kept : List Bool) → over (stowed (chosen kept (take n rooms))) c.amount_of-then-resource-2.result ≡ load_broken x c.args.resource (chosen kept (pairs_in x)) =
    λ kept.
    let qs = chosen kept (table n (pair_in x)) in
    let used = ap stowed (chosen-array room_of None rooms (pair_in x) n room c.rooms-rooms.ensures kept) ∙ stowed-map qs
    ∙ ap (λ (ps : List Pair). cargo_used (chosen kept ps)) (sym (pairs-table x.catalogue.now x.fit.now)) in
    rw c.if-resource-2.true (ap₂ over used e) in
    record { broken = broken; ready = subst (λ (m : ℕ). Sums m rooms c.sums_before-before.result) c.pair_count.ensures c.sums_before-before.ensures }

pub returns : goal.returns
unfolding decides Ready
returns c = record {
  broken = λ kept. rw (ne_eqb c.args.resource 5 c.if-resource.false, ne_eqb c.args.resource 11 c.if-resource-2.false) refl;
  ready = tt;
}
