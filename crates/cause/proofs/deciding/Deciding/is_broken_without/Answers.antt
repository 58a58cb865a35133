-- `Deciding::is_broken_without` meets its contract, by what decides.
use Rattle.std.proofs.Common.{◌≡◌, ◌<◌, ◌≤◌, ℕ, refl, ap, ◌∙◌, subst, arith}
use Rattle.context.specs.Gathered.{pair_count}
use lib.Dec.{ltb}
use lib.Ieee.{Float}
use lib.ListN.{take}
use Rattle.floats.specs.Floats.{of_nat, over}
use Rattle.parts.specs.Parts.{chosen, size}
use Rattle.cause.specs.Decided.{total, stowed, decides, Ready}
use Rattle.cause.proofs.deciding.Deciding.is_broken_without.Goals as goal

pub returns-in-Drones : goal.returns-in-Drones
unfolding decides
returns-in-Drones c =
    let kept = c.args.kept.now in
    let stacks = c.in-Drones.stacks in
    let sum = c.drones_kept.ensures ∙ ap (λ (n : ℕ). total (chosen (take n kept) (take n stacks))) c.pair_count-n.ensures in
    let used = c.nearest_u64_to_f64-used.ensures ∙ ap of_nat sum in
    rw c.in-Drones.is (c.over.ensures ∙ ap (λ (u : Float). over u c.in-Drones.available) used)

pub returns-in-Cargo : goal.returns-in-Cargo
unfolding decides
returns-in-Cargo c =
    let kept = c.args.kept.now in
    let rooms = c.in-Cargo.rooms in
    let used = c.cargo_kept-used.ensures ∙ ap (λ (n : ℕ). stowed (chosen (take n kept) (take n rooms))) c.pair_count-n.ensures in
    rw c.in-Cargo.is (c.over-in-Cargo.ensures ∙ ap (λ (u : Float). over u c.in-Cargo.available) used)

pub returns-in-Counted : goal.returns-in-Counted
unfolding decides
returns-in-Counted c =
    let kept = c.args.kept.now in
    let members = c.in-Counted.members in
    let count = c.count_kept.ensures ∙ ap (λ (n : ℕ). size (chosen (take n kept) (take n members))) c.pair_count-n.ensures in
    rw c.in-Counted.is (ap (ltb c.in-Counted.limit) count)

pub returns-in-Nothing : goal.returns-in-Nothing
unfolding decides
returns-in-Nothing c = rw c.in-Nothing.is refl

pub cargo_kept-used-requires : goal.cargo_kept-used-requires
unfolding Ready
cargo_kept-used-requires c =
    let x = c.args.context.now in
    let n = pair_count x.fit.now in
    let few = x.gathered.fit_sound.sized.items in
    let sums = subst (Ready n) c.in-Cargo.is c.requires.ready in
    record {
      few = (omega (arith, c.requires.within, c.pair_count-n.ensures), omega (arith, few, c.pair_count-n.ensures));
      so_far = sums c.args.i c.requires.within;
      dropped = c.requires.dropped;
    }
