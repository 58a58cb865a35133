-- `distance::above_at` meets its contract, by whether the name has an id.
use Rattle.std.proofs.Common.{◌≡◌, ◌-◌, ℕ, sym, ap, ap₂, ◌∙◌, rules}
use mir.Syntax.{w32}
use mir.Val.{to_z, of_z}
use Rattle.words.specs.Words.{count_of}
use Rattle.floats.specs.Floats.{to_u}
use Rattle.fit.specs.Fit.{Result, result_of}
use Rattle.fit.specs.Lookups.{amount}
use Rattle.catalogue.specs.Catalogue.{Id}
use Rattle.catalogue.specs.Lookups.{name_id}
use Rattle.context.specs.Held.{pairs_in, context_in}
use Rattle.racks.specs.Taking.{takes}
use Rattle.cause.proofs.Looking.{made, unmade, of_ship, names-are}
use Rattle.leave_out.specs.Held.{above_at}
use Rattle.leave_out.proofs.distance.above_at.Goals as goal

pub returns-in-Some : goal.returns-in-Some
unfolding above_at
returns-in-Some c =
    let a = c.args in
    let x = a.context.now in
    let y = context_in x in
    let id = c.in-Some.id in
    let z : to_z w32 (of_z w32 id) ≡ id = search rules in
    let used = c.count-used.ensures (takes a.row.slot) (λ i b h post. search rules) in
    let most = c.to_u32.ensures.0 ∙ ap (to_u 32) (c.amount.ensures ∙ ap (amount (result_of x.fit.now 0)) z ∙ ap (λ (r : Result). amount r id) (of_ship x.catalogue.now x.fit.now)) in
    made (name_id y.names a.row.name) 0 (λ (i : Id). count_of (takes a.row.slot) (pairs_in x) - to_u 32 (amount y.ship_result i)) id
    (names-are x.catalogue.now x.fit.now a.row.name ∙ sym c.attribute_id.ensures ∙ c.in-Some.is) (c.saturating_sub.ensures ∙ ap₂ (λ (m n : ℕ). m - n) used most)

pub returns-in-None : goal.returns-in-None
unfolding above_at
returns-in-None c =
    let a = c.args in
    let x = a.context.now in
    let y = context_in x in
    unmade (name_id y.names a.row.name) 0 (λ (i : Id). count_of (takes a.row.slot) (pairs_in x) - to_u 32 (amount y.ship_result i))
    (names-are x.catalogue.now x.fit.now a.row.name ∙ sym c.attribute_id.ensures ∙ c.in-None.is)
