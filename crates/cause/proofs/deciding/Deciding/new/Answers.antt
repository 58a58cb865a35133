-- `Deciding::new` meets its contract, by the rule's number.
use Rattle.std.proofs.Common.{◌≡◌, ◌≤◌, ℕ, List, false, sym, ap, ap₂, ◌∙◌, arith}
use lib.Dec.{ltb}
use lib.ListN.{length}
use Rattle.words.specs.Words.{count_of, table}
use Rattle.context.specs.Context.{Pair}
use Rattle.context.specs.Gathered.{pair_count}
use Rattle.context.specs.Held.{pair_in, pairs_in, context_in}
use Rattle.context.proofs.Pairs.{pairs-table}
use Rattle.parts.specs.Parts.{chosen, size}
use Rattle.cause.specs.Decided.{member_in, broken_in, decides, Decides, Ready}
use Rattle.cause.specs.declared.deciding.Deciding.TheVariants.{Counted, Nothing}
use Rattle.cause.proofs.Choosing.{chosen-array, size-map}
use Rattle.cause.proofs.Breaking.{broken-counted, broken-other, broken-load}
use Rattle.cause.proofs.deciding.Deciding.new.Goals as goal

pub returns-then-shown-eq-RESOURCE : goal.returns-then-shown-eq-RESOURCE
returns-then-shown-eq-RESOURCE c =
    let x = c.args.context.now in
    let s = c.args.shown in
    record {
      broken = λ kept. c.of_resource.ensures.broken kept ∙ broken-load x s.own s.rule s.sub c.if-shown-eq-RESOURCE.true (chosen kept (pairs_in x));
      ready = c.of_resource.ensures.ready;
    }

pub returns-then-is_counted : goal.returns-then-is_counted
unfolding decides Ready
returns-then-is_counted c =
    let x = c.args.context.now in
    let s = c.args.shown in
    let n = pair_count x.fit.now in
    let t = member_in x s in
    let room : n ≤ length c.members.result = omega (arith, x.gathered.fit_sound.sized.items) in
    let broken : Decides x (Counted c.members.result c.limit.result) (broken_in x s) =
    λ kept.
    ap₂ ltb c.limit.ensures
    (ap size (chosen-array t false c.members.result (pair_in x) n room c.members.ensures kept)
    ∙ size-map t (chosen kept (table n (pair_in x)))
    ∙ ap (λ (ps : List Pair). count_of t (chosen kept ps)) (sym (pairs-table x.catalogue.now x.fit.now)))
    ∙ broken-counted (context_in x) (pairs_in x) s.own s.rule s.sub c.if-shown-eq-RESOURCE.false (sym c.is_counted.ensures ∙ c.if-is_counted.true)
    (chosen kept (pairs_in x)) in
    record { broken = broken; ready = tt }

pub returns : goal.returns
unfolding decides Ready
returns c =
    let x = c.args.context.now in
    let s = c.args.shown in
    let broken : Decides x Nothing (broken_in x s) =
    λ kept.
    broken-other (context_in x) (pairs_in x) s.own s.rule s.sub c.if-shown-eq-RESOURCE.false (sym c.is_counted.ensures ∙ c.if-is_counted.false)
    (chosen kept (pairs_in x)) in
    record { broken = broken; ready = tt }
