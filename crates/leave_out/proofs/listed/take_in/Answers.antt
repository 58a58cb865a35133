-- `listed::take_in` meets its contract: a row where the entry is named.
use Rattle.std.proofs.Common.{◌≡◌, ◌+◌, ◌≤◌, ℕ, List, Bool, true, ◌&&◌, cond, refl, sym, ap, ◌∙◌, subst, arith}
use lib.Dec.{ltb}
use lib.ListN.{take}
use Rattle.context.specs.Gathered.{pair_count}
use Rattle.parts.specs.Parts.{chosen, size}
use Rattle.cause.specs.Decided.{has_own}
use Rattle.leave_out.specs.Held.{is_named_rule, Added}
use Rattle.leave_out.proofs.Listing.{broken-left, taken-named, taken-other}
use Rattle.leave_out.proofs.listed.take_in.Goals as goal

pub add-requires : goal.add-requires
add-requires c =
    let a = c.args in
    let few = a.context.now.gathered.fit_sound.sized.items in
    let named : is_named_rule a.shown ≡ true = sym c.is_named.ensures ∙ c.if-is_named.true in
    let room = subst (λ (b : Bool). a.rows.now.count + cond b 1 0 ≤ 1544) named c.requires.room in
    record {
      few = omega (arith, few, c.pair_count.ensures);
      inside = λ i e. let h = c.requires.inside i e in omega (arith, h, c.pair_count.ensures);
      room = omega (arith, room);
      free = c.requires.free;
    }

pub returns-then-is_named : goal.returns-then-is_named
returns-then-is_named c =
    let a = c.args in
    let x = a.context.now in
    let members = c.members-counted.result in
    let limit = c.limit-allowed.result in
    let few = x.gathered.fit_sound.sized.items in
    let named : is_named_rule a.shown ≡ true = sym c.is_named.ensures ∙ c.if-is_named.true in
    let test = λ (n : ℕ) (left : List Bool). has_own a.shown.own left && ltb limit (size (chosen left (take n members))) in
    let more = subst (λ (n : ℕ). Added n a.rows.now c.add.new.self (test n)) c.pair_count.ensures c.add.ensures in
    taken-named x a.shown a.rows.now c.add.new.self (test (pair_count x.fit.now)) more named
    (λ left. ap (λ (b : Bool). has_own a.shown.own left && b)
    (broken-left x a.shown members limit (omega (arith, few)) c.members-counted.ensures c.limit-allowed.ensures named left))

pub returns-else-is_named : goal.returns-else-is_named
returns-else-is_named c =
    let a = c.args in
    taken-other a.context.now a.shown a.rows.now a.rows.now refl c.requires.free (sym c.is_named.ensures ∙ c.if-is_named.false)
