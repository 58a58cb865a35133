-- `kept::try_without` meets its contract, by whether the entry stays.
use Rattle.std.proofs.Common.{◌≡◌, Bool, cond, sym, ap, ◌∙◌, arith}
use lib.ListN.{take, length-set}
use Rattle.context.specs.Gathered.{pair_count}
use Rattle.parts.specs.Parts.{less}
use Rattle.cause.proofs.Trying.{less-first, still-untried}
use Rattle.cause.proofs.kept.try_without.Goals as goal

pub returns-then-stays_without : goal.returns-then-stays_without
returns-then-stays_without c =
    let a = c.args in
    let n = pair_count a.context.now.fit.now in
    let before = take n a.kept.now in
    record {
      long = length-set a.kept.now a.i _ ∙ c.requires.long;
      untried = still-untried a.kept.now a.i a.i (omega arith) c.requires.untried;
      tried = less-first n a.kept.now a.i c.requires.within
          ∙ ap (λ (b : Bool). cond b (less before a.i) before) (sym c.if-stays_without.true ∙ c.stays_without.ensures);
    }
