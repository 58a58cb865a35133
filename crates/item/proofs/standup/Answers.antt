-- `item::standup` meets its contract: what is said of each pair, with marks that were looked up once.
use borrow.Author.Rules.{rules}
use Rattle.context.specs.Held.{context_in}
use Rattle.item.specs.Item.{standup, standup_at}
use Rattle.item.proofs.standup.Goals as goal

pub returns : goal.returns
unfolding standup
returns c =
    let a = c.args in
    (c.report.ensures.wrote (standup_at (context_in a.context.now)) (λ i r h p. search rules), c.report.ensures.few)
