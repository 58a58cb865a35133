-- `profile::check` meets its contract: 11, then 12.
use Rattle.std.proofs.Common.{sym, ◌∙◌}
use Rattle.profile.proofs.Accepted.{sized, number-11, number-12, number-0}
use Rattle.profile.proofs.check.Goals as goal

pub returns-then-bad_profile : goal.returns-then-bad_profile
returns-then-bad_profile c = sym (number-11 _ (sym c.bad_profile.ensures ∙ c.if-bad_profile.true))

pub bad_prices-requires : goal.bad_prices-requires
bad_prices-requires c = sized _ (sym c.bad_profile.ensures ∙ c.if-bad_profile.false)

pub returns-then-bad_prices : goal.returns-then-bad_prices
returns-then-bad_prices c =
    sym (number-12 _ (sym c.bad_profile.ensures ∙ c.if-bad_profile.false) (sym c.bad_prices.ensures ∙ c.if-bad_prices.true))

pub returns : goal.returns
returns c = sym (number-0 _ (sym c.bad_profile.ensures ∙ c.if-bad_profile.false) (sym c.bad_prices.ensures ∙ c.if-bad_prices.false))
