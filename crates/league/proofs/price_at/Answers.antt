-- `league::price_at` meets its contract: by whether the pair is fitted.
use native.Mathlib.Omega.{arith}
use mathlib.Core.Path.{◌≡◌, sym, ap, ◌∙◌, subst}
use mathlib.Core.Bool.{Bool, cond}
use mathlib.Core.Logic.{inl}
use mir.Syntax.{w32}
use mir.ValLaws.{to_z-of_z}
use Rattle.profile.specs.Profile.{prices_of, points_of}
use Rattle.profile.specs.Sound.{Fair}
use Rattle.profile.proofs.Prices.{points-fair}
use Rattle.league.proofs.price_at.Goals as goal

pub returns-then-is_fitted_at : goal.returns-then-is_fitted_at
returns-then-is_fitted_at c =
    let a = c.args in
    let prices = prices_of a.profile.now in
    let e : c.points_of.result ≡ points_of prices a.group =
    c.points_of.ensures ∙ ap (points_of prices) (to_z-of_z w32 a.group c.ranges.group) in (
      e ∙ sym (ap (λ (t : Bool). cond t (points_of prices a.group) 0) (sym c.is_fitted_at.ensures ∙ c.if-is_fitted_at.true)),
      subst Fair (sym e) (points-fair a.profile.now c.is_sound.ensures a.group),
    )

pub returns-else-is_fitted_at : goal.returns-else-is_fitted_at
returns-else-is_fitted_at c =
    let a = c.args in (
      sym (ap (λ (t : Bool). cond t (points_of (prices_of a.profile.now) a.group) 0) (sym c.is_fitted_at.ensures ∙ c.if-is_fitted_at.false)),
      inl (omega arith),
    )
