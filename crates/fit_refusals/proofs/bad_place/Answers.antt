-- `fit_refusals::bad_place` meets its contract: each return is the test at what led there.
use native.Mathlib.Omega.{arith}
use mathlib.Core.Path.{◌≡◌, ◌∙◌}
use borrow.Author.Tests.{lt-ltb, le-ltb, ne_eqb}
use Rattle.fit.specs.Refusals.{bad_item}
use Rattle.fit_refusals.proofs.bad_place.Goals as goal

pub returns-then-slot-gt-CARGO : goal.returns-then-slot-gt-CARGO
unfolding bad_item
returns-then-slot-gt-CARGO c = λ i s z x. simp (s, lt-ltb 11 c.args.slot (omega arith))

pub returns-then-reserved-ne0 : goal.returns-then-reserved-ne0
unfolding bad_item
returns-then-reserved-ne0 c =
    let a = c.args in
    λ i s z x. simp (s, z, le-ltb 11 a.slot (omega arith), ne_eqb a.reserved 0 (λ e. omega (arith, e)))

pub returns-then-slot-ne-BOOSTER : goal.returns-then-slot-ne-BOOSTER
unfolding bad_item
returns-then-slot-ne-BOOSTER c =
    let a = c.args in
    let o : a.reserved ≡ 0 = omega arith in
    λ i s z x. simp (s, z, x, o, le-ltb 11 a.slot (omega arith), lt-ltb 255 a.index (omega arith), ne_eqb a.slot 9 (λ e. omega (arith, e)))

pub returns-then-index-gt-LAST_INDEX : goal.returns-then-index-gt-LAST_INDEX
unfolding bad_item
returns-then-index-gt-LAST_INDEX c =
    let a = c.args in
    let o : a.reserved ≡ 0 = omega arith in
    let k : a.slot ≡ 9 = omega arith in
    λ i s z x. simp (s, z, x, o, k, lt-ltb 255 a.index (omega arith), ne_eqb a.index 0 (λ e. omega (arith, e)))

pub returns-then-index-eq0 : goal.returns-then-index-eq0
unfolding bad_item
returns-then-index-eq0 c =
    let a = c.args in
    let o : a.reserved ≡ 0 = omega arith in
    let n : a.index ≡ 0 = omega arith in
    λ i s z x. simp (s, z, x, o, n, le-ltb 11 a.slot (omega arith))

pub returns : goal.returns
unfolding bad_item
returns c =
    let a = c.args in
    let o : a.reserved ≡ 0 = omega arith in
    λ i s z x. c.in_bay.ensures ∙ simp (s, z, x, o, le-ltb 11 a.slot (omega arith), le-ltb 255 a.index (omega arith), ne_eqb a.index 0 (λ e. omega (arith, e)))
