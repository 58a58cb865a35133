-- `fit_refusals::bad_result` meets its contract: the state and the byte behind it, as the image lists them.
use Prim.Native.Nat.{ℕ, ◌+◌, ◌*◌}
use native.Mathlib.Omega.{arith}
use mathlib.Core.Path.{◌≡◌, ◌∙◌, ap₂, sym}
use mathlib.Core.List.{List}
use borrow.Author.Tests.{lt-ltb, le-ltb}
use Rattle.image.specs.Bytes.{u8_at}
use Rattle.fit.specs.Refusals.{bad_result}
use Rattle.fit.specs.Fit.{result_of}
use Rattle.fit_refusals.proofs.bad_result.Goals as goal

pub returns-then-state-gt-OVERLOAD : goal.returns-then-state-gt-OVERLOAD
unfolding bad_result
returns-then-state-gt-OVERLOAD c =
    let a = c.args in
    let b = a.layout.now in
    let e : c.u8_at-state.result ≡ (result_of b a.j).state = c.u8_at-state.ensures ∙ ap₂ (λ (l : List ℕ) (k : ℕ). u8_at l (k + 4 * a.j)) c.bytes-fit.ensures.0 c.results_at.ensures in
    simp (sym e, lt-ltb 3 c.u8_at-state.result (omega arith))

pub returns : goal.returns
unfolding bad_result
returns c =
    let a = c.args in
    let b = a.layout.now in
    let p = c.bytes-fit.ensures.0 in
    let q = c.results_at.ensures in
    let e : c.u8_at-state.result ≡ (result_of b a.j).state = c.u8_at-state.ensures ∙ ap₂ (λ (l : List ℕ) (k : ℕ). u8_at l (k + 4 * a.j)) p q in
    let z : c.u8_at-reserved.result ≡ (result_of b a.j).reserved = c.u8_at-reserved.ensures ∙ ap₂ (λ (l : List ℕ) (k : ℕ). u8_at l (k + 4 * a.j + 1)) p q in
    simp (sym e, sym z, le-ltb 3 c.u8_at-state.result (omega arith))
