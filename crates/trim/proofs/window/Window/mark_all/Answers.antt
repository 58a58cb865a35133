-- `Window::mark_all` meets its contract. The invariant: the runs of the first i ids are marked.
use Prim.Native.Nat.{ℕ, ◌+◌, ◌-◌, min}
use native.Mathlib.Omega.{arith}
use mathlib.Core.Path.{◌≡◌, refl, ap}
use Rattle.words.specs.Words.{table_from, table}
use Rattle.trim.proofs.Marking.{more-none, more-some, more-same}
use Rattle.trim.proofs.window.Window.mark_all.Goals as goal

pub loop-i-init : goal.loop-i-init
unfolding table_from
loop-i-init g c = (omega arith, λ f h. more-none _ _ refl refl refl)

pub loop-i-preserved : goal.loop-i-preserved
loop-i-preserved g c =
    let l = c.loop-i in
    let n = c.args.n in
    let next : l.i + min 8 (n - l.i) ≡ l.i + c.min-i.result = omega (arith, c.min-i.ensures) in (
      omega (arith, c.min-i.ensures, l.invariant.0),
      λ f h.
          more-same _ _ _ _ (ap (λ (k : ℕ). table k f) next)
          (more-some f n l.i 8 (omega (arith, c.loop-i-test.true)) c.args.self.now l.self c.mark_ids.new.self c.eight_from.result
          (omega (arith, c.eight_from.type_inv)) (c.eight_from.ensures f h) (l.invariant.1 f h) c.mark_ids.ensures),
    )

pub returns : goal.returns
returns g c = λ f h.
    let l = c.loop-i in
    let all : l.i ≡ c.args.n = omega (arith, l.invariant.0, c.loop-i-test.false) in
    more-same _ _ _ _ (ap (λ (k : ℕ). table k f) all) (l.invariant.1 f h)
