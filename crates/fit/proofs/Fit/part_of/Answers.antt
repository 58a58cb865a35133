-- `Fit::part_of` meets its contract: what a result has ends where that of the next begins.
use Prim.Native.Nat.{ℕ, ◌+◌, ◌*◌, ◌-◌, ◌≤◌}
use native.Mathlib.Omega.{arith}
use mathlib.Core.Path.{◌≡◌, ap₂}
use lib.ListN.{length, take, drop}
use Rattle.fit.specs.Fit.{attribute_count, count_at, start_at}
use Rattle.fit.proofs.Decoded.{block_begin, block_end, block_within}
use Rattle.fit.proofs.Fit.part_of.Goals as goal

-- where it begins and ends, and that all ends within the block
stands : (c : goal.After-result-1) → let a = c.args in let b = c.self.inside.bytes.now in
    (a.width * c.start_of-start.result ≡ a.width * start_at b a.j)
    × (a.width * c.start_of-end.result ≡ a.width * start_at b a.j + a.width * count_at b a.j)
    × (a.width * start_at b a.j + a.width * count_at b a.j ≤ a.width * attribute_count b)
    × (a.first + a.width * attribute_count b ≤ length b)
stands c =
    let a = c.args in
    let i = c.self.invariant in
    let p = rw (← c.self.view_is) at c.requires in (
      block_begin c.self.inside.bytes.now c.self.inside.starts i.0.sized i.1 a.j p.0 a.width c.start_of-start.ensures,
      block_end c.self.inside.bytes.now c.self.inside.starts i.0.sized i.1 a.j p.0 a.width c.start_of-end.ensures,
      block_within c.self.inside.bytes.now c.self.inside.starts i.0.sized i.1 a.j p.0 a.width,
      p.1,
    )

pub overflow_mul-result : goal.overflow_mul-result
overflow_mul-result c = omega (arith, stands c)

pub overflow_add-result : goal.overflow_add-result
overflow_add-result c = omega (arith, stands c)

pub overflow_mul-result-2 : goal.overflow_mul-result-2
overflow_mul-result-2 c = omega (arith, stands c)

pub overflow_add-result-2 : goal.overflow_add-result-2
overflow_add-result-2 c = omega (arith, stands c)

pub slice_bounds-result-count : goal.slice_bounds-result-count
slice_bounds-result-count c = omega (arith, stands c)

pub slice_bounds-result-start : goal.slice_bounds-result-start
slice_bounds-result-start c = omega (arith, stands c)

pub slice_bounds-result-end : goal.slice_bounds-result-end
slice_bounds-result-end c = omega (arith, stands c)

pub returns : goal.returns
returns c =
    let a = c.args in
    let i = c.self.invariant in
    let p = rw (← c.self.view_is) at c.requires in
    let b = c.self.inside.bytes.now in
    let begin = block_begin b c.self.inside.starts i.0.sized i.1 a.j p.0 a.width c.start_of-start.ensures in
    let end = block_end b c.self.inside.starts i.0.sized i.1 a.j p.0 a.width c.start_of-end.ensures in
    let x = a.first + a.width * c.start_of-start.result in
    let y = a.first + a.width * c.start_of-end.result in
    let from : x ≡ a.first + a.width * start_at b a.j = omega (arith, begin) in
    let long : y - x ≡ a.width * count_at b a.j = omega (arith, begin, end) in
    rw (← c.self.view_is) (ap₂ (λ (k i : ℕ). take k (drop i b)) long from)
