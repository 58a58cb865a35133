-- `Keys::skip` meets its contract: half of the keys or none, by the rank of the last of them.
use Rattle.std.proofs.Common.{◌≡◌, ℕ, ◌+◌, ◌-◌, ◌*◌, cond, ltb, ap, ◌∙◌, arith}
use Rattle.keys.proofs.Skips.{halves, at_most_half}
use Rattle.keys.proofs.Keys.skip.Goals as goal

pub overflow_mul-result : goal.overflow_mul-result
overflow_mul-result c =
    let b = (ltb c.rank_at.result c.args.key) in
    omega (arith, halves c.args.half b c.under.ensures, at_most_half c.args.half b, c.requires.1, c.args.self.now.within, c.well_formed)

pub overflow_add-result : goal.overflow_add-result
overflow_add-result c =
    let b = (ltb c.rank_at.result c.args.key) in
    omega (arith, halves c.args.half b c.under.ensures, at_most_half c.args.half b, c.requires.1, c.args.self.now.within, c.well_formed)

pub overflow_sub-result : goal.overflow_sub-result
overflow_sub-result c =
    let b = (ltb c.rank_at.result c.args.key) in
    omega (arith, halves c.args.half b c.under.ensures)

pub returns : goal.returns
returns c =
    let a = c.args in
    let b = (ltb c.rank_at.result a.key) in
    let e : a.base + a.half * c.under.result - 2 * a.half ≡ a.base + cond b a.half 0 = omega (arith, halves a.half b c.under.ensures) in
    e ∙ ap (λ (x : ℕ). a.base + cond (ltb x a.key) a.half 0) c.rank_at.ensures
