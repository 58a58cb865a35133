-- `Keys::first_near` meets its contract: a guess that passes both tests, or the search.
use Rattle.std.proofs.Common.{ℤ, sym, ap, ◌∙◌, subst, arith, w32}
use mir.ValLaws.{to_z-of_z}
use Rattle.keys.specs.Keys.{rank_of, Parts}
use Rattle.keys.proofs.Skips.{guess_under, guess_over}
use Rattle.keys.proofs.Keys.first_near.Goals as goal

pub returns-then-none_under : goal.returns-then-none_under
returns-then-none_under c =
    let e = c.rank-key.ensures ∙ ap rank_of (to_z-of_z w32 c.args.id c.ranges.id) in
    let keys = c.args.self.now.bytes.now in
    let n = c.args.self.now.n in
    let guess = c.args.guess in
    let within = c.if-guess-self.true in
    record {
      within = within;
      under = λ k h. omega (
        arith,
        guess_under keys n c.rank-key.result guess c.args.self.now.sorted within
            (sym c.all_under.ensures ∙ c.if-all_under.true) k h,
        e,
      );
      beyond = λ k h g. omega (arith, guess_over keys n c.rank-key.result guess c.args.self.now.sorted (sym c.none_under.ensures ∙ c.if-none_under.true) k h g, e);
    }

pub returns : goal.returns
returns c =
    subst (λ (z : ℤ). Parts c.args.self.now.bytes.now c.args.self.now.n z c.first_from.result) (to_z-of_z w32 c.args.id c.ranges.id) c.first_from.ensures
