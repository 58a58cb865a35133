-- `kept::thinned` meets its contract: one pair more is tried.
use Rattle.std.proofs.Common.{◌≡◌, ℕ, ◌+◌, ◌-◌, ◌≤◌, ◌<◌, List, Bool, true, suc, refl, sym, ap, ◌∙◌, arith}
use lib.ListN.{length, take}
use Rattle.context.specs.Gathered.{pair_count}
use Rattle.parts.specs.Parts.{every, down_from, thinned}
use Rattle.cause.specs.Decided.{passes}
use Rattle.cause.proofs.Trying.{every-true, every-first, thinned-next, thinned-none}
use Rattle.cause.proofs.kept.thinned.Goals as goal

pub loop-k-init : goal.loop-k-init
loop-k-init c =
    let x = c.args.context.now in
    let n = pair_count x.fit.now in
    let t = passes x c.args.shown.own c.args.deciding.now in
    let small : n ≤ 256 = omega (arith, c.is_sound.ensures.sized.items) in
    let q : n - 0 ≡ n = omega arith in (
      refl,
      λ k h. every-true 256 k (omega (arith, h, small)),
      ap (λ (s : List Bool). thinned t s (down_from (n - 0))) (every-first n 256 small) ∙ ap (λ (m : ℕ). thinned t (every n) (down_from m)) q,
    )

pub try_without-requires : goal.try_without-requires
try_without-requires c =
    let l = c.loop-k in
    record {
      inside = c.requires.inside;
      ready = c.requires.ready;
      within = omega (arith, c.pair_count-n.ensures, c.loop-k-test.true);
      untried = λ k h. l.invariant.1 k (omega (arith, h, c.pair_count-n.ensures, c.loop-k-test.true));
      long = l.invariant.0;
    }

pub loop-k-preserved : goal.loop-k-preserved
loop-k-preserved c =
    let l = c.loop-k in
    let x = c.args.context.now in
    let n = pair_count x.fit.now in
    let t = passes x c.args.shown.own c.args.deciding.now in
    let i = c.pair_count-n.result - 1 - l.k in
    let e = c.try_without.ensures in
    let p : n - (l.k + 1) ≡ i = omega (arith, c.pair_count-n.ensures, c.loop-k-test.true) in
    let q : suc i ≡ n - l.k = omega (arith, c.pair_count-n.ensures, c.loop-k-test.true) in
    let after = take n c.try_without.new.kept in (
      e.long,
      λ j h. e.untried j (omega (arith, h, p)),
      ap (λ (m : ℕ). thinned t after (down_from m)) p
          ∙ thinned-next t (take n l.kept) after i e.tried
          ∙ ap (λ (m : ℕ). thinned t (take n l.kept) (down_from m)) q
          ∙ l.invariant.2,
    )

pub returns : goal.returns
returns c =
    let l = c.loop-k in
    let x = c.args.context.now in
    let n = pair_count x.fit.now in
    let t = passes x c.args.shown.own c.args.deciding.now in
    let q : 0 ≡ n - l.k = omega (arith, l.auto, c.pair_count-n.ensures, c.loop-k-test.false) in
    sym (thinned-none t (take n l.kept)) ∙ ap (λ (m : ℕ). thinned t (take n l.kept) (down_from m)) q ∙ l.invariant.2
