-- `lists::most_entries` meets its contract: rule by rule, no list has more.
use native.Mathlib.Omega.{arith}
use Rattle.lists.proofs.Few.{image_few}
use Rattle.lists.proofs.most_entries.Goals as goal

pub returns : goal.returns
returns c =
    let s = c.is_sound.ensures.sized in (
      λ t x. omega (arith, image_few c.args.fit.now x t, c.skill_count.ensures, c.pair_count.ensures),
      omega (arith, s.skills, s.items, c.skill_count.ensures, c.pair_count.ensures),
    )
