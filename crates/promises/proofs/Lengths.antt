-- How many entries a list has at most, in an image whose sizes are within their limits.
use Prim.Native.Nat.{ℕ, ◌*◌, ◌≤◌}
use native.Mathlib.Omega.{arith}
use mathlib.Core.Bool.{Bool, true, false, not, ◌||◌}
use mathlib.Core.List.{List}
use lib.Dec.{T, eqb, ltb, nltb→le}
use lib.ListN.{length}
use Rattle.words.specs.Words.{sum_of, given}
use Rattle.catalogue.specs.Catalogue.{Catalogue}
use Rattle.fit.specs.Fit.{Fit, result_at, all_results, fit_of, skill_count, item_count, result_count, attribute_count, size_of}
use Rattle.fit.specs.Refusals.{bad_size}
use Rattle.context.specs.Context.{pairs}
use Rattle.lists.specs.Terms.{Terms}
use Rattle.lists.specs.Lists.{list_for}
use Rattle.lists.proofs.Few.{Few, few-more, few-when, few-each, few-given, pairs-most, image_few}
use Rattle.skill.specs.Skill.{wants_too_many, walk_within, entry_of, skill_list}

first_two : (a b c d e f : Bool) → T (not (a || b || c || d || e || f)) → T (not a) × T (not b)
first_two true b c d e f h = absurd h
first_two false true c d e f h = absurd h
first_two false false c d e f h = (tt, tt)

-- an image whose sizes are within their limits
module _ (b : List ℕ) (fine : T (not (bad_size b))) where
  sizes : (skill_count b ≤ 1024) × (item_count b ≤ 256)
  unfolding bad_size
  sizes =
      let h =
      first_two (ltb 1024 (skill_count b)) (ltb 256 (item_count b)) (ltb 256 (result_count b)) (ltb 30000 (attribute_count b)) (not (eqb (length b) (size_of b)))
      (not (eqb (sum_of (λ r. length r.attributes) (all_results (fit_of b))) (attribute_count b))) fine in
      (nltb→le 1024 (skill_count b) h.0, nltb→le 256 (item_count b) h.1)

  pub pairs-short : (c : Catalogue) → length (pairs c (fit_of b)) ≤ 256
  pairs-short c = let h = pairs-most b c in let m = sizes.1 in omega arith

  pub list_short : (t : Terms) (c : Catalogue) → length (list_for t c (fit_of b)) ≤ 5654
  list_short t c = let h = image_few b c t in let m = sizes in omega (arith, m.0, m.1)

-- ---- the skill list: an entry for each wanted skill
skills-few : (c : Catalogue) (f : Fit) (n : ℕ) → T (not (given (result_at f n) false (wants_too_many 512 c))) → Few 512 (skill_list c f n)
unfolding skill_list entry_of wants_too_many
skills-few c f n h = few-given (result_at f n) (wants_too_many 512 c) h λ r k.
    let l = nltb→le 512 (length (walk_within 512 c r)) k in
    let m : 1 * length (walk_within 512 c r) ≤ 512 = omega arith in
    few-more m (few-each (walk_within 512 c r) λ w. few-when _ _)

pub skills-short : (c : Catalogue) (f : Fit) (n : ℕ) → T (not (given (result_at f n) false (wants_too_many 512 c))) → length (skill_list c f n) ≤ 512
skills-short c f n h = (skills-few c f n h).most
