-- The training call on images that are accepted: what it writes and what it counts, by the walk.
use Prim.Native.Nat.{ℕ, ◌+◌, ◌*◌, ◌-◌, ◌<◌}
use native.Mathlib.Omega.{arith}
use Rattle.std.specs.Prelude.{Ok}
use mathlib.Core.Path.{◌≡◌, refl, sym, ap, ap₂, ◌∙◌}
use mathlib.Core.Bool.{Bool, true, false}
use mathlib.Core.List.{List, [], ◌∷◌, ◌++◌}
use lib.Dec.{ltb}
use lib.ListN.{length}
use Rattle.words.specs.Words.{count_of}
use Rattle.words.proofs.Tables.{length-table}
use Rattle.numbers.specs.Sizes as Sizes
use Rattle.numbers.specs.Refusals as Refusals
use Rattle.catalogue.specs.Catalogue.{Catalogue, catalogue_of}
use Rattle.fit.specs.Fit.{Fit, fit_of, skill_count, result_count, result_of}
use Rattle.fit.specs.Sound as Fits
use Rattle.fit.proofs.Decoded.{levels_length, result-some}
use Rattle.fit.proofs.Soundness.{skill-order}
use Rattle.skill.specs.Skill.{Demand}
use Rattle.skill.specs.Held.{walk_of, HoldsWanted}
use Rattle.skill.specs.declared.walk.Walk.{Walk}
use Rattle.calls.specs.Answers.{no_result, too_many_skills}
use Rattle.calls.specs.Output.{Withheld, output}
use Rattle.calls.proofs.Outputs.{output-true, output-false}
use Rattle.training.specs.Training.{training_of, trained_by, too_many_listed, train_refusals, trained_image}
use Rattle.training.specs.Turns.{turns, is_new, Listed}
use Rattle.training.proofs.Stepping.{trained-turns}
use Rattle.training.proofs.Turning.{turns-listed}
use Rattle.training.proofs.Writing.{image_length}
use Rattle.training.proofs.Counting.{count-listed}

pub skills-length : (b : List ℕ) → length (fit_of b).skills ≡ skill_count b
unfolding fit_of
skills-length b = length-table 0 (skill_count b) _

-- the skills of an image that is not refused
pub fit-listed : (b : List ℕ) → Fits.Sound b → Listed (training_of (fit_of b))
fit-listed b s = record { paired = skills-length b ∙ sym (levels_length b); order = skill-order b s }

-- how long what is written is
pub trained-size : (b : List ℕ) → Fits.Sound b → (steps : ℕ) (ws : List Demand) (n : ℕ)
    → length (turns (training_of (fit_of b)) steps ws).0.ids ≡ n
    → length b - 5 * skill_count b + 5 * n ≡ length (trained_image b (turns (training_of (fit_of b)) steps ws).0)
trained-size b s steps ws n e =
    let t = (turns (training_of (fit_of b)) steps ws).0 in
    let l = image_length b t (omega (arith, s.sized.size)) (turns-listed ws (training_of (fit_of b)) steps (fit-listed b s)).paired in
    omega (arith, l, e, s.sized.size)

module _ (catalogue fit : List ℕ) (result : ℕ) (w : Walk) (v : HoldsWanted catalogue fit result (Ok w))
    (below : result < result_count fit + 2) where
  -- what so many steps lead to
  pub trained-by_turns : Fits.Sound fit → (steps : ℕ)
      → (turns (training_of (fit_of fit)) steps (walk_of w)).0 ≡ training_of (trained_by (catalogue_of catalogue) result steps (fit_of fit))
  trained-by_turns s steps =
      let f = fit_of fit in
      let c = catalogue_of catalogue in
      ap (λ (ws : List Demand). (turns (training_of f) steps ws).0) (v.holds w refl)
      ∙ sym (ap training_of (trained-turns c result steps f (result_of fit result) (result-some fit result below) (fit-listed fit s)))

  -- refusal 16, by what is counted
  pub listed-count : too_many_listed (catalogue_of catalogue) result (fit_of fit)
      ≡ ltb Sizes.most_skills (skill_count fit + count_of (is_new (training_of (fit_of fit))) (walk_of w))
  unfolding too_many_listed
  listed-count =
      let f = fit_of fit in
      let counted = count-listed f result (catalogue_of catalogue) (result_of fit result) (result-some fit result below)
      ∙ sym (ap (count_of (is_new (training_of f))) (v.holds w refl)) in
      ap₂ (λ (x y : ℕ). ltb Sizes.most_skills (x + y)) (skills-length fit) counted

-- ---- which answer: 8 and 9 stand in front of 16
module _ (c : Catalogue) (f : Fit) (result : ℕ) where
  refusals_are : train_refusals c f result
      ≡ (Refusals.no_result, no_result f result)
      ∷ (Refusals.too_many_skills, too_many_skills c f result)
      ∷ (Refusals.too_many_listed, too_many_listed c result f)
      ∷ []
  refusals_are = refl

  module _ (m : List (ℕ × Bool)) (bs : List ℕ) where
    as-they-are : output (train_refusals c f result ++ m) bs
        ≡ output
        ((Refusals.no_result, no_result f result)
        ∷ (Refusals.too_many_skills, too_many_skills c f result)
        ∷ (Refusals.too_many_listed, too_many_listed c result f)
        ∷ m)
        bs
    as-they-are = ap (λ (l : List (ℕ × Bool)). output (l ++ m) bs) refusals_are

    pub train-8 : no_result f result ≡ true → output (train_refusals c f result ++ m) bs ≡ Withheld Refusals.no_result
    train-8 e = as-they-are ∙ output-true Refusals.no_result _ _ (omega arith) e

    module _ (some : no_result f result ≡ false) where
      pub train-9 : too_many_skills c f result ≡ true → output (train_refusals c f result ++ m) bs ≡ Withheld Refusals.too_many_skills
      train-9 e = as-they-are ∙ output-false Refusals.no_result _ _ some ∙ output-true Refusals.too_many_skills _ _ (omega arith) e

      module _ (few : too_many_skills c f result ≡ false) where
        pub train-16 : too_many_listed c result f ≡ true → output (train_refusals c f result ++ m) bs ≡ Withheld Refusals.too_many_listed
        train-16 e =
            as-they-are
            ∙ output-false Refusals.no_result _ _ some
            ∙ output-false Refusals.too_many_skills _ _ few
            ∙ output-true Refusals.too_many_listed _ _ (omega arith) e

        pub train-past : too_many_listed c result f ≡ false → output (train_refusals c f result ++ m) bs ≡ output m bs
        train-past e =
            as-they-are
            ∙ output-false Refusals.no_result _ _ some
            ∙ output-false Refusals.too_many_skills _ _ few
            ∙ output-false Refusals.too_many_listed _ _ e
