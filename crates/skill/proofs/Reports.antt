-- The entries of `report`: how many, and that those of a walk that has ended are the skill list.
use Prim.Native.Nat.{ℕ, zero, suc, ◌+◌, ◌≤◌, ◌<◌}
use native.Mathlib.Omega.{arith}
use mathlib.Core.Path.{◌≡◌, refl, sym, ap, ◌∙◌}
use mathlib.Core.Bool.{false}
use mathlib.Core.List.{List}
use Rattle.std.specs.Prelude.{Option, Some, Result, Ok, is_err}
use lib.Dec.{ltb}
use lib.ListN.{length}
use Rattle.words.specs.Words.{◌>>=◌, given}
use Rattle.words.proofs.Lengths.{few-when}
use Rattle.catalogue.specs.Catalogue.{Catalogue, catalogue_of}
use Rattle.fit.specs.Fit.{Fit, Result as FitResult, fit_of, result_at, result_of, result_count}
use Rattle.fit.specs.Lookups.{trained}
use Rattle.fit.proofs.Decoded.{result-some}
use Rattle.entry.specs.declared.Target.TheVariants.{Ship, Item}
use Rattle.skill.specs.Skill.{Demand, wanted_skills, wants_too_many, target_of, entry_of, reported, skill_list}
use Rattle.skill.specs.Held.{walk_of, HoldsWanted}
use Rattle.skill.specs.declared.walk.Walk.{Walk}
use Rattle.skill.specs.declared.walk.TooMany.{TooMany}

-- the target of a result by its number
pub target_ship : (n : ℕ) → n < 2 → Ship ≡ target_of n
target_ship zero h = refl
target_ship (suc zero) h = refl
target_ship (suc (suc n)) h = absurd (omega (arith, h))

pub target_item : (n i : ℕ) → n ≡ i + 2 → Item i ≡ target_of n
target_item zero i e = absurd (omega (arith, e))
target_item (suc zero) i e = absurd (omega (arith, e))
target_item (suc (suc n)) i e = let q : i ≡ n = omega arith in ap Item q

pub few-entry : (f : Fit) (n : ℕ) (w : Demand) → length (entry_of f n w) ≤ 1
unfolding entry_of
few-entry f n w = few-when (ltb (trained f.skills f.levels w.0) w.1) _

list_of : (c : Catalogue) (f : Fit) (n : ℕ) (r : FitResult) → result_at f n ≡ Some r → skill_list c f n ≡ reported f n (wanted_skills c r)
unfolding skill_list ◌>>=◌
list_of c f n r e = rw e

-- what `report` writes of a walk that was not refused is the skill list
pub reported-all : (catalogue fit : List ℕ) (result : ℕ) (w : Walk) → HoldsWanted catalogue fit result (Ok w) → result < result_count fit + 2
    → reported (fit_of fit) result (walk_of w) ≡ skill_list (catalogue_of catalogue) (fit_of fit) result
reported-all catalogue fit result w v g =
    ap (reported (fit_of fit) result) (v.holds w refl) ∙ sym (list_of (catalogue_of catalogue) (fit_of fit) result (result_of fit result) (result-some fit result g))

-- whether the walk is refused, as the skill call asks
pub too_many : (catalogue fit : List ℕ) (result : ℕ) (r : Result Walk TooMany) → HoldsWanted catalogue fit result r → result < result_count fit + 2
    → is_err r ≡ given (result_at (fit_of fit) result) false (wants_too_many 512 (catalogue_of catalogue))
unfolding given
too_many catalogue fit result r v g =
    v.many ∙ sym (ap (λ (o : Option FitResult). given o false (wants_too_many 512 (catalogue_of catalogue))) (result-some fit result g))
