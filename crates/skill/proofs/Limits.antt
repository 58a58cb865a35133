-- One walk serves every limit: a smaller one is passed exactly where the walk for a larger one has more skills. By the walk's lists, which
-- grow, and stay once every skill is walked.
use Prim.Native.Nat.{ℕ, ◌+◌, ◌≤◌, ◌<◌}
use native.Mathlib.Omega.{arith}
use mathlib.Core.Path.{◌≡◌, refl, sym, ap, ◌∙◌, subst}
use mathlib.Core.Bool.{Bool, true, false, not}
use mathlib.Core.List.{List}
use Rattle.std.specs.Prelude.{Option, Ok}
use lib.Dec.{T, ltb, nltb→le}
use lib.ListN.{length}
use borrow.Author.Tests.{lt-ltb, ltb-true}
use Rattle.words.specs.Words.{given}
use Rattle.words.proofs.Tables.{length-table}
use Rattle.catalogue.specs.Catalogue.{Catalogue, catalogue_of}
use Rattle.fit.specs.Fit.{Result, fit_of, result_at, result_of, result_count}
use Rattle.fit.proofs.Decoded.{result-some}
use Rattle.skill.specs.Skill.{Demand, of_result, noted, met, walk_within, wants_too_many}
use Rattle.skill.specs.Held.{zip_to, held_at, HoldsWanted}
use Rattle.skill.specs.declared.walk.Walk.{Walk}
use Rattle.skill.proofs.Walks.{met-stays, met-longer}

module _ (c : Catalogue) (r : Result) where
  pub walk_same : (m n : ℕ) → m ≤ n → T (not (wants_too_many m c r)) → walk_within n c r ≡ walk_within m c r
  unfolding walk_within wants_too_many
  walk_same m n h t = ap noted (met-stays c (of_result c r) m n h (nltb→le m (length (noted (met c r m))) t))

  pub small-limit : (m n : ℕ) → m ≤ n → wants_too_many m c r ≡ ltb m (length (walk_within n c r))
  unfolding wants_too_many
  small-limit m n h = go (ltb m (length (walk_within m c r))) refl
    where
      go : (b : Bool) → ltb m (length (walk_within m c r)) ≡ b → ltb m (length (walk_within m c r)) ≡ ltb m (length (walk_within n c r))
      go true e =
          let k = met-longer c (of_result c r) m n h in
          let l : length (walk_within m c r) ≤ length (walk_within n c r) = unfold walk_within in k in
          e ∙ sym (lt-ltb m (length (walk_within n c r)) (let q = ltb-true m (length (walk_within m c r)) e in omega arith))
      go false e = ap (λ (l : List Demand). ltb m (length l)) (sym (walk_same m n h (subst (λ (b : Bool). T (not b)) (sym e) tt)))

-- whether a walk that was not refused is over a smaller limit, as the skill call asks
pub over-limit : (limit : ℕ) (catalogue fit : List ℕ) (result : ℕ) (w : Walk) → HoldsWanted catalogue fit result (Ok w)
    → result < result_count fit + 2
    → limit ≤ 512
    → ltb limit w.len ≡ given (result_at (fit_of fit) result) false (wants_too_many limit (catalogue_of catalogue))
unfolding given zip_to
over-limit limit catalogue fit result w v g h =
    let c = catalogue_of catalogue in
    let r = result_of fit result in
    let e = sym (length-table 0 w.len (held_at w.ids w.levels)) ∙ ap (λ (l : List Demand). length l) (v.holds w refl) in
    ap (ltb limit) e ∙ sym (small-limit c r limit 512 h)
    ∙ sym (ap (λ (o : Option Result). given o false (wants_too_many limit c)) (result-some fit result g))
