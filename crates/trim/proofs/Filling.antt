-- A window that is marked anew is marked for all that a fit touches, and what a trimmer is made of.
use Prim.Native.Nat.{ℕ}
use mathlib.Core.Path.{◌≡◌, refl, sym, ap, ◌∙◌, subst}
use mathlib.Core.Bool.{Bool, true, false, true≢false}
use mathlib.Core.List.{List, []}
use Rattle.std.specs.Prelude.{Result, Ok, Err, is_err, IsOk, IsErr}
use Rattle.catalogue.specs.Catalogue.{catalogue_of}
use Rattle.fit.specs.Fit.{fit_of}
use Rattle.skill.specs.declared.walk.TooMany.{TooMany}
use Rattle.trim.specs.Trim.{touched, any_too_many}
use Rattle.trim.specs.Marked.{Marked}
use Rattle.trim.specs.Windows.{Filled}
use Rattle.trim.specs.Trimmers.{MadeOf}
use Rattle.trim.specs.declared.window.Window.{Window}
use Rattle.trim.specs.declared.trimmer.Trimmer.{Trimmer}

is-ok : {A E : Type 0} (r : Result A E) → is_err r ≡ false → IsOk r
is-ok (Ok x) e = refl
is-ok (Err x) e = absurd (true≢false e)

-- whether any result wants too many skills
abbrev many : (catalogue fit : List ℕ) → Bool
many catalogue fit = any_too_many (catalogue_of catalogue) (fit_of fit)

module _ (w v : Window) (fit : List ℕ) (place : ℕ) (r : Result (Unit {0}) TooMany) (h : Filled w v fit place r)
    (few : many w.catalogue.now fit ≡ false) where
  pub filled-few : many v.catalogue.now fit ≡ false
  filled-few = ap (λ (b : List ℕ). many b fit) h.catalogue ∙ few

  pub filled_whole : Marked v.catalogue.now (touched (catalogue_of v.catalogue.now) (fit_of fit)) v.low v.marks.now
  filled_whole =
      let m = h.marks (is-ok r (h.many ∙ few)) in
      let at = subst (λ (l : ℕ). Marked w.catalogue.now (touched (catalogue_of w.catalogue.now) (fit_of fit)) l v.marks.now) (sym h.low) m in
      subst (λ (b : List ℕ). Marked b (touched (catalogue_of b) (fit_of fit)) v.low v.marks.now) (sym h.catalogue) at

-- the images of one that is made
catalogue_in : Result Trimmer TooMany → List ℕ
catalogue_in (Ok t) = t.window.catalogue.now
catalogue_in (Err e) = []

fit_in : Result Trimmer TooMany → List ℕ
fit_in (Ok t) = t.fit.now
fit_in (Err e) = []

pub made_ok : (b f : List ℕ) (t : Trimmer) → many b f ≡ false → t.window.catalogue.now ≡ b → t.fit.now ≡ f → MadeOf b f (Ok t)
unfolding catalogue_in fit_in
made_ok b f t few e q = record {
  many = sym few;
  catalogue_same = λ u h. ap catalogue_in (sym h) ∙ e;
  fit_same = λ u h. ap fit_in (sym h) ∙ q;
}

pub made_err : (b f : List ℕ) (r : Result Trimmer TooMany) → IsErr r → many b f ≡ true → MadeOf b f r
made_err b f r e h = record {
  many = e ∙ sym h;
  catalogue_same = λ u q. absurd (true≢false (sym e ∙ ap is_err q));
  fit_same = λ u q. absurd (true≢false (sym e ∙ ap is_err q));
}
