-- What the results of a fit want, one result after the other.
use Prim.Native.Nat.{ℕ, ◌+◌, ◌<◌, ◌≤◌}
use native.Mathlib.Omega.{arith}
use mathlib.Core.Path.{◌≡◌, refl, sym, ap, ap₂, ◌∙◌}
use mathlib.Core.Bool.{Bool, true, false, ◌||◌}
use mathlib.Core.List.{List, [], ◌++◌, map}
use lib.ListN.{length}
use Rattle.std.specs.Prelude.{Result, Ok, Err, IsOk, IsErr}
use Rattle.words.specs.Words.{table, each, any_of}
use Rattle.words.proofs.Tables.{length-table, any-more, each_none, each_more}
use Rattle.numbers.specs.Sizes as Sizes
use Rattle.catalogue.specs.Catalogue.{Id, catalogue_of}
use Rattle.fit.specs.Fit as Fit
use Rattle.fit.specs.Fit.{fit_of, result_count, result_of, all_results}
use Rattle.fit.proofs.Decoded.{all_results_lem}
use Rattle.skill.specs.Skill.{Demand, noted, met_from, wanted_skills, wants_too_many}
use Rattle.skill.specs.Held.{zip_to, held_at, walk_of, all_demands}
use Rattle.skill.proofs.Together.{all-few, all-skills}
use Rattle.skill.specs.declared.walk.Walk.{Walk}
use Rattle.skill.specs.declared.walk.TooMany.{TooMany}
use Rattle.trim.specs.Trim.{wanted_ids, touched, any_too_many}
use Rattle.trim.specs.Marked.{named}
use Rattle.trim.specs.Windows.{MarkedMore, MarkedWanted, Cleared, Filled}
use Rattle.trim.specs.declared.window.Window.{Window}
use Rattle.trim.proofs.Marking.{marked_moved, more-none, more-more, more-same, more-alike}
use Rattle.trim.proofs.Naming.{any_here, named-touched}

-- whether a result wants too many
abbrev pub over : List ℕ → Fit.Result → Bool
over catalogue r = wants_too_many Sizes.most_wanted (catalogue_of catalogue) r

-- what the first j results want
abbrev pub wanted_to : (catalogue fit : List ℕ) → ℕ → List Id
wanted_to catalogue fit j = each (table j (result_of fit)) (wanted_ids (catalogue_of catalogue))

-- all results are the first result_count + 2
pub any-over : (catalogue fit : List ℕ)
    → any_too_many (catalogue_of catalogue) (fit_of fit) ≡ any_of (over catalogue) (table (result_count fit + 2) (result_of fit))
unfolding any_too_many
any-over catalogue fit = ap (any_of (over catalogue)) (all_results_lem fit)

pub wanted-all : (catalogue fit : List ℕ)
    → wanted_to catalogue fit (result_count fit + 2) ≡ each (all_results (fit_of fit)) (wanted_ids (catalogue_of catalogue))
wanted-all catalogue fit = sym (ap (λ (r : List Fit.Result). each r (wanted_ids (catalogue_of catalogue))) (all_results_lem fit))

-- one that wants too many is among all
pub one-over : (catalogue fit : List ℕ) (j : ℕ) → j < result_count fit + 2 → over catalogue (result_of fit j) ≡ true
    → any_too_many (catalogue_of catalogue) (fit_of fit) ≡ true
one-over catalogue fit j h e = any-over catalogue fit ∙ any_here (over catalogue) (result_count fit + 2) (result_of fit) j h e

-- before the first
pub wanted-first : (w : Window) (catalogue fit : List ℕ) → MarkedMore w w (wanted_to catalogue fit 0)
wanted-first w catalogue fit =
    more-same w w [] _ (sym (each_none (result_of fit) (wanted_ids (catalogue_of catalogue)))) (more-none w w refl refl refl)

-- one more
pub wanted-more : (u v w : Window) (fit : List ℕ) (j : ℕ) (ds : List Demand) → MarkedMore u v (wanted_to u.catalogue.now fit j)
    → ds ≡ wanted_skills (catalogue_of v.catalogue.now) (result_of fit j) → MarkedMore v w (map (λ (d : Demand). d.0) ds)
    → MarkedMore u w (wanted_to u.catalogue.now fit (j + 1))
wanted-more u v w fit j ds h e m =
    let b = u.catalogue.now in
    let wants = e ∙ ap (λ (c : List ℕ). wanted_skills (catalogue_of c) (result_of fit j)) h.catalogue in
    let more = ap (λ (l : List Id). wanted_to b fit j ++ l) (ap (map (λ (d : Demand). d.0)) wants)
    ∙ sym (each_more (result_of fit) (wanted_ids (catalogue_of b)) j) in
    more-same u w _ _ more (more-more u v w _ _ h m)

pub over-more : (b c fit : List ℕ) (j : ℕ) → c ≡ b → any_of (over b) (table j (result_of fit)) ≡ false → false ≡ over c (result_of fit j)
    → any_of (over b) (table (j + 1) (result_of fit)) ≡ false
over-more b c fit j e h q =
    any-more (over b) j (result_of fit)
    ∙ ap₂ (λ (x y : Bool). x || y) h (sym (q ∙ ap (λ (k : List ℕ). over k (result_of fit j)) e))

-- ---- what is said at the end
no_both : (r : Result (Unit {0}) TooMany) → IsErr r → IsOk r → ⊥
no_both (Ok x) e h = cc
no_both (Err x) e h = cc

-- one result wants too many
pub wanted-refused : (u v : Window) (fit : List ℕ) (j : ℕ) (r : Result (Unit {0}) TooMany)
    → MarkedMore u v (wanted_to u.catalogue.now fit j) → IsErr r → j < result_count fit + 2 → true ≡ over v.catalogue.now (result_of fit j) → MarkedWanted u v fit r
wanted-refused u v fit j r h e p q =
    let b = u.catalogue.now in
    let many = sym (q ∙ ap (λ (k : List ℕ). over k (result_of fit j)) h.catalogue) in
    record {
      many = e ∙ sym (one-over b fit j p many);
      catalogue = h.catalogue;
      low = h.low;
      marks = λ k. absurd (no_both r e k);
    }

-- none does
pub wanted-finished : (u v : Window) (fit : List ℕ) (n : ℕ) → n ≡ result_count fit + 2
    → any_of (over u.catalogue.now) (table n (result_of fit)) ≡ false
    → MarkedMore u v (wanted_to u.catalogue.now fit n) → MarkedWanted u v fit (Ok tt)
wanted-finished u v fit n e few h =
    let b = u.catalogue.now in
    record {
      many = sym (any-over b fit ∙ ap (λ (k : ℕ). any_of (over b) (table k (result_of fit))) (sym e) ∙ few);
      catalogue = h.catalogue;
      low = h.low;
      marks = λ k. more-same u v _ _ (ap (wanted_to b fit) e ∙ wanted-all b fit) h;
    }

-- one walk has room for what all want
pub wanted-together : (u v : Window) (fit : List ℕ) (w : Walk)
    → walk_of w ≡ noted (met_from (catalogue_of u.catalogue.now)
    (all_demands (catalogue_of u.catalogue.now) (fit_of fit)) Sizes.most_wanted)
    → w.len ≤ Sizes.most_wanted → MarkedMore u v (map (λ (d : Demand). d.0) (walk_of w)) → MarkedWanted u v fit (Ok tt)
unfolding any_too_many zip_to
wanted-together u v fit w e few h =
    let c = catalogue_of u.catalogue.now in
    let f = fit_of fit in
    let long : length (walk_of w) ≤ Sizes.most_wanted = omega (arith, few, length-table 0 w.len (held_at w.ids w.levels)) in
    record {
      many = sym (all-few c f (walk_of w) e long);
      catalogue = h.catalogue;
      low = h.low;
      marks = λ k. more-alike u v _ _ (all-skills c f (walk_of w) e long) h;
    }

-- a window that is marked anew
pub filled : (t u v w : Window) (fit : List ℕ) (place : ℕ) (r : Result (Unit {0}) TooMany) → Cleared t u place
    → MarkedMore u v (named (fit_of fit)) → MarkedWanted v w fit r → Filled t w fit place r
filled t u v w fit place r c n m =
    let b = t.catalogue.now in
    let same = n.catalogue ∙ c.catalogue in
    let first = marked_moved b u.catalogue.now [] place u.low u.marks.now (sym c.catalogue) (sym c.low) c.marks in
    let ids = ap (λ (k : List ℕ). named (fit_of fit) ++ each (all_results (fit_of fit)) (wanted_ids (catalogue_of k))) same
    ∙ named-touched (catalogue_of b) (fit_of fit) in
    record {
      catalogue = m.catalogue ∙ same;
      low = m.low ∙ n.low ∙ c.low;
      many = m.many ∙ ap (λ (k : List ℕ). any_too_many (catalogue_of k) (fit_of fit)) same;
      marks = λ k.
          let more = more-same u w _ _ ids (more-more u v w _ _ n (m.marks k)) in
          marked_moved u.catalogue.now b (touched (catalogue_of b) (fit_of fit)) u.low place w.marks.now c.catalogue c.low
          (more.marks [] first);
    }
