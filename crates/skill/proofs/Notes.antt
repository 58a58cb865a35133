-- The steps of the walk: some demands noted, a skill of the order walked, and the walk's end.
use Prim.Native.Nat.{ℕ, suc, ◌+◌, ◌≤◌, ◌<◌}
use native.Mathlib.Numerals.{add-one}
use native.Mathlib.Omega.{arith}
use mathlib.Core.Path.{◌≡◌, refl, sym, ap, ◌∙◌}
use mathlib.Core.List.{List, [], ◌++◌, foldl, foldl-append}
use Rattle.std.specs.Prelude.{Option, None, Some, Float, option_to_list, Result, Ok, Err, IsOk, IsErr, slice_get}
use lib.IntN.{pos}
use lib.ListN.{length, get_or, take, drop}
use lib.Seq.{take_all}
use borrow.Author.Tests.{lt-ltb, le-ltb}
use Rattle.words.specs.Words.{each, table}
use Rattle.words.proofs.Tables.{length-table, get_or-table, map-table}
use Rattle.words.proofs.Steps.{each_step}
use Rattle.words.proofs.Elements.{elem_table}
use Rattle.catalogue.specs.Catalogue.{Id, Catalogue, catalogue_of}
use Rattle.catalogue.specs.Lookups.{base_value}
use Rattle.fit.specs.Fit.{Result as FitResult, Fit, all_results, result_of, result_count, fit_of}
use Rattle.fit.specs.Lookups.{value}
use Rattle.fit.proofs.Decoded.{all_results_lem}
use Rattle.skill.specs.Skill.{Requirement, required, Demand, demand_of, of_result, of_skill, note, noted, skill_at, met_from, walk_within, wants_too_many}
use Rattle.skill.specs.Held.{requirements_of, zip_to, held_at, walk_of, all_demands, Walks, HoldsAll, HoldsWanted}
use Rattle.skill.specs.declared.walk.Walk.{Walk}
use Rattle.skill.specs.declared.walk.TooMany.{TooMany}
use Rattle.skill.proofs.Zips.{zip_length}
use Rattle.skill.proofs.Requirements.{each_one, result-asks, skill-asks, asks, asks-next, asks-rest}
use Rattle.skill.proofs.Walks.{fold_longer, met_next, met-stays, met-longer}

abbrev pub held : (w : Walk) → length (walk_of w) ≡ w.len
held w = zip_length (pos 0) 0 w.ids w.levels w.len

pub no_ok : {A E : Type 0} (r : Result A E) → IsErr r → IsOk r → ⊥
no_ok (Ok x) e k = cc
no_ok (Err x) e k = cc

-- ---- some demands more
pub noted-more : (start ws : List Demand) (ds es : List Demand) → ws ≡ foldl note start ds → foldl note ws es ≡ foldl note start (ds ++ es)
noted-more start ws ds es e = ap (λ (l : List Demand). foldl note l es) e ∙ sym (foldl-append note start ds es)

-- no list gets shorter by more demands
pub longer : (start ds es : List Demand) → 512 < length (foldl note start ds) → 512 < length (foldl note start (ds ++ es))
longer start ds es h = rw foldl-append (omega (arith, fold_longer es (foldl note start ds)))

-- ---- the rows of what is required
module _ (rows : List (Option Requirement)) (values : Id → Option Float) (start : List Demand) where
  module _ (ws : List Demand) (i : ℕ) (h : i < length rows) (e : ws ≡ foldl note start (asks rows i values)) where
    row-noted : (ds : List Demand) → each (option_to_list (get_or rows i None)) (demand_of values) ≡ ds
        → foldl note ws ds ≡ foldl note start (asks rows (i + 1) values)
    row-noted ds q =
        noted-more start ws (asks rows i values) ds e
        ∙ ap (λ (l : List Demand). foldl note start l) (ap (λ (l : List Demand). asks rows i values ++ l) (sym q) ∙ sym (asks-next rows values i h))

    pub no_row : get_or rows i None ≡ None → ws ≡ foldl note start (asks rows (i + 1) values)
    unfolding each
    no_row n = row-noted [] (rw n)

    pub row-asks : (r : Requirement) (ds : List Demand) → get_or rows i None ≡ Some r → ds ≡ demand_of values r
        → foldl note ws ds ≡ foldl note start (asks rows (i + 1) values)
    row-asks r ds s q = row-noted ds (rw s (each_one (demand_of values) r) ∙ sym q)

  -- all rows, once the last has had its turn
  pub all-noted : (ws : List Demand) (i : ℕ) → length rows ≤ i → ws ≡ foldl note start (asks rows i values)
      → ws ≡ foldl note start (each (requirements_of rows) (demand_of values))
  all-noted ws i h e =
      e ∙ ap (λ (l : List (Option Requirement)). foldl note start (each (requirements_of l) (demand_of values))) (take_all i rows h)

  -- too many by some rows are too many by all
  pub some-over : (ws : List Demand) (i : ℕ) → ws ≡ foldl note start (asks rows i values) → 512 < length ws
      → 512 < length (foldl note start (each (requirements_of rows) (demand_of values)))
  some-over ws i e h =
      rw (asks-rest rows values i) (longer start (asks rows i values) (each (requirements_of (drop i rows)) (demand_of values)) (omega (arith, h, ap length e)))

-- ---- the walk
held-skill : (w : Walk) (i : ℕ) → i < w.len → skill_at (walk_of w) i ≡ Some (get_or w.ids i (pos 0))
unfolding skill_at zip_to
held-skill w i h =
    ap (λ (l : List Id). slice_get l i) (map-table (λ (d : Demand). d.0) w.len (held_at w.ids w.levels))
    ∙ elem_table w.len (λ k. get_or w.ids k (pos 0)) i h

-- what a result asks for, noted after some demands
pub result-noted : (c : Catalogue) (r : FitResult) (ds : List Demand) {rs : List Requirement} → rs ≡ required c → (ws : List Demand) → ws ≡ noted ds
    → foldl note ws (each rs (demand_of (value r))) ≡ noted (ds ++ of_result c r)
unfolding noted
result-noted c r ds {rs} e ws v =
    noted-more [] ws ds (each rs (demand_of (value r))) v ∙ ap (λ (l : List Demand). noted (ds ++ l)) (result-asks c rs e r)

-- and in an empty walk
pub walk_first : (c : Catalogue) (r : FitResult) {rs : List Requirement} → rs ≡ required c → (ws : List Demand) → ws ≡ []
    → foldl note ws (each rs (demand_of (value r))) ≡ noted (of_result c r)
unfolding noted
walk_first c r e ws n = result-noted c r [] e ws n

module _ (c : Catalogue) (ds : List Demand) (i : ℕ) (w : Walk) (v : walk_of w ≡ noted (met_from c ds i)) (h : i < w.len) where
  -- what is met once one skill more is walked
  met-more : met_from c ds (i + 1) ≡ met_from c ds i ++ of_skill c (get_or w.ids i (pos 0))
  met-more = met_next c ds i (get_or w.ids i (pos 0)) (ap (λ (l : List Demand). skill_at l i) (sym v) ∙ held-skill w i h)

  pub walk_step : (t : Id) {rs : List Requirement} → t ≡ get_or w.ids i (pos 0) → rs ≡ required c
      → foldl note (walk_of w) (each rs (demand_of (base_value c t))) ≡ noted (met_from c ds (i + 1))
  unfolding noted
  walk_step t {rs} q e =
      noted-more [] (walk_of w) (met_from c ds i) (each rs (demand_of (base_value c t))) v
      ∙ ap noted (ap (λ (l : List Demand). met_from c ds i ++ l) (skill-asks c rs e t ∙ ap (of_skill c) q) ∙ sym met-more)

module _ (c : Catalogue) (ds : List Demand) (i : ℕ) (h : i ≤ 512) where
  -- a walk that came to its end
  pub walked_all : (w : Walk) → walk_of w ≡ noted (met_from c ds i) → w.len ≤ i → Walks c ds w (Ok tt)
  walked_all w v e =
      let n : length (noted (met_from c ds i)) ≡ w.len = sym (ap length v) ∙ held w in
      let m = ap noted (met-stays c ds i 512 h (omega (arith, e, n))) in
      record {
        many = sym (le-ltb 512 (length (noted (met_from c ds 512))) (omega (arith, e, h, n, ap length m)));
        holds = λ k. v ∙ sym m;
      }

  -- a walk that there was no room for
  pub walked-full : (w : Walk) (x : Result (Unit {0}) TooMany) → IsErr x → 512 < length (noted (met_from c ds i)) → Walks c ds w x
  walked-full w x e o =
      record {
        many = e ∙ sym (lt-ltb 512 (length (noted (met_from c ds 512))) (omega (arith, o, met-longer c ds i 512 h)));
        holds = λ k. absurd (no_ok x e k);
      }

-- ---- of a result
module _ (catalogue fit : List ℕ) (result : ℕ) where
  -- what it demands itself
  abbrev pub own_demands : List Demand
  own_demands = of_result (catalogue_of catalogue) (result_of fit result)

  pub wanted-held : (w : Walk) → Walks (catalogue_of catalogue) own_demands w (Ok tt) → HoldsWanted catalogue fit result (Ok w)
  unfolding walk_within wants_too_many
  wanted-held w k = record { many = k.many; holds = λ w' q. let same : w ≡ w' = cc in rw (← same) (k.holds refl) }

  pub wanted-full : (w : Walk) (e : TooMany) (x : Result Walk TooMany) → IsErr x → Walks (catalogue_of catalogue) own_demands w (Err e)
      → HoldsWanted catalogue fit result x
  unfolding walk_within wants_too_many
  wanted-full w e x g k = record { many = g ∙ k.many; holds = λ w q. absurd (no_ok x g (cc)) }

-- ---- of all results
-- what the first n results ask for
abbrev pub first_demands : Catalogue → Fit → ℕ → List Demand
first_demands c f n = each (take n (all_results f)) (of_result c)

pub next-demands : (c : Catalogue) (fit : List ℕ) (n : ℕ) → n < result_count fit + 2
    → first_demands c (fit_of fit) (n + 1) ≡ first_demands c (fit_of fit) n ++ of_result c (result_of fit n)
next-demands c fit n h =
    let e = all_results_lem fit in
    let s : n + 1 ≡ suc n = add-one n in
    rw (e, s)
    (each_step (of_result c) (table (result_count fit + 2) (result_of fit)) n (result_of fit 0) (omega (arith, h, length-table 0 (result_count fit + 2) (result_of fit)))
    ∙ ap (λ (x : FitResult). each (take n (table (result_count fit + 2) (result_of fit))) (of_result c) ++ of_result c x)
    (get_or-table (result_count fit + 2) (result_of fit) n (result_of fit 0) h))

pub last-demands : (c : Catalogue) (fit : List ℕ) (n : ℕ) → result_count fit + 2 ≤ n → first_demands c (fit_of fit) n ≡ all_demands c (fit_of fit)
last-demands c fit n h =
    ap (λ (l : List FitResult). each l (of_result c))
    (take_all n (all_results (fit_of fit)) (omega (arith, h, ap length (all_results_lem fit), length-table 0 (result_count fit + 2) (result_of fit))))

pub all-held : (catalogue fit : List ℕ) (w : Walk) → Walks (catalogue_of catalogue) (all_demands (catalogue_of catalogue) (fit_of fit)) w (Ok tt)
    → HoldsAll catalogue fit (Ok w)
all-held catalogue fit w k =
    record {
      holds = λ w' q. let same : w ≡ w' = cc in rw (← same) (k.holds refl);
      few = λ w' q. w'.few;
    }
