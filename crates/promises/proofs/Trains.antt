-- The training call: its conditions, what it writes, and what each step does to the skill list. From what the steps lead to.
use Prim.Native.Nat.{ℕ, zero, suc, ◌+◌, ◌*◌, ◌-◌, ◌^◌, ◌≤◌, ◌<◌}
use native.Mathlib.Numerals.{add-one}
use native.Mathlib.Omega.{arith}
use mathlib.Core.Path.{◌≡◌, refl, sym, ap, ap₂, subst, ◌∙◌}
use mathlib.Core.Bool.{Bool, true, false, not, cond}
use mathlib.Core.List.{List, [], ◌∷◌, ◌++◌, map}
use Rattle.std.specs.Prelude.{Some}
use mathlib.Core.Logic.{◌⊎◌, inl, inr, ◌↔◌}
use lib.Dec.{T, ltb, leb, nltb→le}
use lib.ListN.{length, take, drop}
use borrow.Author.Tests.{lt-ltb, le-ltb, le-leb, lt-leb, ltb-false}
use Rattle.words.specs.Words.{each, when, count_of, is_empty, contains, same, any_of, given}
use Rattle.words.proofs.All.{All}
use Rattle.words.proofs.Elements.{or_left, or_right}
use Rattle.catalogue.specs.Catalogue.{Id, Catalogue, catalogue_of}
use Rattle.fit.specs.Fit.{Fit, fit_of, result_at, result_count, result_of, items_at}
use Rattle.fit.specs.Refusals.{bad_size, bad_order, bad_field, fit_refusals, fit_refusal}
use Rattle.catalogue.specs.Refusals.{catalogue_refusals}
use Rattle.fit.specs.Sound as Fit
use Rattle.fit.proofs.Decoded.{results-length, result-some}
use Rattle.fit.proofs.Soundness.{sound, first_bad}
use Rattle.fit.proofs.Soundness.{refusal as fit-refusal}
use Rattle.entry.specs.declared.Entry.{Entry}
use Rattle.entry.specs.declared.Rule.TheVariants.{Skill}
use Rattle.entry.specs.Entries.{fields}
use Rattle.context.specs.Context.{pairs}
use Rattle.skill.specs.Skill.{Demand, walk_within, wanted_skills, met, target_of, entry_of, reported, wants_too_many, skill_list}
use Rattle.lists.specs.Terms.{main}
use Rattle.skill.specs.Wanted.{Once}
use Rattle.training.specs.Training.{Training, training_of, trained_as, skill_of, step_by, step, trained_by, too_many_listed, trained_image}
use Rattle.training.specs.Turns.{level_of, gain, turns, Listed}
use Rattle.training.proofs.Raising.{gain-own, gain-other}
use Rattle.training.proofs.Stepping.{stepped, steps, split_lt, past, own, stepped_higher, all-given, list_of, trained-steps}
use Rattle.training.proofs.Turning.{turns-listed}
use Rattle.training.proofs.Writing.{image_length}
use Rattle.training.proofs.Counting.{count-listed}
use Rattle.training.proofs.Calling.{skills-length, fit-listed}
use Rattle.training.proofs.Lacking.{missing_of, absent, missing-steps, missing-entries, empty-entries}
use Rattle.training.proofs.Room.{turns-size}
use Rattle.training.proofs.Ranges.{InRange, skills-range, wanted-range, turns-range}
use Rattle.training.proofs.Decoding.{trained-decodes, trained-accepted}
use Rattle.training.proofs.Copying.{sizes_copied, rest-copied, own_image}
use Rattle.calls.specs.Answers.{too_short}
use Rattle.calls.specs.Output.{output, no_room}
use Rattle.fitcheck.specs.Calls.{skill_call}
use Rattle.fitcheck.specs.Train.{train_call}
use Rattle.promises.specs.Answers.{outcome, refusal, Conditions, catalogue_conditions, fit_conditions, First, None}
use Rattle.promises.specs.Widens.{Fills, written}
use Rattle.promises.specs.Compare.{Bytes}
use Rattle.promises.specs.Trains.{train_outcome, trained_bytes, train_own, train_conditions, missing, Onward, Copied}
use Rattle.promises.proofs.Conditions.{none-parts, prefix_first, front-first, passed_over, never_first}
use Rattle.promises.proofs.Pages.{few-pairs}
use Rattle.promises.proofs.Calls.{skill_answers}
use Rattle.promises.proofs.Widening.{fills}
use Rattle.skill.proofs.Walking.{noted-once}

abbrev ids_in : List Demand → List Id
ids_in ws = map (λ w. w.0) ws

-- ---- one more step at the end
steps_last : (ws : List Demand) (k : ℕ) (s : Training) → steps ws (suc k) s ≡ stepped ws (steps ws k s)
unfolding steps
steps_last ws zero s = refl
steps_last ws (suc k) s = steps_last ws k (stepped ws s)

less_than : (m k : ℕ) → leb (m - k) 0 ≡ leb m k
less_than m k = go (split_lt k m)
  where
    go : (k < m) ⊎ (m ≤ k) → leb (m - k) 0 ≡ leb m k
    go (inl h) = lt-leb (m - k) 0 (omega (arith, h)) ∙ sym (lt-leb m k h)
    go (inr h) = le-leb (m - k) 0 (omega (arith, h)) ∙ sym (le-leb m k h)

-- ---- the list after a step
module _ (f : Fit) (n : ℕ) where
  abbrev list_at : Training → List Demand → List Entry
  list_at s ws = reported (trained_as f s) n ws

  -- a skill raised that is none of some wanted ones
  list_other : (ws : List Demand) (s : Training) (t : Id) (k : ℕ) → contains t (ids_in ws) ≡ false → list_at (gain s t k) ws ≡ list_at s ws
  unfolding each entry_of contains any_of
  list_other [] s t k h = refl
  list_other (w ∷ ws) s t k h =
      ap₂ (λ (l : ℕ) (r : List Entry). when (ltb l w.1) (record { target = target_of n; rule = Skill w.0 w.1 l }) ++ r)
      (gain-other s t k w.0 (or_left (same t w.0) (contains t (ids_in ws)) h))
      (list_other ws s t k (or_right (same t w.0) (contains t (ids_in ws)) h))

  -- the first wanted skill, by its level
  first-lacks : (w : Demand) (ws : List Demand) (s : Training) → level_of s w.0 < w.1
      → list_at s (w ∷ ws) ≡ record { target = target_of n; rule = Skill w.0 w.1 (level_of s w.0) } ∷ list_at s ws
  unfolding each entry_of when
  first-lacks w ws s h =
      ap (λ (b : Bool). cond b (record { target = target_of n; rule = Skill w.0 w.1 (level_of s w.0) } ∷ []) [] ++ list_at s ws) (lt-ltb (level_of s w.0) w.1 h)

  first-has : (w : Demand) (ws : List Demand) (s : Training) → w.1 ≤ level_of s w.0 → list_at s (w ∷ ws) ≡ list_at s ws
  unfolding each entry_of when
  first-has w ws s h =
      ap (λ (b : Bool). cond b (record { target = target_of n; rule = Skill w.0 w.1 (level_of s w.0) } ∷ []) [] ++ list_at s ws) (le-ltb (level_of s w.0) w.1 h)

  abbrev entry : Demand → ℕ → Entry
  entry w l = record { target = target_of n; rule = Skill w.0 w.1 l }

  -- what a step does to the first wanted skill, where it lacks
  raised-first : (w : Demand) (ws : List Demand) (s : Training)
      → level_of (gain s w.0 1) w.0 ≡ level_of s w.0 + 1 → list_at (gain s w.0 1) ws ≡ list_at s ws
      → Onward (entry w (level_of s w.0) ∷ list_at s ws) (list_at (gain s w.0 1) (w ∷ ws))
  unfolding fields skill_of
  raised-first w ws s up rest = go (split_lt (level_of (gain s w.0 1) w.0) w.1)
    where
      go : (level_of (gain s w.0 1) w.0 < w.1) ⊎ (w.1 ≤ level_of (gain s w.0 1) w.0)
          → Onward (entry w (level_of s w.0) ∷ list_at s ws) (list_at (gain s w.0 1) (w ∷ ws))
      go (inl l) = inr (first-lacks w ws (gain s w.0 1) l ∙ ap₂ (λ (k : ℕ) (es : List Entry). entry w k ∷ es) up rest)
      go (inr l) = inl (first-has w ws (gain s w.0 1) l ∙ rest)

  pub step-onward : (ws : List Demand) (s : Training) → Once (ids_in ws) → Listed s → Onward (list_at s ws) (list_at (stepped ws s) ws)
  step-onward [] s o g = unfold each in refl
  step-onward (w ∷ ws) s o g = go (split_lt (level_of s w.0) w.1) (step-onward ws s o.1 g)
    where
      go : (level_of s w.0 < w.1) ⊎ (w.1 ≤ level_of s w.0) → Onward (list_at s ws) (list_at (stepped ws s) ws)
          → Onward (list_at s (w ∷ ws)) (list_at (stepped (w ∷ ws) s) (w ∷ ws))
      go (inl h) r =
          let rest = list_other ws s w.0 1 (absent w.0 (ids_in ws) o.0) in
          subst (λ (x : Training). Onward (list_at s (w ∷ ws)) (list_at x (w ∷ ws))) (sym (own w ws s h))
          (subst (λ (l : List Entry). Onward l (list_at (gain s w.0 1) (w ∷ ws))) (sym (first-lacks w ws s h))
          (raised-first w ws s (gain-own s w.0 1 g) rest))
      go (inr h) r =
          let more = stepped_higher ws s w.0 g in
          subst (λ (x : Training). Onward (list_at s (w ∷ ws)) (list_at x (w ∷ ws))) (sym (past w ws s h))
          (subst (λ (l : List Entry). Onward l (list_at (stepped ws s) (w ∷ ws))) (sym (first-has w ws s h))
          (subst (λ (l : List Entry). Onward (list_at s ws) l) (sym (first-has w ws (stepped ws s) (omega (arith, h, more)))) r))

-- ---- a fit that is not refused, and one of its results
module _ (c : Catalogue) (fit : List ℕ) (result : ℕ) (s : Fit.Sound fit) (below : result < result_count fit + 2) where
  abbrev f : Fit
  f = fit_of fit

  abbrev ws : List Demand
  ws = wanted_skills c (result_of fit result)

  abbrev first : Training
  first = training_of f

  abbrev after : ℕ → Training
  after k = steps ws k first

  there : result_at f result ≡ Some (result_of fit result)
  there = result-some fit result below

  once : Once (ids_in ws)
  once = unfold walk_within in noted-once (met c (result_of fit result) 512)

  start : Listed first
  start = fit-listed fit s

  given-all : (k : ℕ) → after k ≡ (turns first k ws).0
  given-all k = all-given ws k first start

  listed : (k : ℕ) → Listed (after k)
  listed k = subst Listed (sym (given-all k)) (turns-listed ws first k start)

  reached : (k : ℕ) → trained_by c result k f ≡ trained_as f (after k)
  reached k = trained-steps c result k f (result_of fit result) there

  still : (t : Training) → result_at (trained_as f t) result ≡ Some (result_of fit result)
  still t = unfold result_at in there

  list_after_lem : (k : ℕ) → skill_list c (trained_by c result k f) result ≡ list_at f result (after k) ws
  list_after_lem k = ap (λ (x : Fit). skill_list c x result) (reached k) ∙ list_of c result (trained_as f (after k)) (result_of fit result) (still (after k))

  -- no step adds an entry
  pub onward : (k : ℕ) → Onward (skill_list c (trained_by c result k f) result) (skill_list c (trained_by c result (k + 1) f) result)
  onward k =
      let e : after (k + 1) ≡ stepped ws (after k) = ap (λ (m : ℕ). after m) (add-one k) ∙ steps_last ws k first in
      subst (λ (l : List Entry). Onward l (skill_list c (trained_by c result (k + 1) f) result)) (sym (list_after_lem k))
      (subst (λ (l : List Entry). Onward (list_at f result (after k) ws) l)
      (sym (list_after_lem (k + 1) ∙ ap (λ (x : Training). list_at f result x ws) e))
      (step-onward f result ws (after k) once (listed k)))

  missing-first : missing (skill_list c f result) ≡ missing_of ws first
  missing-first = ap missing (list_of c result f (result_of fit result) there) ∙ missing-entries f result ws

  -- empty from the step that is the sum of what is missing on
  pub empty-when : (k : ℕ) → is_empty (skill_list c (trained_by c result k f) result) ≡ leb (missing (skill_list c f result)) k
  empty-when k =
      ap is_empty (list_after_lem k)
      ∙ empty-entries (trained_as f (after k)) result ws
      ∙ ap (λ (m : ℕ). leb m 0) (missing-steps ws k first once start)
      ∙ less_than (missing_of ws first) k
      ∙ ap (λ (m : ℕ). leb m k) (sym missing-first)

  module _ (few : too_many_listed c result f ≡ false) where
    size : (k : ℕ) → length (after k).ids ≤ 1024
    unfolding too_many_listed
    size k =
        let a = turns-size ws first k start in
        let b = ltb-false 1024 (length f.skills + count_of (λ (e : Entry). not (contains (skill_of e.rule) f.skills)) (skill_list c f result)) few in
        let n = count-listed f result c (result_of fit result) there in
        let e = ap (λ (x : Training). length x.ids) (given-all k) in
        omega (arith, a, b, n, e)

    range : (k : ℕ) → All InRange (after k).ids
    range k =
        subst (λ (x : Training). All InRange x.ids) (sym (given-all k))
        (turns-range ws first k (wanted-range 512 c (result_of fit result)) (skills-range fit))

    as_trained : (k : ℕ) → training_of (trained_by c result k f) ≡ after k
    as_trained k = ap training_of (reached k)

    pub decodes : (k : ℕ) → fit_of (trained_image fit (training_of (trained_by c result k f))) ≡ trained_by c result k f
    decodes k =
        ap (λ (x : Training). fit_of (trained_image fit x)) (as_trained k)
        ∙ trained-decodes fit (after k) s.sized (listed k).paired (size k) (range k)
        ∙ sym (reached k)

    pub accepts : (k : ℕ) → fit_refusal (trained_image fit (training_of (trained_by c result k f))) ≡ 0
    accepts k =
        ap (λ (x : Training). fit_refusal (trained_image fit x)) (as_trained k)
        ∙ trained-accepted fit (after k) s.sized (listed k).paired (size k) (range k) (listed k).order s.order s.fields

    pub copies : (k : ℕ) → Copied fit (trained_image fit (training_of (trained_by c result k f)))
    copies k =
        let t = training_of (trained_by c result k f) in
        let long : 28 ≤ length fit = omega (arith, s.sized.size) in
        let paired = subst (λ (x : Training). length x.ids ≡ length x.levels) (sym (as_trained k)) (listed k).paired in
        let new = ap (λ (x : Fit). 28 + 5 * length x.skills) (decodes k) in
        let old : items_at fit ≡ 28 + 5 * length f.skills = omega (arith, skills-length fit) in (
          sizes_copied fit t long,
          ap (λ (n : ℕ). drop n (trained_image fit t)) new ∙ rest-copied fit t long paired ∙ ap (λ (n : ℕ). drop n fit) old,
        )

    pub short : (k : ℕ) → length (trained_image fit (training_of (trained_by c result k f))) < 2 ^ 32
    short k =
        let e = ap (λ (x : Training). length (trained_image fit x)) (as_trained k) in
        let l = image_length fit (after k) (omega (arith, s.sized.size)) (listed k).paired in
        omega (arith, e, l, size k, s.sized.size, s.sized.skills, s.sized.items, s.sized.results, s.sized.attributes)

-- ---- a step on an empty list
pub step-none : (c : Catalogue) (n : ℕ) (f : Fit) → skill_list c f n ≡ [] → step c n f ≡ f
unfolding step step_by
step-none c n f e = ap (step_by f) e

steps_none : (c : Catalogue) (n k : ℕ) (f : Fit) → skill_list c f n ≡ [] → trained_by c n k f ≡ f
unfolding trained_by
steps_none c n zero f e = refl
steps_none c n (suc k) f e = ap (trained_by c n k) (step-none c n f e) ∙ steps_none c n k f e

-- ---- what an answered call knows
no : (b : Bool) → T (not b) → b ≡ false
no true h = absurd h
no false h = refl

sound-of : (fit : List ℕ) → None (fit_conditions fit) → Fit.Sound fit
sound-of fit h =
    sound fit
    (fit-refusal fit
    ∙ ap (λ (x : Bool). first_bad x (bad_order (fit_of fit)) (bad_field (fit_of fit))) (no (bad_size fit) h.0)
    ∙ ap₂ (λ (x y : Bool). first_bad false x y) (no (bad_order (fit_of fit)) h.1.0) (no (bad_field (fit_of fit)) h.1.1.0))

module _ (catalogue fit : List ℕ) (result steps : ℕ) (buffer : List ℕ) where
  abbrev c : Catalogue
  c = catalogue_of catalogue

  abbrev bytes : List ℕ
  bytes = trained_bytes catalogue fit result steps

  module _ (n : None (train_conditions catalogue fit result steps buffer)) where
    abbrev behind-catalogue : None (fit_conditions fit ++ train_own catalogue fit result steps buffer)
    behind-catalogue = (none-parts (catalogue_conditions catalogue) (fit_conditions fit ++ train_own catalogue fit result steps buffer) n).1

    abbrev asked-for : None (train_own catalogue fit result steps buffer)
    asked-for = (none-parts (fit_conditions fit) (train_own catalogue fit result steps buffer) behind-catalogue).1

    its_fit : Fit.Sound fit
    its_fit = sound-of fit (none-parts (fit_conditions fit) (train_own catalogue fit result steps buffer) behind-catalogue).0

    its_result : result < result_count fit + 2
    its_result = omega (arith, nltb→le (length (fit_of fit).results + 1) result asked-for.0, results-length fit)

    its_skills : too_many_listed c result (fit_of fit) ≡ false
    its_skills = unfold too_many_listed in no _ asked-for.1.1.0

    its_room : length bytes ≤ length buffer
    its_room = nltb→le (length buffer) (length bytes) asked-for.1.1.1.0

  pub train_answers : Fills 16 (train_conditions catalogue fit result steps buffer) bytes buffer (train_outcome catalogue fit result steps buffer)
  unfolding train_call output catalogue_refusals fit_refusals no_room too_many_listed
  train_answers =
      fills 16 (train_conditions catalogue fit result steps buffer) (omega arith) bytes buffer
      (λ n. short c fit result (its_fit n) (its_result n) (its_skills n) steps) its_room

  module _ (answered : refusal (train_outcome catalogue fit result steps buffer) ≡ 0) where
    none : None (train_conditions catalogue fit result steps buffer)
    none = train_answers.answered.0 answered

    is_trained : written (train_outcome catalogue fit result steps buffer) ≡ bytes
    is_trained =
        ap (λ (k : ℕ). take k (train_outcome catalogue fit result steps buffer).buffer) (train_answers.counted answered) ∙ train_answers.front answered

    pub trained-accepts : fit_refusal (written (train_outcome catalogue fit result steps buffer)) ≡ 0
    trained-accepts = ap fit_refusal is_trained ∙ accepts c fit result (its_fit none) (its_result none) (its_skills none) steps

    pub trained-fit : fit_of (written (train_outcome catalogue fit result steps buffer)) ≡ trained_by c result steps (fit_of fit)
    trained-fit = ap fit_of is_trained ∙ decodes c fit result (its_fit none) (its_result none) (its_skills none) steps

    pub trained-copies : Copied fit (written (train_outcome catalogue fit result steps buffer))
    trained-copies =
        subst (Copied fit) (sym is_trained) (copies c fit result (its_fit none) (its_result none) (its_skills none) steps)

    pub trained-same : Bytes fit → skill_list c (fit_of fit) result ≡ [] → written (train_outcome catalogue fit result steps buffer) ≡ fit
    trained-same small e =
        is_trained ∙ ap (λ (x : Fit). trained_image fit (training_of x)) (steps_none c result steps (fit_of fit) e)
        ∙ own_image fit (λ i. record { fits = small i }) (omega (arith, (its_fit none).sized.size))

    pub trained-empty : is_empty (skill_list c (fit_of (written (train_outcome catalogue fit result steps buffer))) result)
        ≡ leb (missing (skill_list c (fit_of fit) result)) steps
    trained-empty =
        ap (λ (x : Fit). is_empty (skill_list c x result)) trained-fit ∙ empty-when c fit result (its_fit none) (its_result none) steps

    pub trained-onward : (k : ℕ) → Onward (skill_list c (trained_by c result k (fit_of fit)) result) (skill_list c (trained_by c result (k + 1) (fit_of fit)) result)
    trained-onward k = onward c fit result (its_fit none) (its_result none) k

-- ---- 1 to 9, as the skill call gives them
module _ (catalogue fit : List ℕ) (result steps : ℕ) (buffer other : List ℕ) (n : ℕ) (some : 0 < n) (low : n ≤ 9) where
  abbrev c' : Catalogue
  c' = catalogue_of catalogue

  abbrev images : Conditions
  images = catalogue_conditions catalogue ++ fit_conditions fit

  abbrev asked : Conditions
  asked = (8, ltb (length (fit_of fit).results + 1) result) ∷ (9, given (result_at (fit_of fit) result) false (wants_too_many 512 c')) ∷ []

  -- what stands behind 9 in both calls
  abbrev trains : Conditions
  trains =
      (16, ltb 1024 (length (fit_of fit).skills + count_of (λ (e : Entry). not (contains (skill_of e.rule) (fit_of fit).skills)) (skill_list c' (fit_of fit) result)))
      ∷ (10, ltb (length buffer) (length (trained_bytes catalogue fit result steps)))
      ∷ []

  abbrev lists : Conditions
  lists = (13, given (result_at (fit_of fit) result) false (wants_too_many 512 c')) ∷ (10, too_short other (skill_list c' (fit_of fit) result)) ∷ []

  abbrev over : Bool
  over = ltb 256 (length (pairs c' (fit_of fit)))

  no_trains : First n trains → ⊥
  no_trains = never_first n trains (λ e. omega (arith, e, low), (λ e. omega (arith, e, low), tt))

  no_lists : First n lists → ⊥
  no_lists = never_first n lists (λ e. omega (arith, e, low), (λ e. omega (arith, e, low), tt))

  -- past the readers and the pairs of the main page
  past_page : First n ((19, false) ∷ (20, false) ∷ (images ++ (13, over) ∷ (asked ++ lists))) ↔ First n (images ++ (asked ++ lists))
  past_page =
      let a = passed_over n 19 [] false ((20, false) ∷ (images ++ (13, over) ∷ (asked ++ lists))) (λ e. omega (arith, e, low)) (λ _. tt) in
      let b = passed_over n 20 [] false (images ++ (13, over) ∷ (asked ++ lists)) (λ e. omega (arith, e, low)) (λ _. tt) in
      let d = passed_over n 13 images over (asked ++ lists) (λ e. omega (arith, e, low)) (few-pairs main catalogue fit (omega arith)) in
      (λ h. d.0 (b.0 (a.0 h)), λ h. a.1 (b.1 (d.1 h)))

  pub train_as_skill : (refusal (train_outcome catalogue fit result steps buffer) ≡ n) ↔ (refusal (outcome other (skill_call main catalogue fit result other)) ≡ n)
  train_as_skill =
      let t = (train_answers catalogue fit result steps buffer).refused n some in
      let s = (skill_answers main catalogue fit result other).refused n some in (
        λ h. s.1 (past_page.1 (prefix_first n (images ++ asked) lists (front-first n (images ++ asked) trains no_trains (t.0 h)))),
        λ h. t.1 (prefix_first n (images ++ asked) trains (front-first n (images ++ asked) lists no_lists (past_page.0 (s.0 h)))),
      )
