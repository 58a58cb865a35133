-- The trimming call: its conditions, what it writes, that the fit's calls answer the same under it, and that it stays as it is when it is
-- trimmed once more. From what the image decodes to.
use Prim.Native.Nat.{ℕ, zero, suc, ◌+◌, ◌≤◌, ◌<◌, ◌^◌, min}
use native.Mathlib.Omega.{arith}
use mathlib.Core.Path.{◌≡◌, refl, sym, ap, subst, ◌∙◌}
use mathlib.Core.Bool.{Bool, true, false, ◌||◌}
use mathlib.Core.List.{List, [], ◌∷◌, ◌++◌}
use mathlib.Core.Logic.{inl, inr, ◌↔◌}
use lib.Dec.{T, ltb, ltb→lt, nltb→le}
use lib.Arith.{le→nltb}
use lib.Ieee.Bits.{is_false}
use lib.ListN.{length, take}
use Rattle.std.specs.Prelude.{slice_get}
use Rattle.words.specs.Words.{any_of, given}
use Rattle.catalogue.specs.Catalogue.{Id, Catalogue, catalogue_of}
use Rattle.catalogue.specs.Refusals.{catalogue_refusals, catalogue_refusal}
use Rattle.catalogue.specs.Sound.{Sound}
use Rattle.catalogue.proofs.Sound.{accepted-sound}
use Rattle.fit.specs.Fit.{Fit, fit_of, all_results, result_at}
use Rattle.fit.specs.Refusals.{fit_refusals}
use Rattle.entry.specs.declared.Entry.{Entry}
use Rattle.context.specs.Context.{Pair, pairs}
use Rattle.profile.specs.Profile.{profile_refusals}
use Rattle.skill.specs.Skill.{wants_too_many, skill_list}
use Rattle.lists.specs.Terms.{Terms, pair_limit, main}
use Rattle.lists.specs.Lists.{list_for}
use Rattle.calls.specs.Answers.{Answer, answer, no_result, too_short, buffer_refusals}
use Rattle.calls.specs.Output.{Output, Written, output, output_by, no_room}
use Rattle.fitcheck.specs.Calls.{no_reader, is_guest, list_call, skill_call}
use Rattle.trim.specs.Trim.{touched, any_too_many, trimmed, trimmed_image}
use Rattle.fitcheck.specs.Trim.{trim_call}
use Rattle.promises.specs.Answers.{outcome, refusal, Conditions, catalogue_conditions, fit_conditions, profile_conditions, None}
use Rattle.promises.specs.Widens.{Fills, written}
use Rattle.promises.specs.Trims.{trim_outcome, trimmed_bytes, trim_own, trim_conditions, SameAnswers, TouchedAlone, CopiedUnder}
use Rattle.promises.proofs.Conditions.{none_is, none-parts, none-join, last-first, prefix_first, front-first, behind-first}
use Rattle.promises.proofs.Conditions.{passed_over, never_first}
use Rattle.promises.proofs.Pages.{few-pairs}
use Rattle.promises.proofs.Calls.{list_answers, skill_answers}
use Rattle.promises.proofs.Widening.{fills}
use Rattle.promises.proofs.Cutting.{bytes-copied}
use Rattle.promises.proofs.Cut.{cut_decodes, cut_refusals, cut_accepted, cut_twice, cut_length}
use Rattle.promises.proofs.Touching.{Keeps, touched-keeps, pairs-same, list_same, over-same, skill-list_same}
use Rattle.promises.proofs.Touching.{touched-same, any-many_same}
use Rattle.promises.proofs.Touched.{not-any, touched-alone}

-- ---- what a call reads of a catalogue
three : {A B C R : Type 0} (k : A → B → C → R) {a a' : A} {b b' : B} {c c' : C} → a ≡ a' → b ≡ b' → c ≡ c' → k a b c ≡ k a' b' c'
three k p q r = cc

five : {A B C D E R : Type 0} (k : A → B → C → D → E → R) {a a' : A} {b b' : B} {c c' : C} {d d' : D} {e e' : E}
    → a ≡ a' → b ≡ b' → c ≡ c' → d ≡ d' → e ≡ e' → k a b c d e ≡ k a' b' c' d' e'
five k p q r s u = cc

-- the list call, by the catalogue's refusals, the pairs and the entries
list-by : Terms → (fit buffer : List ℕ) → Conditions → List Pair → List Entry → Answer
list-by t fit buffer l ps es =
    let page : Conditions = l ++ fit_refusals fit ++ ((13, ltb (pair_limit t) (length ps)) ∷ []) in
    answer ((19, no_reader t) ∷ (page ++ profile_refusals t.profile ++ buffer_refusals buffer es)) es

-- the skill call, by these and by its two limits
skills-by : Terms → (fit : List ℕ) (result : ℕ) (buffer : List ℕ) → Conditions → List Pair → (many over : Bool) → List Entry → Answer
skills-by t fit result buffer l ps many over es =
    let own : Conditions = (8, no_result (fit_of fit) result) ∷ (9, many) ∷ (13, over) ∷ (10, too_short buffer es) ∷ [] in
    answer ((19, no_reader t) ∷ (20, is_guest t) ∷ (l ++ fit_refusals fit ++ ((13, ltb (pair_limit t) (length ps)) ∷ []) ++ own)) es

-- the trimming call, by the catalogue's refusals, its own and the bytes
trim_by : (fit buffer : List ℕ) → Conditions → Bool → List ℕ → Output
trim_by fit buffer l many bs = output (l ++ fit_refusals fit ++ ((9, many) ∷ (10, no_room buffer bs) ∷ [])) bs

module _ (catalogue fit buffer : List ℕ) where
  abbrev c : Catalogue
  c = catalogue_of catalogue

  abbrev f : Fit
  f = fit_of fit

  abbrev ids : List Id
  ids = touched c f

  abbrev bytes : List ℕ
  bytes = trimmed_bytes catalogue fit

  -- a catalogue that 1 to 3 do not refuse
  its_catalogue : None (catalogue_conditions catalogue) → Sound catalogue
  unfolding catalogue_refusal catalogue_refusals
  its_catalogue n = accepted-sound catalogue (none_is (catalogue_conditions catalogue) n)

  -- where no condition holds
  module _ (n : None (trim_conditions catalogue fit buffer)) where
    abbrev of_catalogue_lem : None (catalogue_conditions catalogue)
    of_catalogue_lem = (none-parts (catalogue_conditions catalogue) (fit_conditions fit ++ trim_own catalogue fit buffer) n).0

    abbrev behind-catalogue : None (fit_conditions fit ++ trim_own catalogue fit buffer)
    behind-catalogue = (none-parts (catalogue_conditions catalogue) (fit_conditions fit ++ trim_own catalogue fit buffer) n).1

    abbrev its_own : None (trim_own catalogue fit buffer)
    its_own = (none-parts (fit_conditions fit) (trim_own catalogue fit buffer) behind-catalogue).1

    its_room : length bytes ≤ length buffer
    its_room = nltb→le (length buffer) (length bytes) its_own.1.0

    few : length bytes < 2 ^ 32
    few = let s = its_catalogue of_catalogue_lem in omega (arith, cut_length catalogue ids s, s.small)

  pub trim_answers : Fills 10 (trim_conditions catalogue fit buffer) bytes buffer (trim_outcome catalogue fit buffer)
  unfolding trim_call output catalogue_refusals fit_refusals no_room any_too_many
  trim_answers = fills 10 (trim_conditions catalogue fit buffer) (omega arith) bytes buffer few its_room

  -- ---- an answered call
  module _ (answered : refusal (trim_outcome catalogue fit buffer) ≡ 0) where
    none : None (trim_conditions catalogue fit buffer)
    none = trim_answers.answered.0 answered

    sound : Sound catalogue
    sound = its_catalogue (of_catalogue_lem none)

    is_cut : written (trim_outcome catalogue fit buffer) ≡ bytes
    is_cut =
        ap (λ (k : ℕ). take k (trim_outcome catalogue fit buffer).buffer) (trim_answers.counted answered) ∙ trim_answers.front answered

    pub trim_accepted : catalogue_refusal (written (trim_outcome catalogue fit buffer)) ≡ 0
    trim_accepted = ap catalogue_refusal is_cut ∙ cut_accepted catalogue ids sound

    pub trim_decodes : catalogue_of (written (trim_outcome catalogue fit buffer)) ≡ trimmed c ids
    trim_decodes = ap catalogue_of is_cut ∙ cut_decodes catalogue ids sound

    pub trim_touches : TouchedAlone c f (catalogue_of (written (trim_outcome catalogue fit buffer)))
    trim_touches =
        subst (TouchedAlone c f) (sym trim_decodes)
        (touched-alone c f (not-any (wants_too_many 512 c) (all_results f) (its_own none).0))

    pub trim_copies : CopiedUnder catalogue ids (written (trim_outcome catalogue fit buffer))
    trim_copies =
        subst (λ (b : List ℕ). CopiedUnder catalogue ids b) (sym is_cut) (bytes-copied catalogue ids sound.size sound.small)

    decoded : catalogue_of bytes ≡ trimmed c ids
    decoded = cut_decodes catalogue ids sound

    keeps : Keeps c f ids
    keeps = touched-keeps c f

    -- ---- read under both
    refusals_same : catalogue_refusals bytes ≡ catalogue_refusals catalogue
    refusals_same = cut_refusals catalogue ids sound ∙ sym fine
      where
        fine : catalogue_refusals catalogue ≡ (1, false) ∷ (2, false) ∷ (3, false) ∷ []
        fine = unfold catalogue_refusals in
            let n = of_catalogue_lem none in
            three (λ (x y z : Bool). (1, x) ∷ (2, y) ∷ (3, z) ∷ []) (is_false _ n.0) (is_false _ n.1.0) (is_false _ n.1.1.0)

    pairs-both : pairs (catalogue_of bytes) f ≡ pairs c f
    pairs-both = ap (λ (x : Catalogue). pairs x f) decoded ∙ pairs-same c f ids keeps

    list-both : (t : Terms) → list_for t (catalogue_of bytes) f ≡ list_for t c f
    list-both t = ap (λ (x : Catalogue). list_for t x f) decoded ∙ list_same c f ids keeps t

    over-both : (limit n : ℕ) → limit ≤ 512
        → given (result_at f n) false (wants_too_many limit (catalogue_of bytes)) ≡ given (result_at f n) false (wants_too_many limit c)
    over-both limit n h =
        ap (λ (x : Catalogue). given (result_at f n) false (wants_too_many limit x)) decoded
        ∙ over-same c f ids keeps limit n h

    skills-both : (n : ℕ) → skill_list (catalogue_of bytes) f n ≡ skill_list c f n
    skills-both n = ap (λ (x : Catalogue). skill_list x f n) decoded ∙ skill-list_same c f ids keeps n

    touched-both : touched (catalogue_of bytes) f ≡ ids
    touched-both = ap (λ (x : Catalogue). touched x f) decoded ∙ touched-same c f ids keeps

    many-both : any_too_many (catalogue_of bytes) f ≡ any_too_many c f
    many-both = ap (λ (x : Catalogue). any_too_many x f) decoded ∙ any-many_same c f ids keeps

    same-under : SameAnswers fit bytes catalogue
    same-under = record {
      lists = λ t room. unfold list_call list-by in three (list-by t fit room) refusals_same pairs-both (list-both t);
      skills = λ t n room.
          let most : min t.skills 512 ≤ 512 = omega arith in
          unfold skill_call skills-by in
          five (skills-by t fit n room) refusals_same pairs-both (over-both 512 n (omega arith)) (over-both (min t.skills 512) n most)
          (skills-both n);
    }

    pub trim_same : SameAnswers fit (written (trim_outcome catalogue fit buffer)) catalogue
    trim_same = subst (λ (b : List ℕ). SameAnswers fit b catalogue) (sym is_cut) same-under

    -- ---- trimmed once more
    again : trimmed_bytes bytes fit ≡ bytes
    again = ap (trimmed_image bytes) touched-both ∙ cut_twice catalogue ids sound

    call_again : (other : List ℕ) → trim_call bytes fit other ≡ trim_call catalogue fit other
    unfolding trim_call trim_by
    call_again other = three (trim_by fit other) refusals_same many-both again

    module _ (other : List ℕ) (room : length bytes ≤ length other) where
      none_other : None (trim_conditions catalogue fit other)
      none_other =
          none-join (catalogue_conditions catalogue) (fit_conditions fit ++ trim_own catalogue fit other) (of_catalogue_lem none)
          (none-join (fit_conditions fit) (trim_own catalogue fit other)
          (none-parts (fit_conditions fit) (trim_own catalogue fit buffer) (behind-catalogue none)).0
          ((its_own none).0, (le→nltb (length other) (length bytes) room, tt)))

      twice_is : trim_call bytes fit other ≡ Written bytes
      twice_is = call_again other ∙ go
        where
          go : trim_call catalogue fit other ≡ Written bytes
          go = unfold trim_call output output_by catalogue_refusals fit_refusals no_room any_too_many in
              ap (λ (k : ℕ). output_by k bytes) (none_is (trim_conditions catalogue fit other) none_other)

    pub trim_twice : (other : List ℕ) → length (written (trim_outcome catalogue fit buffer)) ≤ length other
        → trim_call (written (trim_outcome catalogue fit buffer)) fit other ≡ Written (written (trim_outcome catalogue fit buffer))
    trim_twice other =
        subst (λ (b : List ℕ). length b ≤ length other → trim_call b fit other ≡ Written b) (sym is_cut) (λ room. twice_is other room)

  -- ---- room for the catalogue is enough
  pub trim_room : length catalogue ≤ length buffer → refusal (trim_outcome catalogue fit buffer) ≡ 10 → ⊥
  trim_room room h =
      let many = any_of (wants_too_many 512 c) (all_results f) in
      let front : Conditions = catalogue_conditions catalogue ++ (fit_conditions fit ++ ((9, many) ∷ [])) in
      let k = last-first 10 front (ltb (length buffer) (length bytes)) (omega arith) ((trim_answers.refused 10 (omega arith)).0 h) in
      let s = its_catalogue (none-parts (catalogue_conditions catalogue) (fit_conditions fit ++ ((9, many) ∷ [])) k.0).0 in
      omega (arith, cut_length catalogue ids s, ltb→lt (length buffer) (length bytes) k.1, room)

-- ---- 1 to 6 as the list call gives them, 9 as the skill call of a result does
any_at : {A : Type 0} (t : A → Bool) (l : List A) → T (any_of t l) → (n : ℕ) × (n < length l) × T (given (slice_get l n) false t)
unfolding any_of given
any_at t [] h = absurd h
any_at t (x ∷ l) h = go (t x) refl h (any_at t l)
  where
    go : (b : Bool) → t x ≡ b → T (b || any_of t l) → (T (any_of t l) → (n : ℕ) × (n < length l) × T (given (slice_get l n) false t))
        → (n : ℕ) × (n < suc (length l)) × T (given (slice_get (x ∷ l) n) false t)
    go true e h f = (0, omega arith, subst T (sym e) tt)
    go false e h f = let r = f h in let k = r.1 in (suc r.0, omega (arith, k), r.2)

at_any : {A : Type 0} (t : A → Bool) (l : List A) (n : ℕ) → T (given (slice_get l n) false t) → T (any_of t l)
unfolding any_of given
at_any t [] n h = absurd h
at_any t (x ∷ l) zero h = go (t x) h
  where
    go : (b : Bool) → T b → T (b || any_of t l)
    go true h = tt
    go false h = absurd h
at_any t (x ∷ l) (suc n) h = go (t x) (at_any t l n h)
  where
    go : (b : Bool) → T (any_of t l) → T (b || any_of t l)
    go true h = tt
    go false h = h

module _ (catalogue fit buffer other : List ℕ) where
  abbrev images : Conditions
  images = catalogue_conditions catalogue ++ fit_conditions fit

  abbrev g : Fit
  g = fit_of fit

  abbrev over : Bool
  over = ltb 256 (length (pairs (catalogue_of catalogue) g))

  -- what stands behind the images in the list call
  abbrev lists : Conditions
  lists = (13, over) ∷ (profile_conditions [] ++ (10, too_short other (list_for main (catalogue_of catalogue) g)) ∷ [])

  pub trim_as_list : (n : ℕ) → 0 < n → n ≤ 6
      → (refusal (trim_outcome catalogue fit buffer) ≡ n) ↔ (refusal (outcome other (list_call main catalogue fit other)) ≡ n)
  trim_as_list n some low =
      let t = (trim_answers catalogue fit buffer).refused n some in
      let s = (list_answers main catalogue fit other).refused n some in
      let own = trim_own catalogue fit buffer in
      let no_own = never_first n own (λ e. omega (arith, e, low), (λ e. omega (arith, e, low), tt)) in
      let no_lists = never_first n lists
      (λ e. omega (arith, e, low), (λ e. omega (arith, e, low), (λ e. omega (arith, e, low), (λ e. omega (arith, e, low), tt)))) in
      let page = passed_over n 19 [] false (images ++ lists) (λ e. omega (arith, e, low)) (λ _. tt) in (
        λ h. s.1 (page.1 (prefix_first n images lists (front-first n images own no_own (t.0 h)))),
        λ h. t.1 (prefix_first n images own (front-first n images lists no_lists (page.0 (s.0 h)))),
      )

  module _ (result : ℕ) where
    abbrev many : ℕ → Bool
    many limit = given (result_at g result) false (wants_too_many limit (catalogue_of catalogue))

    abbrev asked : Conditions
    asked = (13, over) ∷ (8, ltb (length g.results + 1) result) ∷ []

    abbrev room : Conditions
    room = (13, many 512) ∷ (10, too_short other (skill_list (catalogue_of catalogue) g result)) ∷ []

    -- 9 of the skill call
    nine-is : refusal (outcome other (skill_call main catalogue fit result other)) ≡ 9 → None images × T (many 512)
    nine-is h =
        let s = ((skill_answers main catalogue fit result other).refused 9 (omega arith)).0 h in
        let rest : Conditions = images ++ asked ++ ((9, many 512) ∷ room) in
        let a = (passed_over 9 19 [] false ((20, false) ∷ rest) (λ e. omega (arith, e)) (λ _. tt)).0 s in
        let b = (passed_over 9 20 [] false rest (λ e. omega (arith, e)) (λ _. tt)).0 a in
        let k = last-first 9 (images ++ asked) (many 512) (omega arith)
        (front-first 9 (images ++ asked ++ ((9, many 512) ∷ [])) room (never_first 9 room (omega arith)) b) in
        ((none-parts images asked k.0).0, k.1)

    is_nine : None images → result < length g.results + 2 → T (many 512)
        → refusal (outcome other (skill_call main catalogue fit result other)) ≡ 9
    is_nine n below m =
        ((skill_answers main catalogue fit result other).refused 9 (omega arith)).1
        (inr (
          tt,
          inr (
            tt,
            behind-first 9 images (asked ++ ((9, many 512) ∷ room)) n
                (inr (
                  few-pairs main catalogue fit (omega arith) n,
                  inr (le→nltb (length g.results + 1) result (omega (arith, below)), inl (refl, m)),
                )),
          ),
        ))

  pub trim_as_skills : (refusal (trim_outcome catalogue fit buffer) ≡ 9)
      ↔ ((result : ℕ) × (refusal (outcome other (skill_call main catalogue fit result other)) ≡ 9))
  unfolding result_at
  trim_as_skills =
      let t = (trim_answers catalogue fit buffer).refused 9 (omega arith) in
      let test = wants_too_many 512 (catalogue_of catalogue) in
      let short : Conditions = (10, ltb (length buffer) (length (trimmed_bytes catalogue fit))) ∷ [] in
      let any = any_of test (all_results g) in (
        λ h.
            let no_short = never_first 9 short (omega arith) in
            let k = last-first 9 images any (omega arith) (front-first 9 (images ++ ((9, any) ∷ [])) short no_short (t.0 h)) in
            let r = any_at test (all_results g) k.1 in
            let below : r.0 < length g.results + 2 = let l = r.1 in omega (arith, l) in
            (r.0, is_nine r.0 k.0 below r.2),
        λ h.
            let k = nine-is h.0 h.1 in
            t.1 (behind-first 9 images ((9, any) ∷ short) k.0 (inl (refl, at_any test (all_results g) h.0 k.1))),
      )
