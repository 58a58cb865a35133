-- Two fits compared: demand 3, of the list call and of the skill call. From `Growth` by the bytes of the entries.
use Prim.Native.Nat.{ℕ, zero, suc, ◌+◌, ◌*◌, ◌^◌, ◌≤◌, ◌<◌, zero-le, suc-le-suc}
use native.Mathlib.Nat.{le_trans, le_of_suc-le-suc, not-suc-le-zero}
use native.Mathlib.Omega.{arith}
use mathlib.Core.Path.{◌≡◌, refl, sym, ap, ap₂, ◌∙◌, subst, subst₂}
use mathlib.Core.Bool.{Bool, true, false, cond}
use mathlib.Core.List.{List, [], ◌∷◌, ◌++◌}
use lib.Dec.{ltb→lt, lt→ltb}
use lib.ListN.{length, get_or, drop}
use Rattle.std.specs.Prelude.{slice_get}
use Rattle.words.specs.Words.{same}
use Rattle.image.specs.Bytes.{u32_at}
use Rattle.catalogue.specs.Catalogue.{Id, Catalogue, catalogue_of}
use Rattle.fit.specs.Fit.{Item, Result, Frame, Fit, all_results, result_at, fit_of, item_count, items_at, item_at}
use Rattle.fit.specs.Lookups.{trained}
use Rattle.entry.specs.declared.Entry.{Entry}
use Rattle.entry.specs.declared.Rule.TheVariants.{NotAHull}
use Rattle.entry.specs.Entries.{on_ship}
use Rattle.skill.specs.Skill.{entry_of, skill_list}
use Rattle.lists.specs.Terms.{Terms}
use Rattle.fitcheck.specs.Calls.{list_call, skill_call}
use Rattle.promises.specs.Answers.{Outcome, outcome, refusal, Conditions, Answers}
use Rattle.promises.specs.Compare.{Bytes, Grown, AddedVolumes, Alike, Stays, Kept}
use Rattle.promises.proofs.Placed.{place, place-rising, place_inside, place-keeps, placed_bind, placed_each, placed_when}
use Rattle.promises.proofs.Rises.{Rises, covers-stays}
use Rattle.promises.proofs.Growth.{Within, begins, list_grows}
use Rattle.words.proofs.All.{All, all-at, all-mem, all_drop, all-table}
use Rattle.promises.proofs.Sounds.{AllSound, list_sound, skills-sound}
use Rattle.promises.proofs.Lengths.{pairs-short}
use Rattle.promises.proofs.Accepted.{sized, list_accepted_lem, asked}
use Rattle.promises.proofs.Answering.{elem_of}
use Rattle.promises.proofs.Calls.{list_answers, skill_answers}

-- ---- from entries to the bytes in two buffers
module _ {es fs : List Entry} {cs ds : Conditions} {b b' : List ℕ} {o o' : Outcome}
    (A : Answers cs es b o) (A' : Answers ds fs b' o') (answered : refusal o ≡ 0) (answered' : refusal o' ≡ 0)
    (p : Within es fs) (s : AllSound es) (s' : AllSound fs) where
  kept : Kept o o'
  kept =
      let d = on_ship NotAHull in
      let n = A.counted answered in
      let m = A'.counted answered' in
      record {
        place = place p;
        rising = λ i j h k. place-rising p i j h (subst (λ (x : ℕ). j < x) n k);
        inside = λ i h. subst (λ (x : ℕ). place p i < x) (sym m) (place_inside p i (subst (λ (x : ℕ). i < x) n h));
        stays = λ i h.
            let l = subst (λ (x : ℕ). i < x) n h in
            let l' = place_inside p i l in
            subst₂ Stays
            (sym (A.entries answered i (get_or es i d) (elem_of d es i l)))
            (sym (A'.entries answered' (place p i) (get_or fs (place p i) d) (elem_of d fs (place p i) l')))
            (covers-stays _ _ (place-keeps d p i l) (all-at d s i l) (all-at d s' (place p i) l'));
      }

-- ---- the list call
u32_small : (b : List ℕ) → Bytes b → (i : ℕ) → u32_at b i < 2 ^ 32
unfolding u32_at
u32_small b h i = omega (arith, h i, h (i + 1), h (i + 2), h (i + 3))

pub quantities : (b : List ℕ) → Bytes b → All (λ (i : Item). i.quantity < 2 ^ 32) (fit_of b).items
unfolding fit_of
quantities b h = all-table (item_at b) (λ i. u32_small b h (items_at b + 12 * i + 4)) 0 (item_count b)

pub list_kept : (t t' : Terms) (catalogue old new before before' : List ℕ) → Alike t t' → Bytes new
    → Grown (fit_of old) (fit_of new) → AddedVolumes (catalogue_of catalogue) (fit_of old) (fit_of new)
    → refusal (outcome before (list_call t catalogue old before)) ≡ 0 → refusal (outcome before' (list_call t' catalogue new before')) ≡ 0
    → Kept (outcome before (list_call t catalogue old before)) (outcome before' (list_call t' catalogue new before'))
list_kept t t' catalogue old new before before' alike bytes g v h h' =
    let c = catalogue_of catalogue in
    let A = list_answers t catalogue old before in
    let A' = list_answers t' catalogue new before' in
    let small = all-mem (all_drop (length (fit_of old).items) (quantities new bytes)) in
    let sound = list_accepted_lem t catalogue old before (A.answered.0 h) in
    let sound' = list_accepted_lem t' catalogue new before' (A'.answered.0 h') in
    kept A A' h h' (list_grows c (fit_of old) (fit_of new) g v small alike)
    (list_sound t c old sound.of_profile (pairs-short old (sized sound) c))
    (list_sound t' c new sound'.of_profile (pairs-short new (sized sound') c))

-- ---- the skill call
untrained : (is : List Id) (t : Id) → trained is [] t ≡ 0
unfolding trained
untrained [] t = refl
untrained (i ∷ is) t = refl

trained-lower : (is : List Id) (ls ms : List ℕ) → ((i : ℕ) → get_or ms i 0 ≤ get_or ls i 0) → (t : Id) → trained is ms t ≤ trained is ls t
unfolding trained
trained-lower [] ls ms h t = zero-le
trained-lower (i ∷ is) ls [] h t = zero-le
trained-lower (i ∷ is) [] (m ∷ ms) h t = go (same i t) (trained-lower is [] ms (λ j. h (suc j)) t)
  where
    go : (b : Bool) → trained is ms t ≤ trained is [] t → cond b m (trained is ms t) ≤ 0
    go true k = h 0
    go false k = subst (λ (x : ℕ). trained is ms t ≤ x) (untrained is t) k
trained-lower (i ∷ is) (l ∷ ls) (m ∷ ms) h t = go (same i t) (trained-lower is ls ms (λ j. h (suc j)) t)
  where
    go : (b : Bool) → trained is ms t ≤ trained is ls t → cond b m (trained is ms t) ≤ cond b l (trained is ls t)
    go true k = h 0
    go false k = k

get_append : {A : Type 0} (l m : List A) (n : ℕ) → n < length l → slice_get (l ++ m) n ≡ slice_get l n
get_append [] m n h = absurd (not-suc-le-zero h)
get_append (x ∷ l) m zero h = refl
get_append (x ∷ l) m (suc n) h = get_append l m n (le_of_suc-le-suc h)

module _ (old new : Fit) (g : Grown old new) where
  all_results_lem : all_results new ≡ all_results old ++ drop (length old.results) new.results
  all_results_lem = ap₂ (λ (k : Frame) (l : List Result). k.ship_result ∷ k.character_result ∷ l) g.frame (begins old.results new.results g.results)

  pub same-result : (n : ℕ) → n ≤ length old.results + 1 → result_at new n ≡ result_at old n
  unfolding result_at
  same-result n h = ap (λ (l : List Result). slice_get l n) all_results_lem ∙ get_append (all_results old) _ n (omega arith)

  skills-grow : (c : Catalogue) (n : ℕ) → n ≤ length old.results + 1 → Within (skill_list c old n) (skill_list c new n)
  unfolding skill_list entry_of
  skills-grow c n h = rw (same-result n h, g.skills) (placed_bind _ λ r. placed_each _ λ w.
      let t = trained-lower old.skills old.levels new.levels g.levels w.0 in
      placed_when _ _ _ _ (λ b. lt→ltb _ _ (le_trans (suc-le-suc t) (ltb→lt _ _ b))) (λ _. record { target = refl; rule = Rises.skill t }))

pub skills-kept : (t t' : Terms) (catalogue old new before before' : List ℕ) (result : ℕ)
    → Grown (fit_of old) (fit_of new)
    → refusal (outcome before (skill_call t catalogue old result before)) ≡ 0 → refusal (outcome before' (skill_call t' catalogue new result before')) ≡ 0
    → Kept (outcome before (skill_call t catalogue old result before)) (outcome before' (skill_call t' catalogue new result before'))
skills-kept t t' catalogue old new before before' n g h h' =
    let c = catalogue_of catalogue in
    let A = skill_answers t catalogue old n before in
    let A' = skill_answers t' catalogue new n before' in
    kept A A' h h' (skills-grow (fit_of old) (fit_of new) g c n (asked t catalogue old n before (A.answered.0 h)).inside)
    (skills-sound c (fit_of old) n) (skills-sound c (fit_of new) n)
