-- The hall number: three counts that part the fits, packed into one word; and each fit beside its own list call. By cases on the
-- refusals.
use Prim.Native.Nat.{ℕ, zero, suc, ◌+◌, ◌*◌, ◌/◌, ◌%◌, ◌≤◌, ◌<◌}
use native.Mathlib.Decide.{dec_le}
use native.Mathlib.Omega.{arith}
use mathlib.Core.Path.{◌≡◌, refl, sym, ap, ap₂, ◌∙◌, subst}
use mathlib.Core.Bool.{Bool, true, false, not, ◌&&◌, ◌||◌, cond}
use mathlib.Core.List.{List, [], ◌∷◌, ◌++◌}
use mathlib.Core.Logic.{◌⊎◌, ◌↔◌, inl, inr}
use lib.Dec.{T, T_not, not_T, eqb, eqb→eq, ltb, lt→ltb, nltb→le}
use lib.ListN.{length, take, drop}
use borrow.Author.Tests.{lt-ltb, le-ltb, eq-eqb}
use Rattle.words.specs.Words.{only, count_of, is_empty, any_of, in_order, table_from, first_of}
use Rattle.words.proofs.Tables.{length-table}
use Rattle.image.specs.Bytes.{u32_at}
use Rattle.catalogue.specs.Catalogue.{Catalogue, catalogue_of}
use Rattle.catalogue.specs.Refusals.{catalogue_refusals}
use Rattle.fit.specs.Fit.{fit_of, item_count, result_count}
use Rattle.fit.specs.Refusals.{fit_refusals, fit_refusal}
use Rattle.profile.specs.Profile.{prices_of, bad_profile, bad_prices}
use Rattle.entry.specs.declared.Entry.{Entry}
use Rattle.context.specs.Context.{pairs}
use Rattle.lists.specs.Terms.{main}
use Rattle.lists.specs.Lists.{whole_list, for_reader, list_for}
use Rattle.calls.specs.Answers.{too_short}
use Rattle.fitcheck.specs.Calls.{list_call}
use Rattle.fitcheck.specs.Hall.{fit_count, length_at, fit_start, fits, bad_input, fit_refused, is_clear, is_faulted, HallAnswer, hall_by, hall_call, hall_returned}
use Rattle.promises.specs.Answers.{Outcome, outcome, refusal, count, Conditions, catalogue_conditions, profile_conditions, list_conditions}
use Rattle.promises.specs.Answers.{First, None, Answers}
use Rattle.promises.specs.Halls.{hall_conditions, clear_in, faulted_in, refused_in, HallAnswers, Judged}
use Rattle.promises.proofs.Conditions.{first-is, is_first, none_is, is_none, prefix_first, behind-first, none-join, first-between}
use Rattle.promises.proofs.Lengths.{pairs-short, list_short}
use Rattle.promises.proofs.Calls.{list_answers}

-- ---- three tests of which one passes
bit : Bool → ℕ
bit true = 1
bit false = 0

count-cons : {A : Type 0} (t : A → Bool) (x : A) (l : List A) → count_of t (x ∷ l) ≡ bit (t x) + count_of t l
unfolding count_of only bit
count-cons t x l = go (t x)
  where
    go : (b : Bool) → length (cond b (x ∷ only t l) (only t l)) ≡ bit b + length (only t l)
    go true = omega arith
    go false = omega arith

count-parts : {A : Type 0} (p q r : A → Bool) → ((x : A) → bit (p x) + bit (q x) + bit (r x) ≡ 1) → (l : List A)
    → count_of p l + count_of q l + count_of r l ≡ length l
count-parts p q r h [] = unfold count_of only in refl
count-parts p q r h (x ∷ l) =
    let a = count-cons p x l in
    let b = count-cons q x l in
    let c = count-cons r x l in
    let k = h x in
    let e = count-parts p q r h l in
    omega arith

parts : (c : Catalogue) (b : List ℕ) → bit (is_clear c b) + bit (is_faulted c b) + bit (fit_refused b) ≡ 1
unfolding bit is_clear is_faulted
parts c b = go (fit_refused b) (is_empty (whole_list main c (fit_of b)) && eqb (item_count b) (result_count b))
  where
    go : (r e : Bool) → bit (cond r false e) + bit (not (cond r false e || r)) + bit r ≡ 1
    go true e = refl
    go false true = refl
    go false false = refl

last_of : (a b c : Bool) → T (not (a || b || c)) → T (not b)
last_of true b c h = absurd h
last_of false true c h = absurd h
last_of false false c h = tt

-- ---- three numbers below 256 in one word
module _ (clear faulted refused : ℕ) (p : clear < 256) (q : faulted < 256) where
  abbrev packed : ℕ
  packed = clear + 256 * faulted + 65536 * refused

  lowest : clear_in packed ≡ clear
  lowest = omega arith

  middle : faulted_in packed ≡ faulted
  middle =
      let h : packed / 256 ≡ faulted + 256 * refused = omega arith in
      let k : (faulted + 256 * refused) % 256 ≡ faulted = omega arith in
      ap (λ (n : ℕ). n % 256) h ∙ k

  highest : refused_in packed ≡ refused
  highest = omega arith

-- ---- the call
module _ (catalogue input : List ℕ) where
  abbrev c : Catalogue
  c = catalogue_of catalogue

  total : count_of (is_clear c) (fits input) + count_of (is_faulted c) (fits input) + count_of fit_refused (fits input) ≡ fit_count input
  unfolding fits
  total =
      count-parts (is_clear c) (is_faulted c) fit_refused (parts c) (fits input)
      ∙ length-table 0 (fit_count input) (λ i. take (length_at input i) (drop (fit_start input i) input))

  few : T (not (bad_input input)) → fit_count input ≤ 64
  unfolding bad_input
  few h = nltb→le 64 (fit_count input) (last_of (ltb (length input) 4) (ltb 64 (fit_count input)) _ h)

  go : (k : ℕ) → first_of (hall_conditions catalogue input) ≡ k
      → HallAnswers catalogue input
      (hall_returned (hall_by k
      (HallAnswer.Numbers (count_of (is_clear c) (fits input)) (count_of (is_faulted c) (fits input)) (count_of fit_refused (fits input)))))
  unfolding hall_by hall_returned
  go zero e =
      let n = is_none 4 (hall_conditions catalogue input) (omega arith) e in
      let s = few n.1.1.1.0 in
      let t = total in
      let x = count_of (is_clear c) (fits input) in
      let y = count_of (is_faulted c) (fits input) in
      let z = count_of fit_refused (fits input) in
      let p : x < 256 = omega arith in
      let q : y < 256 = omega arith in
      let l = lowest x y z p q in
      let m = middle x y z p q in
      let n' = highest x y z p q in
      record {
        refused = λ m p. (λ h. absurd (omega arith), λ h. absurd (let q = first-is m (hall_conditions catalogue input) h in omega arith));
        answered = (λ h. n, λ h. omega arith);
        nothing = λ p. absurd (omega arith);
        clear = λ h. l;
        faulted = λ h. m;
        turned_away = λ h. n';
        total = λ h. ap₂ ◌+◌ (ap₂ ◌+◌ l m) n' ∙ t;
        few = λ h. s;
      }
  go (suc k) e =
      record {
        refused = λ m p. (
          λ h. is_first m p (hall_conditions catalogue input) (let q : suc k ≡ m = omega arith in e ∙ q),
          λ h. (let q = first-is m (hall_conditions catalogue input) h in omega arith),
        );
        answered = (λ h. absurd (omega arith), λ h. absurd (let q = none_is (hall_conditions catalogue input) h in omega arith));
        nothing = λ p. omega arith;
        clear = λ h. absurd (omega arith);
        faulted = λ h. absurd (omega arith);
        turned_away = λ h. absurd (omega arith);
        total = λ h. absurd (omega arith);
        few = λ h. absurd (omega arith);
      }

  pub hall_answers : HallAnswers catalogue input (hall_returned (hall_call catalogue input))
  unfolding hall_call catalogue_refusals
  hall_answers = go (first_of (hall_conditions catalogue input)) refl

-- an empty list and two equal numbers
whole_is : {A : Type 0} (l : List A) (m n : ℕ) → T (is_empty l && eqb m n) ↔ ((length l ≡ 0) × (m ≡ n))
unfolding is_empty
whole_is [] m n = (λ h. (refl, eqb→eq m n h), λ h. subst T (sym (eq-eqb m n h.1)) tt)
whole_is (x ∷ l) m n = (λ h. absurd h, λ h. absurd (let e = h.0 in omega arith))

or_left : (b : Bool) → T b → T (b || false)
or_left true t = tt
or_left false t = t

or_false : (b : Bool) → T (b || false) → T b
or_false true t = tt
or_false false t = t

-- no profile is not refused
no_profile : None (profile_conditions [])
unfolding bad_profile bad_prices prices_of is_empty in_order any_of table_from u32_at
no_profile = (tt, (tt, tt))

-- ---- a fit and its list call
module _ (catalogue fit buffer : List ℕ) (fine : None (catalogue_conditions catalogue)) where
  abbrev cat : Catalogue
  cat = catalogue_of catalogue

  abbrev es : List Entry
  es = list_for main cat (fit_of fit)

  -- nothing listed, as many results as items
  abbrev whole : Bool
  whole = is_empty es && eqb (item_count fit) (result_count fit)

  -- those of the fit itself: refusals 4 to 6
  abbrev own_conditions : Conditions
  own_conditions = fit_refusals fit

  abbrev A : Answers (list_conditions main catalogue fit buffer) es buffer (outcome buffer (list_call main catalogue fit buffer))
  A = list_answers main catalogue fit buffer

  -- those behind them: the main page and no profile, and the room
  abbrev brought : Conditions
  brought = (13, ltb 256 (length (pairs cat (fit_of fit)))) ∷ profile_conditions []

  abbrev behind : Conditions
  behind = brought ++ (10, too_short buffer es) ∷ []

  none-brought : None own_conditions → None brought
  unfolding fit_refusals
  none-brought n =
      (subst (λ (b : Bool). T (not b)) (sym (le-ltb 256 (length (pairs cat (fit_of fit))) (pairs-short fit n.0 cat))) tt, no_profile)

  -- none of them: what is left is the room
  long-enough : 24 * length es ≤ length buffer → None own_conditions → None (list_conditions main catalogue fit buffer)
  unfolding fit_refusals too_short
  long-enough h n =
      let enough : None ((10, too_short buffer es) ∷ []) = (subst (λ (b : Bool). T (not b)) (sym (le-ltb (length buffer) (24 * length es) h)) tt, tt) in (
        tt,
        none-join (catalogue_conditions catalogue) (own_conditions ++ behind) fine
            (none-join own_conditions behind n (none-join brought ((10, too_short buffer es) ∷ []) (none-brought n) enough)),
      )

  too_short_lem : length buffer < 24 * length es → None own_conditions → First 10 (list_conditions main catalogue fit buffer)
  unfolding fit_refusals too_short
  too_short_lem h n =
      let short : First 10 ((10, too_short buffer es) ∷ []) = inl (refl, lt→ltb (length buffer) (24 * length es) h) in
      inr (
        tt,
        behind-first 10 (catalogue_conditions catalogue) (own_conditions ++ behind) fine
            (behind-first 10 own_conditions behind n (behind-first 10 brought ((10, too_short buffer es) ∷ []) (none-brought n) short)),
      )

  abbrev o : Outcome
  o = outcome buffer (list_call main catalogue fit buffer)

  -- what the call and the two numbers say of a clear fit, and of a faulted one
  abbrev Clear : Type 0
  Clear = (refusal o ≡ 0) × (count o ≡ 0) × (item_count fit ≡ result_count fit)

  abbrev Faulted : Type 0
  Faulted = (refusal o ≡ 0) × ((0 < count o) ⊎ (item_count fit ≡ result_count fit → ⊥))

  answered : None own_conditions → 24 * length es ≤ length buffer → (refusal o ≡ 0) × (count o ≡ length es)
  answered n h = let a = A.answered.1 (long-enough h n) in (a, A.counted a)

  either : None own_conditions → ((refusal o ≡ 0) × (count o ≡ length es)) ⊎ (refusal o ≡ 10)
  either n = go (dec_le (24 * length es) (length buffer))
    where
      go : Dec (24 * length es ≤ length buffer) → ((refusal o ≡ 0) × (count o ≡ length es)) ⊎ (refusal o ≡ 10)
      go (yes h) = inl (answered n h)
      go (no h) = inr ((A.refused 10 (omega arith)).1 (too_short_lem (omega arith) n))

  passed : None own_conditions → fit_refused fit ≡ false → Judged catalogue fit buffer o
  unfolding is_clear is_faulted list_for for_reader
  passed n r = record { clear = (to_clear, from-clear); turned_away = (λ t. absurd (subst T r t), away); faulted = λ b. (to_faulted b, from-faulted b) }
    where
      clear-is : is_clear cat fit ≡ whole
      clear-is = ap (λ (b : Bool). cond b false whole) r

      faulted-is : is_faulted cat fit ≡ not (whole || false)
      faulted-is = ap (λ (b : Bool). not (cond b false whole || b)) r

      to_clear : T (is_clear cat fit) → Clear
      to_clear t =
          let w = (whole_is es (item_count fit) (result_count fit)).0 (subst T clear-is t) in
          let z = w.0 in
          let q = w.1 in
          let a = answered n (omega arith) in
          (a.0, let e = a.1 in omega arith, omega arith)

      none-listed : Clear → length es ≡ 0
      none-listed h = elim (either n) [ inl a ↦ (let e = a.1 in let k = h.1 in omega arith) | inr b ↦ absurd (let k = h.0 in omega arith) ]

      from-clear : Clear → T (is_clear cat fit)
      from-clear h = subst T (sym clear-is) ((whole_is es (item_count fit) (result_count fit)).1 (none-listed h, let q = h.2 in omega arith))

      away : (4 ≤ refusal o) × (refusal o ≤ 6) → T (fit_refused fit)
      away h = absurd (elim (either n) [ inl a ↦ (let k = h.0 in let l = a.0 in omega arith) | inr b ↦ (let k = h.1 in omega arith) ])

      room : 135696 ≤ length buffer → 24 * length es ≤ length buffer
      room b = let k = list_short fit (unfold fit_refusals in n.0) main cat in omega arith

      not-both : T (is_faulted cat fit) → length es ≡ 0 → item_count fit ≡ result_count fit → ⊥
      not-both t z q = T_not (whole || false) (subst T faulted-is t) (or_left whole ((whole_is es (item_count fit) (result_count fit)).1 (z, q)))

      to_faulted : 135696 ≤ length buffer → T (is_faulted cat fit) → Faulted
      to_faulted b t = (a.0, go (dec_le 1 (length es)))
        where
          a : (refusal o ≡ 0) × (count o ≡ length es)
          a = answered n (room b)

          go : Dec (1 ≤ length es) → (0 < count o) ⊎ (item_count fit ≡ result_count fit → ⊥)
          go (yes h) = inl (let e = a.1 in omega arith)
          go (no h) = inr λ q. not-both t (omega arith) (omega arith)

      from-faulted : 135696 ≤ length buffer → Faulted → T (is_faulted cat fit)
      from-faulted b h = subst T (sym faulted-is) (not_T (whole || false) whole_not)
        where
          whole_not : T (whole || false) → ⊥
          whole_not t =
              let w = (whole_is es (item_count fit) (result_count fit)).0 (or_false whole t) in
              let e = (answered n (room b)).1 in
              let z = w.0 in
              let k = w.1 in
              elim h.1 [ inl p ↦ omega arith | inr q ↦ q (omega arith) ]

  turned : (k : ℕ) → First k own_conditions → fit_refused fit ≡ true → Judged catalogue fit buffer o
  unfolding is_clear is_faulted fit_refusals list_for for_reader
  turned k f r = record {
    clear = (λ t. absurd (subst T clear-is t), λ h. absurd (let a = h.0 in let b = among.0 in let e = is in omega arith));
    turned_away = (λ _. (let b = among.0 in let e = is in omega arith, let b = among.1 in let e = is in omega arith), λ _. subst T (sym r) tt);
    faulted = λ b. (λ t. absurd (subst T faulted-is t), λ h. absurd (let a = h.0 in let b = among.0 in let e = is in omega arith));
  }
    where
      clear-is : is_clear cat fit ≡ false
      clear-is = ap (λ (b : Bool). cond b false whole) r

      faulted-is : is_faulted cat fit ≡ false
      faulted-is = ap (λ (b : Bool). not (cond b false whole || b)) r

      among : (4 ≤ k) × (k ≤ 6)
      among = first-between 4 6 k own_conditions (omega arith) f

      is : refusal o ≡ k
      is =
          (A.refused k (let b = among.0 in omega arith)).1
          (inr (tt, behind-first k (catalogue_conditions catalogue) (own_conditions ++ behind) fine (prefix_first k own_conditions behind f)))

  pub judged : Judged catalogue fit buffer o
  unfolding fit_refused fit_refusal fit_refusals
  judged = go (first_of own_conditions) refl
    where
      go : (k : ℕ) → first_of own_conditions ≡ k → Judged catalogue fit buffer o
      go zero e = passed (is_none 6 own_conditions (omega arith) e) (ap (ltb 0) e)
      go (suc k) e = turned (suc k) (is_first (suc k) (omega arith) own_conditions e) (ap (ltb 0) e ∙ lt-ltb 0 (suc k) (omega arith))
