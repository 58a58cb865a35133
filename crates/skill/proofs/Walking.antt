-- The walk's list is what `WalkedFrom` says, where it goes to its end. By induction on the demands noted and on the steps walked.
use Prim.Native.Nat.{ℕ, zero, suc, max, ◌≤◌, ◌<◌, zero-le, suc-le-suc}
use native.Mathlib.Nat.{le_refl, le_trans, le_of_suc-le-suc, not-suc-le-zero, eq-or-lt_of_le}
use native.Mathlib.Decide.{dec_le}
use native.Mathlib.Omega.{arith}
use mathlib.Core.Path.{◌≡◌, refl, sym, ap, ◌∙◌, subst}
use mathlib.Core.Bool.{Bool, true, false, not, ◌||◌, cond}
use mathlib.Core.List.Memᴰ
use mathlib.Core.List.{List, [], ◌∷◌, ◌++◌, foldl, foldl-append, map, append-nil, Memᴰ}
use Rattle.std.proofs.lemmas.Option.{same_Some}
use Rattle.std.specs.Prelude.{Option, None, Some}
use mathlib.Core.Logic.{◌⊎◌, ◌↔◌, inl, inr}
use lib.Dec.{T, eqb→eq, eqb_refl, nltb→le}
use lib.IntN.{pos, negsuc}
use lib.ListN.{length}
use Rattle.std.specs.Prelude.{slice_get}
use Rattle.catalogue.specs.Catalogue.{Id, Catalogue}
use Rattle.fit.specs.Fit.{Result}
use Rattle.words.specs.Words.{given, same, contains, any_of}
use Rattle.skill.specs.Skill.{Demand, of_result, of_skill, note, noted, skill_at, met_from, met, walk_within, wants_too_many}
use Rattle.skill.specs.Wanted.{ids_of, WantedFrom, asked, needed, CountsFrom, Once, WalkedFrom, Walked}

-- ---- the test on ids
pub same-eq : (a b : Id) → T (same a b) → a ≡ b
unfolding same
same-eq (pos a) (pos b) h = ap pos (eqb→eq a b h)
same-eq (pos a) (negsuc b) h = absurd h
same-eq (negsuc a) (pos b) h = absurd h
same-eq (negsuc a) (negsuc b) h = ap negsuc (eqb→eq a b h)

pub same_refl : (a : Id) → T (same a a)
unfolding same
same_refl (pos a) = eqb_refl a
same_refl (negsuc a) = eqb_refl a

max-is : (a b : ℕ) → (max a b ≡ a) ⊎ (max a b ≡ b)
max-is a b = elim (dec_le a b) [ yes h ↦ inr (omega arith) | no h ↦ inl (omega arith) ]

None≢Some : {t : Id} → ◌≡◌ {A = Option Id} None (Some t) → ⊥
None≢Some e = let z : ◌≡◌ {A = ℕ} 0 1 = cc in omega arith

-- ---- one demand noted
abbrev Has : List Demand → Id → ℕ → Type 0
Has ws s l = (m : ℕ) × Memᴰ (s, m) ws × (l ≤ m)

has-tail : {w : Demand} {ws : List Demand} {s : Id} {l : ℕ} → Has ws s l → Has (w ∷ ws) s l
has-tail h = (h.0, Memᴰ.tail h.1, h.2)

-- the new demand is covered
note-new : (ws : List Demand) (d : Demand) → Has (note ws d) d.0 d.1
unfolding note
note-new [] d = (d.1, Memᴰ.head refl, le_refl _)
note-new (w ∷ ws) d = go (same w.0 d.0) (same-eq w.0 d.0) (note-new ws d)
  where
    go : (b : Bool) → (T b → w.0 ≡ d.0) → Has (note ws d) d.0 d.1 → Has (cond b ((w.0, max w.1 d.1) ∷ ws) (w ∷ note ws d)) d.0 d.1
    go true e h = (max w.1 d.1, Memᴰ.head (ap (λ (x : Id). (x, max w.1 d.1)) (sym (e tt))), omega arith)
    go false e h = has-tail h

-- what was covered stays so
note-old : (ws : List Demand) (d : Demand) (s : Id) (l : ℕ) → Memᴰ (s, l) ws → Has (note ws d) s l
unfolding note
note-old [] d s l m = absurd (Memᴰ.not-nil m)
note-old (w ∷ ws) d s l m = go (same w.0 d.0) (note-old ws d s l) m
  where
    go : (b : Bool) → (Memᴰ (s, l) ws → Has (note ws d) s l) → Memᴰ (s, l) (w ∷ ws)
        → Has (cond b ((w.0, max w.1 d.1) ∷ ws) (w ∷ note ws d)) s l
    go true f (Memᴰ.head e) =
        let q : l ≡ w.1 = ap (λ (x : Demand). x.1) e in
        (max w.1 d.1, Memᴰ.head (ap (λ (x : Demand). (x.0, max w.1 d.1)) e), omega arith)
    go true f (Memᴰ.tail m) = (l, Memᴰ.tail m, le_refl l)
    go false f (Memᴰ.head e) = (l, Memᴰ.head e, le_refl l)
    go false f (Memᴰ.tail m) = has-tail (f m)

-- nothing else comes in
note-from : (ws : List Demand) (d : Demand) (x : Demand) → Memᴰ x (note ws d) → Memᴰ x ws ⊎ (x ≡ d)
unfolding note
note-from [] d x (Memᴰ.head e) = inr e
note-from [] d x (Memᴰ.tail m) = absurd (Memᴰ.not-nil m)
note-from (w ∷ ws) d x m = go (same w.0 d.0) (same-eq w.0 d.0) (note-from ws d x) m
  where
    later : Memᴰ x ws ⊎ (x ≡ d) → Memᴰ x (w ∷ ws) ⊎ (x ≡ d)
    later (inl m) = inl (Memᴰ.tail m)
    later (inr e) = inr e

    which : w.0 ≡ d.0 → x ≡ (w.0, max w.1 d.1) → (max w.1 d.1 ≡ w.1) ⊎ (max w.1 d.1 ≡ d.1) → Memᴰ x (w ∷ ws) ⊎ (x ≡ d)
    which i e (inl q) = inl (Memᴰ.head (e ∙ ap (λ (n : ℕ). (w.0, n)) q))
    which i e (inr q) = inr (e ∙ ap (λ (n : ℕ). (w.0, n)) q ∙ ap (λ (t : Id). (t, d.1)) i)

    go : (b : Bool) → (T b → w.0 ≡ d.0) → (Memᴰ x (note ws d) → Memᴰ x ws ⊎ (x ≡ d))
        → Memᴰ x (cond b ((w.0, max w.1 d.1) ∷ ws) (w ∷ note ws d))
        → Memᴰ x (w ∷ ws) ⊎ (x ≡ d)
    go true i f (Memᴰ.head e) = which (i tt) e (max-is w.1 d.1)
    go true i f (Memᴰ.tail m) = inl (Memᴰ.tail m)
    go false i f (Memᴰ.head e) = inl (Memᴰ.head e)
    go false i f (Memᴰ.tail m) = later (f m)

-- the order: a place that is taken stays as it is
note-at : (ws : List Demand) (d : Demand) (n : ℕ) (t : Id) → skill_at ws n ≡ Some t → skill_at (note ws d) n ≡ Some t
unfolding note skill_at
note-at [] d n t e = absurd (None≢Some e)
note-at (w ∷ ws) d zero t e = go (same w.0 d.0)
  where
    go : (b : Bool) → slice_get (map (λ (x : Demand). x.0) (cond b ((w.0, max w.1 d.1) ∷ ws) (w ∷ note ws d))) zero ≡ Some t
    go true = e
    go false = e
note-at (w ∷ ws) d (suc n) t e = go (same w.0 d.0) (note-at ws d n t e)
  where
    go : (b : Bool) → slice_get (map (λ (x : Demand). x.0) (note ws d)) n ≡ Some t
        → slice_get (map (λ (x : Demand). x.0) (cond b ((w.0, max w.1 d.1) ∷ ws) (w ∷ note ws d))) (suc n) ≡ Some t
    go true h = e
    go false h = h

-- no id twice
or_not : (a b : Bool) → T (not (a || b)) → T (not a) × T (not b)
or_not true b h = absurd h
or_not false b h = (tt, h)

not-or : (a b : Bool) → T (not a) → T (not b) → T (not (a || b))
not-or true b h k = absurd h
not-or false b h k = k

note-misses : (x : Id) (ws : List Demand) (d : Demand) → T (not (same x d.0)) → T (not (contains x (ids_of ws))) → T (not (contains x (ids_of (note ws d))))
unfolding note contains any_of
note-misses x [] d h k = not-or (same x d.0) false h tt
note-misses x (w ∷ ws) d h k =
    let a = or_not (same x w.0) (any_of (same x) (ids_of ws)) k in
    go (same w.0 d.0) a (note-misses x ws d h a.1)
  where
    go : (b : Bool) → T (not (same x w.0)) × T (not (any_of (same x) (ids_of ws))) → T (not (any_of (same x) (ids_of (note ws d))))
        → T (not (any_of (same x) (ids_of (cond b ((w.0, max w.1 d.1) ∷ ws) (w ∷ note ws d)))))
    go true a r = not-or (same x w.0) _ a.0 a.1
    go false a r = not-or (same x w.0) _ a.0 r

note-once : (ws : List Demand) (d : Demand) → Once (ids_of ws) → Once (ids_of (note ws d))
unfolding note
note-once [] d h = (unfold contains any_of in tt, tt)
note-once (w ∷ ws) d h = go (same w.0 d.0) refl (note-once ws d h.1)
  where
    go : (b : Bool) → same w.0 d.0 ≡ b → Once (ids_of (note ws d)) → Once (ids_of (cond b ((w.0, max w.1 d.1) ∷ ws) (w ∷ note ws d)))
    go true e r = h
    go false e r = (note-misses w.0 ws d (subst (λ (b : Bool). T (not b)) (sym e) tt) h.0, r)

-- ---- many
fold_old : (ds ws : List Demand) (s : Id) (l : ℕ) → Has ws s l → Has (foldl note ws ds) s l
fold_old [] ws s l h = h
fold_old (d ∷ ds) ws s l h =
    let k = note-old ws d s h.0 h.1 in
    fold_old ds (note ws d) s l (k.0, k.1, le_trans h.2 k.2)

fold_new : (ds ws : List Demand) (s : Id) (l : ℕ) → Memᴰ (s, l) ds → Has (foldl note ws ds) s l
fold_new [] ws s l m = absurd (Memᴰ.not-nil m)
fold_new (d ∷ ds) ws s l (Memᴰ.head e) = fold_old ds (note ws d) s l (subst (λ (x : Demand). Has (note ws d) x.0 x.1) (sym e) (note-new ws d))
fold_new (d ∷ ds) ws s l (Memᴰ.tail m) = fold_new ds (note ws d) s l m

fold_from : (ds ws : List Demand) (x : Demand) → Memᴰ x (foldl note ws ds) → Memᴰ x ws ⊎ Memᴰ x ds
fold_from [] ws x m = inl m
fold_from (d ∷ ds) ws x m = later (fold_from ds (note ws d) x m)
  where
    first : Memᴰ x ws ⊎ (x ≡ d) → Memᴰ x ws ⊎ Memᴰ x (d ∷ ds)
    first (inl m) = inl m
    first (inr e) = inr (Memᴰ.head e)

    later : Memᴰ x (note ws d) ⊎ Memᴰ x ds → Memᴰ x ws ⊎ Memᴰ x (d ∷ ds)
    later (inl m) = first (note-from ws d x m)
    later (inr m) = inr (Memᴰ.tail m)

fold_at : (ds ws : List Demand) (n : ℕ) (t : Id) → skill_at ws n ≡ Some t → skill_at (foldl note ws ds) n ≡ Some t
fold_at [] ws n t e = e
fold_at (d ∷ ds) ws n t e = fold_at ds (note ws d) n t (note-at ws d n t e)

fold_once : (ds ws : List Demand) → Once (ids_of ws) → Once (ids_of (foldl note ws ds))
fold_once [] ws h = h
fold_once (d ∷ ds) ws h = fold_once ds (note ws d) (note-once ws d h)

-- the same of `noted`
pub noted-from : (ds : List Demand) (x : Demand) → Memᴰ x (noted ds) → Memᴰ x ds
unfolding noted
noted-from ds x m = elim (fold_from ds [] x m) [ inl n ↦ absurd (Memᴰ.not-nil n) | inr n ↦ n ]

pub noted-at : (ds es : List Demand) (n : ℕ) (t : Id) → skill_at (noted ds) n ≡ Some t → skill_at (noted (ds ++ es)) n ≡ Some t
unfolding noted
noted-at ds es n t e = rw foldl-append (fold_at es (foldl note [] ds) n t e)

pub noted-once : (ds : List Demand) → Once (ids_of (noted ds))
unfolding noted
noted-once ds = fold_once ds [] tt

-- ---- places of the order
at_mem : (ws : List Demand) (n : ℕ) (t : Id) → skill_at ws n ≡ Some t → (l : ℕ) × Memᴰ (t, l) ws
unfolding skill_at
at_mem [] n t e = absurd (None≢Some e)
at_mem (w ∷ ws) zero t e = (w.1, Memᴰ.head (ap (λ (x : Id). (x, w.1)) (sym (same_Some _ _ e))))
at_mem (w ∷ ws) (suc n) t e = let h = at_mem ws n t e in (h.0, Memᴰ.tail h.1)

mem_at : (t : Id) (l : ℕ) (ws : List Demand) → Memᴰ (t, l) ws → (n : ℕ) × (n < length ws) × (skill_at ws n ≡ Some t)
unfolding skill_at
mem_at t l ws (Memᴰ.head e) = (zero, suc-le-suc zero-le, ap Some (ap (λ (x : Demand). x.0) (sym e)))
mem_at t l ws (Memᴰ.tail {xs = xs} m) = let h = mem_at t l xs m in (suc h.0, suc-le-suc h.1, h.2)

-- where a place is taken, so are those before it
at_before : (ws : List Demand) (i n : ℕ) (t : Id) → i ≤ n → skill_at ws n ≡ Some t → (u : Id) × (skill_at ws i ≡ Some u)
unfolding skill_at
at_before [] i n t h e = absurd (None≢Some e)
at_before (w ∷ ws) zero n t h e = (w.0, refl)
at_before (w ∷ ws) (suc i) zero t h e = absurd (not-suc-le-zero h)
at_before (w ∷ ws) (suc i) (suc n) t h e = at_before ws i n t (le_of_suc-le-suc h) e

-- ---- the walk
module _ (c : Catalogue) (start : List Demand) where
  pub counts-wanted : (s : Id) (l : ℕ) → CountsFrom c start s l → WantedFrom c start s
  counts-wanted s l (inl m) = asked m
  counts-wanted s l (inr h) = needed h.1 h.2

  -- every demand met is one that counts
  pub met-counts : (n : ℕ) (s : Id) (l : ℕ) → Memᴰ (s, l) (met_from c start n) → CountsFrom c start s l
  unfolding met_from given
  met-counts zero s l m = inl m
  met-counts (suc n) s l m =
      elim (Memᴰ.append_cases (met_from c start n) m)
      [ inl a ↦ met-counts n s l a | inr b ↦ go (λ t k h. met-counts n t k h) (skill_at (noted (met_from c start n)) n) refl b ]
    where
      go : ((t : Id) (k : ℕ) → Memᴰ (t, k) (met_from c start n) → CountsFrom c start t k)
          → (o : Option Id) → skill_at (noted (met_from c start n)) n ≡ o → Memᴰ (s, l) (given o [] (of_skill c)) → CountsFrom c start s l
      go f None e b = absurd (Memᴰ.not-nil b)
      go f (Some t) e b =
          let h = at_mem (noted (met_from c start n)) n t e in
          inr (t, counts-wanted t h.0 (f t h.0 (noted-from (met_from c start n) (t, h.0) h.1)), b)

  -- and so is the skill of each that is noted
  pub noted-wanted : (n : ℕ) (x : Id) → Memᴰ x (ids_of (noted (met_from c start n))) → WantedFrom c start x
  noted-wanted n x m =
      let h = Memᴰ.of_map (λ (w : Demand). w.0) (noted (met_from c start n)) m in
      let w = h.0 in
      subst (WantedFrom c start) h.2 (counts-wanted w.0 w.1 (met-counts n w.0 w.1 (noted-from (met_from c start n) w h.1)))

  -- the first n skills of the order have been walked: all that they demand has been met
  met-closed : (n i : ℕ) (t : Id) → i < n → skill_at (noted (met_from c start n)) i ≡ Some t → (x : Demand) → Memᴰ x (of_skill c t) → Memᴰ x (met_from c start n)
  unfolding met_from given
  met-closed zero i t h e x m = absurd (not-suc-le-zero h)
  met-closed (suc n) i t h e x m = go (λ u k f. met-closed n i u k f x) (skill_at (noted (met_from c start n)) n) refl e
    where
      go : ((u : Id) → i < n → skill_at (noted (met_from c start n)) i ≡ Some u → Memᴰ x (of_skill c u) → Memᴰ x (met_from c start n))
          → (o : Option Id) → skill_at (noted (met_from c start n)) n ≡ o → skill_at (noted (met_from c start n ++ given o [] (of_skill c))) i ≡ Some t
          → Memᴰ x (met_from c start n ++ given o [] (of_skill c))
      go f None q e =
          let e' : skill_at (noted (met_from c start n)) i ≡ Some t = rw append-nil at e in
          elim (eq-or-lt_of_le (le_of_suc-le-suc h)) [
            | inl j ↦ absurd (None≢Some (sym q ∙ subst (λ (y : ℕ). skill_at (noted (met_from c start n)) y ≡ Some t) j e'))
            | inr k ↦ Memᴰ.append_left [] (f t k e' m)
          ]
      go f (Some u) q e =
          let rest = of_skill c u in
          elim (eq-or-lt_of_le (le_of_suc-le-suc h)) [
            | inl j ↦
                let q' = subst (λ (y : ℕ). skill_at (noted (met_from c start n ++ rest)) y ≡ Some u) (sym j) (noted-at (met_from c start n) rest n u q) in
                Memᴰ.append_right (met_from c start n) (subst (λ (y : Id). Memᴰ x (of_skill c y)) (same_Some t u (sym e ∙ q')) m)
            | inr k ↦
                let v = at_before (noted (met_from c start n)) i n u (le_of_suc-le-suc h) q in
                let p = same_Some t v.0 (sym e ∙ noted-at (met_from c start n) rest i v.0 v.1) in
                Memᴰ.append_left rest (f v.0 k v.1 (subst (λ (y : Id). Memᴰ x (of_skill c y)) p m))
          ]

  met-first : (n : ℕ) (x : Demand) → Memᴰ x start → Memᴰ x (met_from c start n)
  unfolding met_from
  met-first zero x m = m
  met-first (suc n) x m = Memᴰ.append_left _ (met-first n x m)

  noted-new : (n : ℕ) (s : Id) (l : ℕ) → Memᴰ (s, l) (met_from c start n) → Has (noted (met_from c start n)) s l
  unfolding noted
  noted-new n s l m = fold_new (met_from c start n) [] s l m

  -- an order of at most n skills, of which n were walked, is closed: what its skills demand is in it
  module _ (n : ℕ) (short : length (noted (met_from c start n)) ≤ n) where
    met_of : (t : Id) (k : ℕ) → Memᴰ (t, k) (noted (met_from c start n)) → (x : Demand) → Memᴰ x (of_skill c t) → Memᴰ x (met_from c start n)
    met_of t k m x d = let h = mem_at t k (noted (met_from c start n)) m in met-closed n h.0 t (le_trans h.1 short) h.2 x d

    wanted-in : (s : Id) → WantedFrom c start s → (m : ℕ) × Memᴰ (s, m) (noted (met_from c start n))
    wanted-in s (asked {l = l} m) = let h = noted-new n s l (met-first n (s, l) m) in (h.0, h.1)
    wanted-in s (needed {t = t} {l = l} w m) =
        let a = wanted-in t w in
        let h = noted-new n s l (met_of t a.0 a.1 (s, l) m) in
        (h.0, h.1)

    counts-in : (s : Id) (l : ℕ) → CountsFrom c start s l → Has (noted (met_from c start n)) s l
    counts-in s l (inl m) = noted-new n s l (met-first n (s, l) m)
    counts-in s l (inr h) = let a = wanted-in h.0 h.1 in noted-new n s l (met_of h.0 a.0 a.1 (s, l) h.2)

-- The walk that goes to its end: each wanted skill once, at the highest level that is demanded of it.
pub walked_from : (limit : ℕ) (c : Catalogue) (ds : List Demand) → length (noted (met_from c ds limit)) ≤ limit
    → WalkedFrom c ds (noted (met_from c ds limit))
walked_from limit c ds h =
    record {
      once = noted-once (met_from c ds limit);
      sound = λ s l m. met-counts c ds limit s l (noted-from (met_from c ds limit) (s, l) m);
      highest = counts-in c ds limit h;
    }

pub walked : (limit : ℕ) (c : Catalogue) (r : Result) → T (not (wants_too_many limit c r)) → Walked c r (walk_within limit c r)
unfolding walk_within wants_too_many
walked limit c r h = walked_from limit c (of_result c r) (nltb→le limit (length (noted (met c r limit))) h)

-- a skill stands in the list exactly when it is wanted
pub listed-iff_wanted : (c : Catalogue) (ds ws : List Demand) → WalkedFrom c ds ws → (s : Id) → WantedFrom c ds s ↔ ((l : ℕ) × Memᴰ (s, l) ws)
listed-iff_wanted c ds ws w s = (to, λ h. counts-wanted c ds s h.0 (w.sound s h.0 h.1))
  where
    to : WantedFrom c ds s → (l : ℕ) × Memᴰ (s, l) ws
    to (asked {l = l} m) = let h = w.highest s l (inl m) in (h.0, h.1)
    to (needed {t = t} {l = l} v m) = let h = w.highest s l (inr (t, v, m)) in (h.0, h.1)
