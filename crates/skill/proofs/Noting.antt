-- What noting a skill does to two arrays and to the list that they hold, by the skill's place.
use mathlib.Core.Path.{◌≡◌, refl, ap, sym, ◌∙◌, subst}
use mathlib.Core.Logic.{◌⊎◌, inl, inr, ⊎_elim}
use mathlib.Core.Bool.{Bool, true, false, cond, true≢false}
use mathlib.Core.List.{List, [], ◌∷◌, ◌++◌}
use Prim.Native.Nat.{ℕ, zero, suc, ◌+◌, ◌<◌, ◌≤◌, max}
use native.Mathlib.Decide.{dec_le}
use native.Mathlib.Omega.{arith}
use native.Mathlib.Nat.{le_of_suc-le-suc, not-suc-le-zero, max-eq_left, max-eq_right}
use lib.ListN.{length, get_or, set, length-append, length-set}
use lib.Seq.{ext_get_or, get_or-set_same, get_or-set_other}
use lib.IntN.{ℤ, pos}
use lib.Dec.{eqb}
use mir.Syntax.{w32}
use mir.Val.{of_z, to_z, SFits}
use mir.ValLaws.{to_z-of_z}
use borrow.Author.Tests.{eqb-true, eqb-false}
use Rattle.words.specs.Words.{same, table}
use Rattle.words.proofs.Sames.{same_refl, same_not}
use Rattle.words.proofs.Tables.{length-table, get_or-table}
use Rattle.skill.specs.Skill.{Demand, note}
use Rattle.skill.specs.Held.{held_at, zip_to, held_of, Placed, New, Noted}
use Rattle.skill.specs.declared.walk.Walk.{Walk}
use Rattle.skill.specs.declared.walk.TooMany.{TooMany}
use Rattle.std.specs.Prelude.{Ok, Err}
use Rattle.skill.proofs.Zips.{pair_eq, zip_put}

-- a place found by an id's bits
pub placed : {ids : List ℤ} {n j : ℕ} (i : ℤ) → SFits w32 i → Placed ids n (to_z w32 (of_z w32 i)) j → Placed ids n i j
placed {ids} {n} {j} i fits p = subst (λ (z : ℤ). Placed ids n z j) (to_z-of_z w32 i fits) p

-- so is a skill that stands nowhere
pub new : (w : Walk) (i : ℤ) → SFits w32 i → New w (to_z w32 (of_z w32 i)) → New w i
new w i fits n = subst (New w) (to_z-of_z w32 i fits) n

-- an id has one first place
first-place : {ids : List ℤ} {n : ℕ} {i : ℤ} (j k : ℕ) → Placed ids n i j → Placed ids n i k → j < n → k < n → j ≡ k
first-place j k p q a b =
    elim (dec_le (suc j) k) [
      | yes h ↦ absurd (q.before j h (p.found a))
      | no h ↦ elim (dec_le (suc k) j) [ yes g ↦ absurd (p.before k g (q.found b)) | no g ↦ omega (arith, h, g) ]
    ]

abbrev nothing : Demand
nothing = (pos 0, 0)

-- the skill stands at j, and at no place before: its level there rises to the higher of the two
note-found : (ds : List Demand) (i : ℤ) (l j : ℕ) → j < length ds → ((k : ℕ) → k < j → (get_or ds k nothing).0 ≡ i → ⊥) → (get_or ds j nothing).0 ≡ i
    → note ds (i, l) ≡ set ds j (i, max (get_or ds j nothing).1 l)
unfolding note
note-found [] i l j h b f = absurd (not-suc-le-zero h)
note-found (d ∷ ds) i l zero h b f =
    ap (λ (t : Bool). cond t ((d.0, max d.1 l) ∷ ds) (d ∷ note ds (i, l))) (ap (λ (y : ℤ). same y i) f ∙ same_refl i)
    ∙ ap (λ (y : ℤ). (y, max d.1 l) ∷ ds) f
note-found (d ∷ ds) i l (suc j) h b f =
    ap (λ (t : Bool). cond t ((d.0, max d.1 l) ∷ ds) (d ∷ note ds (i, l))) (same_not d.0 i (b 0 (omega arith)))
    ∙ ap (λ (r : List Demand). d ∷ r) (note-found ds i l j (le_of_suc-le-suc h) (λ k p. b (suc k) (omega (arith, p))) f)

-- the skill stands nowhere: it goes last
note-none : (ds : List Demand) (i : ℤ) (l : ℕ) → ((k : ℕ) → k < length ds → (get_or ds k nothing).0 ≡ i → ⊥) → note ds (i, l) ≡ ds ++ ((i, l) ∷ [])
unfolding note
note-none [] i l b = refl
note-none (d ∷ ds) i l b =
    ap (λ (t : Bool). cond t ((d.0, max d.1 l) ∷ ds) (d ∷ note ds (i, l))) (same_not d.0 i (b 0 (omega arith)))
    ∙ ap (λ (r : List Demand). d ∷ r) (note-none ds i l (λ k p. b (suc k) (omega (arith, p))))

same_or_not : (k j : ℕ) → (k ≡ j) ⊎ (k ≡ j → ⊥)
same_or_not k j = pick (eqb k j) refl
  where
    pick : (b : Bool) → eqb k j ≡ b → (k ≡ j) ⊎ (k ≡ j → ⊥)
    pick true e = inl (eqb-true k j e)
    pick false e = inr (eqb-false k j e)

module _ (ids : List ℤ) (levels : List ℕ) (n : ℕ) (i : ℤ) (l j : ℕ) (p : Placed ids n i j) where
  abbrev held : List Demand
  held = table n (held_at ids levels)

  at_held : (k : ℕ) → k < n → get_or held k nothing ≡ held_at ids levels k
  at_held k h = get_or-table n (held_at ids levels) k nothing h

  found : j < n → note held (i, l) ≡ set held j (i, max (get_or levels j 0) l)
  found h =
      note-found held i l j (omega (arith, length-table 0 n (held_at ids levels)))
      (λ k q e. p.before k q (sym (ap (λ (d : Demand). d.0) (at_held k (omega (arith, q)))) ∙ e))
      (ap (λ (d : Demand). d.0) (at_held j h) ∙ p.found h)
      ∙ ap (λ (d : Demand). set held j (i, max d.1 l)) (at_held j h)

  missing : n ≤ j → note held (i, l) ≡ held ++ ((i, l) ∷ [])
  missing h =
      note-none held i l
      (λ k q e.
      let r : k < n = omega (arith, q, length-table 0 n (held_at ids levels)) in
      p.before k (omega (arith, r)) (sym (ap (λ (d : Demand). d.0) (at_held k r)) ∙ e))

  missing-length : n ≤ j → n + 1 ≡ length (note (held_of ids levels n) (i, l))
  unfolding zip_to
  missing-length h = sym (ap length (missing h) ∙ omega (arith, length-append held ((i, l) ∷ []), length-table 0 n (held_at ids levels)))

  -- a table that is the old one but at j, where it is v
  changed : (f : ℕ → Demand) (v : Demand) → j < n → f j ≡ v → ((k : ℕ) → (k ≡ j → ⊥) → f k ≡ held_at ids levels k) → table n f ≡ set held j v
  changed f v h e o =
      ext_get_or nothing (table n f) (set held j v) (length-table 0 n f ∙ sym (length-set held j v ∙ length-table 0 n (held_at ids levels)))
      (λ k q.
      let r : k < n = omega (arith, q, length-table 0 n f) in
      get_or-table n f k nothing r
      ∙ ⊎_elim
      (λ (s : k ≡ j).
      let at : get_or (set held j v) j nothing ≡ v = get_or-set_same held j v nothing (omega (arith, length-table 0 n (held_at ids levels))) in
      ap f s ∙ e ∙ sym (ap (λ (m : ℕ). get_or (set held j v) m nothing) s ∙ at))
      (λ (s : k ≡ j → ⊥). o k s ∙ sym (get_or-set_other held j k v nothing s ∙ at_held k r))
      (same_or_not k j))

  raised : length levels ≡ 512 → n ≤ 512 → j < n → get_or levels j 0 < l → held_of ids (set levels j l) n ≡ note (held_of ids levels n) (i, l)
  unfolding zip_to
  raised hl hn h g =
      changed (held_at ids (set levels j l)) (i, max (get_or levels j 0) l) h
      (pair_eq (p.found h) (get_or-set_same levels j l 0 (omega (arith, hl)) ∙ sym (max-eq_right (omega (arith, g)))))
      (λ k s. pair_eq refl (get_or-set_other levels j k l 0 s))
      ∙ sym (found h)

  unraised : j < n → l ≤ get_or levels j 0 → held_of ids levels n ≡ note (held_of ids levels n) (i, l)
  unfolding zip_to
  unraised h g =
      changed (held_at ids levels) (i, max (get_or levels j 0) l) h (pair_eq (p.found h) (sym (max-eq_left g))) (λ k s. refl) ∙ sym (found h)

  added : length ids ≡ 512 → length levels ≡ 512 → n < 512 → n ≤ j → held_of (set ids n i) (set levels n l) (n + 1) ≡ note (held_of ids levels n) (i, l)
  unfolding zip_to
  added hi hl hn h =
      zip_put (pos 0) 0 ids levels n i l (omega (arith, hi)) (omega (arith, hl)) ∙ sym (missing h)

-- ---- `Noted`, on each way that `note` goes
module _ (w : Walk) {i : ℤ} {l j : ℕ} (p : Placed w.ids w.len i j) where
  -- known at a lower level: it rises
  pub noted-raised : {w' : Walk} → length w.levels ≡ 512 → j < w.len → get_or w.levels j 0 < l
      → (w'.ids ≡ w.ids) × (w'.levels ≡ set w.levels j l) × (w'.len ≡ w.len) → Noted w i l w' (Ok tt)
  noted-raised {w'} hl h g e =
      record {
        holds = λ _. rw (e.0, e.1, e.2) (raised w.ids w.levels w.len i l j p hl w.few h g);
        full = λ o. absurd (true≢false (sym o));
        untouched = λ k q a u.
            let e : get_or w.levels k 0 ≡ get_or w.levels j 0 = ap (λ (m : ℕ). get_or w.levels m 0) (first-place k j q p a h) in
            absurd (omega (arith, e, g, u));
      }

  -- known at the same level or a higher one: all stays
  pub noted-known : j < w.len → l ≤ get_or w.levels j 0 → Noted w i l w (Ok tt)
  noted-known h g =
      record {
        holds = λ _. unraised w.ids w.levels w.len i l j p h g;
        full = λ o. absurd (true≢false (sym o));
        untouched = λ k q a u. refl;
      }

-- a place behind all others
behind : (w : Walk) {i : ℤ} → New w i → Placed w.ids w.len i w.len
behind w n = record { within = omega arith; before = n; found = λ h. absurd (omega (arith, h)) }

module _ (w : Walk) {i : ℤ} {l : ℕ} (n : New w i) where
  -- new: it goes last
  pub noted-new : {w' : Walk} → length w.ids ≡ 512 → length w.levels ≡ 512 → w.len < 512
      → (w'.ids ≡ set w.ids w.len i) × (w'.levels ≡ set w.levels w.len l) × (w'.len ≡ w.len + 1) → Noted w i l w' (Ok tt)
  noted-new {w'} hi hl h e =
      record {
        holds = λ _. rw (e.0, e.1, e.2) (added w.ids w.levels w.len i l w.len (behind w n) hi hl h (omega arith));
        full = λ o. absurd (true≢false (sym o));
        untouched = λ k q a u. absurd (n k a (q.found a));
      }

  -- new, where there is no room
  pub noted-full : w.len ≡ 512 → {e : TooMany} → Noted w i l w (Err e)
  noted-full h {e} =
      record {
        holds = λ o. absurd (true≢false (sym o));
        full = λ _. omega (arith, missing-length w.ids w.levels w.len i l w.len (behind w n) (omega arith));
        untouched = λ k q a u. refl;
      }
