-- The order of the walk: its skills stand in the order in which walking them meets them. By what noting does to the ids.
use Prim.Native.Nat.{ℕ, zero, suc, max, ◌≤◌}
use native.Mathlib.Omega.{arith}
use mathlib.Core.Path.{◌≡◌, refl, sym, ap, ◌∙◌}
use mathlib.Core.Bool.{Bool, true, false, not, ◌||◌, cond}
use mathlib.Core.List.{List, [], ◌∷◌, ◌++◌, foldl, foldl-append, append-nil, append_assoc}
use Rattle.std.specs.Prelude.{Option, None, Some}
use lib.Dec.{T, eqb, nltb→le}
use lib.IntN.{pos, negsuc}
use lib.ListN.{length, length-map, take}
use Rattle.std.specs.Prelude.{slice_get}
use lib.Seq.{take_all, take-append-le}
use borrow.Author.Tests.{eqb-true, eqb-false, eq-eqb, ne_eqb}
use Rattle.words.specs.Words.{each, any_of, contains, same, given}
use Rattle.words.proofs.Steps.{each_step}
use Rattle.catalogue.specs.Catalogue.{Id, Catalogue}
use Rattle.fit.specs.Fit.{Result}
use Rattle.skill.specs.Skill.{Demand, of_result, of_skill, note, noted, skill_at, met_from, met, walk_within, wants_too_many}
use Rattle.skill.specs.Wanted.{ids_of}
use Rattle.promises.specs.Walks.{firsts, met_by}
use Rattle.promises.proofs.Answering.{elem_at}

-- one more id met
abbrev meets : List Id → Id → List Id
meets seen x = cond (contains x seen) seen (seen ++ (x ∷ []))

eqb_swap : (m n : ℕ) → eqb m n ≡ eqb n m
eqb_swap m n = go (eqb m n) refl
  where
    go : (b : Bool) → eqb m n ≡ b → b ≡ eqb n m
    go true e = sym (eq-eqb n m (sym (eqb-true m n e)))
    go false e = sym (ne_eqb n m (λ q. eqb-false m n e (sym q)))

same-swap : (a b : Id) → same a b ≡ same b a
unfolding same
same-swap (pos a) (pos b) = eqb_swap a b
same-swap (pos a) (negsuc b) = refl
same-swap (negsuc a) (pos b) = refl
same-swap (negsuc a) (negsuc b) = eqb_swap a b

note-ids : (ws : List Demand) (d : Demand) → ids_of (note ws d) ≡ meets (ids_of ws) d.0
unfolding note contains any_of
note-ids [] d = refl
note-ids (w ∷ ws) d = rw (same-swap d.0 w.0) (go (same w.0 d.0) (any_of (same d.0) (ids_of ws)) (note-ids ws d))
  where
    go : (b c : Bool) → ids_of (note ws d) ≡ cond c (ids_of ws) (ids_of ws ++ (d.0 ∷ []))
        → ids_of (cond b ((w.0, max w.1 d.1) ∷ ws) (w ∷ note ws d)) ≡ cond (b || c) (w.0 ∷ ids_of ws) (w.0 ∷ ids_of ws ++ (d.0 ∷ []))
    go true c e = refl
    go false true e = ap (λ (l : List Id). w.0 ∷ l) e
    go false false e = ap (λ (l : List Id). w.0 ∷ l) e

fold_ids : (ds ws : List Demand) → ids_of (foldl note ws ds) ≡ foldl meets (ids_of ws) (ids_of ds)
fold_ids [] ws = refl
fold_ids (d ∷ ds) ws = fold_ids ds (note ws d) ∙ ap (λ (l : List Id). foldl meets l (ids_of ds)) (note-ids ws d)

noted-ids : (ds : List Demand) → ids_of (noted ds) ≡ firsts (ids_of ds)
unfolding noted firsts
noted-ids ds = fold_ids ds []

-- what has been met stays in front
meets_more : (seen : List Id) (x : Id) → (rest : List Id) × (meets seen x ≡ seen ++ rest)
meets_more seen x = go (contains x seen)
  where
    go : (b : Bool) → (rest : List Id) × (cond b seen (seen ++ (x ∷ [])) ≡ seen ++ rest)
    go true = ([], sym (append-nil seen))
    go false = (x ∷ [], refl)

fold_more : (xs seen : List Id) → (rest : List Id) × (foldl meets seen xs ≡ seen ++ rest)
fold_more [] seen = ([], sym (append-nil seen))
fold_more (x ∷ xs) seen =
    let a = meets_more seen x in
    let b = fold_more xs (meets seen x) in
    (a.0 ++ b.0, b.1 ∙ ap (λ (l : List Id). l ++ b.0) a.1 ∙ append_assoc seen a.0 b.0)

noted_more : (ds es : List Demand) → (rest : List Id) × (ids_of (noted (ds ++ es)) ≡ ids_of (noted ds) ++ rest)
unfolding noted
noted_more ds es =
    let h = fold_more (ids_of es) (ids_of (foldl note [] ds)) in
    (h.0, ap ids_of (foldl-append note [] ds es) ∙ fold_ids es (foldl note [] ds) ∙ h.1)

-- past the end
beyond : {A : Type 0} (l : List A) (n : ℕ) → slice_get l n ≡ None → length l ≤ n
beyond [] n e = omega arith
beyond (x ∷ l) zero e = absurd (let z : ◌≡◌ {A = ℕ} 0 1 = cc in omega arith)
beyond (x ∷ l) (suc n) e = let h = beyond l n e in omega arith

module _ (c : Catalogue) (r : Result) where
  -- after n steps, what is met are the demands of the result and of the first n skills
  met-is : (n : ℕ) → met c r n ≡ met_by c r (take n (ids_of (noted (met c r n))))
  unfolding met_from met_by given each
  met-is zero = sym (append-nil (of_result c r))
  met-is (suc n) = go (skill_at (noted (met c r n)) n) refl (met-is n)
    where
      go : (o : Option Id) → skill_at (noted (met c r n)) n ≡ o → met c r n ≡ of_result c r ++ each (take n (ids_of (noted (met c r n)))) (of_skill c)
          → met c r n ++ given o [] (of_skill c) ≡ of_result c r ++ each (take (suc n) (ids_of (noted (met c r n ++ given o [] (of_skill c))))) (of_skill c)
      go None e h =
          let ids = ids_of (noted (met c r n)) in
          let l = beyond ids n (unfold skill_at in e) in
          let t : take (suc n) ids ≡ take n ids = take_all (suc n) ids (omega arith) ∙ sym (take_all n ids l) in
          rw append-nil (h ∙ ap (λ (k : List Id). of_result c r ++ each k (of_skill c)) (sym t))
      go (Some t) e h =
          let ids = ids_of (noted (met c r n)) in
          let a = elem_at ids n t (unfold skill_at in e) in
          let m = noted_more (met c r n) (of_skill c t) in
          let q : take (suc n) (ids_of (noted (met c r n ++ of_skill c t))) ≡ take (suc n) ids =
          ap (take (suc n)) m.1 ∙ take-append-le (suc n) ids m.0 a.0 in
          ap (λ (l : List Demand). l ++ of_skill c t) h
          ∙ append_assoc (of_result c r) (each (take n ids) (of_skill c)) (of_skill c t)
          ∙ ap (λ (l : List Demand). of_result c r ++ l)
          (sym (ap (λ (k : List Id). each k (of_skill c)) q ∙ each_step (of_skill c) ids n t a.0
          ∙ ap (λ (u : Id). each (take n ids) (of_skill c) ++ of_skill c u) a.1))

  pub walk-order : (limit : ℕ) → T (not (wants_too_many limit c r)) → ids_of (walk_within limit c r) ≡ firsts (ids_of (met_by c r (ids_of (walk_within limit c r))))
  unfolding wants_too_many walk_within
  walk-order limit h =
      let ws = noted (met c r limit) in
      let l = nltb→le limit (length ws) h in
      let k = length-map ws (λ (w : Demand). w.0) in
      noted-ids (met c r limit) ∙ ap (λ (ds : List Demand). firsts (ids_of ds)) (met-is limit ∙ ap (met_by c r) (take_all limit (ids_of ws) (omega arith)))
