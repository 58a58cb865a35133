-- The list of wanted skills and the entries made of it, said without the walk. From `skill/proofs/Walking`, `Refusing` and `Meeting`.
use Prim.Native.Nat.{ℕ, ◌≤◌}
use native.Mathlib.Nat.{le_antisymm}
use native.Mathlib.Omega.{arith}
use mathlib.Core.Path.{◌≡◌, sym, ap, ◌∙◌, subst}
use mathlib.Core.Bool.{Bool, true, false, not}
use mathlib.Core.List.Memᴰ
use mathlib.Core.List.{List, [], ◌∷◌, Memᴰ}
use Rattle.std.specs.Prelude.{Option, Some}
use mathlib.Core.Logic.{◌↔◌}
use lib.Dec.{T, T_not, ltb, ltb→lt, lt→ltb}
use lib.ListN.{length, get_or}
use Rattle.std.specs.Prelude.{slice_get}
use Rattle.words.specs.Words.{◌>>=◌, each, when, given, contains}
use Rattle.catalogue.specs.Catalogue.{Id, Catalogue, catalogue_of}
use Rattle.fit.specs.Fit.{Result, Fit, all_results, result_at, fit_of}
use Rattle.fit.specs.Lookups.{trained}
use Rattle.entry.specs.declared.Rule.TheVariants.{Skill}
use Rattle.entry.specs.declared.Entry.{Entry}
use Rattle.skill.specs.Skill.{Demand, of_result, walk_within, wants_too_many, target_of, entry_of, skill_list}
use Rattle.skill.specs.Wanted.{ids_of, Wanted, Once, Walked}
use Rattle.skill.proofs.Walking.{walked, listed-iff_wanted}
use Rattle.skill.proofs.Onces.{mem_contains, each_from, each-has}
use Rattle.lists.specs.Terms.{Terms}
use Rattle.fitcheck.specs.Calls.{skill_call}
use Rattle.promises.specs.Answers.{outcome, refusal}
use Rattle.promises.specs.Walks.{Highest, WalkOf, MoreWanted, Lacks, SkillsOf}
use Rattle.promises.proofs.Refusing.{refused-many, answered-few}
use Rattle.promises.proofs.Meeting.{walk-order}
use Rattle.promises.proofs.Answering.{elem_of}
use Rattle.promises.proofs.Accepted.{asked}
use Rattle.promises.proofs.Calls.{skill_answers}

twice : (w : Demand) (ws : List Demand) → Once (ids_of (w ∷ ws)) → (s : Id) (l : ℕ) → s ≡ w.0 → Memᴰ (s, l) ws → ⊥
twice w ws o s l e m =
    T_not (contains w.0 (ids_of ws)) o.0
    (subst (λ (x : Id). T (contains x (ids_of ws))) e (mem_contains s (ids_of ws) (Memᴰ.map (λ (d : Demand). d.0) m)))

-- an id that stands once has one level
one-level : (ws : List Demand) → Once (ids_of ws) → (s : Id) (l m : ℕ) → Memᴰ (s, l) ws → Memᴰ (s, m) ws → l ≡ m
one-level [] o s l m a b = absurd (Memᴰ.not-nil a)
one-level (w ∷ ws) o s l m (Memᴰ.head p) (Memᴰ.head q) = ap (λ (d : Demand). d.1) (p ∙ sym q)
one-level (w ∷ ws) o s l m (Memᴰ.head p) (Memᴰ.tail b) = absurd (twice w ws o s m (ap (λ (d : Demand). d.0) p) b)
one-level (w ∷ ws) o s l m (Memᴰ.tail a) (Memᴰ.head q) = absurd (twice w ws o s l (ap (λ (d : Demand). d.0) q) a)
one-level (w ∷ ws) o s l m (Memᴰ.tail a) (Memᴰ.tail b) = one-level ws o.1 s l m a b

level-is : (c : Catalogue) (r : Result) (ws : List Demand) → Walked c r ws → (s : Id) (l : ℕ) → Memᴰ (s, l) ws ↔ Highest c r s l
level-is c r ws w s l = (to, from)
  where
    to : Memᴰ (s, l) ws → Highest c r s l
    to m = record {
      demanded = w.sound s l m;
      most = λ k d.
          let h = w.highest s k d in
          subst (λ (x : ℕ). k ≤ x) (one-level ws w.once s h.0 l h.1 m) h.2;
    }

    from : Highest c r s l → Memᴰ (s, l) ws
    from h =
        let k = w.highest s l h.demanded in
        subst (λ (x : ℕ). Memᴰ (s, x) ws) (le_antisymm (h.most k.0 (w.sound s k.0 k.1)) k.2) k.1

walk_of : (limit : ℕ) (c : Catalogue) (r : Result) → T (not (wants_too_many limit c r)) → WalkOf c r (walk_within limit c r)
walk_of limit c r h =
    let w = walked limit c r h in
    record {
      walked = w;
      wanted = listed-iff_wanted c (of_result c r) (walk_within limit c r) w;
      level = level-is c r (walk_within limit c r) w;
      order = walk-order c r limit h;
    }

pub more_wanted : (limit : ℕ) (c : Catalogue) (r : Result) → T (wants_too_many limit c r) ↔ MoreWanted limit c r
more_wanted limit c r = (refused-many limit c r, λ h. go (wants_too_many limit c r) (answered-few limit c r) h)
  where
    go : (b : Bool) → (T (not b) → (xs : List Id) → Once xs → ((x : Id) → Memᴰ x xs → Wanted c r x) → length xs ≤ limit) → MoreWanted limit c r → T b
    go true f h = tt
    go false f h = absurd (let k = f tt h.0 h.1 h.2 in let l = h.3 in omega arith)

-- ---- the entries
when-from : {A : Type 0} (b : Bool) (e y : A) → Memᴰ y (when b e) → T b × (y ≡ e)
unfolding when
when-from true e y m = (tt, Memᴰ.eq_of_singleton m)
when-from false e y m = absurd (Memᴰ.not-nil m)

when-has : {A : Type 0} (b : Bool) (e y : A) → T b → y ≡ e → Memᴰ y (when b e)
unfolding when
when-has true e y t q = Memᴰ.head q
when-has false e y t q = absurd t

module _ (c : Catalogue) (f : Fit) (n : ℕ) where
  level : Id → ℕ
  level s = trained f.skills f.levels s

  entry : Demand → Entry
  entry d = record { target = target_of n; rule = Skill d.0 d.1 (level d.0) }

  -- the entries of a result
  skills_of : Result → List Entry
  skills_of r = each (walk_within 512 c r) λ d. when (ltb (level d.0) d.1) (entry d)

  list_is : (r : Result) → result_at f n ≡ Some r → skill_list c f n ≡ skills_of r
  unfolding skill_list entry_of ◌>>=◌ level entry skills_of
  list_is r q = ap (λ (o : Option Result). ◌>>=◌ o λ s. skills_of s) q

  lacks : (r : Result) → result_at f n ≡ Some r → T (not (wants_too_many 512 c r)) → (e : Entry) → Memᴰ e (skill_list c f n) ↔ Lacks c f n r e
  unfolding level entry skills_of
  lacks r q h e = (to, from)
    where
      w : (s : Id) (l : ℕ) → Memᴰ (s, l) (walk_within 512 c r) ↔ Highest c r s l
      w = (walk_of 512 c r h).level

      to : Memᴰ e (skill_list c f n) → Lacks c f n r e
      to m =
          let a = each_from (walk_within 512 c r) _ e (subst (λ (l : List Entry). Memᴰ e l) (list_is r q) m) in
          let d = a.0 in
          let b = when-from _ _ e a.2 in
          (d.0, d.1, (w d.0 d.1).0 a.1, ltb→lt (level d.0) d.1 b.0, b.1)

      from : Lacks c f n r e → Memᴰ e (skill_list c f n)
      from k =
          subst (λ (l : List Entry). Memᴰ e l) (sym (list_is r q))
          (each-has _ e ((w k.0 k.1).1 k.2) (when-has (ltb (level k.0) k.1) _ e (lt→ltb _ _ k.3) k.4))

-- ---- an answered call
pub skill_lists : (t : Terms) (catalogue fit : List ℕ) (result : ℕ) (buffer : List ℕ)
    → refusal (outcome buffer (skill_call t catalogue fit result buffer)) ≡ 0
    → SkillsOf (catalogue_of catalogue) (fit_of fit) result
unfolding result_at given
skill_lists t catalogue fit n buffer h =
    let c = catalogue_of catalogue in
    let f = fit_of fit in
    let a = asked t catalogue fit n buffer ((skill_answers t catalogue fit n buffer).answered.0 h) in
    let l = a.inside in
    let r = get_or (all_results f) n f.frame.ship_result in
    let e : slice_get (all_results f) n ≡ Some r = elem_of f.frame.ship_result (all_results f) n (omega arith) in
    let few : T (not (wants_too_many 512 c r)) = subst (λ (o : Option Result). T (not (given o false (wants_too_many 512 c)))) e a.few in
    record { result = r; found = e; walk = walk_of 512 c r few; entries = lacks c f n r e few }
