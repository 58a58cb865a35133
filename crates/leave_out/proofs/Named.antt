-- Which sets are good, by the fit's own list: a part lists a named rule exactly where it shows a named entry of that list, since with more
-- pairs there are no fewer to count. So one list decides about every set.
use Prim.Native.Nat.{ℕ, zero, suc, ◌+◌, ◌≤◌}
use native.Mathlib.Omega.{arith}
use mathlib.Core.Path.{◌≡◌, refl, sym, ap, ap₂, ◌∙◌, subst}
use mathlib.Core.Bool.{Bool, true, false, not, ◌&&◌, ◌||◌, cond, true≢false}
use mathlib.Core.List.{List, [], ◌∷◌, map}
use lib.Dec.{T, eqb, ltb}
use lib.ListN.{length}
use borrow.Author.Tests.{ltb-true}
use Rattle.std.specs.Prelude.{Option, Some, slice_get}
use Rattle.std.proofs.lemmas.Bool.{and_parts, eqb-true, eq-eqb, lt-ltb}
use Rattle.words.specs.Words.{any_of, only, count_of, table_from}
use Rattle.words.proofs.Tables.{map-table}
use Rattle.catalogue.specs.Catalogue.{Catalogue}
use Rattle.fit.specs.Fit.{Fit}
use Rattle.entry.specs.declared.Target.{Target}
use Rattle.entry.specs.declared.Target.TheVariants.{Ship, Item}
use Rattle.entry.specs.declared.Entry.{Entry}
use Rattle.entry.specs.Entries.{fields, number, place}
use Rattle.context.specs.Context.{Pair, Context, context, pairs}
use Rattle.validate.specs.Kind.{is_hull}
use Rattle.validate.specs.Validate.{list_with}
use Rattle.lists.specs.Terms.{main}
use Rattle.lists.specs.Lists.{on_hull, league_with, whole_with, whole_list}
use Rattle.parts.specs.Parts.{chosen, every, holds, Inside, part_of}
use Rattle.parts.proofs.Beside.{Beside, nil, cons, beside_any}
use Rattle.parts.proofs.Numbered.{number_in, chosen-held}
use Rattle.parts.proofs.Renumbered.{Aims, ship, item, part-moves}
use Rattle.cause.specs.Cause.{id_of, alike, same_target, is_about, is_kept, shows}
use Rattle.cause.specs.Members.{own, sub_of, is_counted, is_member, limit, is_broken, stays}
use Rattle.cause.proofs.Showing.{listed_among, shows-chosen}
use Rattle.cause.proofs.Listed.{none_some, some_same, whole-alike}
use Rattle.cause.proofs.Staying.{any-at, numbered, passes, listed_at, shows-stays}
use Rattle.leave_out.specs.LeaveOut.{is_named, good}

-- ---- tests
is_true : (b : Bool) → T b → b ≡ true
is_true true h = refl
is_true false h = absurd h

both : (a b : Bool) → a ≡ true → b ≡ true → a && b ≡ true
both a b p q = ap₂ (λ (x y : Bool). x && y) p q

same_tests : (a b : Bool) → (a ≡ true → b ≡ true) → (b ≡ true → a ≡ true) → a ≡ b
same_tests true b f g = sym (f refl)
same_tests false true f g = g refl
same_tests false false f g = refl

-- ---- elements of lists
module _ {A : Type 0} (t : A → Bool) where
  -- the first that passes
  pub passing : (l : List A) → any_of t l ≡ true → (i : ℕ) × (x : A) × (slice_get l i ≡ Some x) × (t x ≡ true)
  unfolding any_of
  passing [] h = absurd (true≢false (sym h))
  passing (x ∷ l) h = go (t x) refl h (passing l)
    where
      go : (b : Bool) → t x ≡ b → b || any_of t l ≡ true
          → (any_of t l ≡ true → (i : ℕ) × (y : A) × (slice_get l i ≡ Some y) × (t y ≡ true))
          → (i : ℕ) × (y : A) × (slice_get (x ∷ l) i ≡ Some y) × (t y ≡ true)
      go true e k f = (0, x, refl, e)
      go false e k f = let r = f k in (suc r.0, r.1, r.2, r.3)

  pub any_same : (u : A → Bool) (l : List A) → ((i : ℕ) (x : A) → slice_get l i ≡ Some x → t x ≡ u x) → any_of t l ≡ any_of u l
  unfolding any_of
  any_same u [] h = refl
  any_same u (x ∷ l) h = ap₂ (λ (a b : Bool). a || b) (h 0 x refl) (any_same u l (λ i y e. h (suc i) y e))

module _ {A B : Type 0} {R : A → B → Type 0} where
  beside-at : {l : List A} {m : List B} → Beside R l m → (i : ℕ) (x : A) → slice_get l i ≡ Some x → (y : B) × R x y
  beside-at nil i x e = none_some e
  beside-at (cons {a} {b} r h) zero x e = (b, subst (λ (z : A). R z b) (some_same a x e) r)
  beside-at (cons r h) (suc i) x e = beside-at h i x e

-- ---- how many pass, of a set's elements
module _ {A : Type 0} (t : A → Bool) where
  pub count-none : count_of t [] ≡ 0
  unfolding count_of only
  count-none = refl

  pub count-cons : (x : A) (l : List A) → count_of t (x ∷ l) ≡ cond (t x) 1 0 + count_of t l
  unfolding count_of only
  count-cons x l = go (t x)
    where
      go : (b : Bool) → length (cond b (x ∷ only t l) (only t l)) ≡ cond b 1 0 + length (only t l)
      go true = omega arith
      go false = omega arith

  pub count-inside : (a b : List Bool) (l : List A) → Inside a b → count_of t (chosen a l) ≤ count_of t (chosen b l)
  unfolding chosen
  count-inside [] b l h = let z = count-none in omega (arith, z)
  count-inside (x ∷ a) b [] h = let z = count-none in omega (arith, z)
  count-inside (x ∷ a) [] (p ∷ l) h = go x (h 0) (count-inside a [] l (λ i k. h (suc i) k))
    where
      go : (x : Bool) → (T x → ⊥) → count_of t (chosen a l) ≤ count_of t [] → count_of t (cond x (p ∷ chosen a l) (chosen a l)) ≤ count_of t []
      go true k m = absurd (k tt)
      go false k m = m
  count-inside (x ∷ a) (y ∷ b) (p ∷ l) h = go x y (h 0) (count-inside a b l (λ i k. h (suc i) k))
    where
      go : (x y : Bool) → (T x → T y) → count_of t (chosen a l) ≤ count_of t (chosen b l)
          → count_of t (cond x (p ∷ chosen a l) (chosen a l)) ≤ count_of t (cond y (p ∷ chosen b l) (chosen b l))
      go true true k m = let u = count-cons p (chosen a l) in let v = count-cons p (chosen b l) in omega (arith, m, u, v)
      go true false k m = absurd (k tt)
      go false true k m = let v = count-cons p (chosen b l) in omega (arith, m, v)
      go false false k m = m

  pub count-chosen : (s : List Bool) (l : List A) → count_of t (chosen s l) ≤ count_of t l
  unfolding chosen
  count-chosen [] l = let z = count-none in omega (arith, z)
  count-chosen (b ∷ s) [] = let z = count-none in omega (arith, z)
  count-chosen (b ∷ s) (x ∷ l) = go b (count-chosen s l)
    where
      go : (b : Bool) → count_of t (chosen s l) ≤ count_of t l → count_of t (cond b (x ∷ chosen s l) (chosen s l)) ≤ count_of t (x ∷ l)
      go true m = let u = count-cons x (chosen s l) in let v = count-cons x l in omega (arith, m, u, v)
      go false m = let v = count-cons x l in omega (arith, m, v)

-- what is left without a set is no more than what is left without a smaller one
not-inside : (a b : List Bool) → length a ≡ length b → Inside a b → (i : ℕ) → T (holds (map not b) i) → T (holds (map not a) i)
not-inside [] [] l h i k = k
not-inside [] (y ∷ b) l h i k = let no : ⊥ = omega (arith, l) in absurd no
not-inside (x ∷ a) [] l h i k = let no : ⊥ = omega (arith, l) in absurd no
not-inside (x ∷ a) (y ∷ b) l h zero k = go x y (h 0) k
  where
    go : (x y : Bool) → (T x → T y) → T (not y) → T (not x)
    go true true f k = k
    go true false f k = absurd (f tt)
    go false y f k = tt
not-inside (x ∷ a) (y ∷ b) l h (suc i) k = not-inside a b (omega (arith, l)) (λ j m. h (suc j) m) i k

-- without all nothing is left
chosen-nothing : {A : Type 0} (i n : ℕ) (l : List A) → chosen (table_from i n (λ _. false)) l ≡ []
unfolding chosen table_from
chosen-nothing i zero l = refl
chosen-nothing i (suc n) [] = refl
chosen-nothing i (suc n) (x ∷ l) = chosen-nothing (suc i) n l

-- ---- entries that are about the same, of the same rule
record Same (a b : Entry) : Type 0 where
  target : b.target ≡ a.target
  rule : (fields a.rule).0 ≡ (fields b.rule).0
  sub : (fields a.rule).1 ≡ (fields b.rule).1
  id : id_of a.rule ≡ id_of b.rule

target_same : (u t : Target) → same_target u t ≡ true → u ≡ t
unfolding same_target
target_same Ship Ship h = refl
target_same Ship (Item j) h = absurd (true≢false (sym h))
target_same (Item i) Ship h = absurd (true≢false (sym h))
target_same (Item i) (Item j) h = ap (λ (n : ℕ). Item n) (eqb-true i j h)

about-same : (a b : Entry) → is_about a.target a.rule b ≡ true → Same a b
unfolding is_about alike
about-same a b h =
    let p = and_parts _ _ h in
    let q = and_parts _ _ p.1 in
    let r = and_parts _ _ q.0 in
    record {
      target = target_same b.target a.target p.0;
      rule = eqb-true (fields a.rule).0 (fields b.rule).0 r.0;
      sub = eqb-true (fields a.rule).1 (fields b.rule).1 r.1;
      id = eqb-true (id_of a.rule) (id_of b.rule) q.1;
    }

same-about : (a b : Entry) → Same a b → is_about a.target a.rule b ≡ true
unfolding is_about same_target alike
same-about a b s =
    rw (
      eq-eqb (place b.target).0 (place a.target).0 (ap (λ (t : Target). (place t).0) s.target),
      eq-eqb (place b.target).1 (place a.target).1 (ap (λ (t : Target). (place t).1) s.target),
      eq-eqb (fields a.rule).0 (fields b.rule).0 s.rule,
      eq-eqb (fields a.rule).1 (fields b.rule).1 s.sub,
      eq-eqb (id_of a.rule) (id_of b.rule) s.id,
    )

same-itself : (a : Entry) → Same a a
same-itself a = record { target = refl; rule = refl; sub = refl; id = refl }

same-back : (a b : Entry) → Same a b → Same b a
same-back a b s = record { target = sym s.target; rule = sym s.rule; sub = sym s.sub; id = sym s.id }

named-same : (a b : Entry) → Same a b → is_named a ≡ is_named b
unfolding is_named
named-same a b s = ap₂ (λ (n k : ℕ). any_of (eqb n) (8 ∷ 10 ∷ 17 ∷ 18 ∷ []) || (eqb n 2 && ltb k 6)) s.rule s.sub

-- ---- a named rule counts pairs
record Counts (rule : ℕ) : Type 0 where
  one : eqb rule 1 ≡ false
  counted : is_counted rule ≡ true

named-counts : (e : Entry) → is_named e ≡ true → Counts (number e)
unfolding is_named is_counted any_of
named-counts e h = go (eqb n 8) refl (eqb n 10) refl (eqb n 17) refl (eqb n 18) refl (eqb n 2) refl h
  where
    n : ℕ
    n = number e

    at : (k : ℕ) → Counts k → eqb n k ≡ true → Counts n
    at k c q = subst Counts (sym (eqb-true n k q)) c

    go : (a : Bool) → eqb n 8 ≡ a → (b : Bool) → eqb n 10 ≡ b → (c : Bool) → eqb n 17 ≡ c → (d : Bool) → eqb n 18 ≡ d
        → (x : Bool) → eqb n 2 ≡ x → (a || (b || (c || (d || false)))) || (x && ltb (sub_of e) 6) ≡ true → Counts n
    go true p b q c r d s x u h = at 8 (record { one = refl; counted = refl }) p
    go false p true q c r d s x u h = at 10 (record { one = refl; counted = refl }) q
    go false p false q true r d s x u h = at 17 (record { one = refl; counted = refl }) r
    go false p false q false r true s x u h = at 18 (record { one = refl; counted = refl }) s
    go false p false q false r false s true u h = at 2 (record { one = refl; counted = refl }) u
    go false p false q false r false s false u h = absurd (true≢false (sym h))

module _ (x : Context) (ps : List Pair) (at : Option ℕ) (rule sub : ℕ) (k : Counts rule) where
  broken-counts : (qs : List Pair) → is_broken x ps at rule sub qs ≡ ltb (limit x ps at rule sub) (count_of (is_member x ps at rule sub) qs)
  unfolding is_broken
  broken-counts qs = rw (k.one, k.counted)

  -- more pairs break it too
  broken-more : (qs rs : List Pair) → count_of (is_member x ps at rule sub) qs ≤ count_of (is_member x ps at rule sub) rs
      → is_broken x ps at rule sub qs ≡ true → is_broken x ps at rule sub rs ≡ true
  broken-more qs rs h e =
      let l = limit x ps at rule sub in
      let m = count_of (is_member x ps at rule sub) in
      let b = ltb-true l (m qs) (sym (broken-counts qs) ∙ e) in
      broken-counts rs ∙ lt-ltb l (m rs) (omega (arith, b, h))

module _ (c : Catalogue) (f : Fit) where
  abbrev listed : List Entry
  listed = whole_list main c f

  -- how many an entry's rule allows, and those that it counts
  abbrev pub limit_of : Entry → ℕ
  limit_of e = limit (context c f.frame) (pairs c f) (own e.target) (number e) (sub_of e)

  abbrev pub members_of : Entry → Pair → Bool
  members_of e = is_member (context c f.frame) (pairs c f) (own e.target) (number e) (sub_of e)

  pub named-stays : (e : Entry) → is_named e ≡ true → (kept : List Bool)
      → stays c f e kept ≡ ltb (limit_of e) (count_of (members_of e) (chosen kept (pairs c f)))
  unfolding stays
  named-stays e h kept =
      broken-counts (context c f.frame) (pairs c f) (own e.target) (number e) (sub_of e) (named-counts e h) (chosen kept (pairs c f))

  -- ---- a part
  module _ (kept : List Bool) where
    -- its list, under the old numbers
    abbrev pub among : List Entry
    among = whole_with main c f.frame f.skills (chosen kept (pairs c f))

    abbrev named_shown : Entry → Bool
    named_shown e = is_named e && shows c f e kept

    aimed-named : {a b : Entry} → Aims (number_in kept) (chosen kept (pairs c f)) a b → is_named a ≡ is_named b
    unfolding is_named
    aimed-named ship = refl
    aimed-named (item m) = refl

    aimed-kept : {a b : Entry} → Aims (number_in kept) (chosen kept (pairs c f)) a b → is_kept kept a.target ≡ true
    unfolding is_kept
    aimed-kept ship = refl
    aimed-kept (item {p} {r} m) = is_true (holds kept p.position) (chosen-held c f kept p m)

    kept-at : (i : ℕ) (e : Entry) → slice_get among i ≡ Some e → is_kept kept e.target ≡ true
    kept-at i e at = aimed-kept (beside-at (part-moves main c f kept) i e at).1

    pub among-named : any_of is_named (whole_list main c (part_of f kept)) ≡ any_of is_named among
    among-named = sym (beside_any is_named is_named (λ a b k. aimed-named k) (part-moves main c f kept))

    -- what the part lists is listed of all pairs
    whole-has : (i : ℕ) (e : Entry) → slice_get among i ≡ Some e → is_named e ≡ true → any_of (is_about e.target e.rule) listed ≡ true
    unfolding whole_list
    whole-has i e at h =
        let x = context c f.frame in
        let ps = pairs c f in
        let qs = chosen kept (pairs c f) in
        let s = whole-alike x ps kept e.target e.rule (kept-at i e at) (numbered c f) c f.frame f.skills refl in
        let here = any-at (is_about e.target e.rule) among i e at (same-about e e (same-itself e)) in
        let b = and_parts s.has (is_broken x ps (own e.target) (number e) (sub_of e) qs) (sym s.second ∙ here) in
        let more = broken-more x ps (own e.target) (number e) (sub_of e) (named-counts e h) qs ps (count-chosen (members_of e) kept ps) b.1 in
        s.first ∙ both s.has (is_broken x ps (own e.target) (number e) (sub_of e) ps) b.0 more

    to_shown : any_of is_named among ≡ true → any_of named_shown listed ≡ true
    to_shown h =
        let r = passing is_named among h in
        let e = r.1 in
        let w = passing (is_about e.target e.rule) listed (whole-has r.0 e r.2 r.3) in
        let d = w.1 in
        let s = about-same e d w.3 in
        let k : is_kept kept d.target ≡ true = ap (is_kept kept) s.target ∙ kept-at r.0 e r.2 in
        let l = any-at (is_about d.target d.rule) among r.0 e r.2 (same-about d e (same-back e d s)) in
        let q = shows-chosen c f d kept ∙ both (is_kept kept d.target) (listed_among c f kept d) k l in
        any-at named_shown listed w.0 d w.2 (both (is_named d) (shows c f d kept) (sym (named-same e d s) ∙ r.3) q)

    of_shown : any_of named_shown listed ≡ true → any_of is_named among ≡ true
    of_shown h =
        let w = passing named_shown listed h in
        let d = w.1 in
        let b = and_parts (is_named d) (shows c f d kept) w.3 in
        let k = and_parts (is_kept kept d.target) (listed_among c f kept d) (sym (shows-chosen c f d kept) ∙ b.1) in
        let r = passing (is_about d.target d.rule) among k.1 in
        any-at is_named among r.0 r.1 r.2 (sym (named-same d r.1 (about-same d r.1 r.3)) ∙ b.0)

    pub named-shown : any_of is_named (whole_list main c (part_of f kept)) ≡ any_of named_shown listed
    named-shown = among-named ∙ same_tests (any_of is_named among) (any_of named_shown listed) to_shown of_shown

  -- ---- the law: no named entry of the list is still there without the set
  abbrev pub still_there : List Bool → Entry → Bool
  still_there off e = is_named e && passes c f e (map not off)

  pub good-named : (off : List Bool) → good c f off ≡ not (any_of (still_there off) (whole_list main c f))
  unfolding good
  good-named off =
      let kept = map not off in
      ap not (named-shown kept
      ∙ any_same (named_shown kept) (still_there off) listed (λ i e at.
      ap (λ (b : Bool). is_named e && b) (shows-stays c f e (listed_at c f e i at) kept)))

  -- ---- larger sets are good too
  kept-more : (a b : List Bool) → Inside a b → (t : Target) → is_kept a t ≡ true → is_kept b t ≡ true
  unfolding is_kept
  kept-more a b h Ship k = refl
  kept-more a b h (Item i) k = is_true (holds b i) (h i (subst T (sym k) tt))

  passes-more : (a b : List Bool) → Inside a b → (e : Entry) → is_named e ≡ true → passes c f e a ≡ true → passes c f e b ≡ true
  unfolding stays
  passes-more a b h e n p =
      let x = context c f.frame in
      let ps = pairs c f in
      let q = and_parts (is_kept a e.target) (is_broken x ps (own e.target) (number e) (sub_of e) (chosen a ps)) p in
      both (is_kept b e.target) (is_broken x ps (own e.target) (number e) (sub_of e) (chosen b ps)) (kept-more a b h e.target q.0)
      (broken-more x ps (own e.target) (number e) (sub_of e) (named-counts e n) (chosen a ps) (chosen b ps)
      (count-inside (members_of e) a b ps h) q.1)

  -- a set is good where whatever is still there without it is there without another good one
  good-where : (a b : List Bool)
      → ((i : ℕ) (e : Entry) → slice_get listed i ≡ Some e → still_there b e ≡ true → still_there a e ≡ true) → T (good c f a) → T (good c f b)
  good-where a b h g = subst T (sym (good-named b)) (go (any_of (still_there b) listed) (any_of (still_there a) listed) more (subst T (good-named a) g))
    where
      go : (x y : Bool) → (x ≡ true → y ≡ true) → T (not y) → T (not x)
      go true y k n = subst (λ (z : Bool). T (not z)) (k refl) n
      go false y k n = tt

      more : any_of (still_there b) listed ≡ true → any_of (still_there a) listed ≡ true
      more k = let r = passing (still_there b) listed k in any-at (still_there a) listed r.0 r.1 r.2 (h r.0 r.1 r.2 r.3)

  pub good-grows : (a b : List Bool) → length a ≡ length b → Inside a b → T (good c f a) → T (good c f b)
  good-grows a b l h =
      good-where a b λ i e at s.
      let q = and_parts (is_named e) (passes c f e (map not b)) s in
      both (is_named e) (passes c f e (map not a)) q.0 (passes-more (map not b) (map not a) (not-inside a b l h) e q.0 q.1)

  -- all pairs are a good set
  pub good-every : (n : ℕ) → T (good c f (every n))
  good-every n = subst T (sym (good-named (every n))) (go (any_of (still_there (every n)) listed) none)
    where
      go : (x : Bool) → (x ≡ true → ⊥) → T (not x)
      go true k = absurd (k refl)
      go false k = tt

      nothing : chosen (map not (every n)) (pairs c f) ≡ []
      nothing = ap (λ (s : List Bool). chosen s (pairs c f)) (map-table not n (λ _. true)) ∙ chosen-nothing 0 n (pairs c f)

      none : any_of (still_there (every n)) listed ≡ true → ⊥
      none k =
          let r = passing (still_there (every n)) listed k in
          let e = r.1 in
          let q = and_parts (is_named e) (passes c f e (map not (every n))) r.3 in
          let s = and_parts (is_kept (map not (every n)) e.target) (stays c f e (map not (every n))) q.1 in
          let b = ltb-true (limit_of e) (count_of (members_of e) (chosen (map not (every n)) (pairs c f))) (sym (named-stays e q.0 (map not (every n))) ∙ s.1) in
          let z = ap (λ (l : List Pair). count_of (members_of e) l) nothing in
          omega (arith, b, z, count-none (members_of e))

  -- on a ship that is no hull nothing but that is listed
  pub good-no_hull : is_hull c f.frame.ship ≡ false → (off : List Bool) → good c f off ≡ true
  unfolding good whole_list whole_with league_with on_hull list_with part_of any_of is_named fields
  good-no_hull h off = rw h
