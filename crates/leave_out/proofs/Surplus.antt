-- Every good set has at least the racks' surplus: what is left of a rack is no more than the ship has of it, and a pair is in one rack at
-- most.
use Prim.Native.Nat.{ℕ, zero, suc, ◌+◌, ◌-◌, ◌≤◌}
use native.Mathlib.Nat.{le_refl}
use native.Mathlib.Omega.{arith}
use mathlib.Core.Path.{◌≡◌, refl, sym, ap, ◌∙◌, subst}
use mathlib.Core.Bool.{Bool, true, false, not, ◌||◌, cond}
use mathlib.Core.List.{List, [], ◌∷◌, ◌++◌, map}
use lib.Dec.{T, eqb, ltb}
use lib.ListN.{length}
use borrow.Author.Tests.{ltb-false}
use Rattle.std.specs.Prelude.{Option, None, Some, slice_get}
use Rattle.std.proofs.lemmas.Bool.{eqb-true, or_right}
use Rattle.words.specs.Words.{◌>>=◌, each, when, when_above, any_of, count_of, sum_of, given}
use Rattle.words.proofs.All.{All, nil, cons}
use Rattle.numbers.specs.declared.SlotKind.{SlotKind}
use Rattle.numbers.specs.Slots as Slots
use Rattle.floats.specs.Floats.{to_u}
use Rattle.catalogue.specs.Catalogue.{Id, Catalogue}
use Rattle.catalogue.specs.Lookups.{name_id}
use Rattle.fit.specs.Fit.{Frame, Fit, mode_of}
use Rattle.fit.specs.Lookups.{amount}
use Rattle.entry.specs.declared.Rule.TheVariants.{Slots as OfSlots}
use Rattle.entry.specs.Entries.{fields, on_ship}
use Rattle.context.specs.Context.{Pair, Context, context, pairs, is_in}
use Rattle.resource.specs.Resource.{resources}
use Rattle.racks.specs.Racks.{RACKS, slots, racks, hardpoints, racks_and_hardpoints}
use Rattle.slot.specs.Slot.{slot_rules}
use Rattle.item.specs.Item.{item_rules}
use Rattle.limits.specs.Limits.{limit_rules}
use Rattle.validate.specs.Kind.{is_hull, not_a_mode, not_a_skill}
use Rattle.validate.specs.Validate.{hull_rules, list_with}
use Rattle.lists.specs.Terms.{main}
use Rattle.lists.specs.Unknown.{unknown_types}
use Rattle.lists.specs.Lists.{on_hull, league_of, league_with, whole_with}
use Rattle.parts.specs.Parts.{chosen, size}
use Rattle.parts.proofs.Flags.{size_none, size-cons}
use Rattle.cause.proofs.Steady.{any-append}
use Rattle.cause.proofs.Listed.{none_some, some_same}
use Rattle.leave_out.specs.LeaveOut.{is_named, pair_count, good, above, surplus}
use Rattle.leave_out.proofs.Named.{count-none, count-cons, among-named}

-- ---- a test that some of a longer list pass
module _ {A : Type 0} (t : A → Bool) where
  any_left : (l m : List A) → any_of t l ≡ true → any_of t (l ++ m) ≡ true
  any_left l m h = any-append t l m ∙ ap (λ (b : Bool). b || any_of t m) h

  any_right : (l m : List A) → any_of t m ≡ true → any_of t (l ++ m) ≡ true
  any_right l m h = any-append t l m ∙ or_right (any_of t l) (any_of t m) h

  any-each : {I : Type 0} (f : I → List A) (l : List I) (j : ℕ) (x : I) → slice_get l j ≡ Some x → any_of t (f x) ≡ true → any_of t (each l f) ≡ true
  unfolding each
  any-each f [] j x e h = none_some e
  any-each f (y ∷ l) zero x e h = any_left (f y) (each l f) (ap (λ z. any_of t (f z)) (some_same y x e) ∙ h)
  any-each f (y ∷ l) (suc j) x e h = any_right (f y) (each l f) (any-each f l j x e h)

all-get : {A : Type 0} {P : A → Type 0} {l : List A} → All P l → (j : ℕ) (x : A) → slice_get l j ≡ Some x → P x
all-get nil j x e = none_some e
all-get {A} {P} (cons {x} p h) zero y e = subst P (some_same x y e) p
all-get (cons p h) (suc j) x e = all-get h j x e

sum-le : {A : Type 0} (f g : A → ℕ) (l : List A) → ((j : ℕ) (x : A) → slice_get l j ≡ Some x → f x ≤ g x) → sum_of f l ≤ sum_of g l
unfolding sum_of
sum-le f g [] h = le_refl 0
sum-le f g (x ∷ l) h = let a = h 0 x refl in let b = sum-le f g l (λ j y e. h (suc j) y e) in omega (arith, a, b)

-- ---- a set's pairs and the others
module _ {A : Type 0} where
  count-split : (t : A → Bool) (s : List Bool) (l : List A) → length s ≡ length l
      → count_of t l ≡ count_of t (chosen (map not s) l) + count_of t (chosen s l)
  unfolding chosen
  count-split t [] [] h = let z = count-none t in omega (arith, z)
  count-split t [] (x ∷ l) h = let no : ⊥ = omega (arith, h) in absurd no
  count-split t (b ∷ s) [] h = let no : ⊥ = omega (arith, h) in absurd no
  count-split t (b ∷ s) (x ∷ l) h = go b (count-split t s l (omega (arith, h)))
    where
      go : (b : Bool) → count_of t l ≡ count_of t (chosen (map not s) l) + count_of t (chosen s l)
          → count_of t (x ∷ l) ≡ count_of t (cond (not b) (x ∷ chosen (map not s) l) (chosen (map not s) l)) + count_of t (cond b (x ∷ chosen s l) (chosen s l))
      go true e = let u = count-cons t x l in let v = count-cons t x (chosen s l) in omega (arith, e, u, v)
      go false e = let u = count-cons t x l in let v = count-cons t x (chosen (map not s) l) in omega (arith, e, u, v)

  chosen-size : (s : List Bool) (l : List A) → length s ≡ length l → length (chosen s l) ≡ size s
  unfolding chosen
  chosen-size [] l h = sym size_none
  chosen-size (b ∷ s) [] h = let no : ⊥ = omega (arith, h) in absurd no
  chosen-size (b ∷ s) (x ∷ l) h = go b (chosen-size s l (omega (arith, h)))
    where
      go : (b : Bool) → length (chosen s l) ≡ size s → length (cond b (x ∷ chosen s l) (chosen s l)) ≡ size (b ∷ s)
      go true e = let u = size-cons true s in omega (arith, e, u)
      go false e = let u = size-cons false s in omega (arith, e, u)

-- ---- a pair is in one rack at most
share : ℕ → Pair → ℕ
share k p = cond (is_in k p) 1 0

once : (p : Pair) → share 0 p + (share 1 p + (share 2 p + (share 3 p + (share 4 p + share 5 p)))) ≤ 1
unfolding share is_in
once p = go (eqb s 0) refl (eqb s 1) refl (eqb s 2) refl (eqb s 3) refl (eqb s 4) refl (eqb s 5) refl
  where
    s : ℕ
    s = p.slot

    all : ℕ → ℕ
    all n = cond (eqb n 0) 1 0 + (cond (eqb n 1) 1 0 + (cond (eqb n 2) 1 0 + (cond (eqb n 3) 1 0 + (cond (eqb n 4) 1 0 + cond (eqb n 5) 1 0))))

    at : (k : ℕ) → all k ≤ 1 → eqb s k ≡ true → all s ≤ 1
    at k h e = subst (λ (n : ℕ). all n ≤ 1) (sym (eqb-true s k e)) h

    go : (a : Bool) → eqb s 0 ≡ a → (b : Bool) → eqb s 1 ≡ b → (c : Bool) → eqb s 2 ≡ c → (d : Bool) → eqb s 3 ≡ d → (x : Bool) → eqb s 4 ≡ x
        → (y : Bool) → eqb s 5 ≡ y → all s ≤ 1
    go true e b f c g d h x i y j = at 0 (le_refl 1) e
    go false e true f c g d h x i y j = at 1 (le_refl 1) f
    go false e false f true g d h x i y j = at 2 (le_refl 1) g
    go false e false f false g true h x i y j = at 3 (le_refl 1) h
    go false e false f false g false h true i y j = at 4 (le_refl 1) i
    go false e false f false g false h false i true j = at 5 (le_refl 1) j
    go false e false f false g false h false i false j = rw (e, f, g, h, i, j) (omega arith)

in_rack_of : ℕ → List Pair → ℕ
in_rack_of k l = count_of (is_in k) l

in_racks : (l : List Pair)
    → in_rack_of 0 l + (in_rack_of 1 l + (in_rack_of 2 l + (in_rack_of 3 l + (in_rack_of 4 l + (in_rack_of 5 l + 0))))) ≤ length l
unfolding in_rack_of
in_racks [] =
    let z : (k : ℕ) → count_of (is_in k) [] ≡ 0 = λ k. count-none (is_in k) in
    omega (arith, z 0, z 1, z 2, z 3, z 4, z 5)
in_racks (p ∷ l) =
    let e : (k : ℕ) → count_of (is_in k) (p ∷ l) ≡ share k p + count_of (is_in k) l = unfold share in λ k. count-cons (is_in k) p l in
    let h = in_racks l in
    let o = once p in
    omega (arith, e 0, e 1, e 2, e 3, e 4, e 5, h, o)

-- ---- a rack's entry in a list
Racked : SlotKind × ℕ → Type 0
Racked row = ltb (Slots.number row.0) 6 ≡ true

racks_named : All Racked RACKS
unfolding Racked
racks_named = cons refl (cons refl (cons refl (cons refl (cons refl (cons refl nil)))))

named-slots : (kind : SlotKind) (used available : ℕ) → ltb (Slots.number kind) 6 ≡ true → is_named (on_ship (OfSlots kind used available)) ≡ true
unfolding is_named any_of fields
named-slots kind used available h = h

module _ (c : Catalogue) (k : Frame) (ids : List Id) (qs : List Pair) where
  abbrev x : Context
  x = context c k

  rack-has : (row : SlotKind × ℕ) → Racked row → (id : Id) → name_id c.names row.1 ≡ Some id
      → ltb (to_u 32 (amount k.ship_result id)) (count_of (is_in (Slots.number row.0)) qs) ≡ true
      → any_of is_named (slots x row.0 row.1 (count_of (is_in (Slots.number row.0)) qs)) ≡ true
  unfolding Racked slots context when_above when ◌>>=◌ any_of
  rack-has row r id named over =
      rw (named, over, named-slots row.0 (count_of (is_in (Slots.number row.0)) qs) (to_u 32 (amount k.ship_result id)) r)

  racks-have : (j : ℕ) (row : SlotKind × ℕ) → slice_get RACKS j ≡ Some row
      → any_of is_named (slots x row.0 row.1 (count_of (is_in (Slots.number row.0)) qs)) ≡ true → any_of is_named (racks x qs) ≡ true
  unfolding racks
  racks-have j row e h =
      any-each is_named (λ (r : SlotKind × ℕ). slots x r.0 r.1 (count_of (is_in (Slots.number r.0)) qs)) RACKS j row e h

  hull-has : any_of is_named (racks x qs) ≡ true → any_of is_named (hull_rules x qs) ≡ true
  unfolding hull_rules
  hull-has h =
      any_left is_named (resources x qs ++ racks_and_hardpoints x qs ++ slot_rules x qs ++ item_rules x qs) (limit_rules x qs)
      (any_left is_named (resources x qs ++ racks_and_hardpoints x qs ++ slot_rules x qs) (item_rules x qs)
      (any_left is_named (resources x qs ++ racks_and_hardpoints x qs) (slot_rules x qs)
      (any_right is_named (resources x qs) (racks_and_hardpoints x qs)
      (any_left is_named (racks x qs) (hardpoints x qs) h))))

  list-has : is_hull c k.ship ≡ true → any_of is_named (hull_rules x qs) ≡ true → any_of is_named (list_with c k ids qs) ≡ true
  unfolding list_with
  list-has hull h = rw hull (any_right is_named (not_a_mode c (mode_of k) ++ not_a_skill c ids) (hull_rules x qs) h)

  whole_has : any_of is_named (list_with c k ids qs) ≡ true → any_of is_named (whole_with main c k ids qs) ≡ true
  unfolding whole_with league_with
  whole_has h =
      any_left is_named (list_with c k ids qs ++ on_hull c k (league_of main qs)) (on_hull c k (unknown_types c qs))
      (any_left is_named (list_with c k ids qs) (on_hull c k (league_of main qs)) h)

module _ (c : Catalogue) (f : Fit) (off : List Bool) (long : length off ≡ pair_count c f) (fine : T (good c f off)) where
  abbrev left : List Pair
  left = chosen (map not off) (pairs c f)

  abbrev taken : List Pair
  taken = chosen off (pairs c f)

  unnamed : any_of is_named (whole_with main c f.frame f.skills left) ≡ true → ⊥
  unfolding good
  unnamed h = go (among-named c f (map not off) ∙ h) fine
    where
      go : {b : Bool} → b ≡ true → T (not b) → ⊥
      go e n = subst (λ (b : Bool). T (not b)) e n

  module _ (hull : is_hull c f.frame.ship ≡ true) where
    -- what is left of a rack is no more than the ship has
    room : (j : ℕ) (row : SlotKind × ℕ) → slice_get RACKS j ≡ Some row → (id : Id) → name_id c.names row.1 ≡ Some id
        → count_of (is_in (Slots.number row.0)) left ≤ to_u 32 (amount f.frame.ship_result id)
    room j row e id named = go (ltb available used) refl
      where
        used : ℕ
        used = count_of (is_in (Slots.number row.0)) left

        available : ℕ
        available = to_u 32 (amount f.frame.ship_result id)

        go : (b : Bool) → ltb available used ≡ b → used ≤ available
        go true o =
            absurd (unnamed (whole_has c f.frame f.skills left (list-has c f.frame f.skills left hull
            (hull-has c f.frame f.skills left (racks-have c f.frame f.skills left j row e
            (rack-has c f.frame f.skills left row (all-get racks_named j row e) id named o))))))
        go false o = ltb-false available used o

    above-taken : (j : ℕ) (row : SlotKind × ℕ) → slice_get RACKS j ≡ Some row → above c f row ≤ count_of (is_in (Slots.number row.0)) taken
    unfolding above given
    above-taken j row e = go (name_id c.names row.1) refl
      where
        t : Pair → Bool
        t = is_in (Slots.number row.0)

        go : (o : Option Id) → name_id c.names row.1 ≡ o
            → given o 0 (λ id. count_of t (pairs c f) - to_u 32 (amount f.frame.ship_result id)) ≤ count_of t taken
        go None q = omega arith
        go (Some id) q =
            let s = count-split t off (pairs c f) long in
            let r = room j row e id q in
            omega (arith, s, r)

    racks-bound : sum_of (above c f) RACKS ≤ size off
    racks-bound =
        let h = sum-le (above c f) (λ (row : SlotKind × ℕ). count_of (is_in (Slots.number row.0)) taken) RACKS above-taken in
        let k = in_racks taken in
        let l = chosen-size off (pairs c f) long in
        let e : sum_of (λ (row : SlotKind × ℕ). count_of (is_in (Slots.number row.0)) taken) RACKS
        ≡ in_rack_of 0 taken + (in_rack_of 1 taken + (in_rack_of 2 taken + (in_rack_of 3 taken + (in_rack_of 4 taken + (in_rack_of 5 taken + 0)))))
        = unfold sum_of in_rack_of in refl in
        omega (arith, h, k, l, e)

  pub left-bound : surplus c f ≤ size off
  unfolding surplus
  left-bound = go (is_hull c f.frame.ship) refl
    where
      go : (b : Bool) → is_hull c f.frame.ship ≡ b → cond b (sum_of (above c f) RACKS) 0 ≤ size off
      go true h = racks-bound h
      go false h = omega arith
