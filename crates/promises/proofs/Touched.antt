-- What a fit touches is what it names and what its results want, and the trimmed catalogue has what stands under these ids, no
-- more. From what is in the lists of ids, and for those that are wanted from `skill/proofs/Walking`.
use Prim.Native.Nat.{ℕ, zero, suc, ◌<◌}
use native.Mathlib.Omega.{arith}
use mathlib.Core.Path.{◌≡◌, refl, sym, ap, subst, ◌∙◌}
use mathlib.Core.Bool.{Bool, true, false, not, ◌||◌, cond}
use mathlib.Core.List.Memᴰ
use mathlib.Core.List.{List, [], ◌∷◌, ◌++◌, map, Memᴰ}
use mathlib.Core.Logic.{◌⊎◌, ◌↔◌, inl, inr}
use lib.Dec.{T, eqb, eqb→eq}
use Rattle.std.specs.Prelude.{None, Some}
use Rattle.words.specs.Words.{each, given, only, contains, any_of}
use Rattle.catalogue.specs.Catalogue.{Id, TypeData, Link, Base, Catalogue}
use Rattle.fit.specs.Fit.{Result, Item, Frame, Fit, mode_of, all_results}
use Rattle.skill.specs.Skill.{Demand, of_result, walk_within, wants_too_many}
use Rattle.skill.specs.Wanted.{Wanted}
use Rattle.skill.proofs.Walking.{noted-wanted, walked, listed-iff_wanted}
use Rattle.skill.proofs.Onces.{mem_contains, contains_mem, each_from, each-has}
use Rattle.trim.specs.Trim.{wanted_ids, touched, trimmed}
use Rattle.promises.specs.Trims.{Named, as_ship, as_mode, as_skill, as_item, Touched, TouchedAlone}
use Rattle.promises.proofs.Growth.{only-mem}

-- ---- lists
-- where no element passes
pub not-any : {A : Type 0} (t : A → Bool) (l : List A) → T (not (any_of t l)) → (x : A) → Memᴰ x l → T (not (t x))
unfolding any_of
not-any t [] h x m = absurd (Memᴰ.not-nil m)
not-any {A} t (y ∷ l) h x m = go (t y) refl h (not-any t l) m
  where
    go : (b : Bool) → t y ≡ b → T (not (b || any_of t l)) → (T (not (any_of t l)) → (z : A) → Memᴰ z l → T (not (t z)))
        → Memᴰ x (y ∷ l) → T (not (t x))
    go true e h f m = absurd h
    go false e h f (Memᴰ.head q) = subst (λ (b : Bool). T (not b)) (sym (ap t q ∙ e)) tt
    go false e h f (Memᴰ.tail n) = f h x n

-- what passes is among those that do
mem-only : {A : Type 0} (t : A → Bool) (l : List A) (x : A) → Memᴰ x l → T (t x) → Memᴰ x (only t l)
unfolding only
mem-only t [] x m p = absurd (Memᴰ.not-nil m)
mem-only t (y ∷ l) x m p = go (t y) refl (λ n. mem-only t l x n p) m
  where
    go : (b : Bool) → t y ≡ b → (Memᴰ x l → Memᴰ x (only t l)) → Memᴰ x (y ∷ l) → Memᴰ x (cond b (y ∷ only t l) (only t l))
    go true e f (Memᴰ.head q) = Memᴰ.head q
    go true e f (Memᴰ.tail n) = Memᴰ.tail (f n)
    go false e f (Memᴰ.head q) = absurd (subst T (ap t q ∙ e) p)
    go false e f (Memᴰ.tail n) = f n

-- ---- the mode
flag-some : (n : ℕ) → eqb n 0 ≡ false → 0 < n
flag-some zero e = absurd (subst T e tt)
flag-some (suc n) e = omega arith

-- it, where the flag says that one is given
abbrev modes : Frame → List Id
modes k = given (mode_of k) [] (λ (m : Id). m ∷ [])

module _ (k : Frame) (id : Id) where
  mode-from : Memᴰ id (modes k) → (0 < k.mode_flag) × (id ≡ k.mode)
  unfolding given mode_of
  mode-from m = go (eqb k.mode_flag 0) refl m
    where
      go : (b : Bool) → eqb k.mode_flag 0 ≡ b → Memᴰ id (given (cond b None (Some k.mode)) [] (λ (m : Id). m ∷ []))
          → (0 < k.mode_flag) × (id ≡ k.mode)
      go true e m = absurd (Memᴰ.not-nil m)
      go false e m = (flag-some k.mode_flag e, Memᴰ.eq_of_singleton m)

  mode-has : 0 < k.mode_flag → id ≡ k.mode → Memᴰ id (modes k)
  unfolding given mode_of
  mode-has some q = go (eqb k.mode_flag 0) (eqb→eq k.mode_flag 0)
    where
      go : (b : Bool) → (T b → k.mode_flag ≡ 0) → Memᴰ id (given (cond b None (Some k.mode)) [] (λ (m : Id). m ∷ []))
      go true e = absurd (let z = e tt in omega (arith, z, some))
      go false e = Memᴰ.head q

-- ---- the ids
module _ (c : Catalogue) (f : Fit) where
  abbrev front : List Id
  front = f.frame.ship ∷ modes f.frame

  abbrev types : List Id
  types = map (λ (i : Item). i.type) f.items

  abbrev named : List Id
  named = front ++ f.skills ++ types

  module _ (id : Id) where
    front-named : Memᴰ id front → Named f id
    front-named (Memᴰ.head e) = as_ship e
    front-named (Memᴰ.tail m) = let h = mode-from f.frame id m in let some = h.0 in as_mode (omega (arith, some)) h.1

    type-named : Memᴰ id types → Named f id
    type-named m = let h = Memᴰ.of_map (λ (i : Item). i.type) f.items m in as_item h.0 h.1 (sym h.2)

    named-from : Memᴰ id named → Named f id
    named-from m = elim (Memᴰ.append_cases (front ++ f.skills) m) [ inl a ↦ go (Memᴰ.append_cases front a) | inr b ↦ type-named b ]
      where
        go : Memᴰ id front ⊎ Memᴰ id f.skills → Named f id
        go (inl a) = front-named a
        go (inr b) = as_skill b

    named-has : Named f id → Memᴰ id named
    named-has (as_ship e) = Memᴰ.append_left types (Memᴰ.append_left f.skills (Memᴰ.head e))
    named-has (as_mode some e) =
        Memᴰ.append_left types (Memᴰ.append_left f.skills (Memᴰ.tail (mode-has f.frame id (omega (arith, some)) e)))
    named-has (as_skill m) = Memᴰ.append_left types (Memᴰ.append_right front m)
    named-has (as_item i m e) =
        Memᴰ.append_right (front ++ f.skills)
        (subst (λ (x : Id). Memᴰ x types) (sym e) (Memᴰ.map (λ (i : Item). i.type) m))

    wanted-from : Memᴰ id (each (all_results f) (wanted_ids c)) → (r : Result) × Memᴰ r (all_results f) × Wanted c r id
    unfolding walk_within
    wanted-from m =
        let a = each_from (all_results f) (wanted_ids c) id m in
        (a.0, a.1, noted-wanted c (of_result c a.0) 512 id a.2)

    touched-from : T (contains id (touched c f)) → Touched c f id
    unfolding touched
    touched-from h =
        elim (Memᴰ.append_cases named (contains_mem id (touched c f) h)) [ inl a ↦ inl (named-from a) | inr b ↦ inr (wanted-from b) ]

    -- where no result wants too many skills
    module _ (few : (r : Result) → Memᴰ r (all_results f) → T (not (wants_too_many 512 c r))) where
      wanted-has : (r : Result) → Memᴰ r (all_results f) → Wanted c r id → Memᴰ id (each (all_results f) (wanted_ids c))
      wanted-has r m w =
          let k = (listed-iff_wanted c (of_result c r) (walk_within 512 c r) (walked 512 c r (few r m)) id).0 w in
          each-has (wanted_ids c) id m (Memᴰ.map (λ (d : Demand). d.0) k.1)

      touched-has : Touched c f id → T (contains id (touched c f))
      unfolding touched
      touched-has (inl n) = mem_contains id (touched c f) (Memᴰ.append_left (each (all_results f) (wanted_ids c)) (named-has n))
      touched-has (inr (r, m, w)) = mem_contains id (touched c f) (Memᴰ.append_right named (wanted-has r m w))

-- ---- what stands under them
-- a catalogue of what is touched lacks no type or link of it, and has no other type
module _ {c : Catalogue} {f : Fit} {new : Catalogue} (x : TouchedAlone c f new) where
  pub type-touched : (y : TypeData) → Memᴰ y new.types → T (contains y.id (touched c f))
  type-touched y m = (x.ids y.id).1 ((x.types y).0 m).1

  pub type-kept : (y : TypeData) → Memᴰ y c.types → Touched c f y.id → T (contains y.id (map (λ (z : TypeData). z.id) new.types))
  type-kept y m t =
      let g = λ (z : TypeData). z.id in
      mem_contains y.id (map g new.types) (Memᴰ.map g ((x.types y).1 (m, t)))

  pub link-kept : (g : Link → Id) (y : Link) → Memᴰ y c.links → Touched c f y.type → T (contains (g y) (map g new.links))
  link-kept g y m t = mem_contains (g y) (map g new.links) (Memᴰ.map g ((x.links y).1 (m, t)))

module _ (c : Catalogue) (f : Fit) (few : (r : Result) → Memᴰ r (all_results f) → T (not (wants_too_many 512 c r))) where
  under : {A : Type 0} (id_of : A → Id) (l : List A) (x : A)
      → Memᴰ x (only (λ y. contains (id_of y) (touched c f)) l) ↔ (Memᴰ x l × Touched c f (id_of x))
  under id_of l x = (
    λ m. let h = only-mem (λ y. contains (id_of y) (touched c f)) l x m in (h.1, touched-from c f (id_of x) h.0),
    λ h. mem-only (λ y. contains (id_of y) (touched c f)) l x h.0 (touched-has c f (id_of x) few h.1),
  )

  pub touched-alone : TouchedAlone c f (trimmed c (touched c f))
  unfolding trimmed
  touched-alone = record {
    types = under (λ (x : TypeData). x.id) c.types;
    links = under (λ (x : Link). x.type) c.links;
    bases = under (λ (x : Base). x.type) c.bases;
    ids = λ id. (touched-from c f id, touched-has c f id few);
  }
