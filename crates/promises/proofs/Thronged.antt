-- Rows of causes with as many pairs as a fit can have, all alike. To compute them would take too long: whichever of them is taken off, what
-- is left is the same fit, so that its list is computed once.
use Prim.Native.Nat.{ℕ, zero, suc, ◌<◌}
use native.Mathlib.Omega.{arith}
use mathlib.Core.Path.{◌≡◌, refl, ap, ap₂, ◌∙◌}
use mathlib.Core.Bool.{Bool, true, false, ◌&&◌, cond}
use mathlib.Core.List.Memᴰ
use mathlib.Core.List.{List, [], ◌∷◌, Memᴰ}
use lib.IntN.{pos}
use lib.ListN.{length, replicate}
use Rattle.std.specs.Prelude.{Some, slice_get}
use Rattle.words.specs.Words.{each, any_of, given, table_from, from}
use Rattle.image.specs.Bytes.{le}
use Rattle.numbers.specs.Names.{hi_slots, max_group_fitted, max_type_fitted}
use Rattle.numbers.specs.declared.SlotKind.TheVariants.{High}
use Rattle.numbers.specs.declared.GroupLimit.TheVariants.{Fitted}
use Rattle.floats.specs.Floats.{of_nat}
use Rattle.catalogue.specs.Catalogue.{Catalogue}
use Rattle.fit.specs.Fit.{Attribute, Result, Fit}
use Rattle.fit.specs.Fit as Fit
use Rattle.entry.specs.declared.Target.TheVariants.{Item}
use Rattle.entry.specs.declared.Rule.TheVariants.{Slots, MaxGroup, MaxType}
use Rattle.entry.specs.declared.Entry.{Entry}
use Rattle.entry.specs.Entries.{on_ship, on_item}
use Rattle.context.specs.Context.{pairs}
use Rattle.lists.specs.Terms.{main}
use Rattle.lists.specs.Lists.{whole_list}
use Rattle.parts.specs.Parts.{chosen, every, less, numbers_of, part_of, down_from, thinned}
use Rattle.parts.proofs.Flags.{size_none}
use Rattle.cause.specs.Cause.{is_about, is_kept, renumbered, shows, cause_of, cause_bytes}
use Rattle.promises.specs.Cases.{gun, known, has, Causes, InBytes, outcome_of}
use Rattle.promises.specs.CallCases.{words}
use Rattle.promises.specs.CauseCases.{thronged, THRONGED}
use Rattle.promises.specs.Edges.{Agree}
use Rattle.promises.proofs.Opened.{opened}

-- ---- a list of one element many times over, and all of it chosen but one
module _ {A : Type 0} (x : A) where
  all_chosen : (k n : ℕ) → chosen (table_from k n (λ _. true)) (replicate n x) ≡ replicate n x
  unfolding chosen table_from
  all_chosen k zero = refl
  all_chosen k (suc n) = ap (λ (l : List A). x ∷ l) (all_chosen (suc k) n)

  less_chosen : (k n i : ℕ) → i < suc n → chosen (less (table_from k (suc n) (λ _. true)) i) (replicate (suc n) x) ≡ replicate n x
  unfolding chosen table_from
  less_chosen k n zero h = all_chosen (suc k) n
  less_chosen k zero (suc i) h = absurd (omega (arith, h))
  less_chosen k (suc n) (suc i) h = ap (λ (l : List A). x ∷ l) (less_chosen (suc k) n i (omega (arith, h)))

-- ---- where the set never passes without one of them, all are left
thinned_all : (t : List Bool → Bool) (s : List Bool) (is : List ℕ) → ((i : ℕ) → Memᴰ i is → t (less s i) ≡ false) → thinned t s is ≡ s
unfolding thinned
thinned_all t s [] h = refl
thinned_all t s (i ∷ is) h =
    ap (λ (b : Bool). thinned t (cond b (less s i) s) is) (h i (Memᴰ.head refl)) ∙ thinned_all t s is (λ j m. h j (Memᴰ.tail m))

down_below : (n i : ℕ) → Memᴰ i (down_from n) → i < n
unfolding down_from
down_below zero i m = absurd (Memᴰ.not-nil m)
down_below (suc n) i (Memᴰ.head e) = omega (arith, e)
down_below (suc n) i (Memᴰ.tail m) = let l = down_below n i m in omega (arith, l)

none_right : (a b : Bool) → b ≡ false → (a && b) ≡ false
none_right true b h = h
none_right false b h = refl

module _ (c : Catalogue) (attributes own : List Attribute) (n : ℕ) where
  abbrev f : Fit
  f = thronged attributes own (suc n)

  part_is : (i : ℕ) → i < suc n → part_of f (less (every (suc n)) i) ≡ thronged attributes own n
  unfolding part_of
  part_is i h =
      ap₂ (λ (is : List Fit.Item) (rs : List Result).
      record { frame = f.frame; skills = f.skills; levels = f.levels; items = is; results = rs })
      (less_chosen _ 0 n i h) (less_chosen _ 0 n i h)

  all_kept : (e : Entry) → ((s : List Bool) → renumbered s e.target ≡ e.target) → length (pairs c f) ≡ suc n
      → any_of (is_about e.target e.rule) (whole_list main c (thronged attributes own n)) ≡ false → cause_of c f e ≡ every (suc n)
  unfolding cause_of
  all_kept e fixed many gone =
      ap (λ (m : ℕ). thinned (shows c f e) (every m) (down_from m)) many
      ∙ thinned_all (shows c f e) (every (suc n)) (down_from (suc n)) (λ i m. without i (down_below (suc n) i m))
    where
      without : (i : ℕ) → i < suc n → shows c f e (less (every (suc n)) i) ≡ false
      without i h = unfold shows in
          none_right (is_kept (less (every (suc n)) i) e.target)
          (any_of (is_about (renumbered (less (every (suc n)) i) e.target) e.rule) (whole_list main c (part_of f (less (every (suc n)) i))))
          (ap₂ (λ (t : _) (g : Fit). any_of (is_about t e.rule) (whole_list main c g)) (fixed (less (every (suc n)) i)) (part_is i h)
          ∙ gone)

-- ---- the rows
all_numbers : each (numbers_of (every 256)) (le 4) ≡ words (from 0 256)
unfolding opened
all_numbers = refl

row : (c : Catalogue) (f : Fit) (position : ℕ) (e : Entry) → slice_get (whole_list main c f) position ≡ Some e → cause_of c f e ≡ every 256
    → outcome_of (Causes c f position) ≡ InBytes (words (from 0 256))
unfolding outcome_of cause_bytes given
row c f position e at kept =
    ap (λ o. InBytes (given o [] λ e. each (numbers_of (cause_of c f e)) (le 4))) at
    ∙ ap (λ (s : List Bool). InBytes (each (numbers_of s) (le 4))) kept
    ∙ ap InBytes all_numbers

on_the_ship : (e : Entry) (s : List Bool) → renumbered s (on_ship e.rule).target ≡ (on_ship e.rule).target
unfolding renumbered
on_the_ship e s = refl

on_the_first : (s : List Bool) → renumbered s (Item 0) ≡ Item 0
unfolding renumbered
on_the_first s = ap Item size_none

-- a rack
abbrev racks : List Attribute
racks = has hi_slots (of_nat 255) ∷ []

abbrev of_the_rack : Entry
of_the_rack = on_ship (Slots High 256 255)

rack_at : slice_get (whole_list main (known (hi_slots ∷ [])) (thronged racks [] 256)) 0 ≡ Some of_the_rack
unfolding opened
rack_at = refl

rack_many : length (pairs (known (hi_slots ∷ [])) (thronged racks [] 256)) ≡ 256
unfolding opened
rack_many = refl

rack_gone : any_of (is_about of_the_rack.target of_the_rack.rule) (whole_list main (known (hi_slots ∷ [])) (thronged racks [] 255)) ≡ false
unfolding opened
rack_gone = refl

-- a group
abbrev grouped : List Attribute
grouped = has max_group_fitted (of_nat 255) ∷ []

abbrev of_the_group : Entry
of_the_group = on_item 0 (MaxGroup (pos 50) Fitted 256 255)

group_at : slice_get (whole_list main (known (max_group_fitted ∷ [])) (thronged [] grouped 256)) 256 ≡ Some of_the_group
unfolding opened
group_at = refl

group_many : length (pairs (known (max_group_fitted ∷ [])) (thronged [] grouped 256)) ≡ 256
unfolding opened
group_many = refl

group_gone : any_of (is_about of_the_group.target of_the_group.rule)
    (whole_list main (known (max_group_fitted ∷ [])) (thronged [] grouped 255)) ≡ false
unfolding opened
group_gone = refl

-- a type
abbrev typed : List Attribute
typed = has max_type_fitted (of_nat 255) ∷ []

abbrev of_the_type : Entry
of_the_type = on_item 0 (MaxType gun 256 255)

type_at : slice_get (whole_list main (known (max_type_fitted ∷ [])) (thronged [] typed 256)) 256 ≡ Some of_the_type
unfolding opened
type_at = refl

type_many : length (pairs (known (max_type_fitted ∷ [])) (thronged [] typed 256)) ≡ 256
unfolding opened
type_many = refl

type_gone : any_of (is_about of_the_type.target of_the_type.rule)
    (whole_list main (known (max_type_fitted ∷ [])) (thronged [] typed 255)) ≡ false
unfolding opened
type_gone = refl

pub agree_thronged : Agree THRONGED
agree_thronged =
    let a = row (known (hi_slots ∷ [])) (thronged racks [] 256) 0 of_the_rack rack_at
    (all_kept (known (hi_slots ∷ [])) racks [] 255 of_the_rack (on_the_ship of_the_rack) rack_many rack_gone) in
    let b = row (known (max_group_fitted ∷ [])) (thronged [] grouped 256) 256 of_the_group group_at
    (all_kept (known (max_group_fitted ∷ [])) [] grouped 255 of_the_group on_the_first group_many group_gone) in
    let d = row (known (max_type_fitted ∷ [])) (thronged [] typed 256) 256 of_the_type type_at
    (all_kept (known (max_type_fitted ∷ [])) [] typed 255 of_the_type on_the_first type_many type_gone) in
    ap₂ (λ x l. x ∷ l) a (ap₂ (λ x l. x ∷ l) b (ap (λ x. x ∷ []) d))
