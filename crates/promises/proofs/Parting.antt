-- Parts of a fit: a larger part shows no fewer entries, the whole fit shows each of its own, and so what is left when pairs are taken off in
-- turn is least. From what pairs put into others do to a list.
use Prim.Native.Nat.{ℕ, zero, suc, ◌^◌, ◌<◌}
use native.Mathlib.Omega.{arith}
use mathlib.Core.Path.{◌≡◌, refl, sym, ap, ap₂, ◌∙◌, subst}
use mathlib.Core.Bool.{Bool, true, false, not, ◌&&◌, ◌||◌, cond}
use mathlib.Core.List.Memᴰ
use mathlib.Core.List.{List, [], ◌∷◌, Memᴰ}
use Rattle.std.specs.Prelude.{Option, Some, slice_get}
use lib.Dec.{T, eqb, eqb_refl}
use lib.ListN.{length}
use lib.Ieee.{Float, binary32, fits, is_nan}
use Rattle.words.specs.Words.{any_of, given, same, table_from}
use Rattle.words.proofs.All.{All, nil, cons, all-mem, all-table, all-find}
use Rattle.words.proofs.Tables.{length-table}
use Rattle.numbers.specs.Slots as Slots
use Rattle.numbers.specs.declared.Resource.TheVariants.{CargoBay}
use Rattle.floats.specs.Floats.{zero_f, is_volume}
use Rattle.floats.proofs.Bits.{f32_at-fits}
use Rattle.floats.proofs.Products.{term_volume}
use Rattle.catalogue.specs.Catalogue.{Id, TypeData, Catalogue, catalogue_of, type_at, type_count}
use Rattle.catalogue.specs.Lookups.{type_of, volume_of}
use Rattle.fit.specs.Fit.{Result, Fit, fit_of}
use Rattle.fit.specs.Fit as Fit
use Rattle.entry.specs.declared.Target.{Target}
use Rattle.entry.specs.declared.Target.TheVariants.{Ship, Item}
use Rattle.entry.specs.declared.Rule.{Rule}
use Rattle.entry.specs.declared.Entry.{Entry}
use Rattle.entry.specs.Entries.{fields}
use Rattle.context.specs.Context.{Pair, Context, pairs_from, pairs, is_in}
use Rattle.resource.specs.Resource.{cargo_volume, cargo_used, cargo}
use Rattle.lists.specs.Terms.{main}
use Rattle.lists.specs.Lists.{whole_with, whole_list}
use Rattle.parts.specs.Parts.{chosen, every, holds, Inside, down_from}
use Rattle.parts.proofs.Beside.{Beside}
use Rattle.parts.proofs.Numbered.{number_in, chosen-held}
use Rattle.parts.proofs.Renumbered.{Aims, ship, item, part-moves}
use Rattle.parts.proofs.Thinning.{held_below, down_all, thinned-length, thinned-passes, thinned-least}
use Rattle.cause.specs.Cause.{id_of, alike, same_target, is_about, is_kept, shows, cause_of, bad_volume}
use Rattle.cause.proofs.Showing.{listed_among, shows-chosen}
use Rattle.promises.specs.Compare.{Bytes}
use Rattle.promises.specs.Causes.{Least}
use Rattle.promises.proofs.Placed.{Into, more, both, into_nil, only-into, done, skip, keep, placed_bind}
use Rattle.promises.proofs.Placed.{and_both, and_left, and_right, or_left, or_right}
use Rattle.promises.proofs.Rises.{Rises, Covers}
use Rattle.promises.proofs.Growth.{Within, only-mem, resource-grows, whole_with-grows}
use Rattle.promises.proofs.Middle.{total-into}
use Rattle.promises.proofs.Comparing.{quantities}
use Rattle.promises.proofs.Seven.{pairs_small}

-- ---- chosen elements
module _ {A : Type 0} where
  -- those of a larger set have those of a smaller one among them
  pub into_chosen : (a b : List Bool) (l : List A) → Inside a b → Into (chosen a l) (chosen b l)
  unfolding chosen
  into_chosen [] b l h = into_nil (chosen b l)
  into_chosen (x ∷ a) b [] h = into_nil (chosen b [])
  into_chosen (x ∷ a) [] (p ∷ l) h = go x (h 0) (into_chosen a [] l (λ i k. h (suc i) k))
    where
      go : (x : Bool) → (T x → ⊥) → Into (chosen a l) [] → Into (cond x (p ∷ chosen a l) (chosen a l)) []
      go true k s = absurd (k tt)
      go false k s = s
  into_chosen (x ∷ a) (y ∷ b) (p ∷ l) h = go x y (h 0) (into_chosen a b l (λ i k. h (suc i) k))
    where
      go : (x y : Bool) → (T x → T y) → Into (chosen a l) (chosen b l)
          → Into (cond x (p ∷ chosen a l) (chosen a l)) (cond y (p ∷ chosen b l) (chosen b l))
      go true true k s = both s
      go true false k s = absurd (k tt)
      go false true k s = more s
      go false false k s = s

  pub chosen-mem : (s : List Bool) (l : List A) (x : A) → Memᴰ x (chosen s l) → Memᴰ x l
  unfolding chosen
  chosen-mem [] l x m = absurd (Memᴰ.not-nil m)
  chosen-mem (b ∷ s) [] x m = absurd (Memᴰ.not-nil m)
  chosen-mem (b ∷ s) (y ∷ l) x m = go b (chosen-mem s l x) m
    where
      go : (b : Bool) → (Memᴰ x (chosen s l) → Memᴰ x l) → Memᴰ x (cond b (y ∷ chosen s l) (chosen s l)) → Memᴰ x (y ∷ l)
      go true f (Memᴰ.head e) = Memᴰ.head e
      go true f (Memᴰ.tail k) = Memᴰ.tail (f k)
      go false f k = Memᴰ.tail (f k)

  pub chosen-every : (k : ℕ) (l : List A) → chosen (table_from k (length l) (λ _. true)) l ≡ l
  unfolding chosen table_from
  chosen-every k [] = refl
  chosen-every k (x ∷ l) = ap (λ (m : List A). x ∷ m) (chosen-every (suc k) l)

-- ---- members
module _ {A : Type 0} where
  pub elem_mem : (l : List A) (i : ℕ) (x : A) → slice_get l i ≡ Some x → Memᴰ x l
  unfolding given
  elem_mem [] i x h = absurd (subst (λ (o : Option A). T (given o true (λ _. false))) h tt)
  elem_mem (y ∷ l) zero x h = Memᴰ.head (sym (ap (λ (o : Option A). given o y (λ z. z)) h))
  elem_mem (y ∷ l) (suc i) x h = Memᴰ.tail (elem_mem l i x h)

  pub any-mem : (t : A → Bool) (l : List A) (x : A) → Memᴰ x l → T (t x) → T (any_of t l)
  unfolding any_of
  any-mem t [] x m h = absurd (Memᴰ.not-nil m)
  any-mem t (y ∷ l) x (Memᴰ.head e) h = or_left (t y) (any_of t l) (subst (λ (z : A). T (t z)) e h)
  any-mem t (y ∷ l) x (Memᴰ.tail m) h = or_right (t y) (any_of t l) (any-mem t l x m h)

  none-mem : (t : A → Bool) (l : List A) → T (not (any_of t l)) → (x : A) → Memᴰ x l → T (not (t x))
  unfolding any_of
  none-mem t [] h x m = absurd (Memᴰ.not-nil m)
  none-mem t (y ∷ l) h x (Memᴰ.head e) = subst (λ (z : A). T (not (t z))) (sym e) (go (t y) h)
    where
      go : (b : Bool) → T (not (b || any_of t l)) → T (not b)
      go true k = k
      go false k = tt
  none-mem t (y ∷ l) h x (Memᴰ.tail m) = none-mem t l (go (t y) h) x m
    where
      go : (b : Bool) → T (not (b || any_of t l)) → T (not (any_of t l))
      go true k = absurd k
      go false k = k

  beside_mem : {B : Type 0} {R : A → B → Type 0} {l : List A} {m : List B} → Beside R l m → (x : A) → Memᴰ x l → (y : B) × R x y
  beside_mem Beside.nil x k = absurd (Memᴰ.not-nil k)
  beside_mem {B} {R} (Beside.cons {a} {b} r h) x (Memᴰ.head e) = (b, subst (λ (z : A). R z b) (sym e) r)
  beside_mem (Beside.cons r h) x (Memᴰ.tail k) = beside_mem h x k

-- ---- an entry that rises is about the same, of the same rule, sub and id
alike-rises : (r : Rule) {a b : Rule} → Rises a b → alike r a ≡ alike r b
unfolding alike id_of fields any_of
alike-rises r Rises.same = refl
alike-rises r (Rises.resource h) = refl
alike-rises r (Rises.slots h) = refl
alike-rises r (Rises.skill h) = refl
alike-rises r (Rises.max_group h) = refl
alike-rises r (Rises.max_type h) = refl
alike-rises r (Rises.points h) = refl

about_covers : (t : Target) (r : Rule) (a b : Entry) → Covers a b → is_about t r a ≡ is_about t r b
unfolding is_about
about_covers t r a b h = ap₂ (λ (x : Target) (y : Bool). same_target x t && y) h.target (alike-rises r h.rule)

any-placed : (t : Target) (r : Rule) {old new : List Entry} → Within old new → T (any_of (is_about t r) old) → T (any_of (is_about t r) new)
unfolding any_of
any-placed t r done h = h
any-placed t r (skip {b} {old} {new} p) h = or_right (is_about t r b) (any_of (is_about t r) new) (any-placed t r p h)
any-placed t r (keep {a} {b} {old} {new} k p) h = go (is_about t r a) (is_about t r b) (about_covers t r a b k) (any-placed t r p) h
  where
    go : (x y : Bool) → x ≡ y → (T (any_of (is_about t r) old) → T (any_of (is_about t r) new)) → T (x || any_of (is_about t r) old) → T (y || any_of (is_about t r) new)
    go true true e f h = tt
    go true false e f h = absurd (subst T e tt)
    go false true e f h = tt
    go false false e f h = f h

alike_self : (r : Rule) → T (alike r r)
unfolding alike
alike_self r = three (eqb (fields r).0 (fields r).0) (eqb (fields r).1 (fields r).1) (eqb (id_of r) (id_of r)) (eqb_refl (fields r).0) (eqb_refl (fields r).1) (eqb_refl (id_of r))
  where
    three : (a b c : Bool) → T a → T b → T c → T (a && b && c)
    three true true true p q r = tt
    three true true false p q r = absurd r
    three true false c p q r = absurd q
    three false b c p q r = absurd p

pub about_self : (e : Entry) → T (is_about e.target e.rule e)
unfolding is_about same_target
about_self e = and_both (same_target e.target e.target) (alike e.rule e.rule) (own e.target) (alike_self e.rule)
  where
    own : (t : Target) → T (same_target t t)
    own Ship = tt
    own (Item i) = eqb_refl i

-- ---- volumes
-- what a catalogue says is an f32
volume-fits : (b : List ℕ) (t : Id) → T (fits binary32 (volume_of (catalogue_of b) t))
unfolding catalogue_of volume_of type_of
volume-fits b t =
    let vs : All (λ (x : TypeData). T (fits binary32 x.volume)) (catalogue_of b).types = all-table (type_at b) (λ i. f32_at-fits b _) 0 (type_count b) in
    all-find (λ (v : Float). T (fits binary32 v)) (λ (x : TypeData). same x.id t) vs zero_f
    (λ (x : TypeData). cond (eqb x.volume_flag 0) zero_f x.volume) zero-fits
    (λ x p. flag (eqb x.volume_flag 0) x.volume p)
  where
    zero-fits : T (fits binary32 zero_f)
    zero-fits = unfold fits in tt

    flag : (b : Bool) (v : Float) → T (fits binary32 v) → T (fits binary32 (cond b zero_f v))
    flag true v p = zero-fits
    flag false v p = p

pairs-fit : (b : List ℕ) (n : ℕ) (is : List Fit.Item) (rs : List Result) → All (λ (p : Pair). T (fits binary32 p.volume)) (pairs_from (catalogue_of b) n is rs)
unfolding pairs_from
pairs-fit b n [] rs = nil
pairs-fit b n (i ∷ is) [] = nil
pairs-fit b n (i ∷ is) (r ∷ rs) = cons (volume-fits b i.type) (pairs-fit b (suc n) is rs)

fine_volume : (p : Pair) → T (not (bad_volume p)) → T (is_in Slots.cargo p) → T (is_volume p.volume)
unfolding bad_volume
fine_volume p h k = go (is_in Slots.cargo p) (is_volume p.volume) h k
  where
    go : (a b : Bool) → T (not (a && not b)) → T a → T b
    go true true h k = tt
    go true false h k = h
    go false b h k = absurd k

-- the hold over pairs that others are put into, all of them of volumes that are not below zero
hold-into : {ps qs : List Pair} → Into ps qs
    → ((p : Pair) → Memᴰ p qs → T (is_in Slots.cargo p) → T (fits binary32 p.volume) × T (is_volume p.volume) × (p.quantity < 2 ^ 32))
    → (x : Context) → Within (cargo x ps) (cargo x qs)
unfolding cargo cargo_used cargo_volume
hold-into {ps} {qs} s volumes x = placed_bind _ λ capacity.
    resource-grows CargoBay _ _ _ λ o.
    total-into cargo_volume zero_f (only-into (is_in Slots.cargo) s) (unfold fits in tt) (unfold is_nan in tt)
    (λ p m.
    let h = only-mem (is_in Slots.cargo) qs p m in
    let v = volumes p h.1 h.0 in
    term_volume p.volume p.quantity v.0 v.1 v.2)

-- ---- a fit whose Cargo pairs have volumes
module _ (catalogue fit : List ℕ) (bytes : Bytes fit) (fine : T (not (any_of bad_volume (pairs (catalogue_of catalogue) (fit_of fit))))) where
  abbrev cat : Catalogue
  cat = catalogue_of catalogue

  abbrev its : Fit
  its = fit_of fit

  pair-volumes : (p : Pair) → Memᴰ p (pairs cat its) → T (is_in Slots.cargo p)
      → T (fits binary32 p.volume) × T (is_volume p.volume) × (p.quantity < 2 ^ 32)
  unfolding pairs
  pair-volumes p m k = (
    all-mem (pairs-fit catalogue 0 its.items its.results) p m,
    fine_volume p (none-mem bad_volume (pairs cat its) fine p m) k,
    all-mem (pairs_small cat 0 (quantities fit bytes) its.results) p m,
  )

  pub shows-grows : (e : Entry) (a b : List Bool) → Inside a b → T (shows cat its e a) → T (shows cat its e b)
  unfolding is_kept
  shows-grows e a b h t =
      let k = subst T (shows-chosen cat its e a) t in
      let s = into_chosen a b (pairs cat its) h in
      let w : Within (whole_with main cat its.frame its.skills (chosen a (pairs cat its))) (whole_with main cat its.frame its.skills (chosen b (pairs cat its))) =
      whole_with-grows s (hold-into s (λ p m. pair-volumes p (chosen-mem b (pairs cat its) p m))) (record { profile = refl; allowance = refl; reader = refl })
      cat its.frame its.skills in
      subst T (sym (shows-chosen cat its e b))
      (and_both (is_kept b e.target) (listed_among cat its b e)
      (kept e.target (and_left (is_kept a e.target) (listed_among cat its a e) k))
      (any-placed e.target e.rule w (and_right (is_kept a e.target) (listed_among cat its a e) k)))
    where
      kept : (t : Target) → T (is_kept a t) → T (is_kept b t)
      kept Ship q = tt
      kept (Item i) q = h i q

-- ---- the whole fit
module _ (c : Catalogue) (f : Fit) (e : Entry) (m : Memᴰ e (whole_list main c f)) where
  abbrev all : List Bool
  all = every (length (pairs c f))

  all-chosen : chosen all (pairs c f) ≡ pairs c f
  all-chosen = chosen-every 0 (pairs c f)

  among : Memᴰ e (whole_with main c f.frame f.skills (chosen all (pairs c f)))
  unfolding whole_list
  among = subst (λ (l : List Pair). Memᴰ e (whole_with main c f.frame f.skills l)) (sym all-chosen) m

  aims_kept : (s : List Bool) {a b : Entry} → Aims (number_in s) (chosen s (pairs c f)) a b → T (is_kept s a.target)
  unfolding is_kept
  aims_kept s ship = tt
  aims_kept s (item {p} k) = chosen-held c f s p k

  pub whole_shows : T (shows c f e all)
  whole_shows =
      subst T (sym (shows-chosen c f e all))
      (and_both (is_kept all e.target) (listed_among c f all e)
      (aims_kept all (beside_mem (part-moves main c f all) e among).1)
      (any-mem (is_about e.target e.rule) (whole_with main c f.frame f.skills (chosen all (pairs c f))) e among (about_self e)))

-- ---- what is left is least
pub cause_length : (c : Catalogue) (f : Fit) (e : Entry) → length (cause_of c f e) ≡ length (pairs c f)
unfolding cause_of
cause_length c f e =
    let n = length (pairs c f) in thinned-length (shows c f e) (every n) (down_from n) ∙ length-table 0 n (λ _. true)

pub cause_least : (catalogue fit : List ℕ) → Bytes fit → T (not (any_of bad_volume (pairs (catalogue_of catalogue) (fit_of fit)))) → (e : Entry)
    → Memᴰ e (whole_list main (catalogue_of catalogue) (fit_of fit))
    → Least (catalogue_of catalogue) (fit_of fit) e (cause_of (catalogue_of catalogue) (fit_of fit) e)
unfolding cause_of
cause_least catalogue fit bytes fine e m =
    let c = catalogue_of catalogue in
    let f = fit_of fit in
    let n = length (pairs c f) in
    let q = cause_length c f e in
    record {
      still = thinned-passes (shows c f e) (every n) (down_from n) (whole_shows c f e m);
      gone = λ s i k h no p.
          let l = held_below (cause_of c f e) i h in
          thinned-least (shows c f e) (shows-grows catalogue fit bytes fine e) (every n) s (down_from n) i (down_all n i (omega (arith, l, q))) k h no p;
    }

-- an entry that every part shows keeps no pair
pub cause_none : (c : Catalogue) (f : Fit) (e : Entry) → ((s : List Bool) → T (shows c f e s)) → (i : ℕ) → T (holds (cause_of c f e) i) → ⊥
unfolding cause_of
cause_none c f e always i h =
    let n = length (pairs c f) in
    let q = cause_length c f e in
    let l = held_below (cause_of c f e) i h in
    thinned-least (shows c f e) (λ a b k p. always b) (every n) [] (down_from n) i (down_all n i (omega (arith, l, q))) (λ j k. absurd k) h (λ k. k) (always [])
