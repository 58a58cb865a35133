-- Skills held in arrays, and one raised at its place: what comes before the place is passed, there it is stored or put in.
use Prim.Native.Nat.{ℕ, zero, suc, ◌+◌, ◌≤◌, ◌<◌}
use native.Mathlib.Nat.{suc-add, zero-add, add-zero, add-suc}
use native.Mathlib.Omega.{arith}
use mathlib.Core.Path.{◌≡◌, refl, sym, ap, ap₂, ◌∙◌}
use mathlib.Core.Bool.{true, false}
use mathlib.Core.List.{List, ◌∷◌, ◌++◌}
use lib.Signed.{lt_z}
use Rattle.words.specs.Words.{table_from, table, same}
use Rattle.catalogue.specs.Catalogue.{Id}
use Rattle.fit.specs.Lookups.{trained}
use Rattle.training.specs.Training.{Training, behind, raised}

-- ---- tables
module _ {A : Type 0} where
  pub table-split : (i d m : ℕ) (f : ℕ → A) → table_from i (m + d) f ≡ table_from i d f ++ table_from (i + d) m f
  unfolding table_from
  table-split i zero m f = rw (add-zero m, add-zero i) refl
  table-split i (suc d) m f =
      let q : suc i + d ≡ suc (i + d) = suc-add i d in
      rw (add-suc m d, add-suc i d) (ap (λ (l : List A). f i ∷ l) (table-split (suc i) d m f ∙ ap (λ (k : ℕ). table_from (suc i) d f ++ table_from k m f) q))

  -- alike at every place
  pub table-alike : (i n : ℕ) (f g : ℕ → A) → ((k : ℕ) → i ≤ k → k < i + n → f k ≡ g k) → table_from i n f ≡ table_from i n g
  unfolding table_from
  table-alike i zero f g h = refl
  table-alike i (suc n) f g h =
      ap₂ (λ (x : A) (l : List A). x ∷ l) (h i (omega arith) (omega arith)) (table-alike (suc i) n f g (λ k p q. h k (omega (arith, p)) (omega (arith, q))))

  -- the first one place later
  pub table-next : (i n : ℕ) (f g : ℕ → A) → ((k : ℕ) → i ≤ k → k < i + n → f (suc k) ≡ g k) → table_from (suc i) n f ≡ table_from i n g
  unfolding table_from
  table-next i zero f g h = refl
  table-next i (suc n) f g h =
      ap₂ (λ (x : A) (l : List A). x ∷ l) (h i (omega arith) (omega arith)) (table-next (suc i) n f g (λ k p q. h k (omega (arith, p)) (omega (arith, q))))

-- ---- what stands before a place
abbrev pub joined : List Id → List ℕ → Training → Training
joined is ls t = record { ids = is ++ t.ids; levels = ls ++ t.levels }

module _ (t : Id) (f : ℕ → Id) (g : ℕ → ℕ) where
  abbrev from-to : ℕ → ℕ → Training
  from-to i n = record { ids = table_from i n f; levels = table_from i n g }

  pub raised-past : (by i d m : ℕ) → ((k : ℕ) → i ≤ k → k < i + d → (same (f k) t ≡ false) × (lt_z t (f k) ≡ false))
      → raised (table_from i (m + d) f) (table_from i (m + d) g) t by
      ≡ joined (table_from i d f) (table_from i d g) (raised (table_from (i + d) m f) (table_from (i + d) m g) t by)
  unfolding table_from raised
  raised-past by i zero m h = rw (add-zero m, add-zero i) refl
  raised-past by i (suc d) m h =
      let here = h i (omega arith) (omega arith) in
      let q : suc i + d ≡ suc (i + d) = suc-add i d in
      let next = raised-past by (suc i) d m (λ k p r. h k (omega (arith, p)) (omega (arith, r))) in
      let rest = next ∙ ap (λ (k : ℕ). joined (table_from (suc i) d f) (table_from (suc i) d g) (raised (table_from k m f) (table_from k m g) t by)) q in
      rw (add-suc m d, add-suc i d, here.0, here.1) (ap (behind (f i) (g i)) rest)

  pub trained-past : (i d m : ℕ) → ((k : ℕ) → i ≤ k → k < i + d → (same (f k) t ≡ false) × (lt_z t (f k) ≡ false))
      → trained (table_from i (m + d) f) (table_from i (m + d) g) t ≡ trained (table_from (i + d) m f) (table_from (i + d) m g) t
  unfolding table_from trained
  trained-past i zero m h = rw (add-zero m, add-zero i) refl
  trained-past i (suc d) m h =
      let here = h i (omega arith) (omega arith) in
      let q : suc i + d ≡ suc (i + d) = suc-add i d in
      let next = trained-past (suc i) d m (λ k p r. h k (omega (arith, p)) (omega (arith, r))) in
      rw (add-suc m d, add-suc i d, here.0) (next ∙ ap (λ (k : ℕ). trained (table_from k m f) (table_from k m g) t) q)

  -- ---- at the place itself
  -- it stands there: stored
  pub raised-there : (by p m : ℕ) → same (f p) t ≡ true
      → raised (table_from p (suc m) f) (table_from p (suc m) g) t by
      ≡ record { ids = f p ∷ table_from (suc p) m f; levels = (g p + by) ∷ table_from (suc p) m g }
  unfolding table_from raised
  raised-there by p m e = rw e refl

  pub trained-there : (p m : ℕ) → same (f p) t ≡ true → trained (table_from p (suc m) f) (table_from p (suc m) g) t ≡ g p
  unfolding table_from trained
  trained-there p m e = rw e refl

  -- it does not: put in
  pub raised-here : (by p m : ℕ) → (0 < m → (same (f p) t ≡ false) × (lt_z t (f p) ≡ true))
      → raised (table_from p m f) (table_from p m g) t by ≡ record { ids = t ∷ table_from p m f; levels = by ∷ table_from p m g }
  unfolding table_from raised
  raised-here by p zero h = refl
  raised-here by p (suc m) h = let k = h (omega arith) in rw (k.0, k.1) refl

  -- ---- one put in
  module _ (f' : ℕ → Id) (g' : ℕ → ℕ) (by p m : ℕ)
      (front : (k : ℕ) → k < p → (f' k ≡ f k) × (g' k ≡ g k)) (here : (f' p ≡ t) × (g' p ≡ by))
      (back : (k : ℕ) → p ≤ k → k < p + m → (f' (suc k) ≡ f k) × (g' (suc k) ≡ g k)) where
    moved_table : {A : Type 0} (h h' : ℕ → A) (x : A) → ((k : ℕ) → k < p → h' k ≡ h k) → h' p ≡ x → ((k : ℕ) → p ≤ k → k < p + m → h' (suc k) ≡ h k)
        → table_from 0 (suc m + p) h' ≡ table_from 0 p h ++ (x ∷ table_from p m h)
    moved_table {A} h h' x a b c =
        table-split 0 p (suc m) h'
        ∙ ap₂ (λ (l r : List A). l ++ r) (table-alike 0 p h' h (λ k _ q. a k (omega (arith, q)))) (ap (λ (k : ℕ). table_from k (suc m) h') (zero-add p) ∙ behind-it)
      where
        behind-it : table_from p (suc m) h' ≡ x ∷ table_from p m h
        behind-it = unfold table_from in ap₂ (λ (y : A) (l : List A). y ∷ l) b (table-next p m h' h c)

    pub put_in : ((k : ℕ) → k < p → (same (f k) t ≡ false) × (lt_z t (f k) ≡ false)) → (0 < m → (same (f p) t ≡ false) × (lt_z t (f p) ≡ true))
        → ◌≡◌ {A = Training} (record { ids = table (suc m + p) f'; levels = table (suc m + p) g' }) (raised (table (m + p) f) (table (m + p) g) t by)
    put_in past there =
        ap₂ (λ (is : List Id) (ls : List ℕ). record { ids = is; levels = ls })
        (moved_table f f' t (λ k q. (front k q).0) here.0 (λ k q r. (back k q r).0))
        (moved_table g g' by (λ k q. (front k q).1) here.1 (λ k q r. (back k q r).1))
        ∙ sym (raised-past by 0 p m (λ k _ q. past k (omega (arith, q)))
        ∙ ap (λ (k : ℕ). joined (table_from 0 p f) (table_from 0 p g) (raised (table_from k m f) (table_from k m g) t by)) (zero-add p)
        ∙ ap (joined (table_from 0 p f) (table_from 0 p g)) (raised-here by p m there))

  -- ---- one that stands at p: its level
  module _ (p m : ℕ) (past : (k : ℕ) → k < p → (same (f k) t ≡ false) × (lt_z t (f k) ≡ false)) (there : same (f p) t ≡ true) where
    pub level-there : trained (table (suc m + p) f) (table (suc m + p) g) t ≡ g p
    level-there =
        trained-past 0 p (suc m) (λ k _ q. past k (omega (arith, q)))
        ∙ ap (λ (k : ℕ). trained (table_from k (suc m) f) (table_from k (suc m) g) t) (zero-add p)
        ∙ trained-there p m there

    pub stored : (by : ℕ) (g' : ℕ → ℕ) → ((k : ℕ) → (k ≡ p → ⊥) → g' k ≡ g k) → g' p ≡ g p + by
        → ◌≡◌ {A = Training} (record { ids = table (suc m + p) f; levels = table (suc m + p) g' }) (raised (table (suc m + p) f) (table (suc m + p) g) t by)
    stored by g' others own =
        ap₂ (λ (is : List Id) (ls : List ℕ). record { ids = is; levels = ls })
        (table-split 0 p (suc m) f ∙ ap (λ (k : ℕ). table_from 0 p f ++ table_from k (suc m) f) (zero-add p) ∙ ap (λ (l : List Id). table_from 0 p f ++ l) ids-there)
        (table-split 0 p (suc m) g'
        ∙ ap₂ (λ (l r : List ℕ). l ++ r) (table-alike 0 p g' g (λ k _ q. others k (λ e. omega (arith, e, q)))) (ap (λ (k : ℕ). table_from k (suc m) g') (zero-add p) ∙ levels-there))
        ∙ sym (raised-past by 0 p (suc m) (λ k _ q. past k (omega (arith, q)))
        ∙ ap (λ (k : ℕ). joined (table_from 0 p f) (table_from 0 p g) (raised (table_from k (suc m) f) (table_from k (suc m) g) t by)) (zero-add p)
        ∙ ap (joined (table_from 0 p f) (table_from 0 p g)) (raised-there by p m there))
      where
        ids-there : table_from p (suc m) f ≡ f p ∷ table_from (suc p) m f
        ids-there = unfold table_from in refl

        levels-there : table_from p (suc m) g' ≡ (g p + by) ∷ table_from (suc p) m g
        levels-there = unfold table_from in
            ap₂ (λ (y : ℕ) (l : List ℕ). y ∷ l) own (table-alike (suc p) m g' g (λ k q _. others k (λ e. omega (arith, e, q))))

  -- ---- one that is not listed has level 0
  pub trained-none : (i n : ℕ) → ((k : ℕ) → i ≤ k → k < i + n → same (f k) t ≡ false) → trained (table_from i n f) (table_from i n g) t ≡ 0
  unfolding table_from trained
  trained-none i zero h = refl
  trained-none i (suc n) h =
      rw (h i (omega arith) (omega arith)) (trained-none (suc i) n (λ k p q. h k (omega (arith, p)) (omega (arith, q))))
