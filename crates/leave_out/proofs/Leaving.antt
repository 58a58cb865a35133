-- What the code finds is what the definitions say: good sets by the rows, the best of them, what is written.
use Prim.Native.Nat.{ℕ, ◌-◌, min}
use mathlib.Core.Path.{◌≡◌, refl, sym, ap, ap₂, ◌∙◌}
use mathlib.Core.Bool.{Bool, true, false, not, ◌&&◌, cond}
use mathlib.Core.List.{List, [], ◌∷◌, ◌++◌, map, foldl}
use lib.Dec.{ltb}
use lib.ListN.{length, length-map, length-set}
use Rattle.words.specs.Words.{each, table, from}
use Rattle.words.proofs.Tables.{length-table}
use Rattle.image.specs.Bytes.{le}
use Rattle.marks.specs.Marks.{bit_of}
use Rattle.catalogue.specs.Catalogue.{Catalogue, catalogue_of}
use Rattle.fit.specs.Fit.{Fit, fit_of}
use Rattle.entry.specs.declared.Entry.{Entry}
use Rattle.context.specs.declared.Context.{Context as Held}
use Rattle.context.specs.Gathered.{pair_count, context_of, pairs_of}
use Rattle.parts.specs.Parts.{every, size, less, numbers_of}
use Rattle.cause.specs.Members.{stays}
use Rattle.cause.proofs.Caused.{own-kept}
use Rattle.cause.proofs.Staying as Staying
use Rattle.cause.proofs.ReadBack.{pairs-length}
use Rattle.leave_out.specs.LeaveOut.{is_named, set_of, tried, good, better, tries_made, left_out, surplus, distance, leave_out_bytes, all_tries}
use Rattle.leave_out.specs.declared.rows.Rows.{Rows}
use Rattle.leave_out.specs.Held.{entries_in, stays_in, Hold, passes, better_by, best_of}
use Rattle.leave_out.proofs.Named.{any_same, good-named}

module _ (x : Held) (rows : Rows) (held : Hold x (entries_in x) rows) where
  abbrev c : Catalogue
  c = catalogue_of x.catalogue.now

  abbrev f : Fit
  f = fit_of x.fit.now

  abbrev n : ℕ
  n = pair_count x.fit.now

  -- an entry that stays, by what the code holds and by the definitions
  stays-same : (left : List Bool) (e : Entry) → stays_in x left e ≡ is_named e && Staying.passes c f e left
  unfolding stays_in stays context_of pairs_of
  stays-same left e = ap (λ (b : Bool). is_named e && (b && stays c f e left)) (own-kept e.target left)

  passes-good : (s : List Bool) → length s ≡ n → passes rows s ≡ good c f s
  passes-good s h =
      ap not (held (map not s) (length-map s not ∙ h) ∙ any_same (stays_in x (map not s)) (λ e. is_named e && Staying.passes c f e (map not s))
      (entries_in x) (λ i e q. stays-same (map not s) e))
      ∙ sym (good-named c f s)

  -- ---- the fold, for sets of as many flags as there are pairs
  tried-length : (b : List Bool) (k : ℕ) → length b ≡ n → length (tried n b k) ≡ n
  unfolding tried set_of
  tried-length b k h = go (ltb k n)
    where
      go : (t : Bool) → length (cond t (less b k) (table n (bit_of (k - n)))) ≡ n
      go true = length-set b k false ∙ h
      go false = length-table 0 n (bit_of (k - n))

  better-length : (b : List Bool) (k : ℕ) → length b ≡ n → length (better_by (passes rows) n b k) ≡ n
  unfolding better_by
  better-length b k h = go (passes rows (tried n b k) && ltb (size (tried n b k)) (size b))
    where
      go : (t : Bool) → length (cond t (tried n b k) b) ≡ n
      go true = tried-length b k h
      go false = h

  better-same : (b : List Bool) (k : ℕ) → length b ≡ n → better_by (passes rows) n b k ≡ better c f b k
  unfolding better_by better
  better-same b k h =
      ap (λ (t : Bool). cond (t && ltb (size (tried n b k)) (size b)) (tried n b k) b) (passes-good (tried n b k) (tried-length b k h))
      ∙ ap (λ (m : ℕ). cond (good c f (tried m b k) && ltb (size (tried m b k)) (size b)) (tried m b k) b)
      (sym (pairs-length x.catalogue.now x.fit.now))

  fold_same : (b : List Bool) (l : List ℕ) → length b ≡ n → foldl (better_by (passes rows) n) b l ≡ foldl (better c f) b l
  fold_same b [] h = refl
  fold_same b (k ∷ l) h =
      fold_same (better_by (passes rows) n b k) l (better-length b k h) ∙ ap (λ (u : List Bool). foldl (better c f) u l) (better-same b k h)

  pub tries-same : (budget tries : ℕ) → tries ≡ min budget (all_tries n) → tries ≡ tries_made c f budget
  unfolding tries_made
  tries-same budget tries e = e ∙ ap (λ (m : ℕ). min budget (all_tries m)) (sym (pairs-length x.catalogue.now x.fit.now))

  pub left-same : (budget tries : ℕ) → tries ≡ min budget (all_tries n) → best_of (passes rows) n tries ≡ left_out c f budget
  unfolding best_of left_out
  left-same budget tries e =
      fold_same (every n) (from 0 tries) (length-table 0 n (λ _. true))
      ∙ ap₂ (λ (m k : ℕ). foldl (better c f) (every m) (from 0 k)) (sym (pairs-length x.catalogue.now x.fit.now)) (tries-same budget tries e)

  -- what is written
  pub written-same : (budget tries far count : ℕ) (off : List Bool) → tries ≡ min budget (all_tries n) → off ≡ best_of (passes rows) n tries
      → count ≡ size off → far ≡ count - surplus c f
      → le 4 tries ++ le 4 far ++ each (numbers_of off) (le 4) ≡ leave_out_bytes c f budget
  unfolding leave_out_bytes distance
  written-same budget tries far count off e o k d =
      let left : off ≡ left_out c f budget = o ∙ left-same budget tries e in
      let away : far ≡ size (left_out c f budget) - surplus c f =
      d ∙ ap (λ (m : ℕ). m - surplus c f) (k ∙ ap size left) in
      ap₂ (λ (a b : ℕ). le 4 a ++ le 4 b ++ each (numbers_of off) (le 4)) (tries-same budget tries e) away
      ∙ ap (λ (s : List Bool). le 4 (tries_made c f budget) ++ le 4 (size (left_out c f budget) - surplus c f) ++ each (numbers_of s) (le 4)) left
