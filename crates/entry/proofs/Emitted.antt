-- Laws of `Emitted`: nothing, one entry, one list after another, and the words of the definitions.
use mathlib.Core.Path.{◌≡◌, refl, ap, ap₂, sym, subst, ◌∙◌}
use mathlib.Core.Bool.{Bool, true, false}
use mathlib.Core.List.{List, [], ◌∷◌, ◌++◌, append-nil}
use Prim.Native.Nat.{ℕ, ◌+◌, ◌*◌, ◌/◌, ◌<◌, ◌≤◌}
use native.Mathlib.Omega.{arith}
use native.Mathlib.Numerals.{add-one}
use lib.ListN.{length, get_or, take, length-append}
use lib.Seq.{take_all}
use borrow.Author.Tests.{lt-ltb, le-ltb}
use Rattle.std.specs.Prelude.{Option, None, Some}
use Rattle.std.specs.Borrow.{MutBor}
use Rattle.words.specs.Words.{◌>>=◌, each, when, unless, table_from, table}
use Rattle.words.proofs.Steps.{each_append, each_step}
use Rattle.words.proofs.Tables.{table_more}
use Rattle.image.specs.Bytes.{put}
use Rattle.entry.specs.declared.Entry.{Entry}
use Rattle.entry.specs.declared.Entries.{Entries}
use Rattle.entry.specs.Entries.{entry_bytes}
use Rattle.entry.specs.Wrote.{Wrote, put_at, put_all}
use Rattle.entry.specs.Emitted.{Emitted, Fresh}

put_all-append : (b : List ℕ) (n : ℕ) (es fs : List Entry) → put_all b n (es ++ fs) ≡ put_all (put_all b n es) (n + length es) fs
unfolding put_all
put_all-append b n [] fs = ap (λ (k : ℕ). put_all b k fs) (omega arith)
put_all-append b n (e ∷ es) fs =
    put_all-append (put_at b n e) (n + 1) es fs ∙ ap (λ (k : ℕ). put_all (put_all (put_at b n e) (n + 1) es) k fs) (omega arith)

-- ---- nothing, one entry, one list after another

pub emitted_none : (b : Entries) → Emitted b b []
unfolding put_all
emitted_none b = record { same = refl; count = omega arith; bytes = refl }

module _ {b a : Entries} (e : Entry) where
  emitted_one : a.out.ghost_name ≡ b.out.ghost_name → a.n ≡ b.n + 1 → a.out.now ≡ put_at b.out.now b.n e → Emitted b a (e ∷ [])
  unfolding put_all
  emitted_one s p q = record { same = s; count = p; bytes = q }

  -- where there is room for the entry
  pub emitted-room : b.n < length b.out.now / 24 → a.out.ghost_name ≡ b.out.ghost_name → a.n ≡ b.n + 1
      → a.out.now ≡ put b.out.now (24 * b.n) (entry_bytes e) → Emitted b a (e ∷ [])
  unfolding put_at
  emitted-room h s p q = emitted_one s p (rw (lt-ltb b.n (length b.out.now / 24) h) q)

  -- where there is none
  pub emitted-full : length b.out.now / 24 ≤ b.n → a.out.ghost_name ≡ b.out.ghost_name → a.n ≡ b.n + 1 → a.out.now ≡ b.out.now → Emitted b a (e ∷ [])
  unfolding put_at
  emitted-full h s p q = emitted_one s p (rw (le-ltb b.n (length b.out.now / 24) h) q)

pub emitted-append : {b a a' : Entries} {es fs : List Entry} → Emitted b a es → Emitted a a' fs → Emitted b a' (es ++ fs)
emitted-append {b} {a} {a'} {es} {fs} v w = record {
  same = w.same ∙ v.same;
  count = omega (arith, v.count, w.count, length-append es fs);
  bytes = w.bytes ∙ ap₂ (λ (l : List ℕ) (n : ℕ). put_all l n fs) v.bytes v.count ∙ sym (put_all-append b.out.now b.n es fs);
}

-- the same entries by another name
pub emitted-same : {b a : Entries} {es fs : List Entry} → es ≡ fs → Emitted b a es → Emitted b a fs
emitted-same {b} {a} e w = subst (λ (l : List Entry). Emitted b a l) e w

-- ---- the words of the definitions

module _ {b a : Entries} where
  -- `when` the test holds
  pub emitted-when : {e : Entry} {t : Bool} → t ≡ true → Emitted b a (e ∷ []) → Emitted b a (when t e)
  unfolding when
  emitted-when h w = rw h w

  -- `unless` the code has returned
  pub emitted-past : {es : List Entry} {t : Bool} → t ≡ false → Emitted b a es → Emitted b a (unless t es)
  unfolding unless
  emitted-past h w = rw h w

  pub emitted-bind : {A : Type 0} (f : A → List Entry) {o : Option A} {x : A} → o ≡ Some x → Emitted b a (f x) → Emitted b a (◌>>=◌ o f)
  unfolding ◌>>=◌
  emitted-bind f h w = rw h w

module _ {b : Entries} where
  -- `when` the test fails
  pub emitted-unless : (e : Entry) {t : Bool} → t ≡ false → Emitted b b (when t e)
  unfolding when
  emitted-unless e h = rw h (emitted_none b)

  -- the code returns
  pub emitted-return : (es : List Entry) {t : Bool} → t ≡ true → Emitted b b (unless t es)
  unfolding unless
  emitted-return es h = rw h (emitted_none b)

  pub emitted-bind_none : {A : Type 0} (f : A → List Entry) {o : Option A} → o ≡ None → Emitted b b (◌>>=◌ o f)
  unfolding ◌>>=◌
  emitted-bind_none f h = rw h (emitted_none b)

-- a loop over a list: before it, one turn, after it
module _ {A : Type 0} (f : A → List Entry) (l : List A) where
  pub emitted-each_none : (b : Entries) → Emitted b b (each (take 0 l) f)
  unfolding each
  emitted-each_none b = emitted_none b

  module _ {b a : Entries} (i : ℕ) where
    pub emitted-each_next : {a' : Entries} (d : A) → i < length l → Emitted b a (each (take i l) f) → Emitted a a' (f (get_or l i d))
        → Emitted b a' (each (take (i + 1) l) f)
    emitted-each_next d h v w = rw add-one (emitted-same (sym (each_step f l i d h)) (emitted-append v w))

    pub emitted-each_all : length l ≤ i → Emitted b a (each (take i l) f) → Emitted b a (each l f)
    emitted-each_all h w = emitted-same (ap (λ (m : List A). each m f) (take_all i l h)) w

-- a loop over a table, which is told by its numbers
module _ {A : Type 0} (f : A → List Entry) (g : ℕ → A) where
  pub emitted-table_none : (b : Entries) → Emitted b b (each (table 0 g) f)
  unfolding each table_from
  emitted-table_none b = emitted_none b

  pub emitted-table_next : {b a a' : Entries} (i : ℕ) → Emitted b a (each (table i g) f) → Emitted a a' (f (g i)) → Emitted b a' (each (table (i + 1) g) f)
  unfolding each
  emitted-table_next i v w =
      let more : each (table (i + 1) g) f ≡ each (table i g) f ++ f (g i) =
      ap (λ (m : List A). each m f) (table_more i g)
      ∙ each_append f (table i g) (g i ∷ [])
      ∙ ap (λ (r : List Entry). each (table i g) f ++ r) (append-nil (f (g i))) in
      emitted-same (sym more) (emitted-append v w)

  pub emitted-table_all : {b a : Entries} {i m : ℕ} → i ≤ m → m ≤ i → Emitted b a (each (table i g) f) → Emitted b a (each (table m g) f)
  emitted-table_all {b} {a} {i} {m} p q w = let e : i ≡ m = omega arith in emitted-same (ap (λ (j : ℕ). each (table j g) f) e) w

-- ---- the whole of a call, where the first place is 0

pub emitted_count : {b a : Entries} {es : List Entry} → b.n ≡ 0 → Emitted b a es → a.n ≡ length es
emitted_count z w = omega (arith, z, w.count)

-- a buffer lent to a writer of its own
pub lent : {out : MutBor (List ℕ)} {w a : Entries} {after : List ℕ} {k : ℕ} {es : List Entry} → Fresh out w → Emitted w a es → after ≡ a.out.now → k ≡ a.n
    → Wrote out.now 0 after k es
lent {out} {w} {a} {after} {k} {es} f e p q = record {
  count = q ∙ e.count ∙ ap (λ (n : ℕ). n + length es) f.count;
  bytes = p ∙ e.bytes ∙ ap₂ (λ (l : List ℕ) (n : ℕ). put_all l n es) f.bytes f.count;
}
