-- What a call left: from its list of entries to the bytes of its buffer, and filters of them.
use Prim.Native.Nat.{ℕ, suc, ◌+◌}
use native.Mathlib.Omega.{arith}
use mathlib.Core.Path.{◌≡◌, refl, sym, ap, ◌∙◌}
use mathlib.Core.Bool.{Bool, true, false, cond}
use mathlib.Core.List.{List, [], ◌∷◌, map}
use lib.Dec.{eqb}
use lib.ListN.{length, get_or}
use Rattle.words.specs.Words.{only, table, table_from}
use Rattle.words.proofs.Tables.{table_same}
use Rattle.words.proofs.Elements.{table-later}
use Rattle.entry.specs.declared.Entry.{Entry}
use Rattle.entry.specs.declared.Rule.TheVariants.{NotAHull}
use Rattle.entry.specs.Entries.{on_ship, entry_bytes}
use Rattle.lists.specs.Lists.{for_guests, for_reader}
use Rattle.promises.specs.Answers.{Outcome, refusal, entry_at, entries_of, Conditions, Answers}
use Rattle.promises.proofs.Answering.{elem_of}

map-table : {B : Type 0} (f : Entry → B) (d : Entry) (es : List Entry) → map f es ≡ table (length es) (λ i. f (get_or es i d))
unfolding table_from
map-table f d [] = refl
map-table f d (e ∷ es) =
    let q : 0 + 1 ≡ suc 0 = omega arith in
    ap (λ r. f e ∷ r)
    (map-table f d es
    ∙ table_same (length es) _ _ (λ j h. let s : suc j ≡ j + 1 = omega arith in ap (λ (k : ℕ). f (get_or (e ∷ es) k d)) s)
    ∙ sym (table-later 1 0 (length es) (λ i. f (get_or (e ∷ es) i d)))
    ∙ ap (λ (k : ℕ). table_from k (length es) (λ i. f (get_or (e ∷ es) i d))) q)

-- an answered call left its list
pub entries-are : {cs : Conditions} {es : List Entry} {b : List ℕ} {o : Outcome} → Answers cs es b o → refusal o ≡ 0
    → entries_of o ≡ map entry_bytes es
entries-are {es = es} {o = o} A answered =
    let d = on_ship NotAHull in
    ap (λ (k : ℕ). table k (entry_at o)) (A.counted answered)
    ∙ table_same (length es) (entry_at o) (λ i. entry_bytes (get_or es i d)) (λ j h. A.entries answered j (get_or es j d) (elem_of d es j h))
    ∙ sym (map-table entry_bytes d es)

-- a filter on bytes is the filter on entries
pub only-map : {A B : Type 0} (f : A → B) (t : B → Bool) (s : A → Bool) → ((x : A) → t (f x) ≡ s x) → (l : List A) → only t (map f l) ≡ map f (only s l)
unfolding only
only-map f t s h [] = refl
only-map f t s h (x ∷ l) = ap (λ (b : Bool). cond b (f x ∷ only t (map f l)) (only t (map f l))) (h x) ∙ go (s x) (only-map f t s h l)
  where
    go : (b : Bool) → only t (map f l) ≡ map f (only s l) → cond b (f x ∷ only t (map f l)) (only t (map f l)) ≡ map f (cond b (x ∷ only s l) (only s l))
    go true e = ap (λ r. f x ∷ r) e
    go false e = e

-- two filters, one after the other, in either order
pub only-swap : {A : Type 0} (s t : A → Bool) (l : List A) → only s (only t l) ≡ only t (only s l)
unfolding only
only-swap s t [] = refl
only-swap s t (x ∷ l) = go (s x) (t x) refl refl (only-swap s t l)
  where
    go : (a b : Bool) → s x ≡ a → t x ≡ b → only s (only t l) ≡ only t (only s l)
        → only s (cond b (x ∷ only t l) (only t l)) ≡ only t (cond a (x ∷ only s l) (only s l))
    go true true p q e = rw (p, q) (ap (λ r. x ∷ r) e)
    go true false p q e = rw q e
    go false true p q e = rw p e
    go false false p q e = e

-- what a reader gets of what passes a test is what passes it of what he gets
pub only-for : (t : Entry → Bool) (reader : ℕ) (es : List Entry) → only t (for_reader reader es) ≡ for_reader reader (only t es)
unfolding for_reader
only-for t reader es = go (eqb reader 0)
  where
    go : (guest : Bool) → only t (cond guest (only for_guests es) es) ≡ cond guest (only for_guests (only t es)) (only t es)
    go true = only-swap t for_guests es
    go false = refl
