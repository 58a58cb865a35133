-- Entry i of a written buffer is where it is read. By induction on the entries, of which each has 24 bytes.
use Prim.Native.Nat.{ℕ, zero, suc, ◌+◌, ◌*◌, ◌<◌}
use native.Mathlib.Nat.{le_of_suc-le-suc, not-suc-le-zero}
use native.Mathlib.Omega.{arith}
use mathlib.Core.Path.{◌≡◌, ap, ◌∙◌}
use mathlib.Core.List.{List, [], ◌∷◌, ◌++◌, append_assoc}
use lib.ListN.{length, get_or, take, drop, length-append}
use lib.Seq.{take_at, drop-append-add}
use Rattle.words.specs.Words.{each}
use Rattle.entry.specs.declared.Entry.{Entry}
use Rattle.entry.specs.Entries.{entry_bytes}
use Rattle.entry.proofs.Bytes.{length-entry_bytes}

-- lists of one length, joined
pub each-length : {A B : Type 0} (f : A → List B) (k : ℕ) → ((x : A) → length (f x) ≡ k) → (l : List A) → length (each l f) ≡ k * length l
unfolding each
each-length f k h [] = omega arith
each-length f k h (x ∷ l) = length-append (f x) (each l f) ∙ (let a = h x in let b = each-length f k h l in omega arith)

pub entry_at : (d : Entry) (es : List Entry) (rest : List ℕ) (i : ℕ) → i < length es
    → take 24 (drop (24 * i) (each es entry_bytes ++ rest)) ≡ entry_bytes (get_or es i d)
unfolding each
entry_at d [] rest i h = absurd (not-suc-le-zero h)
entry_at d (e ∷ es) rest zero h =
    ap (take 24) (append_assoc (entry_bytes e) (each es entry_bytes) rest) ∙ take_at (entry_bytes e) (each es entry_bytes ++ rest) 24 (length-entry_bytes e)
entry_at d (e ∷ es) rest (suc i) h =
    let q : 24 * suc i ≡ length (entry_bytes e) + 24 * i = let a = length-entry_bytes e in omega arith in
    ap (λ (l : List ℕ). take 24 (drop (24 * suc i) l)) (append_assoc (entry_bytes e) (each es entry_bytes) rest)
    ∙ ap (λ (n : ℕ). take 24 (drop n (entry_bytes e ++ (each es entry_bytes ++ rest)))) q
    ∙ ap (take 24) (drop-append-add (entry_bytes e) (each es entry_bytes ++ rest) (24 * i))
    ∙ entry_at d es rest i (le_of_suc-le-suc h)

pub entries-length : (es : List Entry) → length (each es entry_bytes) ≡ 24 * length es
entries-length es = each-length entry_bytes 24 length-entry_bytes es
