-- Laws of `Wrote`: the whole of a call, which writes from the first place on.
use mathlib.Core.Path.{◌≡◌, refl, ap, sym, ◌∙◌}
use mathlib.Core.List.{List, [], ◌∷◌, ◌++◌, append_assoc}
use Prim.Native.Nat.{ℕ, suc, ◌+◌, ◌*◌, ◌/◌, ◌<◌, ◌≤◌}
use native.Mathlib.Nat.{zero-add}
use native.Mathlib.Omega.{arith}
use lib.ListN.{length, take, drop, length-append, length-drop, take-append-drop}
use lib.Seq.{length-take-le, drop-drop}
use borrow.Author.Tests.{lt-ltb}
use Rattle.words.specs.Words.{each}
use Rattle.image.specs.Bytes.{put}
use Rattle.image.proofs.Stores.{put-between}
use Rattle.entry.specs.declared.Entry.{Entry}
use Rattle.entry.specs.Entries.{entry_bytes, written}
use Rattle.entry.specs.Wrote.{put_at, put_all, Wrote}
use Rattle.entry.proofs.Bytes.{length-entry_bytes}

-- one entry put behind p, which holds the first n
put_at-behind : (e : Entry) (p q : List ℕ) (n : ℕ) → length p ≡ 24 * n → 24 ≤ length q → put_at (p ++ q) n e ≡ p ++ (entry_bytes e ++ drop 24 q)
unfolding put_at
put_at-behind e p q n hp hq =
    let room : n < length (p ++ q) / 24 = omega (arith, length-append p q) in
    let same : length (take 24 q) ≡ length (entry_bytes e) = length-take-le 24 q hq ∙ sym (length-entry_bytes e) in
    rw (lt-ltb n (length (p ++ q) / 24) room)
    (ap (λ (l : List ℕ). put (p ++ l) (24 * n) (entry_bytes e)) (sym (take-append-drop 24 q)) ∙ put-between p (take 24 q) (drop 24 q) (entry_bytes e)
    (24 * n) hp same)

put_all-behind : (es : List Entry) (p q : List ℕ) (n : ℕ) → length p ≡ 24 * n → 24 * length es ≤ length q
    → put_all (p ++ q) n es ≡ p ++ (each es entry_bytes ++ drop (24 * length es) q)
unfolding put_all each
put_all-behind [] p q n hp hq = refl
put_all-behind (e ∷ es) p q n hp hq =
    let bs = entry_bytes e in
    let more : length (p ++ bs) ≡ 24 * (n + 1) = omega (arith, length-append p bs, length-entry_bytes e) in
    let left : 24 * length es ≤ length (drop 24 q) = omega (arith, length-drop 24 q) in
    let k : 24 + 24 * length es ≡ 24 * suc (length es) = omega arith in
    let rest : drop (24 * length es) (drop 24 q) ≡ drop (24 * suc (length es)) q = drop-drop (24 * length es) 24 q ∙ ap (λ (m : ℕ). drop m q) k in
    ap (λ (l : List ℕ). put_all l (n + 1) es) (put_at-behind e p q n hp (omega arith) ∙ sym (append_assoc p bs (drop 24 q)))
    ∙ put_all-behind es (p ++ bs) (drop 24 q) (n + 1) more left
    ∙ append_assoc p bs (each es entry_bytes ++ drop (24 * length es) (drop 24 q))
    ∙ ap (λ (l : List ℕ). p ++ l) (sym (append_assoc bs (each es entry_bytes) (drop (24 * length es) (drop 24 q)))
    ∙ ap (λ (r : List ℕ). bs ++ each es entry_bytes ++ r) rest)

-- entries written from the first place on, where there is room for all
pub wrote-written : {b a : List ℕ} {k : ℕ} {es : List Entry} → Wrote b 0 a k es → 24 * length es ≤ length b → a ≡ written b es
unfolding written
wrote-written {b} {a} {k} {es} w h = w.bytes ∙ put_all-behind es [] b 0 refl h

-- the count, where the first place is 0
pub wrote_count : {b a : List ℕ} {k : ℕ} {es : List Entry} → Wrote b 0 a k es → k ≡ length es
wrote_count w = w.count ∙ zero-add _
