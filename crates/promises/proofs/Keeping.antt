-- The tables of lists that are kept and that are not: by computing `is_kept` of each pair.
use mathlib.Core.Path.{◌≡◌, refl, ap, ◌∙◌, subst}
use mathlib.Core.Bool.{Bool, true, false, not, cond}
use mathlib.Core.List.Memᴰ
use mathlib.Core.List.{List, [], ◌∷◌, Memᴰ}
use native.Mathlib.Omega.{arith}
use lib.Dec.{T}
use lib.ListN.{length}
use lib.Ieee.{le}
use Rattle.words.specs.Words.{only}
use Rattle.promises.specs.Compare.{varies, blank}
use Rattle.promises.specs.KeptCases.{Lists, listed, AllKept, NoneKept, SAME, HIGHER, GONE, LOWER, OTHER_NUMBERS, OTHER_ENTRIES}
use Rattle.promises.specs.KeptCases.{turned, RISEN, CHANGED, Tables}
use Rattle.promises.proofs.Opened.{opened}
use Rattle.promises.proofs.Deciding.{is_kept, kept_if, if_kept}

kept : Lists → Bool
kept p = is_kept (listed p.0) (listed p.1)

lost : Lists → Bool
lost p = not (kept p)

-- what the tables compute with
tests : Unit {0}
unfolding kept lost is_kept varies blank le opened
tests = tt

-- where none passes, each fails
fails : (t : Lists → Bool) (l : List Lists) → only t l ≡ [] → (p : Lists) → Memᴰ p l → t p ≡ false
unfolding only
fails t [] e p m = absurd (Memᴰ.not-nil m)
fails t (x ∷ l) e p m = go (t x) refl (fails t l) e m
  where
    go : (b : Bool) → t x ≡ b → (only t l ≡ [] → (p : Lists) → Memᴰ p l → t p ≡ false) → cond b (x ∷ only t l) (only t l) ≡ []
        → Memᴰ p (x ∷ l) → t p ≡ false
    go true h f e m = absurd (let z = ap (λ (k : List Lists). length k) e in omega arith)
    go false h f e (Memᴰ.head q) = ap t q ∙ h
    go false h f e (Memᴰ.tail m) = f e p m

not-false : (b : Bool) → not b ≡ false → T b
not-false true e = tt
not-false false e = subst T e tt

all-kept : (l : List Lists) → only lost l ≡ [] → AllKept l
unfolding kept lost
all-kept l e p m = kept_if (listed p.0) (listed p.1) (not-false (kept p) (fails lost l e p m))

none_kept : (l : List Lists) → only kept l ≡ [] → NoneKept l
unfolding kept
none_kept l e p m k = subst T (fails kept l e p m) (if_kept (listed p.0) (listed p.1) k)

-- ---- table by table, so that a pair that fails is found
same : AllKept SAME
unfolding tests
same = all-kept SAME refl

higher : AllKept HIGHER
unfolding tests
higher = all-kept HIGHER refl

gone : NoneKept GONE
unfolding tests
gone = none_kept GONE refl

lower : NoneKept LOWER
unfolding tests
lower = none_kept LOWER refl

other_numbers : NoneKept OTHER_NUMBERS
unfolding tests
other_numbers = none_kept OTHER_NUMBERS refl

other_entries : NoneKept OTHER_ENTRIES
unfolding tests
other_entries = none_kept OTHER_ENTRIES refl

risen : AllKept RISEN
unfolding tests
risen = all-kept RISEN refl

risen_turned : NoneKept (turned RISEN)
unfolding tests
risen_turned = none_kept (turned RISEN) refl

changed : NoneKept CHANGED
unfolding tests
changed = none_kept CHANGED refl

pub tables : Tables
tables = record {
  same = same;
  higher = higher;
  gone = gone;
  lower = lower;
  other_numbers = other_numbers;
  other_entries = other_entries;
  risen = risen;
  risen_turned = risen_turned;
  changed = changed;
}
