-- A property of every element of a list, and what the words of the definitions do to it. By induction on the list.
use Prim.Native.Nat.{ℕ, zero, suc, ◌<◌}
use native.Mathlib.Nat.{le_of_suc-le-suc, not-suc-le-zero}
use mathlib.Core.Path.{sym, subst}
use mathlib.Core.Bool.{Bool, true, false, cond}
use mathlib.Core.List.Memᴰ
use mathlib.Core.List.{List, [], ◌∷◌, ◌++◌, Memᴰ}
use Rattle.std.specs.Prelude.{Option, None, Some}
use lib.Dec.{T}
use lib.ListN.{length, get_or, drop}
use Rattle.words.specs.Words.{◌>>=◌, each, when, unless, find, given, table_from}

pub data All {A : Type 0} (P : A → Type 0) : List A → Type 0 where
  nil : All P []
  cons : {x : A} {l : List A} → P x → All P l → All P (x ∷ l)

module _ {A : Type 0} {P : A → Type 0} where
  pub all-at : (d : A) {l : List A} → All P l → (i : ℕ) → i < length l → P (get_or l i d)
  all-at d nil i k = absurd (not-suc-le-zero k)
  all-at d (cons p h) zero k = p
  all-at d (cons p h) (suc i) k = all-at d h i (le_of_suc-le-suc k)

  pub all-mem : {l : List A} → All P l → (x : A) → Memᴰ x l → P x
  all-mem nil x m = absurd (Memᴰ.not-nil m)
  all-mem (cons p h) x (Memᴰ.head e) = subst P (sym e) p
  all-mem (cons p h) x (Memᴰ.tail m) = all-mem h x m

  pub all_drop : (n : ℕ) {l : List A} → All P l → All P (drop n l)
  all_drop zero h = h
  all_drop (suc n) nil = nil
  all_drop (suc n) (cons p h) = all_drop n h

  pub all_join : {l m : List A} → All P l → All P m → All P (l ++ m)
  all_join nil k = k
  all_join (cons p h) k = cons p (all_join h k)

  pub all-table : (f : ℕ → A) → ((i : ℕ) → P (f i)) → (i n : ℕ) → All P (table_from i n f)
  unfolding table_from
  all-table f h i zero = nil
  all-table f h i (suc n) = cons (h i) (all-table f h (suc i) n)

  pub all-when : (b : Bool) (e : A) → (T b → P e) → All P (when b e)
  unfolding when
  all-when true e h = cons (h tt) nil
  all-when false e h = nil

  pub all-unless : (b : Bool) {l : List A} → All P l → All P (unless b l)
  unfolding unless
  all-unless true h = nil
  all-unless false h = h

  pub all-cond : (b : Bool) {l m : List A} → All P l → All P m → All P (cond b l m)
  all-cond true h k = h
  all-cond false h k = k

  module _ {I : Type 0} where
    pub all-bind : (o : Option I) {f : I → List A} → ((x : I) → All P (f x)) → All P (◌>>=◌ o f)
    unfolding ◌>>=◌
    all-bind None h = nil
    all-bind (Some x) h = h x

    pub all-each : (l : List I) {f : I → List A} → ((x : I) → All P (f x)) → All P (each l f)
    unfolding each
    all-each [] h = nil
    all-each (x ∷ l) h = all_join (h x) (all-each l h)

    pub all-each_of : {Q : I → Type 0} {l : List I} → All Q l → {f : I → List A} → ((x : I) → Q x → All P (f x)) → All P (each l f)
    unfolding each
    all-each_of nil h = nil
    all-each_of (cons {x} q k) h = all_join (h x q) (all-each_of k h)

  -- what is made of the first that passes
  pub all-find : {B : Type 0} (R : B → Type 0) (t : A → Bool) {l : List A} → All P l → (b : B) (f : A → B) → R b → ((x : A) → P x → R (f x))
      → R (given (find t l) b f)
  unfolding find given
  all-find R t nil b f n s = n
  all-find R t (cons {x} {l} p h) b f n s = go (t x) (all-find R t h b f n s)
    where
      go : (c : Bool) → R (given (find t l) b f) → R (given (cond c (Some x) (find t l)) b f)
      go true k = s x p
      go false k = k
