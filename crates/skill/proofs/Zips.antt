-- Two arrays side by side: none, one more put behind them, and what is made of each.
use Prim.Native.Nat.{ℕ, ◌+◌, ◌<◌}
use native.Mathlib.Nat.{ne_of_lt}
use mathlib.Core.Path.{◌≡◌, refl, ap₂, ◌∙◌}
use mathlib.Core.List.{List, [], ◌∷◌, ◌++◌}
use lib.ListN.{length, set}
use lib.Seq.{get_or-set_same, get_or-set_other}
use Rattle.words.specs.Words.{table_from}
use Rattle.words.proofs.Tables.{length-table, table_more, table_same}
use Rattle.skill.specs.Held.{zip_at, zip_to}

pub pair_eq : {A B : Type 0} {a c : A} {b d : B} → a ≡ c → b ≡ d → ◌≡◌ {A = A × B} (a, b) (c, d)
pair_eq {A} {B} p q = ap₂ (λ (a : A) (b : B). (a, b)) p q

module _ {A B : Type 0} (x : A) (y : B) (a : List A) (b : List B) where
  pub zip_none : zip_to x y a b 0 ≡ []
  unfolding zip_to table_from
  zip_none = refl

  pub zip_length : (n : ℕ) → length (zip_to x y a b n) ≡ n
  unfolding zip_to
  zip_length n = length-table 0 n (zip_at x y a b)

  -- two elements put behind the first n
  pub zip_put : (n : ℕ) (v : A) (w : B) → n < length a → n < length b
      → zip_to x y (set a n v) (set b n w) (n + 1) ≡ zip_to x y a b n ++ ((v, w) ∷ [])
  unfolding zip_to
  zip_put n v w h g =
      let f = zip_at x y (set a n v) (set b n w) in
      table_more n f
      ∙ ap₂ (λ (l : List (A × B)) (p : A × B). l ++ (p ∷ []))
      (table_same n f (zip_at x y a b) (λ k q. pair_eq (get_or-set_other a n k v x (ne_of_lt q)) (get_or-set_other b n k w y (ne_of_lt q))))
      (pair_eq (get_or-set_same a n v x h) (get_or-set_same b n w y g))
