-- Document 01, "Records": links and bases never descend, so that those of one type stand together. What a walk over them does.
use Rattle.std.specs.Prelude.{ℕ, ◌-◌, ◌≤◌, ◌<◌, ◌≡◌, true, false, cond, ◌&&◌, List, [], ◌∷◌, leb, ℤ, Float}
use Rattle.std.specs.Prelude.{Option, None, Some}
use Rattle.words.specs.Words.{◌>>=◌, table_from, find, given, same}
use Rattle.numbers.specs.Marks as Marks
use Rattle.catalogue.specs.Catalogue.{Id, Link, Catalogue, base_at, base_count}
use Rattle.catalogue.specs.Lookups.{effect_mark}
use Rattle.catalogue.specs.declared.Span.{Span}

-- of n keys, those equal to id stand from the first place on, up to the second
pub record Run (key : ℕ → ℤ) (n : ℕ) (id : ℤ) (first last : ℕ) : Type 0 where
  pub ordered : first ≤ last
  pub within : last ≤ n
  pub before : (k : ℕ) → k < first → same (key k) id ≡ false
  pub inside : (k : ℕ) → first ≤ k → k < last → same (key k) id ≡ true
  pub after : (k : ℕ) → last ≤ k → k < n → same (key k) id ≡ false

-- of n keys, those equal to id from the first place on end at the second
pub record Ends (key : ℕ → ℤ) (n : ℕ) (id : ℤ) (first last : ℕ) : Type 0 where
  pub ordered : first ≤ last
  pub within : last ≤ n
  pub inside : (k : ℕ) → first ≤ k → k < last → same (key k) id ≡ true
  pub beyond : last < n → same (key last) id ≡ false

-- the bases of a type are those of the span
abbrev pub SpanOf : List ℕ → Id → Span → Type 0
SpanOf b t s = Run (λ k. (base_at b k).type) (base_count b) t s.from s.to

-- the value of an attribute among the bases from one place to another: the first match
unfoldable pub span_value : List ℕ → ℕ → ℕ → Id → Option Float
span_value b first last a = given (find (λ x. same x.attribute a) (table_from first (last - first) (base_at b))) None (λ x. Some x.value)

-- one more mark: one from low to high wins over those before it
abbrev pub marked : ℕ → ℕ → Option ℕ → ℕ → Option ℕ
marked low high found m = cond (leb low m && leb m high) (Some (m - 1)) found

abbrev pub in_rack : Option ℕ → ℕ → Option ℕ
in_rack = marked Marks.hi_power Marks.service_slot

abbrev pub on_hardpoint : Option ℕ → ℕ → Option ℕ
on_hardpoint = marked Marks.turret_fitted Marks.launcher_fitted

-- the mark of a link's effect; none where the effect is not there
abbrev pub link_marks : Catalogue → Link → List ℕ
link_marks c l = do
  mark ← effect_mark c l.effect
  mark ∷ []
