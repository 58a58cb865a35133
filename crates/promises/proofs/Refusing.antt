-- Refusal 9: the walk is too long exactly where more than the limit of distinct skills are wanted. By counting ids.
use Prim.Native.Nat.{ℕ, ◌≤◌, ◌<◌}
use native.Mathlib.Nat.{le_trans}
use mathlib.Core.Bool.{not}
use mathlib.Core.List.Memᴰ
use mathlib.Core.List.{List, Memᴰ}
use lib.Dec.{T, ltb→lt, nltb→le}
use lib.ListN.{length, length-map}
use Rattle.catalogue.specs.Catalogue.{Id, Catalogue}
use Rattle.fit.specs.Fit.{Result}
use Rattle.skill.specs.Skill.{Demand, of_result, noted, met, walk_within, wants_too_many}
use Rattle.skill.specs.Wanted.{ids_of, Wanted, Once}
use Rattle.skill.proofs.Walking.{noted-wanted, noted-once, walked, listed-iff_wanted}
use Rattle.skill.proofs.Onces.{once-length}

-- ---- refusal 9
module _ (limit : ℕ) (c : Catalogue) (r : Result) where
  pub refused-many : T (wants_too_many limit c r) → (xs : List Id) × Once xs × ((x : Id) → Memᴰ x xs → Wanted c r x) × (limit < length xs)
  unfolding wants_too_many walk_within
  refused-many h =
      let ws = noted (met c r limit) in
      (ids_of ws, noted-once (met c r limit), noted-wanted c (of_result c r) limit, rw (length-map ws (λ (w : Demand). w.0)) (ltb→lt limit (length ws) h))

  pub answered-few : T (not (wants_too_many limit c r)) → (xs : List Id) → Once xs → ((x : Id) → Memᴰ x xs → Wanted c r x) → length xs ≤ limit
  answered-few h xs o f =
      let w = walked limit c r h in
      let ws = walk_within limit c r in
      le_trans
      (once-length xs (ids_of ws) o (λ x m. let k = (listed-iff_wanted c (of_result c r) ws w x).0 (f x m) in Memᴰ.map (λ (v : Demand). v.0) k.1))
      (rw (length-map ws (λ (v : Demand). v.0)) (unfold wants_too_many in nltb→le limit (length ws) h))
