-- Each rack that a type asks for has a kind, so that `wrong_slot` passes over none.
use Rattle.std.proofs.Common.{◌≡◌, ◌-◌, ◌<◌, ◌≤◌, ℕ, Bool, true, false, ◌&&◌, cond, leb, List, [], ◌∷◌, get_or, refl, subst, arith}
use mathlib.Core.List.{foldl}
use Rattle.std.specs.Prelude.{Option, None, Some}
use Rattle.std.proofs.lemmas.Option.{slice_get-get_or}
use borrow.Author.Tests.{leb-true}
use Rattle.numbers.specs.declared.SlotKind.TheVariants.{High}
use Rattle.numbers.specs.Slots.{KINDS, kind_of}
use Rattle.catalogue.specs.Catalogue.{Catalogue, Id}
use Rattle.catalogue.specs.Lookups.{marks, last_mark, rack_of}

-- a rack, where there is one
abbrev Rack : Option ℕ → Type 0
Rack None = Unit {0}
Rack (Some r) = r < 6

step : (b b' : Bool) (m : ℕ) (found : Option ℕ) → leb 1 m ≡ b → leb m 6 ≡ b' → Rack found → Rack (cond (b && b') (Some (m - 1)) found)
step true true m found p q f = go (leb-true 1 m p) (leb-true m 6 q)
  where
    go : 1 ≤ m → m ≤ 6 → m - 1 < 6
    go p q = omega arith
step true false m found p q f = f
step false b' m found p q f = f

last-rack : (ms : List ℕ) (found : Option ℕ) → Rack found → Rack (foldl (λ found m. cond (leb 1 m && leb m 6) (Some (m - 1)) found) found ms)
last-rack [] found f = f
last-rack (m ∷ ms) found f = last-rack ms _ (step (leb 1 m) (leb m 6) m found refl refl f)

is-rack : (c : Catalogue) (t : Id) → Rack (rack_of c t)
unfolding rack_of last_mark
is-rack c t = last-rack (marks c t) None tt

pub rack_kind : (c : Catalogue) (t : Id) (r : ℕ) → rack_of c t ≡ Some r → kind_of r ≡ Some (get_or KINDS r High)
rack_kind c t r e =
    let small : r < 6 = subst Rack e (is-rack c t) in
    slice_get-get_or KINDS r High (omega (arith, small))
