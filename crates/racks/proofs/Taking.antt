-- The test of a hardpoint, and what takes a rack.
use Prim.Native.Nat.{ℕ, zero, suc, ◌-◌, ◌≤◌, ◌<◌}
use native.Mathlib.Omega.{arith}
use mathlib.Core.Logic.{◌⊎◌, inl, inr}
use mathlib.Core.Path.{◌≡◌, refl, ap, ◌∙◌}
use mathlib.Core.Bool.{false, ◌&&◌}
use mathlib.Core.List.{List, map, ◌++◌}
use Rattle.std.specs.Prelude.{Option, None, Some, slice_get}
use Rattle.std.specs.Option.{option_eq, option_map}
use Rattle.std.proofs.lemmas.Option.{slice_get-map}
use lib.Dec.{eqb}
use Rattle.words.specs.Words.{given}
use Rattle.numbers.specs.declared.SlotKind.{SlotKind}
use Rattle.numbers.specs.declared.SlotKind.TheVariants.{High, Medium, Low, Rig, Subsystem, Service, Turret, Launcher}
use Rattle.numbers.specs.Slots.{number}
use Rattle.context.specs.Context.{Pair, is_fitted, is_in}
use Rattle.racks.specs.declared.Row.{Row}
use Rattle.racks.specs.Racks.{RACKS, HARDPOINTS, takes_hardpoint}
use Rattle.racks.specs.Taking.{takes, row_of, row_said, row_numbered}

-- the pair's hardpoint, where it takes one
pub takes_is : (p : Pair) (slot : SlotKind) → is_fitted p && option_eq eqb p.hardpoint (Some (number slot)) ≡ takes_hardpoint slot p
unfolding takes_hardpoint given
takes_is p slot = go p.hardpoint
  where
    go : (o : Option ℕ) → is_fitted p && option_eq eqb o (Some (number slot)) ≡ is_fitted p && given o false (λ h. eqb h (number slot))
    go None = refl
    go (Some h) = refl

-- what takes a hardpoint, what a rack
pub armed : (slot : SlotKind) → (slot ≡ Turret) ⊎ (slot ≡ Launcher) → takes_hardpoint slot ≡ takes slot
unfolding takes
armed slot (inl e) = rw e
armed slot (inr e) = rw e

pub racked : (slot : SlotKind) → (slot ≡ Turret → ⊥) → (slot ≡ Launcher → ⊥) → is_in (number slot) ≡ takes slot
unfolding takes
racked High t l = refl
racked Medium t l = refl
racked Low t l = refl
racked Rig t l = refl
racked Subsystem t l = refl
racked Service t l = refl
racked Turret t l = absurd (t refl)
racked Launcher t l = absurd (l refl)

-- ---- the rows of the tables
-- a row as the code holds it
abbrev row : SlotKind × ℕ → Row
row r = record { slot = r.0; name = r.1 }

-- the row that is found in a table by its number there
found_in : (rows : List (SlotKind × ℕ)) (n : ℕ) {o : Option Row} → o ≡ slice_get (map row rows) n → row_said o ≡ slice_get rows n
found_in rows n e = ap (option_map row_of) (e ∙ slice_get-map row rows n) ∙ back (slice_get rows n)
  where
    back : (o : Option (SlotKind × ℕ)) → option_map row_of (option_map row o) ≡ o
    back None = refl
    back (Some r) = refl

first-six : (n : ℕ) → n < 6 → slice_get RACKS n ≡ slice_get (RACKS ++ HARDPOINTS) n
first-six zero h = refl
first-six (suc zero) h = refl
first-six (suc (suc zero)) h = refl
first-six (suc (suc (suc zero))) h = refl
first-six (suc (suc (suc (suc zero)))) h = refl
first-six (suc (suc (suc (suc (suc zero))))) h = refl
first-six (suc (suc (suc (suc (suc (suc n)))))) h = let no : ⊥ = omega (arith, h) in absurd no

after-six : (n : ℕ) → slice_get HARDPOINTS n ≡ slice_get (RACKS ++ HARDPOINTS) (suc (suc (suc (suc (suc (suc n))))))
after-six n = refl

pub rack_found : (n : ℕ) {o : Option Row} → n < 6 → o ≡ slice_get (map row RACKS) n → row_said o ≡ row_numbered n
rack_found n h e = found_in RACKS n e ∙ first-six n h

pub hardpoint_found : (n : ℕ) {o : Option Row} → 6 ≤ n → o ≡ slice_get (map row HARDPOINTS) (n - 6) → row_said o ≡ row_numbered n
hardpoint_found n h e =
    let q : suc (suc (suc (suc (suc (suc (n - 6)))))) ≡ n = omega (arith, h) in
    found_in HARDPOINTS (n - 6) e ∙ after-six (n - 6) ∙ ap (λ (m : ℕ). row_numbered m) q
