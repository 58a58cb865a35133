-- `Fit::value` meets its contract: an id's place among a result's ids is that of its value.
use native.Mathlib.Omega.{arith}
use mathlib.Core.List.{List}
use mathlib.Core.Path.{◌≡◌, ◌∙◌, ap, sym}
use Prim.Native.Nat.{ℕ, ◌*◌, ◌<◌}
use lib.ListN.{length}
use mir.ValLaws.{to_z-of_z}
use mir.Syntax.{w32}
use Rattle.std.specs.Prelude.{Some}
use Rattle.floats.specs.Floats.{f64_at}
use Rattle.words.specs.Words.{given}
use Rattle.keys.proofs.Parts.{place-below, place-alike}
use Rattle.fit.specs.Fit.{count_at, start_at}
use Rattle.fit.proofs.Searches.{value_told}
use Rattle.fit.proofs.Decoded.{start-within, value-at, values_length}
use Rattle.fit.proofs.Fit.value.Goals.{After-values_of}
use Rattle.fit.proofs.Fit.value.Goals as goal

pub returns-in_err-i : goal.returns-in_err-i
unfolding given
returns-in_err-i c =
    let a = c.args in
    let k = c.id_keys.ensures in
    c.from_residual.ensures
    ∙ value_told a.self.now a.j a.id (c.in_err-i.ensures ∙ place-alike _ _ _ _ k.0 k.1 _ _ (to_z-of_z w32 a.id c.ranges.id))

-- the value stands at the id's place, in a part that is as long as the values
place_in : (c : After-values_of) → let a = c.args in let b = c.args.self.now in
    (c.in_ok-i.i < count_at b a.j) × (length c.values_of.result.now ≡ 8 * count_at b a.j)
place_in c =
    let a = c.args in
    let b = c.args.self.now in (
      omega (arith, c.id_keys.ensures.1, place-below _ _ _ _ (sym c.in_ok-i.ensures)),
      ap length c.values_of.ensures
          ∙ values_length b (start_at b a.j) (count_at b a.j)
          (omega (arith, start-within b c.is_sound.ensures.sized a.j c.requires, c.is_sound.ensures.sized.size)),
    )

pub overflow_mul-i : goal.overflow_mul-i
overflow_mul-i c = omega (arith, place_in c)

pub f64_at-requires : goal.f64_at-requires
f64_at-requires c = omega (arith, place_in c)

pub returns : goal.returns
unfolding given
returns c =
    let a = c.args in
    let b = c.args.self.now in
    let k = c.id_keys.ensures in
    let e = c.in_ok-i.ensures ∙ place-alike _ _ _ _ k.0 k.1 _ _ (to_z-of_z w32 a.id c.ranges.id) in
    ap Some (c.f64_at.ensures ∙ ap (λ (l : List ℕ). f64_at l (8 * c.in_ok-i.i)) c.values_of.ensures
    ∙ value-at b (start_at b a.j) (count_at b a.j) c.in_ok-i.i (place-below _ _ _ _ (sym e)))
    ∙ value_told b a.j a.id e
