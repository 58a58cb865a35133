-- The image whose causes are asked for, by computing; sets that are not least, by a smaller one or by the list of the part.
use Prim.Native.Nat.{ℕ, zero, suc}
use native.Mathlib.Omega.{arith}
use mathlib.Core.Path.{refl, ap}
use mathlib.Core.Bool.{true, false}
use mathlib.Core.List.{[], ◌∷◌}
use lib.Dec.{T}
use lib.ListN.{get_or}
use Rattle.parts.specs.Parts.{holds}
use Rattle.calls.specs.Output.{Output, filled}
use Rattle.promises.specs.Compare.{Bytes}
use Rattle.promises.specs.CauseCases.{THREE}
use Rattle.promises.specs.Causes.{CauseExample}
use Rattle.promises.proofs.Growing.{below, are_bytes}
use Rattle.promises.proofs.Opened.{opened}

pub three_bytes : Bytes THREE
unfolding below opened
three_bytes = are_bytes THREE tt

-- sets of three pairs, one within another
without_last : (i : ℕ) → T (holds (true ∷ true ∷ false ∷ []) i) → T (holds (true ∷ true ∷ true ∷ []) i)
without_last zero h = tt
without_last (suc zero) h = tt
without_last (suc (suc zero)) h = absurd h
without_last (suc (suc (suc i))) h = h

without_first : (i : ℕ) → T (holds (false ∷ true ∷ false ∷ []) i) → T (holds (true ∷ true ∷ false ∷ []) i)
without_first zero h = absurd h
without_first (suc zero) h = tt
without_first (suc (suc zero)) h = h
without_first (suc (suc (suc i))) h = h

-- the first byte of an answer
abbrev first_byte : Output → ℕ
first_byte o = get_or (filled [] o) 0 0

pub cause_example : CauseExample
unfolding opened
cause_example = record {
  bytes = three_bytes;
  at_0 = refl;
  at_2 = refl;
  of_the_rack = refl;
  of_the_second = refl;
  beyond = refl;
  not_the_last = λ e. let q = ap first_byte e in omega (arith, q);
  not_all = λ l. l.gone (true ∷ true ∷ false ∷ []) 2 without_last tt (λ h. h) tt;
  not_one = λ l. l.still;
  not_none = λ l. l.still;
  not_others = λ l. l.still;
  not_beside = λ l. l.gone (false ∷ true ∷ false ∷ []) 0 without_first tt (λ h. h) tt;
}
