-- The image of which pairs are left out, by computing; answers and sets that are not its own.
use mathlib.Core.Path.{◌≡◌, refl, ap}
use native.Mathlib.Omega.{arith}
use mathlib.Core.Bool.{Bool, true, false, cond}
use mathlib.Core.List.{List, [], ◌∷◌}
use mathlib.Core.Logic.{◌⊎◌, inl, inr}
use Prim.Native.Nat.{ℕ, ◌≤◌, ◌<◌}
use lib.ListN.{get_or}
use Rattle.catalogue.specs.Catalogue.{catalogue_of}
use Rattle.fit.specs.Fit.{fit_of}
use Rattle.parts.specs.Parts.{holds}
use Rattle.calls.specs.Output.{Output, filled}
use Rattle.promises.specs.CallCases.{small}
use Rattle.promises.specs.CauseCases.{THREE}
use Rattle.promises.specs.LeavingOut.{put_back, FirstByNumber, LeftExample}
use Rattle.promises.proofs.Opened.{opened}
use Rattle.promises.proofs.Caused.{three_bytes}

-- the first pair's number in an answer
abbrev first_number : Output → ℕ
first_number o = get_or (filled [] o) 8 0

abbrev first_two : List Bool
first_two = true ∷ true ∷ false ∷ []

-- putting back leaves the last two, and a set by number would have to be smaller
not_first : (first_two ≡ put_back (catalogue_of small) (fit_of THREE) 11) ⊎ FirstByNumber (catalogue_of small) (fit_of THREE) 11 first_two
    → ⊥
unfolding opened
not_first (inl e) = let q : ◌≡◌ {A = ℕ} 1 0 = ap (λ (s : List Bool). cond (holds s 0) 1 0) e in omega (arith, q)
not_first (inr b) = let q : 2 < 2 = b.smaller in omega (arith, q)

pub left_example : LeftExample
unfolding opened
left_example = record {
  bytes = three_bytes;
  at_once = refl;
  by_one = refl;
  by_all = refl;
  not_the_first = λ e. let q = ap first_number e in omega (arith, q);
  also = record { all = refl; good = tt };
  not_one = λ g. g.good;
  not_none = λ g. g.good;
  not_all = λ h. let q : 3 ≤ 2 = h.of_put_back in omega (arith, q);
  not_earliest = λ h. not_first h.earliest;
}
