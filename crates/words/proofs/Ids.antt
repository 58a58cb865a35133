-- Two ids are the same where their bits are.
use mathlib.Core.Path.{◌≡◌, refl, sym, ap, ◌∙◌}
use mathlib.Core.Bool.{Bool, true, false}
use lib.Dec.{eqb}
use lib.IntN.{ℤ}
use mir.Syntax.{w32}
use mir.Val.{of_z, to_z, SFits}
use mir.ValLaws.{to_z-of_z}
use borrow.Author.Tests.{eqb-true, eqb-false}
use Rattle.words.specs.Words.{same}
use Rattle.words.proofs.Sames.{same_refl, same_not}

pub bits_same : (a b : ℤ) → SFits w32 a → SFits w32 b → eqb (of_z w32 a) (of_z w32 b) ≡ same a b
bits_same a b p q = go (eqb (of_z w32 a) (of_z w32 b)) refl
  where
    go : (t : Bool) → eqb (of_z w32 a) (of_z w32 b) ≡ t → eqb (of_z w32 a) (of_z w32 b) ≡ same a b
    go true e =
        let h : a ≡ b = sym (to_z-of_z w32 a p) ∙ ap (to_z w32) (eqb-true (of_z w32 a) (of_z w32 b) e) ∙ to_z-of_z w32 b q in
        e ∙ sym (ap (same a) (sym h) ∙ same_refl a)
    go false e = e ∙ sym (same_not a b (λ h. eqb-false (of_z w32 a) (of_z w32 b) e (ap (of_z w32) h)))
