-- Where a skill stands in a walk, and that one that is not among the first ids stands nowhere.
use Prim.Native.Nat.{ℕ, ◌<◌, ◌≤◌}
use native.Mathlib.Omega.{arith}
use mathlib.Core.Path.{◌≡◌, sym, ap, ◌∙◌}
use mathlib.Core.Bool.{Bool, false, not, true≢false}
use mathlib.Core.List.{List}
use lib.ListN.{length, get_or, take}
use lib.IntN.{ℤ, pos}
use Rattle.std.specs.Prelude.{Option, None, Some, position}
use Rattle.std.specs.List.{position_or_len}
use Rattle.std.proofs.lemmas.Grind.{common_steps}
use Rattle.std.proofs.lemmas.List.{get_or-take, length-take-le}
use Rattle.std.proofs.lemmas.List.Quantifiers.{position-Some}
use Rattle.std.proofs.lemmas.List.Sums.{fails_before_first, prefix_len-le-length}
use Rattle.words.specs.Words.{table, any_of, same}
use Rattle.words.proofs.Tables.{any_false}
use Rattle.words.proofs.Sames.{same_refl, same-eq}
use Rattle.skill.specs.Held.{New, PlacedAt}
use Rattle.skill.specs.declared.walk.Walk.{Walk}

differs : {a b : ℤ} → same a b ≡ false → a ≡ b → ⊥
differs {a} {b} d e = true≢false (sym (same_refl b) ∙ ap (λ (z : ℤ). same z b) (sym e) ∙ d)

-- an id that is not among the first len stands at none of their places
pub not-among : (w : Walk) (id : ℤ) → any_of (λ x. same x id) (table w.len (λ k. get_or w.ids k (pos 0))) ≡ false → New w id
not-among w id e k h = differs (any_false (λ (x : ℤ). same x id) w.len (λ (j : ℕ). get_or w.ids j (pos 0)) e k h)

nowhere : {A : Type 0} (p : A → Bool) (xs : List A) → None ≡ position p xs → position_or_len p xs ≡ length xs
nowhere p xs e = let most = prefix_len-le-length (λ x. not (p x)) xs in grind (arith, common_steps)

module _ (w : Walk) (id : ℤ) (room : w.len ≤ length w.ids) where
  abbrev test : ℤ → Bool
  test x = same x id

  abbrev ids : List ℤ
  ids = take w.len w.ids

  -- the first k ids are others
  others : (n : ℕ) → n ≤ w.len → ((k : ℕ) → k < n → test (get_or ids k (pos 0)) ≡ false) → (k : ℕ) → k < n → get_or w.ids k (pos 0) ≡ id → ⊥
  others n h f k q = differs (ap test (sym (get_or-take w.len w.ids k (pos 0) (omega arith))) ∙ f k q)

  pub placed_at : (r : Option ℕ) → r ≡ position test ids → PlacedAt w id r
  placed_at None e =
      let all = nowhere test ids e in
      others w.len (omega arith) (λ k q. fails_before_first test ids k (pos 0) (omega (arith, q, all, length-take-le w.len w.ids room)))
  placed_at (Some r) e =
      let p = position-Some test ids r (pos 0) (sym e) in
      let inside : r < w.len = omega (arith, p.0, length-take-le w.len w.ids room) in (
        inside,
        record {
          within = omega arith;
          before = others r (omega arith) p.2;
          found = λ _. sym (get_or-take w.len w.ids r (pos 0) inside) ∙ same-eq (get_or ids r (pos 0)) id p.1;
        },
      )
