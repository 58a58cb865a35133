-- A wanted skill's turn in the arrays, and turns one after the other.
use Prim.Native.Nat.{ℕ, zero, suc, ◌+◌, ◌-◌, ◌<◌, min}
use native.Mathlib.Omega.{arith}
use mathlib.Core.Path.{◌≡◌, refl, sym, ap, ◌∙◌}
use mathlib.Core.Bool.{true, false, ◌&&◌}
use mathlib.Core.List.{List, [], ◌∷◌}
use lib.Dec.{ltb}
use lib.IntN.{ℤ}
use lib.Signed.{mag}
use lib.ListN.{length, set}
use Rattle.words.specs.Words.{table_from, same}
use Rattle.words.proofs.Tables.{foldl_more}
use Rattle.image.specs.Bytes.{u8_at}
use Rattle.keys.specs.Keys.{key_at}
use Rattle.catalogue.specs.Catalogue.{Id}
use Rattle.skill.specs.Skill.{Demand}
use Rattle.skill.specs.Held.{zip_to, held_at, held_of}
use Rattle.skill.proofs.Zips.{pair_eq}
use Rattle.training.specs.Training.{Training, raised}
use Rattle.training.specs.Turns.{gain, portion, turn, turns, Listed, held_in, Parted}
use Rattle.training.proofs.Raising.{gain-listed}
use Rattle.training.proofs.Arrays.{found-level, found-gain, missing-level}

gain-some : (s : Training) (t : Id) (k : ℕ) → 0 < k → raised s.ids s.levels t k ≡ gain s t k
unfolding gain
gain-some s t zero h = absurd (omega arith)
gain-some s t (suc k) h = refl

gain-none : (s : Training) (t : Id) (k : ℕ) → k ≡ 0 → s ≡ gain s t k
unfolding gain
gain-none s t zero h = refl
gain-none s t (suc k) h = absurd (omega (arith, h))

module _ (ids levels : List ℕ) (from len : ℕ) (id : ℤ) (range : mag id < 2147483648) (at : ℕ) (parts : Parted ids from len id at)
    (wanted steps given : ℕ) where
  abbrev held : Training
  held = held_in ids levels from len

  abbrev due : ℕ
  due = portion held steps (id, wanted)

  pub turn-found : at < len → same (key_at ids (from + at)) id ≡ true → from + at < length levels → given ≡ min (wanted - u8_at levels (from + at)) steps
      → ◌≡◌ {A = Training × ℕ} (held_in ids (set levels (from + at) (u8_at levels (from + at) + given)) from len, steps - given) (turn (held, steps) (id, wanted))
  turn-found inside found room e =
      let p : given ≡ due = e ∙ ap (λ (l : ℕ). min (wanted - l) steps) (sym (found-level ids levels from len id range at parts inside found)) in
      pair_eq (found-gain ids levels from len id range at parts inside found given room ∙ ap (λ (k : ℕ). gain held id k) p) (ap (λ (k : ℕ). steps - k) p)

  module _ (missing : ltb at len && same (key_at ids (from + at)) id ≡ false) (listed : Listed held) (e : given ≡ min wanted steps) where
    whole : given ≡ due
    whole = let z = missing-level ids levels from len id range at parts missing listed in omega (arith, e, z)

    pub turn-none : given ≡ 0 → ◌≡◌ {A = Training × ℕ} (held, steps - given) (turn (held, steps) (id, wanted))
    turn-none z = pair_eq (gain-none held id due (sym whole ∙ z)) (ap (λ (k : ℕ). steps - k) whole)

    pub turn-new : 0 < given → {after : Training} → after ≡ raised held.ids held.levels id given
        → ◌≡◌ {A = Training × ℕ} (after, steps - given) (turn (held, steps) (id, wanted))
    turn-new h q = pair_eq (q ∙ gain-some held id given h ∙ ap (λ (k : ℕ). gain held id k) whole) (ap (λ (k : ℕ). steps - k) whole)

-- ---- turn after turn
pub turns-listed : (ws : List Demand) (t : Training) (k : ℕ) → Listed t → Listed (turns t k ws).0
unfolding turns
turns-listed [] t k g = g
turns-listed (w ∷ ws) t k g = turns-listed ws (gain t w.0 (portion t k w)) (k - portion t k w) (gain-listed t w.0 (portion t k w) g)

module _ (t : Training) (k : ℕ) (ids : List ℤ) (levels : List ℕ) where
  pub turns-none : ◌≡◌ {A = Training × ℕ} (t, k) (turns t k (held_of ids levels 0))
  unfolding turns zip_to table_from
  turns-none = refl

  pub turns_next : (i : ℕ) {s : Training × ℕ} → s ≡ turns t k (held_of ids levels i) → turn s (held_at ids levels i) ≡ turns t k (held_of ids levels (i + 1))
  unfolding turns zip_to
  turns_next i e = ap (λ (s : Training × ℕ). turn s (held_at ids levels i)) e ∙ sym (foldl_more (held_at ids levels) turn (t, k) i)
