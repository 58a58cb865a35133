-- An entry that rises: the same numbers, but that a used one may be higher and a trained level lower. In bytes that is `Stays`, where the
-- numbers fit their places. By computing both entries' bytes.
use Prim.Native.Nat.{ℕ, ◌+◌, ◌*◌, ◌/◌, ◌%◌, ◌^◌, ◌≤◌, ◌<◌}
use native.Mathlib.Nat.{le_refl}
use native.Mathlib.Omega.{arith}
use mathlib.Core.Path.{◌≡◌, refl, sym, ap, ◌∙◌, subst, subst₂}
use mathlib.Core.List.{List}
use lib.Dec.{T}
use lib.Ieee.{Float, binary64, of_bits, fits}
use lib.Ieee as Ieee
use Rattle.words.specs.Words.{each, table_from}
use Rattle.image.specs.Bytes.{u8_at, u32_at, u64_at}
use Rattle.floats.specs.Floats.{f64_at, f64_bits}
use Rattle.floats.proofs.Bits.{f64_bits-lt, f64_bits-back}
use Rattle.catalogue.specs.Catalogue.{Id}
use Rattle.entry.specs.declared.Target.{Target}
use Rattle.entry.specs.declared.Entry.{Entry}
use Rattle.entry.specs.declared.Rule.{Rule}
use Rattle.numbers.specs.declared.Resource.{Resource as Kind}
use Rattle.numbers.specs.declared.SlotKind.{SlotKind}
use Rattle.numbers.specs.declared.GroupLimit.{GroupLimit}
use Rattle.entry.specs.declared.Rule.TheVariants.{Resource, Slots, WrongSlot, NotAModule, NotADrone, NotAFighter, NotAnImplant, SlotTaken}
use Rattle.entry.specs.declared.Rule.TheVariants.{WrongSlotIndex, SubsystemTaken, Skill, RigSize, ShipRestricted, CapitalItem}
use Rattle.entry.specs.declared.Rule.TheVariants.{StructureItem, ShipItem, MaxGroup, MaxType, NotAHull, NotAMode, NotASkill, Banned}
use Rattle.entry.specs.declared.Rule.TheVariants.{Points, UnknownType, Numbers}
use Rattle.entry.specs.Entries.{fields, number, entry_bytes}
use Rattle.promises.specs.Compare.{varies, blank, Stays}

pub data Rises : Rule → Rule → Type 0 where
  same : {r : Rule} → Rises r r
  resource : {r : Kind} {u v a : Float} → T (Ieee.le u v) → Rises (Resource r u a) (Resource r v a)
  slots : {s : SlotKind} {u v a : ℕ} → u ≤ v → Rises (Slots s u a) (Slots s v a)
  skill : {t : Id} {r l m : ℕ} → m ≤ l → Rises (Skill t r l) (Skill t r m)
  max_group : {g : Id} {l : GroupLimit} {u v a : ℕ} → u ≤ v → Rises (MaxGroup g l u a) (MaxGroup g l v a)
  max_type : {t : Id} {u v a : ℕ} → u ≤ v → Rises (MaxType t u a) (MaxType t v a)
  points : {u v a : ℕ} → u ≤ v → Rises (Points u a) (Points v a)

pub record Covers (a b : Entry) : Type 0 where
  pub target : a.target ≡ b.target
  pub rule : Rises a.rule b.rule

-- the used number or the trained level fits its bytes, and no used one is a NaN; numbers in the place of a rule's are none of a list's
abbrev pub Sound : Rule → Type 0
Sound (Resource k u a) = T (fits binary64 u) × T (Ieee.le u u)
Sound (Slots s u a) = u < 2 ^ 32
Sound (WrongSlot s) = Unit {0}
Sound NotAModule = Unit {0}
Sound NotADrone = Unit {0}
Sound NotAFighter = Unit {0}
Sound NotAnImplant = Unit {0}
Sound SlotTaken = Unit {0}
Sound (WrongSlotIndex i) = Unit {0}
Sound SubsystemTaken = Unit {0}
Sound (Skill t r l) = l < 2 ^ 32
Sound (RigSize s i) = Unit {0}
Sound ShipRestricted = Unit {0}
Sound CapitalItem = Unit {0}
Sound StructureItem = Unit {0}
Sound ShipItem = Unit {0}
Sound (MaxGroup g l u a) = u < 2 ^ 32
Sound (MaxType t u a) = u < 2 ^ 32
Sound NotAHull = Unit {0}
Sound NotAMode = Unit {0}
Sound (NotASkill t) = Unit {0}
Sound (Banned g) = Unit {0}
Sound (Points u a) = u < 2 ^ 32
Sound (UnknownType t) = Unit {0}
Sound (Numbers n m u v w x) = ⊥

-- ---- numbers read back from their bytes
four : (n : ℕ) → n < 2 ^ 32 → n % 256 + 256 * (n / 256 % 256) + 65536 * (n / 256 / 256 % 256) + 16777216 * (n / 256 / 256 / 256 % 256) ≡ n
four n h = omega arith

-- an entry of rule 1 stays by its used number, any other where its words at 8 and 12 do not fall and that at 16 does not rise
by_words : {a b : List ℕ} → blank a ≡ blank b → (u8_at a 1 ≡ 1 → T (Ieee.le (f64_at a 8) (f64_at b 8)))
    → (1 < u8_at a 1 → (u32_at a 8 ≤ u32_at b 8) × (u32_at a 12 ≤ u32_at b 12) × (u32_at b 16 ≤ u32_at a 16)) → Stays a b
by_words others used words = record {
  bytes = others;
  resource = used;
  slots = omega arith;
  skill = omega arith;
  max_group = omega arith;
  max_type = omega arith;
  points = omega arith;
}

module _ (t : Target) where
  abbrev bytes : Rule → List ℕ
  bytes r = entry_bytes (record { target = t; rule = r })

  resource-back : (k : Kind) (u a : Float) → T (fits binary64 u) → f64_at (bytes (Resource k u a)) 8 ≡ u
  unfolding fields each entry_bytes f64_at u64_at u32_at
  resource-back k u a h =
      let n = f64_bits u in
      let b : n < 2 ^ 64 = f64_bits-lt u h in
      let p = four (n % 2 ^ 32) (omega arith) in
      let q = four (n / 2 ^ 32) (omega arith) in
      ap (of_bits binary64) (omega arith) ∙ f64_bits-back u h

  -- an entry stays as it is
  own : (r : Rule) → Sound r → u8_at (bytes r) 1 ≡ 1 → T (Ieee.le (f64_at (bytes r) 8) (f64_at (bytes r) 8))
  unfolding fields entry_bytes
  own (Resource k u a) s q = subst (λ (x : Float). T (Ieee.le x x)) (sym (resource-back k u a s.0)) s.1
  own (Slots s' u a) s q = absurd (omega arith)
  own (WrongSlot s') s q = absurd (omega arith)
  own NotAModule s q = absurd (omega arith)
  own NotADrone s q = absurd (omega arith)
  own NotAFighter s q = absurd (omega arith)
  own NotAnImplant s q = absurd (omega arith)
  own SlotTaken s q = absurd (omega arith)
  own (WrongSlotIndex i) s q = absurd (omega arith)
  own SubsystemTaken s q = absurd (omega arith)
  own (Skill t r l) s q = absurd (omega arith)
  own (RigSize s' i) s q = absurd (omega arith)
  own ShipRestricted s q = absurd (omega arith)
  own CapitalItem s q = absurd (omega arith)
  own StructureItem s q = absurd (omega arith)
  own ShipItem s q = absurd (omega arith)
  own (MaxGroup g l u a) s q = absurd (omega arith)
  own (MaxType t u a) s q = absurd (omega arith)
  own NotAHull s q = absurd (omega arith)
  own NotAMode s q = absurd (omega arith)
  own (NotASkill t) s q = absurd (omega arith)
  own (Banned g) s q = absurd (omega arith)
  own (Points u a) s q = absurd (omega arith)
  own (UnknownType t) s q = absurd (omega arith)
  own (Numbers n m u v w x) s q = absurd s

  stays : {r r' : Rule} → Rises r r' → Sound r → Sound r' → Stays (bytes r) (bytes r')
  unfolding fields each entry_bytes u32_at table_from varies blank
  stays (same {r}) s s' = by_words refl (own r s) (λ _. (le_refl _, le_refl _, le_refl _))
  stays (resource {r = k} {u = u} {v = v} {a = a} h) s s' =
      let e : T (Ieee.le (f64_at (bytes (Resource k u a)) 8) (f64_at (bytes (Resource k v a)) 8)) =
      subst₂ (λ (x y : Float). T (Ieee.le x y)) (sym (resource-back k u a s.0)) (sym (resource-back k v a s'.0)) h in
      by_words refl (λ _. e) (λ n. absurd (omega arith))
  stays (slots {u = u} {v = v} h) s s' =
      let p = four u s in
      let q = four v s' in
      by_words refl (λ n. absurd (omega arith)) (λ _. (omega arith, omega arith, omega arith))
  stays (skill {l = l} {m = m} h) s s' =
      let p = four l s in
      let q = four m s' in
      by_words refl (λ n. absurd (omega arith)) (λ _. (omega arith, omega arith, omega arith))
  stays (max_group {u = u} {v = v} h) s s' =
      let p = four u s in
      let q = four v s' in
      by_words refl (λ n. absurd (omega arith)) (λ _. (omega arith, omega arith, omega arith))
  stays (max_type {u = u} {v = v} h) s s' =
      let p = four u s in
      let q = four v s' in
      by_words refl (λ n. absurd (omega arith)) (λ _. (omega arith, omega arith, omega arith))
  stays (points {u = u} {v = v} h) s s' =
      let p = four u s in
      let q = four v s' in
      by_words refl (λ n. absurd (omega arith)) (λ _. (omega arith, omega arith, omega arith))

pub covers-stays : (a b : Entry) → Covers a b → Sound a.rule → Sound b.rule → Stays (entry_bytes a) (entry_bytes b)
covers-stays a b h s s' =
    subst (λ (t : Target). Stays (entry_bytes a) (entry_bytes (record { target = t; rule = b.rule }))) h.target (stays a.target h.rule s s')

-- the number of a rule does not rise
rises_number : {a b : Rule} → Rises a b → (fields a).0 ≡ (fields b).0
unfolding fields
rises_number Rises.same = refl
rises_number (Rises.resource h) = refl
rises_number (Rises.slots h) = refl
rises_number (Rises.skill h) = refl
rises_number (Rises.max_group h) = refl
rises_number (Rises.max_type h) = refl
rises_number (Rises.points h) = refl

pub covers-number : (a b : Entry) → Covers a b → number a ≡ number b
covers-number a b h = rises_number h.rule
