-- The 24 bytes of an entry: how many they are, and a head and words put one after the other.
use mathlib.Core.Path.{◌≡◌, refl, sym, ap, ◌∙◌}
use mathlib.Core.List.{List, [], ◌∷◌}
use Prim.Native.Nat.{ℕ, suc, ◌+◌, ◌*◌, ◌<◌}
use native.Mathlib.Numerals.{add-one}
use native.Mathlib.Omega.{arith}
use lib.ListN.{length, get_or, set, take}
use lib.Seq.{length-take-le}
use Rattle.words.specs.Words.{each}
use Rattle.words.proofs.Steps.{each_step}
use Rattle.image.specs.Bytes.{le, put}
use Rattle.image.proofs.Stores.{put-append}
use Rattle.entry.specs.declared.Rule.{Rule}
use Rattle.entry.specs.declared.Rule.TheVariants.{Resource, Slots, WrongSlot, NotAModule, NotADrone, NotAFighter, NotAnImplant}
use Rattle.entry.specs.declared.Rule.TheVariants.{SlotTaken, WrongSlotIndex, SubsystemTaken, Skill, RigSize, ShipRestricted}
use Rattle.entry.specs.declared.Rule.TheVariants.{CapitalItem, StructureItem, ShipItem, MaxGroup, MaxType, NotAHull, NotAMode}
use Rattle.entry.specs.declared.Rule.TheVariants.{NotASkill, Banned, Points, UnknownType, Numbers}
use Rattle.entry.specs.declared.Entry.{Entry}
use Rattle.entry.specs.Entries.{fields, place, entry_bytes}

pub four-words : (r : Rule) → length (fields r).2 ≡ 4
unfolding fields
four-words (Resource k u a) = refl
four-words (Slots k u a) = refl
four-words (WrongSlot k) = refl
four-words NotAModule = refl
four-words NotADrone = refl
four-words NotAFighter = refl
four-words NotAnImplant = refl
four-words SlotTaken = refl
four-words (WrongSlotIndex n) = refl
four-words SubsystemTaken = refl
four-words (Skill id n m) = refl
four-words (RigSize n m) = refl
four-words ShipRestricted = refl
four-words CapitalItem = refl
four-words StructureItem = refl
four-words ShipItem = refl
four-words (MaxGroup id k u a) = refl
four-words (MaxType id u a) = refl
four-words NotAHull = refl
four-words NotAMode = refl
four-words (NotASkill id) = refl
four-words (Banned group) = refl
four-words (Points u a) = refl
four-words (UnknownType id) = refl
four-words (Numbers rule sub a b c d) = refl

length-words : (ws : List ℕ) → length (each ws (le 4)) ≡ 4 * length ws
unfolding each
length-words [] = refl
length-words (w ∷ ws) = let h = length-words ws in omega arith

pub length-entry_bytes : (e : Entry) → length (entry_bytes e) ≡ 24
unfolding entry_bytes
length-entry_bytes e = ap (λ (n : ℕ). suc (suc (suc (suc (suc (suc (suc (suc n)))))))) (length-words (fields e.rule).2 ∙ ap (λ (n : ℕ). 4 * n) (four-words e.rule))

-- three bytes and a zero, then more
pub put_head : (l : List ℕ) (at t c s : ℕ) (ws : List ℕ)
    → put (set (set (set (set l at t) (at + 1) c) (at + 2) s) (at + 3) 0) (at + 4) ws ≡ put l at (t ∷ c ∷ s ∷ 0 ∷ ws)
put_head l at t c s ws =
    let two : at + 2 ≡ at + 1 + 1 = omega arith in
    let three : at + 3 ≡ at + 1 + 1 + 1 = omega arith in
    let four : at + 4 ≡ at + 1 + 1 + 1 + 1 = omega arith in
    rw (two, three, four)

-- one more word
pub put_word : (l : List ℕ) (at : ℕ) (ws : List ℕ) (i : ℕ) → i < length ws
    → put (put l at (each (take i ws) (le 4))) (at + 4 * i) (le 4 (get_or ws i 0)) ≡ put l at (each (take (i + 1) ws) (le 4))
put_word l at ws i h =
    let done = each (take i ws) (le 4) in
    let n : at + 4 * i ≡ at + length done = omega (arith, length-words (take i ws), length-take-le i ws (omega arith)) in
    ap (λ (k : ℕ). put (put l at done) k (le 4 (get_or ws i 0))) n
    ∙ sym (put-append l at done (le 4 (get_or ws i 0)))
    ∙ ap (put l at) (sym (ap (λ (k : ℕ). each (take k ws) (le 4)) (add-one i) ∙ each_step (le 4) ws i 0 h))

-- the head of an entry, then its payload
pub put_entry : (l m : List ℕ) (at : ℕ) (e : Entry) → m ≡ put l at ((place e.target).0 ∷ (fields e.rule).0 ∷ (fields e.rule).1 ∷ 0 ∷ le 4 (place e.target).1)
    → put m (at + 8) (each (fields e.rule).2 (le 4)) ≡ put l at (entry_bytes e)
unfolding entry_bytes
put_entry l m at e h =
    let t = place e.target in
    let r = fields e.rule in
    ap (λ (b : List ℕ). put b (at + 8) (each r.2 (le 4))) h
    ∙ sym (put-append l at (t.0 ∷ r.0 ∷ r.1 ∷ 0 ∷ le 4 t.1) (each r.2 (le 4)))
