-- A result none of whose ids is flagged has no value under any id that was flagged, and so lists nothing.
use Prim.Native.Nat.{ℕ, zero, suc, ◌+◌, ◌/◌, ◌-◌, ◌%◌, ◌^◌, ◌<◌, ◌≤◌}
use native.Mathlib.Nat.{eq-or-lt_of_le}
use native.Mathlib.Omega.{arith}
use mathlib.Core.Path.{◌≡◌, refl, sym, ap, ap₂, ◌∙◌}
use mathlib.Core.Bool.{Bool, true, false, cond, true≢false}
use mathlib.Core.List.{List, [], ◌∷◌}
use Rattle.std.specs.Prelude.{Option, None, Some}
use mathlib.Core.Logic.{⊎_elim}
use lib.Dec.{ltb}
use lib.IntN.{pos, negsuc}
use lib.ListN.{length, get_or, set, length-set}
use lib.Seq.{get_or-set_same}
use Rattle.words.specs.Words.{◌>>=◌, each, any_of, find, given, same, table}
use Rattle.words.proofs.Elements.{or_left, or_right}
use Rattle.words.proofs.Sames.{same-eq}
use Rattle.image.specs.Bytes.{signed32, bits32}
use Rattle.keys.specs.Keys.{key_at}
use Rattle.catalogue.specs.Catalogue.{Id}
use Rattle.fit.specs.Fit.{Attribute, Result, result_of, count_at, start_at}
use Rattle.fit.specs.Lookups.{value}
use Rattle.fit.specs.Sound.{ids_part}
use Rattle.fit.proofs.Decoded.{attribute-ids, ids_all}
use Rattle.item.specs.Ids.{listed_under, listed_in}
use Rattle.item.specs.Flags.{flag_of, Flagged, OnlyAdded, any_flagged}
use Rattle.item.proofs.Marking.{any-map}

-- ---- one flag more
set_keeps : (l : List Bool) (p i : ℕ) → get_or l i false ≡ true → get_or (set l p true) i false ≡ true
set_keeps [] p i h = h
set_keeps (x ∷ l) zero zero h = refl
set_keeps (x ∷ l) zero (suc i) h = h
set_keeps (x ∷ l) (suc p) zero h = h
set_keeps (x ∷ l) (suc p) (suc i) h = set_keeps l p i h

-- the first k ids are flagged, and what was flagged before still is
pub record Flagging (ids : List (Option Id)) (before flags : List Bool) (k : ℕ) : Type 0 where
  pub long : length flags ≡ 8192
  pub all : (i : ℕ) (id : Id) → i < k → get_or ids i None ≡ Some id → flag_of flags id ≡ true
  pub still : (i : ℕ) → get_or before i false ≡ true → get_or flags i false ≡ true

module _ (ids : List (Option Id)) (before : List Bool) where
  pub flagging_none : length before ≡ 8192 → Flagging ids before before 0
  flagging_none e = record { long = e; all = λ i id h. absurd (omega (arith, h)); still = λ i h. h }

  -- the next id, where there is one
  pub flagging_some : (flags : List Bool) (k : ℕ) (id : Id) → get_or ids k None ≡ Some id → Flagging ids before flags k
      → Flagging ids before (set flags (bits32 id % 8192) true) (k + 1)
  unfolding flag_of
  flagging_some flags k id e v =
      let at = bits32 id % 8192 in
      let new : get_or (set flags at true) at false ≡ true = get_or-set_same flags at true false (omega (arith, v.long)) in
      record {
        long = simp length-set v.long;
        all = λ i z q s.
            ⊎_elim
            (λ (t : i ≡ k).
            let o : Some z ≡ Some id = sym s ∙ ap (λ (j : ℕ). get_or ids j None) t ∙ e in
            let p : z ≡ id = cc in
            ap (λ (y : Id). get_or (set flags at true) (bits32 y % 8192) false) p ∙ new)
            (λ (l : i < k). set_keeps flags at (bits32 z % 8192) (v.all i z l s))
            (eq-or-lt_of_le (omega (arith, q)));
        still = λ i q. set_keeps flags at i (v.still i q);
      }

  -- where there is none
  pub flagging_skip : (flags : List Bool) (k : ℕ) → get_or ids k None ≡ None → Flagging ids before flags k → Flagging ids before flags (k + 1)
  flagging_skip flags k e v =
      record {
        long = v.long;
        all = λ i z q s.
            ⊎_elim
            (λ (t : i ≡ k).
            let o : None ≡ Some z = sym e ∙ ap (λ (j : ℕ). get_or ids j None) (sym t) ∙ s in
            cc)
            (λ (l : i < k). v.all i z l s)
            (eq-or-lt_of_le (omega (arith, q)));
        still = v.still;
      }

  pub flagging_all : (flags : List Bool) (k : ℕ) → length ids ≤ k → Flagging ids before flags k
      → (length flags ≡ 8192) × Flagged ids flags × OnlyAdded before flags
  flagging_all flags k h v = (v.long, record { all = λ i id q. v.all i id (omega (arith, q, h)) }, record { still = v.still })

pub flagged-still : (ids : List (Option Id)) (before after : List Bool) → Flagged ids before → OnlyAdded before after → Flagged ids after
unfolding flag_of
flagged-still ids before after f k = record { all = λ i id h e. k.still (bits32 id % 8192) (f.all i id h e) }

bits_signed : (n : ℕ) → n < 2 ^ 32 → bits32 (signed32 n) ≡ n
unfolding signed32 bits32
bits_signed n h = go (ltb n (2 ^ 31))
  where
    go : (t : Bool) → bits32 (cond t (pos n) (negsuc (2 ^ 32 - 1 - n))) ≡ n
    go true = refl
    go false = omega (arith, h)

pub flag_signed : (flags : List Bool) (n : ℕ) → n < 2 ^ 32 → get_or flags (n % 8192) false ≡ flag_of flags (signed32 n)
unfolding flag_of
flag_signed flags n h = ap (λ (k : ℕ). get_or flags (k % 8192) false) (sym (bits_signed n h))

-- the ids of a result, as they stand in the image
pub flagged-ids : (flags : List Bool) (b : List ℕ) (j : ℕ) (ids : List ℕ) → ids ≡ ids_part b (start_at b j) (count_at b j) → length ids / 4 ≡ count_at b j
    → any_of (flag_of flags) (table (length ids / 4) (key_at ids)) ≡ any_flagged flags (result_of b j)
unfolding any_flagged
flagged-ids flags b j ids e n =
    ap (any_of (flag_of flags)) (ap₂ (λ (k : ℕ) (l : List ℕ). table k (key_at l)) n e ∙ ids_all b (start_at b j) (count_at b j) ∙ sym (attribute-ids b j))
    ∙ any-map (λ (x : Attribute). x.id) (flag_of flags) (result_of b j).attributes

-- ---- a result that has none
module _ (flags : List Bool) where
  -- ids of different flags are different
  differ : (y z : Id) → flag_of flags y ≡ false → flag_of flags z ≡ true → same y z ≡ false
  differ y z p q = go (same y z) refl
    where
      go : (t : Bool) → same y z ≡ t → t ≡ false
      go true e = absurd (true≢false (sym q ∙ ap (flag_of flags) (sym (same-eq y z e)) ∙ p))
      go false e = refl

  no_attribute : (a : Id) → flag_of flags a ≡ true → (l : List Attribute) → any_of (λ x. flag_of flags x.id) l ≡ false
      → find (λ x. same x.id a) l ≡ None
  unfolding any_of find
  no_attribute a h [] e = refl
  no_attribute a h (x ∷ l) e =
      let rest = any_of (λ y. flag_of flags y.id) l in
      let s = differ x.id a (or_left (flag_of flags x.id) rest e) h in
      rw s (no_attribute a h l (or_right (flag_of flags x.id) rest e))

  module _ (r : Result) (e : any_flagged flags r ≡ false) where
    nothing-under : (known : Option Id) → ((id : Id) → known ≡ Some id → flag_of flags id ≡ true) → listed_under r known ≡ None
    unfolding listed_under value any_flagged given
    nothing-under None f = refl
    nothing-under (Some id) f = rw (no_attribute id (f id refl) r.attributes e)

    nothing-each : (ids : List (Option Id)) → ((k : ℕ) (id : Id) → k < length ids → get_or ids k None ≡ Some id → flag_of flags id ≡ true)
        → listed_in r ids ≡ []
    unfolding each ◌>>=◌
    nothing-each [] f = refl
    nothing-each (known ∷ ids) f =
        rw (nothing-under known (λ id. f 0 id (omega arith))) (nothing-each ids (λ k id h. f (suc k) id (omega (arith, h))))

    pub nothing-listed : (ids : List (Option Id)) → Flagged ids flags → listed_in r ids ≡ []
    nothing-listed ids f = nothing-each ids f.all
