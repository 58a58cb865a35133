-- A trimmed catalogue is not refused: its keys are in order and its fields within their limits, as those of the old one are.
use Prim.Native.Nat.{ℕ, ◌≤◌}
use native.Mathlib.Omega.{arith}
use mathlib.Core.Path.{◌≡◌, ap, ap₂, ◌∙◌, subst}
use mathlib.Core.Bool.{Bool, true, false, not, ◌||◌}
use mathlib.Core.List.{List, [], ◌∷◌, map}
use lib.Dec.{T, ltb, leb→le, le→leb, ltb→lt, lt→ltb}
use lib.Ieee.Bits.{is_true}
use lib.IntN.{ℤ, pos, negsuc}
use lib.Signed.{lt_z, le_z}
use lib.ListN.{length}
use borrow.Author.Tests.{le-ltb, eq-eqb}
use Rattle.words.specs.Words.{only, contains, in_order, any_of, first_of}
use Rattle.words.proofs.Elements.{or_left, or_right}
use Rattle.catalogue.specs.Catalogue.{Id, Name, Effect, TypeData, Link, Base, Catalogue, catalogue_of, size_of}
use Rattle.catalogue.specs.Refusals.{bad_length, bad_order, bad_field, catalogue_refusals, catalogue_refusal}
use Rattle.catalogue.specs.Sound.{Sound}
use Rattle.trim.specs.Trim.{trimmed, trimmed_image}
use Rattle.promises.proofs.Only.{any-only, order-only, map-only}
use Rattle.promises.proofs.Cutting.{trimmed-decodes, trimmed-twice, new-size, no_longer}

not-false : (b : Bool) → not b ≡ false → T b
not-false true h = tt
not-false false h = subst T h tt

lt_trans : (x y z : ℤ) → T (lt_z x y) → T (lt_z y z) → T (lt_z x z)
lt_trans (pos a) (pos b) (pos c) h k = lt→ltb a c (let p = ltb→lt a b h in let q = ltb→lt b c k in omega arith)
lt_trans (pos a) (pos b) (negsuc c) h k = k
lt_trans (pos a) (negsuc b) z h k = absurd h
lt_trans (negsuc a) (pos b) (pos c) h k = tt
lt_trans (negsuc a) (pos b) (negsuc c) h k = absurd k
lt_trans (negsuc a) (negsuc b) (pos c) h k = tt
lt_trans (negsuc a) (negsuc b) (negsuc c) h k = lt→ltb c a (let p = ltb→lt b a h in let q = ltb→lt c b k in omega arith)

le_trans : (x y z : ℤ) → T (le_z x y) → T (le_z y z) → T (le_z x z)
le_trans (pos a) (pos b) (pos c) h k = le→leb a c (let p = leb→le a b h in let q = leb→le b c k in omega arith)
le_trans (pos a) (pos b) (negsuc c) h k = k
le_trans (pos a) (negsuc b) z h k = absurd h
le_trans (negsuc a) (pos b) (pos c) h k = tt
le_trans (negsuc a) (pos b) (negsuc c) h k = absurd k
le_trans (negsuc a) (negsuc b) (pos c) h k = tt
le_trans (negsuc a) (negsuc b) (negsuc c) h k = le→leb c a (let p = leb→le b a h in let q = leb→le c b k in omega arith)

-- keys in order, of those that are kept
keys_kept : {A : Type 0} (r : Id → Id → Bool) → ((x y z : Id) → T (r x y) → T (r y z) → T (r x z))
    → (key : A → Id) (ids : List Id) (l : List A)
    → not (in_order r (map key l)) ≡ false → not (in_order r (map key (only (λ x. contains (key x) ids) l))) ≡ false
keys_kept r trans key ids l h =
    ap (λ (m : List Id). not (in_order r m)) (map-only key (λ x. contains x ids) l)
    ∙ ap not (is_true (in_order r (only (λ x. contains x ids) (map key l)))
    (order-only r trans (λ x. contains x ids) (map key l) (not-false (in_order r (map key l)) h)))

module _ (c : Catalogue) (ids : List Id) where
  abbrev small : Catalogue
  small = trimmed c ids

  pub order-kept : bad_order c ≡ false → bad_order small ≡ false
  unfolding bad_order trimmed
  order-kept h =
      let b1 = not (in_order ltb (map (λ (x : Name). x.number) c.names)) in
      let b2 = not (in_order lt_z (map (λ (x : Effect). x.id) c.effects)) in
      let b3 = not (in_order lt_z (map (λ (x : TypeData). x.id) c.types)) in
      let b4 = not (in_order le_z (map (λ (x : Link). x.type) c.links)) in
      let b5 = not (in_order le_z (map (λ (x : Base). x.type) c.bases)) in
      let h4 = or_left (b1 || b2 || b3 || b4) b5 h in
      let h3 = or_left (b1 || b2 || b3) b4 h4 in
      let h2 = or_left (b1 || b2) b3 h3 in
      ap₂ (λ (x y : Bool). x || y)
      (ap₂ (λ (x y : Bool). x || y)
      (ap₂ (λ (x y : Bool). x || y) h2 (keys_kept lt_z lt_trans (λ (x : TypeData). x.id) ids c.types (or_right (b1 || b2) b3 h3)))
      (keys_kept le_z le_trans (λ (x : Link). x.type) ids c.links (or_right (b1 || b2 || b3) b4 h4)))
      (keys_kept le_z le_trans (λ (x : Base). x.type) ids c.bases (or_right (b1 || b2 || b3 || b4) b5 h))

  pub field_kept : bad_field c ≡ false → bad_field small ≡ false
  unfolding bad_field trimmed
  field_kept h =
      let b1 = any_of (λ (x : Name). ltb 87 x.number) c.names in
      let b2 = any_of (λ (x : Effect). ltb 8 x.mark) c.effects in
      let b3 = any_of (λ (x : TypeData). ltb 1 x.volume_flag) c.types in
      ap₂ (λ (x y : Bool). x || y) (or_left (b1 || b2) b3 h)
      (any-only (λ (x : TypeData). contains x.id ids) (λ (x : TypeData). ltb 1 x.volume_flag) c.types (or_right (b1 || b2) b3 h))

module _ (b : List ℕ) (ids : List Id) (sound : Sound b) where
  abbrev cut : List ℕ
  cut = trimmed_image b ids

  pub cut_decodes : catalogue_of cut ≡ trimmed (catalogue_of b) ids
  cut_decodes = trimmed-decodes b ids sound.size sound.small

  length-right : bad_length cut ≡ false
  unfolding bad_length
  length-right =
      let n = no_longer b ids sound.size sound.small in
      let h : length cut ≤ 16777216 = omega (arith, n, sound.small) in
      rw (le-ltb 16777216 (length cut) h, eq-eqb (length cut) (size_of cut) (new-size b ids sound.size sound.small))

  -- not refused, by none of 1 to 3
  pub cut_refusals : catalogue_refusals cut ≡ (1, false) ∷ (2, false) ∷ (3, false) ∷ []
  unfolding catalogue_refusals
  cut_refusals =
      ap₂ (λ (x : Bool) (c : Catalogue). (1, x) ∷ (2, bad_order c) ∷ (3, bad_field c) ∷ []) length-right cut_decodes
      ∙ ap₂ (λ (x y : Bool). (1, false) ∷ (2, x) ∷ (3, y) ∷ []) (order-kept (catalogue_of b) ids sound.order)
      (field_kept (catalogue_of b) ids sound.fields)

  pub cut_accepted : catalogue_refusal cut ≡ 0
  unfolding catalogue_refusal first_of
  cut_accepted = ap first_of cut_refusals

  pub cut_twice : trimmed_image cut ids ≡ cut
  cut_twice = trimmed-twice b ids sound.size sound.small

  pub cut_length : length cut ≤ length b
  cut_length = no_longer b ids sound.size sound.small
