-- Document 01, "Refusals in their order", 1 to 3, and "Records": what a catalogue must be.
use Rattle.std.specs.Prelude.{ℕ, Bool, not, ◌||◌, List, [], ◌∷◌, map, eqb, ltb, length}
use Rattle.std.specs.Int.Signed.{lt_z, le_z}
use Rattle.words.specs.Words.{any_of, in_order, first_of}
use Rattle.numbers.specs.Marks as Marks
use Rattle.numbers.specs.Sizes as Sizes
use Rattle.numbers.specs.Refusals as Refusals
use Rattle.catalogue.specs.Catalogue.{Catalogue, catalogue_of, size_of}

-- 1: over 16,777,216 bytes, or a length unlike its sizes
unfoldable pub bad_length : List ℕ → Bool
bad_length b = ltb Sizes.most_catalogue_bytes (length b) || not (eqb (length b) (size_of b))

-- 2: names, effects or types that do not ascend strictly by key; links or bases that descend
unfoldable pub bad_order : Catalogue → Bool
bad_order c =
    not (in_order ltb (map (λ x. x.number) c.names))
    || not (in_order lt_z (map (λ x. x.id) c.effects))
    || not (in_order lt_z (map (λ x. x.id) c.types))
    || not (in_order le_z (map (λ x. x.type) c.links))
    || not (in_order le_z (map (λ x. x.type) c.bases))

-- 3: a name number over 87, a mark over 8, a volume flag over 1
unfoldable pub bad_field : Catalogue → Bool
bad_field c =
    any_of (λ x. ltb Sizes.last_name x.number) c.names
    || any_of (λ x. ltb Marks.launcher_fitted x.mark) c.effects
    || any_of (λ x. ltb Sizes.last_volume_flag x.volume_flag) c.types

unfoldable pub catalogue_refusals : List ℕ → List (ℕ × Bool)
catalogue_refusals b =
    let c = catalogue_of b in
    (Refusals.bad_length, bad_length b) ∷ (Refusals.bad_keys, bad_order c) ∷ (Refusals.bad_entry, bad_field c) ∷ []

-- the first refusal that holds, or 0
unfoldable pub catalogue_refusal : List ℕ → ℕ
catalogue_refusal b = first_of (catalogue_refusals b)
