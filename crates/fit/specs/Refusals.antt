-- Document 01, "Refusals in their order", 4 to 6, and "Records": what a fit must be.
use Rattle.std.specs.Prelude.{ℕ, Bool, not, ◌&&◌, ◌||◌, List, [], ◌∷◌, map, eqb, ltb, pos, length}
use Rattle.std.specs.Int.Signed.{lt_z}
use Rattle.words.specs.Words.{any_of, in_order, first_of, sum_of, same}
use Rattle.numbers.specs.Slots as Slots
use Rattle.numbers.specs.States as States
use Rattle.numbers.specs.Sizes as Sizes
use Rattle.numbers.specs.Refusals as Refusals
use Rattle.fit.specs.Fit.{Item, Result, Fit, all_results, fit_of, skill_count, item_count, result_count, attribute_count, size_of}

-- 4: over a limit, a length unlike its sizes, or counts that do not add up to A
unfoldable pub bad_size : List ℕ → Bool
bad_size b =
    ltb Sizes.most_skills (skill_count b) || ltb Sizes.most_items (item_count b) || ltb Sizes.most_results (result_count b)
    || ltb Sizes.most_attributes (attribute_count b)
    || not (eqb (length b) (size_of b))
    || not (eqb (sum_of (λ r. length r.attributes) (all_results (fit_of b))) (attribute_count b))

-- 5: skill ids, or attribute ids within one result, that do not ascend strictly
unfoldable pub bad_order : Fit → Bool
bad_order f =
    not (in_order lt_z f.skills) || any_of (λ r. not (in_order lt_z (map (λ x. x.id) r.attributes))) (all_results f)

-- 6: the slot kind is 0 to 11, the next byte 0; the index is at most 255 unless Booster, and 0 for bays and Cargo
unfoldable pub bad_item : Item → Bool
bad_item i =
    ltb Slots.cargo i.slot || not (eqb i.reserved 0)
    || (ltb Sizes.last_index i.index && not (eqb i.slot Slots.booster))
    || (not (eqb i.index 0) && (eqb i.slot Slots.fighter_bay || eqb i.slot Slots.drone_bay || eqb i.slot Slots.cargo))

-- 6: the state is 0 to 3, the next byte 0
unfoldable pub bad_result : Result → Bool
bad_result r = ltb States.overload r.state || not (eqb r.reserved 0)

-- 6: the mode flag is 0 or 1, the mode 0 where it is 0
unfoldable pub bad_field : Fit → Bool
bad_field f =
    ltb Sizes.last_mode_flag f.frame.mode_flag || (eqb f.frame.mode_flag 0 && not (same f.frame.mode (pos 0)))
    || any_of bad_item f.items || any_of bad_result (all_results f)

unfoldable pub fit_refusals : List ℕ → List (ℕ × Bool)
fit_refusals b =
    let f = fit_of b in
    (Refusals.bad_size, bad_size b) ∷ (Refusals.bad_ids, bad_order f) ∷ (Refusals.bad_field, bad_field f) ∷ []

-- the first refusal that holds, or 0
unfoldable pub fit_refusal : List ℕ → ℕ
fit_refusal b = first_of (fit_refusals b)
