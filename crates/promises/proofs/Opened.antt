-- All that the definitions compute with: whoever unfolds `opened` unfolds them, and can have a table of outcomes computed.
use lib.Ieee.{of_int, to_unsigned, to_signed, of_bits, lt, le, add, mul, round, odd, units, size, span, climb, sum, of_fields, eq, ne, to_bits}
use lib.Count.{count_trailing_zeros}
use Rattle.words.specs.Words.{◌>>=◌, each, when, when_any, when_above, unless, only, count_of, sum_of, any_of, find, is_empty, in_order, given}
use Rattle.words.specs.Words.{table_from, first_of, same, contains}
use Rattle.image.specs.Bytes.{u16_at, u32_at, u64_at, signed32, bits32, i32_at}
use Rattle.floats.specs.Floats.{f32_at, f64_at, f64_bits, abs, over, is_volume}
use Rattle.catalogue.specs.Catalogue.{catalogue_of}
use Rattle.catalogue.specs.Refusals as Catalogue
use Rattle.catalogue.specs.Lookups.{name_id, type_of, is_known, group_of, category_of, volume_of, effect_mark, marks, last_mark, rack_of, hardpoint_of, base_value}
use Rattle.widening.specs.Old.{old_catalogue_of, old_bad_length, old_refusals}
use Rattle.widening.specs.Widen.{wide_bits, wide_value, wide_values, widened}
use Rattle.fit.specs.Fit.{mode_of, result_at, start_at, fit_of}
use Rattle.fit.specs.Refusals as Fit
use Rattle.fit.specs.Lookups.{value, amount, trained}
use Rattle.entry.specs.Entries.{fields, entry_bytes, written}
use Rattle.context.specs.Context.{pairs_from, pairs, context, is_fitted, is_in, is_fighter_slot, is_on_hull, is_other, is_module_category}
use Rattle.resource.specs.Resource.{resource, is_launched, launched, cargo_volume, cargo_used, loads, launched_drones, cargo, resources}
use Rattle.racks.specs.Racks.{takes_hardpoint, slots, racks, hardpoints}
use Rattle.slot.specs.Slot.{slot_number_name, wrong_slot, not_a_module, not_a_drone, not_a_fighter, not_an_implant, wrong_slot_index, holds_one}
use Rattle.slot.specs.Slot.{shares_slot, shares_part, slot_taken, subsystem_taken, slot_checks}
use Rattle.item.specs.Item.{rig_size_at, rig_size, listed, is_restricted, ship_restricted_at, ship_restricted, is_structure, is_capital_item}
use Rattle.item.specs.Item.{capital_item_at, capital_item, is_standup, standup_at, standup}
use Rattle.limits.specs.Limits.{in_group, group_limit_at, group_limit, group_limits, of_type, type_limit_at, type_limit}
use Rattle.validate.specs.Kind.{is_hull_kind, is_hull, is_mode, is_skill, not_a_mode, not_a_skill}
use Rattle.validate.specs.Validate.{hull_rules, list_with, list_of}
use Rattle.profile.specs.Profile as Profile
use Rattle.league.specs.League.{banned_at, banned, cost, points, over_allowance, league}
use Rattle.lists.specs.Unknown.{unknown_type_at, unknown_types}
use Rattle.lists.specs.Lists.{on_hull, league_with, whole_with, league_list, whole_list, for_reader, list_for}
use Rattle.skill.specs.Skill.{required, demand_of, demands, of_result, of_skill, note, noted, skill_at, met_from, walk_within, wants_too_many, entry_of, skill_list}
use Rattle.calls.specs.Answers.{answer_by, answer, too_short, buffered, returned}
use Rattle.fitcheck.specs.Calls.{list_call, skill_call}
use Rattle.fitcheck.specs.Hall.{fit_start, fits, bad_input, fit_refused, is_clear, is_faulted, hall_by, hall_call, hall_returned}
use Rattle.calls.specs.Output.{output_by, output, filled, output_word, no_room}
use Rattle.fitcheck.specs.Widen.{widen_call}
use Rattle.training.specs.Training.{raised, skill_of, lacking, step_by, step, trained_by, too_many_listed, trained_image}
use Rattle.fitcheck.specs.Train.{train_call}
use Rattle.trim.specs.Trim.{touched, any_too_many, trimmed, kept_at, copied, kept_block, trimmed_image}
use Rattle.fitcheck.specs.Trim.{trim_call}
use Rattle.parts.specs.Parts.{chosen, size as size_of_set, numbers_of, part_of, down_from, thinned}
use Rattle.cause.specs.Cause.{id_of, alike, same_target, is_about, is_kept, renumbered, shows, cause_of, bad_volume, cause_bytes}
use Rattle.fitcheck.specs.Cause.{cause_call}
use Rattle.marks.specs.Marks.{bit_of}
use Rattle.leave_out.specs.LeaveOut.{is_named, set_of, tried, all_tries, good, better, tries_made, left_out, above, surplus, distance}
use Rattle.leave_out.specs.LeaveOut.{leave_out_bytes}
use Rattle.fitcheck.specs.LeaveOut.{leave_out_call}
use Rattle.promises.specs.Before.{too_many_drones, list_before, rust_call}
use Rattle.promises.specs.Cases.{known, outcome_of}

open_floats : Unit {0}
unfolding of_int to_unsigned to_signed of_bits lt add mul round odd units size span climb sum of_fields eq ne to_bits count_trailing_zeros f64_bits abs over
open_floats = tt

open_words : Unit {0}
unfolding ◌>>=◌ each when when_any when_above unless only count_of sum_of any_of find is_empty in_order given table_from first_of same contains
open_words = tt

open_catalogue : Unit {0}
unfolding catalogue_of name_id type_of is_known group_of category_of volume_of effect_mark marks last_mark rack_of hardpoint_of base_value
open_catalogue = tt

open_fit : Unit {0}
unfolding fit_of mode_of result_at start_at value amount trained pairs_from pairs context
open_fit = tt

open_bytes : Unit {0}
unfolding open_floats u16_at u32_at u64_at signed32 bits32 i32_at f32_at f64_at fields entry_bytes written
open_bytes = tt

open_bad_fit : Unit {0}
unfolding Fit.bad_size Fit.bad_order Fit.bad_item Fit.bad_result Fit.bad_field
open_bad_fit = tt

open_refusals : Unit {0}
unfolding Catalogue.bad_length Catalogue.bad_order Catalogue.bad_field Catalogue.catalogue_refusals Fit.fit_refusals Fit.fit_refusal open_bad_fit
open_refusals = tt

open_kinds : Unit {0}
unfolding is_hull_kind is_hull is_mode is_skill not_a_mode not_a_skill hull_rules list_with list_of
open_kinds = tt

open_resources : Unit {0}
unfolding resource is_launched launched cargo_volume cargo_used loads launched_drones cargo resources
open_resources = tt

open_slots : Unit {0}
unfolding is_fitted is_in is_fighter_slot is_on_hull is_other is_module_category takes_hardpoint slots racks hardpoints slot_number_name
open_slots = tt

open_slot_checks : Unit {0}
unfolding wrong_slot not_a_module not_a_drone not_a_fighter not_an_implant wrong_slot_index holds_one shares_slot shares_part slot_taken subsystem_taken slot_checks
open_slot_checks = tt

open_items : Unit {0}
unfolding rig_size_at rig_size listed is_restricted ship_restricted_at ship_restricted is_structure is_capital_item capital_item_at capital_item
open_items = tt

open_standup : Unit {0}
unfolding is_standup standup_at standup
open_standup = tt

open_limits : Unit {0}
unfolding in_group group_limit_at group_limit group_limits of_type type_limit_at type_limit
open_limits = tt

open_skills : Unit {0}
unfolding required demand_of demands of_result of_skill note noted skill_at met_from walk_within wants_too_many entry_of skill_list
open_skills = tt

open_calls : Unit {0}
unfolding answer_by answer too_short list_call skill_call buffered returned too_many_drones list_before rust_call
open_calls = tt

open_hall : Unit {0}
unfolding fit_start fits bad_input fit_refused is_clear is_faulted hall_by hall_call hall_returned
open_hall = tt

open_widening : Unit {0}
unfolding old_catalogue_of old_bad_length old_refusals wide_bits wide_value wide_values widened output_by output filled output_word no_room widen_call
open_widening = tt

open_training : Unit {0}
unfolding raised skill_of lacking step_by step trained_by too_many_listed trained_image train_call
open_training = tt

open_trimming : Unit {0}
unfolding touched any_too_many trimmed kept_at copied kept_block trimmed_image trim_call
open_trimming = tt

open_parts : Unit {0}
unfolding chosen size_of_set numbers_of part_of down_from thinned
open_parts = tt

open_causes : Unit {0}
unfolding open_parts id_of alike same_target is_about is_kept renumbered shows cause_of is_volume le bad_volume cause_bytes cause_call
open_causes = tt

open_leaving : Unit {0}
unfolding bit_of is_named set_of tried all_tries good better tries_made left_out above surplus distance leave_out_bytes leave_out_call
open_leaving = tt

open_league : Unit {0}
unfolding Profile.prices_of Profile.bad_profile Profile.bad_prices Profile.profile_refusals Profile.profile_refusal Profile.points_of
open_league = tt

open_lists : Unit {0}
unfolding open_league banned_at banned cost points over_allowance league unknown_type_at unknown_types on_hull league_with whole_with league_list whole_list for_reader list_for
open_lists = tt

open_rules : Unit {0}
unfolding open_lists open_kinds open_resources open_slots open_slot_checks open_items open_standup open_limits open_skills
open_rules = tt

open_outputs : Unit {0}
unfolding open_widening open_training open_trimming open_causes open_leaving
open_outputs = tt

unfoldable pub opened : Unit {0}
unfolding known outcome_of open_words open_catalogue open_fit open_bytes open_refusals open_rules open_calls open_hall open_outputs
opened = tt
