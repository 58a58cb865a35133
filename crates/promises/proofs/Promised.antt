-- The promises, all of them. Each is proved in a file of its own.
use Prim.Native.Nat.{ℕ, ◌+◌, ◌≤◌}
use mathlib.Core.Path.{◌≡◌, refl}
use mathlib.Core.Bool.{Bool, true, false}
use mathlib.Core.List.{List, [], ◌∷◌}
use lib.Dec.{T, lit≤, lit<}
use lib.ListN.{replicate}
use Rattle.words.specs.Words.{each, table_from}
use Rattle.catalogue.specs.Catalogue.{catalogue_of}
use Rattle.fit.specs.Fit.{fit_of}
use Rattle.lists.specs.Terms.{Terms, read_by, main}
use Rattle.parts.specs.Parts.{size, holds, less}
use Rattle.leave_out.specs.LeaveOut.{good, surplus}
use Rattle.promises.specs.Answers.{refusal}
use Rattle.promises.specs.Compare.{Alike, Kept}
use Rattle.promises.specs.Hauls.{outside_hold}
use Rattle.promises.specs.GrownCase.{CATALOGUE, OLD, NEW, RETRAINED, LOADED, BANNING, PRICING, NARROW, WIDER, ROOM}
use Rattle.promises.specs.TrainCases.{demanding}
use Rattle.promises.specs.Trains.{train_outcome, list_after, Onward, Copied, PILOT}
use Rattle.promises.specs.CallCases.{small}
use Rattle.promises.specs.TrimCases.{WHOLE, FLOWN, SMALL}
use Rattle.promises.specs.CauseCases.{THREE}
use Rattle.promises.specs.Causes.{crowd, Enough}
use Rattle.promises.specs.LeavingOut.{Good, Smallest}
use Rattle.promises.specs.Trims.{SameAnswers, Touching, Copy}
use Rattle.promises.specs.Widens.{written}
use Rattle.promises.specs.Promises.{list_outcome, skill_outcome, Names, Promises}
use Rattle.promises.proofs.Calls.{list_answers, skill_answers, list_room, skill_room}
use Rattle.promises.proofs.Comparing.{list_kept, skills-kept}
use Rattle.promises.proofs.Growing.{any_growth, example, guest_example, haul_example}
use Rattle.promises.proofs.Keeping.{tables}
use Rattle.promises.proofs.Wanting.{more_wanted, skill_lists}
use Rattle.promises.proofs.Judging.{hall_answers, judged}
use Rattle.promises.proofs.Opened.{opened}
use Rattle.promises.proofs.Seven.{no_seven, list_as_before, drones_exact}
use Rattle.promises.proofs.Leagues.{no_profile}
use Rattle.promises.proofs.Readers.{guest_blind, guest_skills, guest_list, full_list}
use Rattle.promises.proofs.Unknowns.{unknowns, unknowns_left}
use Rattle.promises.proofs.Hauling.{haul_lists, haul_skills, hold-one, hold_kept}
use Rattle.promises.proofs.Pages.{small_page, small_page_skills, main_page}
use Rattle.promises.proofs.Widening.{widen_answers, widen_decodes, widen_stands}
use Rattle.promises.proofs.Trains.{train_answers, train_as_skill, trained-accepts, trained-fit, trained-copies, trained-same, trained-empty, trained-onward, step-none}
use Rattle.promises.proofs.Trained.{train_example}
use Rattle.promises.proofs.Trims.{trim_answers, trim_as_list, trim_as_skills, trim_room}
use Rattle.promises.proofs.Trims.{trim_accepted, trim_decodes, trim_touches, trim_copies, trim_same, trim_twice}
use Rattle.promises.proofs.Trimmed.{trim_example}
use Rattle.promises.proofs.Causes.{cause_answers, cause_room, cause_asked, cause_numbers, in_turn, cause_dropped, kept-least, none_kept}
use Rattle.promises.proofs.Differing.{entries_differ}
use Rattle.promises.proofs.Seen.{cause_shows}
use Rattle.promises.proofs.Caused.{cause_example}
use Rattle.promises.proofs.LeavingOut.{leave_answers, leave_room, leave_numbers, set-is, tries-are, distance-adds, set-good}
use Rattle.promises.proofs.LeavingOut.{set-smallest, off-by, good_lists, set-needed, set-best, set-more, good-bound}
use Rattle.promises.proofs.Numbering.{set-numbered}
use Rattle.promises.proofs.Surplus.{surplus-listed}
use Rattle.promises.proofs.LeftExample.{left_example}
use Rattle.promises.proofs.Edges.{edges}

names : Names
unfolding each table_from
names = (refl, refl)

pub promised : Promises
promised = record {
  list_answers = list_answers;
  skill_answers = skill_answers;
  list_room = list_room;
  skill_room = skill_room;
  no_seven = no_seven;
  list_as_before = list_as_before;
  no_profile = no_profile;
  unknowns = unknowns;
  unknowns_left = unknowns_left;
  small_page = small_page;
  small_page_skills = small_page_skills;
  main_page = main_page;
  guest_blind = guest_blind;
  guest_skills = guest_skills;
  guest_list = guest_list;
  full_list = full_list;
  guest_example = guest_example;
  drones_exact = drones_exact;
  list_kept = list_kept;
  skill_kept = skills-kept;
  haul_lists = haul_lists;
  haul_skills = λ t t' catalogue old new before after n. haul_skills t t' catalogue old new before after n;
  hold_once = hold-one;
  hold_kept = hold_kept;
  haul_example = haul_example;
  any_growth = any_growth;
  example = example;
  tables = tables;
  skill_lists = skill_lists;
  too_many = more_wanted;
  hall_calls = hall_answers;
  hall_fits = judged;
  widen_answers = widen_answers;
  widen_decodes = widen_decodes;
  widen_stands = widen_stands;
  train_answers = train_answers;
  train_as_skill = train_as_skill;
  train_decodes = λ catalogue fit n steps buffer h. (trained-accepts catalogue fit n steps buffer h, trained-fit catalogue fit n steps buffer h);
  train_copies = λ catalogue fit n steps buffer h. (trained-copies catalogue fit n steps buffer h, trained-same catalogue fit n steps buffer h);
  train_empty = trained-empty;
  train_steps = trained-onward;
  train_still = step-none;
  train_example = train_example;
  trim_answers = trim_answers;
  trim_refused = λ catalogue fit buffer other. (trim_as_list catalogue fit buffer other, trim_as_skills catalogue fit buffer other);
  trim_room = trim_room;
  trim_decodes = λ catalogue fit buffer h. (trim_accepted catalogue fit buffer h, trim_decodes catalogue fit buffer h);
  trim_touches = trim_touches;
  trim_copies = trim_copies;
  trim_same = trim_same;
  trim_twice = trim_twice;
  trim_example = trim_example;
  cause_answers = cause_answers;
  cause_room = cause_room;
  cause_asked = cause_asked;
  cause_in_turn = λ catalogue fit position buffer e h at.
      (cause_numbers catalogue fit position buffer h e at, in_turn catalogue fit position buffer h e at);
  cause_dropped = λ catalogue fit position buffer e h at. cause_dropped catalogue fit position buffer h e at;
  cause_least = λ catalogue fit position buffer e b h at. kept-least catalogue fit position buffer h e at b;
  cause_shows = cause_shows;
  cause_none = λ catalogue fit position buffer e h at own. none_kept catalogue fit position buffer h e at own;
  entries_differ = entries_differ;
  cause_example = cause_example;
  leave_answers = leave_answers;
  leave_room = leave_room;
  left_set = λ catalogue fit budget buffer h. (leave_numbers catalogue fit budget buffer h, set-is catalogue fit budget buffer h);
  left_smallest = set-smallest;
  left_numbers = set-numbered;
  left_tries = tries-are;
  left_distance = distance-adds;
  left_surplus = surplus-listed;
  left_bound = good-bound;
  left_off = off-by;
  left_good = set-good;
  good_lists = good_lists;
  left_least = set-needed;
  left_best = set-best;
  left_more = set-more;
  left_example = left_example;
  names = names;
  edges = edges;
}

-- Demand 3 as it is promised, of the two images: its premises are those that they meet.
applies : (t t' : Terms) → Alike t t' → refusal (list_outcome t CATALOGUE OLD ROOM) ≡ 0 → refusal (list_outcome t' CATALOGUE NEW ROOM) ≡ 0
    → Kept (list_outcome t CATALOGUE OLD ROOM) (list_outcome t' CATALOGUE NEW ROOM)
applies t t' alike = promised.list_kept t t' CATALOGUE OLD NEW ROOM ROOM alike example.bytes example.grown example.volumes

list_applies : Kept (list_outcome main CATALOGUE OLD ROOM) (list_outcome main CATALOGUE NEW ROOM)
unfolding opened
list_applies = applies main main (record { profile = refl; allowance = refl; reader = refl }) refl refl

bans-apply : Kept (list_outcome BANNING CATALOGUE OLD ROOM) (list_outcome BANNING CATALOGUE NEW ROOM)
unfolding opened
bans-apply = applies BANNING BANNING (record { profile = refl; allowance = refl; reader = refl }) refl refl

points-apply : Kept (list_outcome PRICING CATALOGUE OLD ROOM) (list_outcome PRICING CATALOGUE NEW ROOM)
unfolding opened
points-apply = applies PRICING PRICING (record { profile = refl; allowance = refl; reader = refl }) refl refl

pages_apply : Kept (list_outcome NARROW CATALOGUE OLD ROOM) (list_outcome WIDER CATALOGUE NEW ROOM)
unfolding opened
pages_apply = applies NARROW WIDER (record { profile = refl; allowance = refl; reader = refl }) refl refl

-- and of a guest
guests_apply : Kept (list_outcome (read_by 0 PRICING) CATALOGUE OLD ROOM) (list_outcome (read_by 0 PRICING) CATALOGUE NEW ROOM)
unfolding opened
guests_apply = applies (read_by 0 PRICING) (read_by 0 PRICING) (record { profile = refl; allowance = refl; reader = refl }) refl refl

-- P14 as it is promised, of two images
blind_applies : list_outcome (read_by 0 PRICING) CATALOGUE OLD ROOM ≡ list_outcome (read_by 0 PRICING) CATALOGUE RETRAINED ROOM
blind_applies =
    let e = guest_example in
    promised.guest_blind (read_by 0 PRICING) CATALOGUE OLD RETRAINED ROOM refl e.old_fine e.retrained_fine e.apart

-- P7 as it is promised, of two images
haul_applies : outside_hold (list_outcome main CATALOGUE OLD ROOM) ≡ outside_hold (list_outcome main CATALOGUE LOADED ROOM)
unfolding opened
haul_applies =
    promised.haul_lists main main CATALOGUE OLD LOADED ROOM ROOM (record { profile = refl; allowance = refl; reader = refl }) haul_example.loads refl refl

skill-applies : Kept (skill_outcome NARROW CATALOGUE OLD 2 ROOM) (skill_outcome WIDER CATALOGUE NEW 2 ROOM)
unfolding opened
skill-applies = promised.skill_kept NARROW WIDER CATALOGUE OLD NEW ROOM ROOM 2 example.grown refl refl

-- P11 as it is promised, of an image
train_applies : (k : ℕ) → let after = list_after (catalogue_of demanding) 2 (fit_of PILOT) in Onward (after k) (after (k + 1))
unfolding opened
train_applies = promised.train_steps demanding PILOT 2 5 (replicate 105 7) refl

copies_apply : Copied PILOT (written (train_outcome demanding PILOT 2 5 (replicate 105 7)))
unfolding opened
copies_apply = (promised.train_copies demanding PILOT 2 5 (replicate 105 7) refl).0

-- the ship wants nothing
same-applies : written (train_outcome demanding PILOT 0 3 (replicate 105 7)) ≡ PILOT
unfolding opened
same-applies = (promised.train_copies demanding PILOT 0 3 (replicate 105 7) refl).1 train_example.bytes refl

-- P1 as it is promised, of an image
trim_applies : SameAnswers FLOWN SMALL WHOLE
unfolding opened
trim_applies = promised.trim_same WHOLE FLOWN (replicate 400 7) refl

touches-applies : Touching SMALL
unfolding opened
touches-applies = promised.trim_touches WHOLE FLOWN (replicate 400 7) refl

kept-applies : Copy SMALL
unfolding opened
kept-applies = promised.trim_copies WHOLE FLOWN (replicate 400 7) refl

-- P9 as it is promised, of an image: the first two of three are least for the rack's entry
cause_applies : Enough crowd true true false
unfolding opened
cause_applies = promised.cause_least small THREE 0 (replicate 12 7) crowd cause_example.bytes refl refl

-- P13 as it is promised, of an image: of three in a rack of one, the last two are left out, and neither can be put back; no good set is
-- smaller, whichever it is
abbrev three_left : List Bool
three_left = false ∷ true ∷ true ∷ []

needed_applies : (i : ℕ) → T (holds three_left i) → T (good (catalogue_of small) (fit_of THREE) (less three_left i)) → ⊥
unfolding opened
needed_applies i = promised.left_least small THREE 3 (replicate 16 7) refl i (lit≤ tt)

best-applies : (s : List Bool) → Good (catalogue_of small) (fit_of THREE) s → 2 ≤ size s
unfolding opened
best-applies s = promised.left_best small THREE 65552 (replicate 16 7) refl s (lit≤ tt) (lit≤ tt)

smallest_applies : Smallest (catalogue_of small) (fit_of THREE) 11 three_left
unfolding opened
smallest_applies = promised.left_smallest small THREE 4294967295 (replicate 16 7) refl

surplus_applies : surplus (catalogue_of small) (fit_of THREE) ≡ 2
unfolding opened
surplus_applies = promised.left_surplus (catalogue_of small) (fit_of THREE) (lit< tt)

more-applies : 2 ≤ 3
unfolding opened
more-applies = promised.left_more small THREE 0 65552 (replicate 20 7) (replicate 16 7) (lit≤ tt) refl refl
