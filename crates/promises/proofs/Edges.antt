-- The edges: every outcome of the table, by computation, but for the large rows.
use mathlib.Core.Path.{refl, sym, ap₂, ◌∙◌}
use mathlib.Core.List.{List, ◌++◌, map-append}
use lib.ListN.{take, drop}
use Rattle.words.specs.Words.{each}
use Rattle.promises.specs.Cases.{outcome_of, Case}
use Rattle.promises.specs.RuleCases.{KINDS, RESOURCES, SLOTS, ITEMS, CROWDS, ORDER}
use Rattle.promises.specs.CallCases.{ENTRIES, CALLS}
use Rattle.promises.specs.RefusalCases.{LENGTHS, KEYS, FIELDS, SIZES, IDS, RANGES, DRONES, NUMBERS, BUFFERS, FIRSTS, ZEROS}
use Rattle.promises.specs.WidenCases.{VALUES, WIDENED}
use Rattle.promises.specs.LeagueCases.{PROFILES, LEAGUE, PROFILED}
use Rattle.promises.specs.UnknownCases.{UNKNOWNS, CARRIED}
use Rattle.promises.specs.PageCases.{PAIRS, PAGES}
use Rattle.promises.specs.ReaderCases.{TOLD, READERS}
use Rattle.promises.specs.TrainCases.{TRAINED, FULL}
use Rattle.promises.specs.TrimCases.{TRIMMED}
use Rattle.promises.specs.CauseCases.{CAUSED, COUNTED, SHARED, SUMMED, UNCAUSED, ASKED}
use Rattle.promises.specs.LeavingCases.{BUDGETS, NAMED, SURPLUS, MANY, LEAVING, CRAMMED}
use Rattle.promises.specs.Edges.{STARRED, SKILLS, PARTS, EDGES, Agree}
use Rattle.words.proofs.All.{All, nil, cons}
use Rattle.promises.proofs.Opened.{opened}
use Rattle.promises.proofs.Large.{agree_large, agree_limits}
use Rattle.promises.proofs.Thronged.{agree_thronged}

-- ---- part by part, so that an outcome that fails is found
agree_starred : Agree STARRED
unfolding opened
agree_starred = refl

agree_skills : Agree SKILLS
unfolding opened
agree_skills = refl

agree_kinds : Agree KINDS
unfolding opened
agree_kinds = refl

agree_resources : Agree RESOURCES
unfolding opened
agree_resources = refl

agree_slots : Agree SLOTS
unfolding opened
agree_slots = refl

agree_items : Agree ITEMS
unfolding opened
agree_items = refl

agree_crowds : Agree CROWDS
unfolding opened
agree_crowds = refl

agree_order : Agree ORDER
unfolding opened
agree_order = refl

agree_entries : Agree ENTRIES
unfolding opened
agree_entries = refl

agree_calls : Agree CALLS
unfolding opened
agree_calls = refl

agree_lengths : Agree LENGTHS
unfolding opened
agree_lengths = refl

agree_keys : Agree KEYS
unfolding opened
agree_keys = refl

agree_fields : Agree FIELDS
unfolding opened
agree_fields = refl

agree_sizes : Agree SIZES
unfolding opened
agree_sizes = refl

agree_ids : Agree IDS
unfolding opened
agree_ids = refl

agree_ranges : Agree RANGES
unfolding opened
agree_ranges = refl

agree_drones : Agree DRONES
unfolding opened
agree_drones = refl

agree_numbers : Agree NUMBERS
unfolding opened
agree_numbers = refl

agree_buffers : Agree BUFFERS
unfolding opened
agree_buffers = refl

agree_firsts : Agree FIRSTS
unfolding opened
agree_firsts = refl

agree_zeros : Agree ZEROS
unfolding opened
agree_zeros = refl

agree_values : Agree VALUES
unfolding opened
agree_values = refl

agree_widened : Agree WIDENED
unfolding opened
agree_widened = refl

agree_profiles : Agree PROFILES
unfolding opened
agree_profiles = refl

agree_league : Agree LEAGUE
unfolding opened
agree_league = refl

agree_profiled : Agree PROFILED
unfolding opened
agree_profiled = refl

agree_unknowns : Agree UNKNOWNS
unfolding opened
agree_unknowns = refl

agree_carried : Agree CARRIED
unfolding opened
agree_carried = refl

agree_pairs : Agree PAIRS
unfolding opened
agree_pairs = refl

agree_pages : Agree PAGES
unfolding opened
agree_pages = refl

agree_told : Agree TOLD
unfolding opened
agree_told = refl

agree_readers : Agree READERS
unfolding opened
agree_readers = refl

agree_trained : Agree TRAINED
unfolding opened
agree_trained = refl

agree_full : Agree FULL
unfolding opened
agree_full = refl

agree_trimmed : Agree TRIMMED
unfolding opened
agree_trimmed = refl

agree_caused : Agree CAUSED
unfolding opened
agree_caused = refl

agree_counted : Agree COUNTED
unfolding opened
agree_counted = refl

agree_shared : Agree SHARED
unfolding opened
agree_shared = refl

agree_summed : Agree SUMMED
unfolding opened
agree_summed = refl

agree_uncaused : Agree UNCAUSED
unfolding opened
agree_uncaused = refl

agree_asked : Agree ASKED
unfolding opened
agree_asked = refl

agree_budgets : Agree BUDGETS
unfolding opened
agree_budgets = refl

agree_named : Agree NAMED
unfolding opened
agree_named = refl

agree_surplus : Agree SURPLUS
unfolding opened
agree_surplus = refl

agree_many : Agree MANY
unfolding opened
agree_many = refl

agree_leaving : Agree LEAVING
unfolding opened
agree_leaving = refl

-- row by row, as the two together take too much memory
agree_room : Agree (take 1 CRAMMED)
unfolding opened
agree_room = refl

agree_short : Agree (drop 1 CRAMMED)
unfolding opened
agree_short = refl

join : (a b : List Case) → Agree a → Agree b → Agree (a ++ b)
join a b p q = map-append (λ (x : Case). outcome_of x.0) a b ∙ ap₂ ◌++◌ p q ∙ sym (map-append (λ (x : Case). x.1) a b)

agree_crammed : Agree CRAMMED
agree_crammed = join (take 1 CRAMMED) (drop 1 CRAMMED) agree_room agree_short

joined : {parts : List (List Case)} → All Agree parts → Agree (each parts λ part. part)
unfolding each
joined nil = refl
joined (cons {x = part} {l = parts} p h) = join part (each parts λ part. part) p (joined h)

pub edges : Agree EDGES
edges =
    joined {parts = PARTS}
    (cons agree_starred (cons agree_skills (cons agree_kinds (cons agree_resources (cons agree_slots (cons agree_items
    (cons agree_crowds (cons agree_order (cons agree_entries (cons agree_calls
    (cons agree_lengths (cons agree_keys (cons agree_fields (cons agree_sizes (cons agree_ids (cons agree_ranges
    (cons agree_drones (cons agree_numbers (cons agree_buffers (cons agree_firsts (cons agree_large (cons agree_zeros
    (cons agree_values (cons agree_widened (cons agree_profiles (cons agree_league (cons agree_profiled
    (cons agree_unknowns (cons agree_carried
    (cons agree_pairs (cons agree_limits (cons agree_pages
    (cons agree_told (cons agree_readers
    (cons agree_trained (cons agree_full (cons agree_trimmed
    (cons agree_caused (cons agree_counted (cons agree_thronged (cons agree_shared (cons agree_summed
    (cons agree_uncaused (cons agree_asked
    (cons agree_budgets (cons agree_named (cons agree_surplus (cons agree_many (cons agree_leaving (cons agree_crammed nil))))))))))))))))))))))))))))))))))))))))))))))))))
