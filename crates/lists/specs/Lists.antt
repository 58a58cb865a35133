-- The whole list: the Rust's, and behind it, on a hull, what document 02 adds.
use Rattle.std.specs.Prelude.{ℕ, ◌+◌, Bool, not, cond, List, [], ◌++◌, eqb}
use Rattle.words.specs.Words.{only}
use Rattle.numbers.specs.Sizes as Sizes
use Rattle.numbers.specs.Readers as Readers
use Rattle.profile.specs.Profile.{prices_of}
use Rattle.catalogue.specs.Catalogue.{Id, Catalogue}
use Rattle.fit.specs.Fit.{Frame, Fit}
use Rattle.entry.specs.declared.Entry.{Entry}
use Rattle.entry.specs.Entries.{number}
use Rattle.context.specs.Context.{Pair, pairs}
use Rattle.league.specs.League.{league}
use Rattle.validate.specs.Kind.{is_hull}
use Rattle.validate.specs.Validate as Rust
use Rattle.validate.specs.Validate.{list_with}
use Rattle.lists.specs.Terms.{Terms}
use Rattle.lists.specs.Unknown.{unknown_types}

-- what stands behind the list of a hull, and of nothing else
unfoldable pub on_hull : Catalogue → Frame → List Entry → List Entry
on_hull c k es = cond (is_hull c k.ship) es []

-- P2: rules 24 and 25
abbrev pub league_of : Terms → List Pair → List Entry
league_of t ps = league (prices_of t.profile) t.allowance ps

unfoldable pub league_with : Terms → Catalogue → Frame → List Id → List Pair → List Entry
league_with t c k ids ps = list_with c k ids ps ++ on_hull c k (league_of t ps)

-- P5: a hull's list ends with rule 26
unfoldable pub whole_with : Terms → Catalogue → Frame → List Id → List Pair → List Entry
whole_with t c k ids ps = league_with t c k ids ps ++ on_hull c k (unknown_types c ps)

unfoldable pub league_list : Terms → Catalogue → Fit → List Entry
league_list t c f = league_with t c f.frame f.skills (pairs c f)

unfoldable pub whole_list : Terms → Catalogue → Fit → List Entry
whole_list t c f = whole_with t c f.frame f.skills (pairs c f)

-- P14: a guest is not told which listed skills are none, rule 21; all others get the list as it is
abbrev pub for_guests : Entry → Bool
for_guests e = not (eqb (number e) 21)

unfoldable pub for_reader : (reader : ℕ) → List Entry → List Entry
for_reader reader es = cond (eqb reader Readers.guest) (only for_guests es) es

-- the list that a call gives
unfoldable pub list_for : Terms → Catalogue → Fit → List Entry
list_for t c f = for_reader t.reader (whole_list t c f)

-- no list has more entries: the Rust's, a ban for each pair, the points, a missing type for each pair
abbrev pub most_entries : ℕ
most_entries = Rust.most_entries + Sizes.most_pairs + 1 + Sizes.most_pairs
