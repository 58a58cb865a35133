-- Rule 26 taken out: the list given before remains, in the list and in the bytes that a call left.
use Prim.Native.Nat.{ℕ}
use mathlib.Core.Path.{◌≡◌, refl, ap, ap₂, ◌∙◌}
use mathlib.Core.Bool.{Bool, true, false, not, cond}
use mathlib.Core.List.{List, [], ◌++◌, map, append-nil}
use lib.Dec.{eqb}
use Rattle.words.specs.Words.{only}
use Rattle.words.proofs.Steps.{only-append}
use Rattle.image.specs.Bytes.{u8_at}
use Rattle.profile.specs.Profile.{prices_of}
use Rattle.catalogue.specs.Catalogue.{Id, Catalogue, catalogue_of}
use Rattle.fit.specs.Fit.{Frame, Fit, fit_of}
use Rattle.entry.specs.declared.Entry.{Entry}
use Rattle.entry.specs.Entries.{fields, number, entry_bytes}
use Rattle.context.specs.Context.{Pair, pairs}
use Rattle.validate.specs.Kind.{is_hull}
use Rattle.validate.specs.Validate.{list_with, list_of}
use Rattle.lists.specs.Terms.{Terms, terms}
use Rattle.lists.specs.Unknown.{unknown_type_at, unknown_types}
use Rattle.lists.specs.Lists.{on_hull, league_of, league_with, whole_with, league_list, whole_list, for_reader, list_for}
use Rattle.lists.proofs.Behind.{rust_list_lem}
use Rattle.fitcheck.specs.Calls.{list_call}
use Rattle.promises.specs.Answers.{outcome, refusal, entries_of}
use Rattle.words.proofs.All.{All, nil, all_join, all-when, all-each}
use Rattle.lists.proofs.Numbers.{only-all, only_no, low-before, low-league, all-below}
use Rattle.promises.proofs.Left.{entries-are, only-map, only-for}
use Rattle.promises.proofs.Calls.{list_answers}

abbrev Other : Entry → Bool
Other e = not (eqb (number e) 26)

gone : (c : Catalogue) (ps : List Pair) → only Other (unknown_types c ps) ≡ []
unfolding unknown_types unknown_type_at fields
gone c ps = only_no Other (all-each ps λ p. all-when _ _ (λ _. refl))

module _ (t : Terms) (c : Catalogue) (k : Frame) (ids : List Id) (ps : List Pair) where
  abbrev Others : List Entry → Type 0
  Others = All (λ e. Other e ≡ true)

  before : Others (list_with c k ids ps)
  before = all-below 26 (low-before c k ids ps)

  league : Others (league_of t ps)
  league = all-below 26 (low-league (prices_of t.profile) t.allowance ps)

  without : only Other (whole_with t c k ids ps) ≡ league_with t c k ids ps
  unfolding whole_with league_with on_hull only
  without = go (is_hull c k.ship)
    where
      go : (b : Bool) → only Other (list_with c k ids ps ++ cond b (league_of t ps) [] ++ cond b (unknown_types c ps) [])
          ≡ list_with c k ids ps ++ cond b (league_of t ps) []
      go true =
          only-append Other (list_with c k ids ps ++ league_of t ps) (unknown_types c ps)
          ∙ ap₂ (λ (x y : List Entry). x ++ y) (only-all Other (all_join before league)) (gone c ps)
          ∙ append-nil (list_with c k ids ps ++ league_of t ps)
      go false =
          only-append Other (list_with c k ids ps ++ []) []
          ∙ ap (λ (x : List Entry). x ++ []) (only-all Other (all_join before nil))
          ∙ append-nil (list_with c k ids ps ++ [])

pub unknowns : (t : Terms) (c : Catalogue) (f : Fit)
    → (only Other (whole_list t c f) ≡ league_list t c f) × (t.profile ≡ [] → league_list t c f ≡ list_of c f)
unfolding whole_list league_list league_with
unknowns t c f = (
  without t c f.frame f.skills (pairs c f),
  λ e. ap (λ (profile : List ℕ). league_list (terms profile t.allowance) c f) e ∙ rust_list_lem t.allowance c f,
)

same_test : (e : Entry) → not (eqb (u8_at (entry_bytes e) 1) 26) ≡ Other e
unfolding entry_bytes
same_test e = refl

pub unknowns_left : (t : Terms) (catalogue fit buffer : List ℕ) → refusal (outcome buffer (list_call t catalogue fit buffer)) ≡ 0
    → only (λ e. not (eqb (u8_at e 1) 26)) (entries_of (outcome buffer (list_call t catalogue fit buffer)))
    ≡ map entry_bytes (for_reader t.reader (league_list t (catalogue_of catalogue) (fit_of fit)))
unfolding list_for
unknowns_left t catalogue fit buffer h =
    let es = list_for t (catalogue_of catalogue) (fit_of fit) in
    ap (only λ e. not (eqb (u8_at e 1) 26)) (entries-are (list_answers t catalogue fit buffer) h)
    ∙ only-map entry_bytes (λ e. not (eqb (u8_at e 1) 26)) Other same_test es
    ∙ ap (map entry_bytes)
    (only-for Other t.reader (whole_list t (catalogue_of catalogue) (fit_of fit))
    ∙ ap (for_reader t.reader) (unknowns t (catalogue_of catalogue) (fit_of fit)).0)
