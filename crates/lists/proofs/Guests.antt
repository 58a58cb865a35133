-- What each reader gets of a list: for a guest rule 21 is taken out, which leaves the list of a fit that lists no skills.
use Prim.Native.Nat.{ℕ}
use native.Mathlib.Omega.{arith}
use mathlib.Core.Path.{◌≡◌, refl, sym, ap, ap₂, ◌∙◌}
use mathlib.Core.Bool.{Bool, true, false, cond}
use mathlib.Core.List.{List, [], ◌∷◌, ◌++◌}
use Rattle.std.specs.Prelude.{Option}
use lib.Dec.{eqb}
use Rattle.words.specs.Words.{each, when_above, only}
use Rattle.words.proofs.Steps.{only-append}
use Rattle.words.proofs.All.{All, nil, all_join, all-when, all-cond, all-bind, all-each}
use Rattle.numbers.specs.Readers as Readers
use Rattle.catalogue.specs.Catalogue.{Id, Catalogue, catalogue_of}
use Rattle.fit.specs.Fit.{Frame, fit_of, mode_of}
use Rattle.entry.specs.declared.Entry.{Entry}
use Rattle.entry.specs.declared.Rule.TheVariants.{NotAHull}
use Rattle.entry.specs.Entries.{on_ship, fields}
use Rattle.context.specs.Context.{Pair, context, pairs}
use Rattle.context.specs.Gathered.{pairs_of}
use Rattle.league.specs.League.{banned_at, banned, over_allowance, league}
use Rattle.validate.specs.Kind.{is_hull, not_a_mode, not_a_skill}
use Rattle.validate.specs.Validate.{hull_rules, list_with, list_of}
use Rattle.lists.specs.Terms.{Terms}
use Rattle.lists.specs.Unknown.{unknown_type_at, unknown_types}
use Rattle.lists.specs.Lists.{on_hull, league_of, league_with, whole_with, for_guests, for_reader}
use Rattle.lists.proofs.Numbers.{only-all, only_no, low-rules, raise, all-below}

abbrev AllTold : List Entry → Type 0
AllTold = All (λ e. for_guests e ≡ true)

module _ (c : Catalogue) where
  told-mode : (m : Option Id) → AllTold (not_a_mode c m)
  unfolding not_a_mode fields
  told-mode m = all-bind m λ _. all-when _ _ (λ _. refl)

  untold_skills : (ids : List Id) → only for_guests (not_a_skill c ids) ≡ []
  unfolding not_a_skill fields
  untold_skills ids = only_no for_guests (all-each ids λ _. all-when _ _ (λ _. refl))

  told-unknowns : (ps : List Pair) → AllTold (unknown_types c ps)
  unfolding unknown_types unknown_type_at fields
  told-unknowns ps = all-each ps λ _. all-when _ _ (λ _. refl)

told-league : (t : Terms) (ps : List Pair) → AllTold (league_of t ps)
unfolding league banned banned_at over_allowance when_above fields
told-league t ps = all_join (all-each ps λ p. all-when _ _ (λ _. refl)) (all-when _ _ (λ _. refl))

module _ (c : Catalogue) (k : Frame) (ids : List Id) (ps : List Pair) where
  abbrev rules : List Entry
  rules = hull_rules (context c k) ps

  told-rules : AllTold rules
  told-rules = all-below 21 (raise 19 21 (omega arith) (low-rules (context c k) ps))

  told-hull : only for_guests (not_a_mode c (mode_of k) ++ not_a_skill c ids ++ rules) ≡ not_a_mode c (mode_of k) ++ [] ++ rules
  told-hull =
      only-append for_guests (not_a_mode c (mode_of k) ++ not_a_skill c ids) rules
      ∙ ap₂ (λ (x y : List Entry). x ++ y)
      (only-append for_guests (not_a_mode c (mode_of k)) (not_a_skill c ids)
      ∙ ap₂ (λ (x y : List Entry). x ++ y) (only-all for_guests (told-mode c (mode_of k))) (untold_skills c ids))
      (only-all for_guests told-rules)

  -- the Rust's list with no word on skills
  pub told-list : only for_guests (list_with c k ids ps) ≡ list_with c k [] ps
  unfolding list_with not_a_skill each
  told-list = go (is_hull c k.ship)
    where
      go : (b : Bool) → only for_guests (cond b (not_a_mode c (mode_of k) ++ not_a_skill c ids ++ rules) (on_ship NotAHull ∷ []))
          ≡ cond b (not_a_mode c (mode_of k) ++ [] ++ rules) (on_ship NotAHull ∷ [])
      go true = told-hull
      go false = unfold only fields in refl

  pub told-whole : (t : Terms) → only for_guests (whole_with t c k ids ps) ≡ whole_with t c k [] ps
  unfolding whole_with league_with on_hull
  told-whole t =
      let l = cond (is_hull c k.ship) (league_of t ps) [] in
      let u = cond (is_hull c k.ship) (unknown_types c ps) [] in
      only-append for_guests (list_with c k ids ps ++ l) u
      ∙ ap₂ (λ (x y : List Entry). x ++ y)
      (only-append for_guests (list_with c k ids ps) l
      ∙ ap₂ (λ (x y : List Entry). x ++ y) told-list (only-all for_guests (all-cond (is_hull c k.ship) (told-league t ps) nil)))
      (only-all for_guests (all-cond (is_hull c k.ship) (told-unknowns c ps) nil))

-- ---- by reader
module _ (reader : ℕ) where
  pub for_guest : (es : List Entry) → reader ≡ Readers.guest → for_reader reader es ≡ only for_guests es
  unfolding for_reader
  for_guest es e = ap (λ (n : ℕ). cond (eqb n 0) (only for_guests es) es) e

  pub for_other : (es : List Entry) → eqb reader Readers.guest ≡ false → for_reader reader es ≡ es
  unfolding for_reader
  for_other es e = ap (λ (b : Bool). cond b (only for_guests es) es) e

  pub for_join : (l m : List Entry) → for_reader reader (l ++ m) ≡ for_reader reader l ++ for_reader reader m
  unfolding for_reader
  for_join l m = go (eqb reader 0)
    where
      go : (b : Bool) → cond b (only for_guests (l ++ m)) (l ++ m) ≡ cond b (only for_guests l) l ++ cond b (only for_guests m) m
      go true = only-append for_guests l m
      go false = refl

  for_told : {es : List Entry} → AllTold es → for_reader reader es ≡ es
  unfolding for_reader
  for_told {es} h = go (eqb reader 0)
    where
      go : (b : Bool) → cond b (only for_guests es) es ≡ es
      go true = only-all for_guests h
      go false = refl

  -- what stands behind the Rust's list is for all
  pub for_behind : (t : Terms) (c : Catalogue) (l : List Entry) (ps : List Pair)
      → for_reader reader (l ++ league_of t ps ++ unknown_types c ps) ≡ for_reader reader l ++ league_of t ps ++ unknown_types c ps
  for_behind t c l ps =
      for_join (l ++ league_of t ps) (unknown_types c ps)
      ∙ ap₂ (λ (x y : List Entry). x ++ y)
      (for_join l (league_of t ps) ∙ ap (λ (x : List Entry). for_reader reader l ++ x) (for_told (told-league t ps)))
      (for_told (told-unknowns c ps))

-- a guest's list of two images
pub guest_list : (catalogue fit : List ℕ) (reader : ℕ) → reader ≡ Readers.guest
    → list_with (catalogue_of catalogue) (fit_of fit).frame [] (pairs_of catalogue fit) ≡ for_reader reader (list_of (catalogue_of catalogue) (fit_of fit))
unfolding list_of pairs_of
guest_list catalogue fit reader e =
    let c = catalogue_of catalogue in
    let f = fit_of fit in
    sym (for_guest reader (list_of c f) e ∙ told-list c f.frame f.skills (pairs c f))
