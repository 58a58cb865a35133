-- A list call without a profile is as it was before there were leagues: nothing is refused for one, and nothing is put behind the list.
use Prim.Native.Nat.{ℕ}
use mathlib.Core.Path.{◌≡◌, refl, ap, ap₂, ◌∙◌}
use mathlib.Core.List.{List, [], ◌∷◌, ◌++◌}
use lib.Dec.{ltb}
use Rattle.words.specs.Words.{any_of, in_order, is_empty, table_from, first_of}
use Rattle.image.specs.Bytes.{u32_at}
use Rattle.catalogue.specs.Catalogue.{Catalogue, catalogue_of}
use Rattle.catalogue.specs.Refusals.{catalogue_refusals}
use Rattle.fit.specs.Fit.{Fit, fit_of}
use Rattle.fit.specs.Refusals.{fit_refusals}
use Rattle.profile.specs.Profile.{prices_of, bad_profile, bad_prices, profile_refusals}
use Rattle.entry.specs.declared.Entry.{Entry}
use Rattle.context.specs.Context.{pairs}
use Rattle.validate.specs.Validate.{list_of}
use Rattle.lists.specs.Terms.{Terms, terms}
use Rattle.lists.specs.Unknown.{unknown_types}
use Rattle.lists.specs.Lists.{on_hull, whole_with, league_list, whole_list, for_reader, list_for}
use Rattle.lists.proofs.Behind.{rust_list_lem}
use Rattle.calls.specs.Answers.{answer_by, answer, image_refusals, buffer_refusals}
use Rattle.fitcheck.specs.Calls.{list_call}
use Rattle.calls.proofs.Pages.{whole_unread}
use Rattle.promises.specs.Answers.{outcome, refusal}
use Rattle.promises.specs.Before.{rust_call}
use Rattle.promises.proofs.Pages.{unasked, list_unasked}

-- the refusals of a profile that is not there
none_first : (reader : ℕ) (catalogue fit buffer : List ℕ) (es : List Entry)
    → unasked catalogue fit buffer reader [] es ≡ first_of ((19, ltb 2 reader) ∷ (image_refusals catalogue fit ++ buffer_refusals buffer es))
unfolding unasked first_of catalogue_refusals fit_refusals profile_refusals bad_profile bad_prices prices_of is_empty in_order any_of table_from u32_at
none_first reader catalogue fit buffer es = refl

-- and its list
abbrev behind : Catalogue → Fit → List Entry
behind c f = on_hull c f.frame (unknown_types c (pairs c f))

rusts : (t : Terms) (c : Catalogue) (f : Fit) → t.profile ≡ [] → whole_list t c f ≡ list_of c f ++ behind c f
unfolding whole_list whole_with league_list
rusts t c f e =
    whole_unread t 2 256 512 c f
    ∙ ap (λ (profile : List ℕ). whole_list (terms profile t.allowance) c f) e
    ∙ ap (λ (es : List Entry). es ++ behind c f) (rust_list_lem t.allowance c f)

pub no_profile : (t : Terms) (catalogue fit buffer : List ℕ) → t.profile ≡ []
    → (refusal (outcome buffer (list_call t catalogue fit buffer)) ≡ 13 → ⊥)
    → outcome buffer (list_call t catalogue fit buffer) ≡ outcome buffer (rust_call t catalogue fit buffer)
unfolding rust_call answer list_for
no_profile t catalogue fit buffer e h =
    let c = catalogue_of catalogue in
    let f = fit_of fit in
    ap (outcome buffer)
    (list_unasked catalogue fit buffer t h
    ∙ ap₂ (λ (profile : List ℕ) (es : List Entry).
    answer_by (unasked catalogue fit buffer t.reader profile (for_reader t.reader es)) (for_reader t.reader es)) e (rusts t c f e)
    ∙ (let es = for_reader t.reader (list_of c f ++ behind c f) in
    ap (λ (n : ℕ). answer_by n es) (none_first t.reader catalogue fit buffer es)))
