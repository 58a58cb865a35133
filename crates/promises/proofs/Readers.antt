-- Readers: a guest is not told of a pilot's training, pilots and officers are told all. By the conditions of the calls and the list without
-- skills.
use Prim.Native.Nat.{ℕ, ◌*◌}
use mathlib.Core.Path.{◌≡◌, refl, sym, ap, ap₂, ◌∙◌}
use mathlib.Core.Bool.{not, cond}
use mathlib.Core.List.{List, [], ◌∷◌, ◌++◌, map}
use lib.Dec.{eqb, ltb}
use lib.ListN.{length}
use Rattle.words.specs.Words.{only, first_of}
use Rattle.image.specs.Bytes.{u8_at}
use Rattle.catalogue.specs.Catalogue.{Catalogue, catalogue_of}
use Rattle.catalogue.specs.Refusals.{catalogue_refusals}
use Rattle.fit.specs.Fit.{Frame, Fit, fit_of}
use Rattle.fit.specs.Refusals.{fit_refusals}
use Rattle.profile.specs.Profile.{profile_refusals}
use Rattle.entry.specs.declared.Entry.{Entry}
use Rattle.entry.specs.Entries.{entry_bytes}
use Rattle.context.specs.Context.{Pair, pairs, pairs_from}
use Rattle.lists.specs.Terms.{Terms, read_by, pair_limit}
use Rattle.lists.specs.Lists.{league_with, whole_with, whole_list, for_guests, for_reader, list_for}
use Rattle.lists.proofs.Guests.{told-whole, for_guest}
use Rattle.calls.specs.Answers.{answer_by, answer, image_refusals, page_refusals, input_refusals, buffer_refusals, returned, buffered}
use Rattle.fitcheck.specs.Calls.{list_call, skill_call}
use Rattle.calls.proofs.First.{first-join, numbered-catalogue, numbered-images, numbered-page, numbered-inputs}
use Rattle.promises.specs.Answers.{outcome, refusal, entries_of, fit_conditions, None}
use Rattle.promises.specs.Compare.{Apart}
use Rattle.promises.proofs.Conditions.{none_is}
use Rattle.promises.proofs.Left.{entries-are, only-map}
use Rattle.promises.proofs.Calls.{list_answers}

-- the whole list reads no reader
unread : (t : Terms) (reader other : ℕ) (c : Catalogue) (f : Fit) → whole_list (read_by reader t) c f ≡ whole_list (read_by other t) c f
unfolding whole_list whole_with league_with
unread t reader other c f = refl

-- ---- two fits that differ in listed skills and levels
module _ (t : Terms) (c : Catalogue) (f g : Fit) (apart : Apart f g) where
  same-pairs : pairs c f ≡ pairs c g
  unfolding pairs
  same-pairs = ap₂ (pairs_from c 0) apart.items apart.results

  without_skills_lem : (h : Fit) → t.reader ≡ 0 → list_for t c h ≡ whole_with t c h.frame [] (pairs c h)
  unfolding list_for whole_list
  without_skills_lem h e = for_guest t.reader (whole_list t c h) e ∙ told-whole c h.frame h.skills (pairs c h) t

  same-list : t.reader ≡ 0 → list_for t c f ≡ list_for t c g
  same-list e =
      without_skills_lem f e
      ∙ ap₂ (λ (k : Frame) (ps : List Pair). whole_with t c k [] ps) apart.frame same-pairs
      ∙ sym (without_skills_lem g e)

module _ (t : Terms) (catalogue one other buffer : List ℕ) (guest : t.reader ≡ 0)
    (fine : None (fit_conditions one)) (fine' : None (fit_conditions other)) (apart : Apart (fit_of one) (fit_of other)) where
  lists : list_for t (catalogue_of catalogue) (fit_of one) ≡ list_for t (catalogue_of catalogue) (fit_of other)
  lists = same-list t (catalogue_of catalogue) (fit_of one) (fit_of other) apart guest

  images : first_of (image_refusals catalogue one) ≡ first_of (image_refusals catalogue other)
  unfolding fit_refusals
  images =
      first-join 6 (catalogue_refusals catalogue) (catalogue_refusals catalogue) (fit_refusals one) (fit_refusals other)
      (numbered-catalogue catalogue) (numbered-catalogue catalogue) refl (none_is (fit_conditions one) fine ∙ sym (none_is (fit_conditions other) fine'))

  page : first_of (page_refusals t catalogue one) ≡ first_of (page_refusals t catalogue other)
  page =
      let ps = same-pairs t (catalogue_of catalogue) (fit_of one) (fit_of other) apart in
      first-join 6 (image_refusals catalogue one) (image_refusals catalogue other) _ _
      (numbered-images catalogue one) (numbered-images catalogue other) images
      (ap (λ (l : List Pair). first_of ((13, ltb (pair_limit t) (length l)) ∷ [])) ps)

  inputs : first_of (input_refusals t catalogue one) ≡ first_of (input_refusals t catalogue other)
  inputs =
      first-join 13 (page_refusals t catalogue one) (page_refusals t catalogue other) (profile_refusals t.profile) (profile_refusals t.profile)
      (numbered-page t catalogue one) (numbered-page t catalogue other) page refl

  first : first_of (input_refusals t catalogue one ++ buffer_refusals buffer (list_for t (catalogue_of catalogue) (fit_of one)))
      ≡ first_of (input_refusals t catalogue other ++ buffer_refusals buffer (list_for t (catalogue_of catalogue) (fit_of other)))
  first =
      first-join 13 (input_refusals t catalogue one) (input_refusals t catalogue other) _ _
      (numbered-inputs t catalogue one) (numbered-inputs t catalogue other) inputs
      (ap (λ (es : List Entry). first_of (buffer_refusals buffer es)) lists)

  pub guest_blind : outcome buffer (list_call t catalogue one buffer) ≡ outcome buffer (list_call t catalogue other buffer)
  unfolding list_call answer first_of
  guest_blind =
      ap₂ (λ (k : ℕ) (es : List Entry). outcome buffer (answer_by (cond (ltb 2 t.reader) 19 k) es)) first lists

-- ---- a guest's skill call
pub guest_skills : (t : Terms) (catalogue fit : List ℕ) (result : ℕ) (buffer : List ℕ) → t.reader ≡ 0
    → outcome buffer (skill_call t catalogue fit result buffer) ≡ record { word = 20 * 4294967296; buffer = buffer }
unfolding skill_call answer first_of answer_by returned buffered
guest_skills t catalogue fit result buffer e = rw e

-- ---- what a guest is told
same_test : (e : Entry) → not (eqb (u8_at (entry_bytes e) 1) 21) ≡ for_guests e
unfolding entry_bytes
same_test e = refl

pub guest_list : (t : Terms) (catalogue fit guests officers : List ℕ)
    → refusal (outcome guests (list_call (read_by 0 t) catalogue fit guests)) ≡ 0
    → refusal (outcome officers (list_call (read_by 2 t) catalogue fit officers)) ≡ 0
    → entries_of (outcome guests (list_call (read_by 0 t) catalogue fit guests))
    ≡ only (λ e. not (eqb (u8_at e 1) 21)) (entries_of (outcome officers (list_call (read_by 2 t) catalogue fit officers)))
unfolding list_for for_reader
guest_list t catalogue fit guests officers h h' =
    let es = whole_list (read_by 2 t) (catalogue_of catalogue) (fit_of fit) in
    entries-are (list_answers (read_by 0 t) catalogue fit guests) h
    ∙ ap (λ (l : List Entry). map entry_bytes (only for_guests l)) (unread t 0 2 (catalogue_of catalogue) (fit_of fit))
    ∙ sym (only-map entry_bytes (λ e. not (eqb (u8_at e 1) 21)) for_guests same_test es)
    ∙ sym (ap (only λ e. not (eqb (u8_at e 1) 21)) (entries-are (list_answers (read_by 2 t) catalogue fit officers) h'))

-- ---- pilots and officers
pub full_list : (t : Terms) (catalogue fit : List ℕ) (result : ℕ) (buffer : List ℕ)
    → (list_for (read_by 2 t) (catalogue_of catalogue) (fit_of fit) ≡ whole_list t (catalogue_of catalogue) (fit_of fit))
    × (outcome buffer (list_call (read_by 1 t) catalogue fit buffer) ≡ outcome buffer (list_call (read_by 2 t) catalogue fit buffer))
    × (outcome buffer (skill_call (read_by 1 t) catalogue fit result buffer) ≡ outcome buffer (skill_call (read_by 2 t) catalogue fit result buffer))
unfolding list_for for_reader whole_list whole_with league_with list_call skill_call answer first_of
full_list t catalogue fit result buffer = (refl, refl, refl)
