-- What the call answers, by what was read of the entry at the position: 14, 15, or the pairs that are left of those tried in turn.
use Prim.Native.Nat.{ℕ, ◌*◌, ◌≤◌, ◌<◌}
use native.Mathlib.Omega.{arith}
use mathlib.Core.Path.{◌≡◌, refl, sym, ap, ap₂, ◌∙◌, subst}
use mathlib.Core.Bool.{Bool, true, false, ◌&&◌, true≢false}
use mathlib.Core.List.{List, [], ◌++◌}
use Rattle.std.specs.Prelude.{Option, None, Some, slice_get}
use Rattle.std.proofs.lemmas.Option.{slice_get-get_or, slice_get_within}
use lib.Dec.{leb}
use lib.ListN.{length, get_or}
use borrow.Author.Tests.{le-leb, lt-leb}
use Rattle.words.specs.Words.{given, each, any_of}
use Rattle.numbers.specs.Sizes as Sizes
use Rattle.numbers.specs.Refusals as Refusals
use Rattle.image.specs.Bytes.{le}
use Rattle.catalogue.specs.Catalogue.{Catalogue, catalogue_of}
use Rattle.fit.specs.Fit.{Fit, fit_of}
use Rattle.entry.specs.declared.Target.{Target}
use Rattle.entry.specs.declared.Target.TheVariants.{Ship, Item}
use Rattle.entry.specs.declared.Entry.{Entry}
use Rattle.context.specs.declared.Context.{Context as Held}
use Rattle.context.specs.Context.{Pair, pairs, context}
use Rattle.context.specs.Gathered.{pair_count, pairs_of, context_of}
use Rattle.lists.specs.Terms.{main}
use Rattle.lists.specs.Lists.{whole_list}
use Rattle.calls.specs.Output.{Output, output, room_refusals}
use Rattle.calls.specs.Gave.{GaveBytes}
use Rattle.calls.proofs.Outputs.{output-true, output-false, bytes_same, bytes-refused}
use Rattle.parts.specs.Parts.{every, holds, down_from, thinned, numbers_of}
use Rattle.cause.specs.Cause.{is_kept, cause_of, bad_volume, no_entry, cause_refusals, cause_bytes}
use Rattle.cause.specs.Members.{own, stays}
use Rattle.cause.specs.Decided.{shown_of, broken_in, has_own, decides, Decides, Read}
use Rattle.cause.specs.Decided as Decided
use Rattle.cause.specs.declared.shown.Shown.{Shown}
use Rattle.cause.specs.declared.deciding.Deciding.{Deciding}
use Rattle.cause.proofs.Staying as Staying
use Rattle.cause.proofs.Staying.{thinned-same, listed_at, cause-passes}
use Rattle.cause.proofs.ReadBack.{none, pairs-length}

-- the own pair, by its number and by the target
pub own-kept : (t : Target) (kept : List Bool) → has_own (own t) kept ≡ is_kept kept t
unfolding has_own own is_kept given
own-kept Ship kept = refl
own-kept (Item i) kept = refl

module _ (x : Held) (position : ℕ) where
  abbrev c : Catalogue
  c = catalogue_of x.catalogue.now

  abbrev f : Fit
  f = fit_of x.fit.now

  abbrev es : List Entry
  es = whole_list main c f

  abbrev bs : List ℕ
  bs = cause_bytes c f position

  -- the call's answer
  abbrev pub asked : List ℕ → Output
  asked out = output (cause_refusals c f position ++ room_refusals out bs) bs

  -- ---- what was read
  ends : Read x es position None → no_entry c f position ≡ true
  unfolding given
  ends r = go (slice_get es position) refl r.entry
    where
      is_there : Option Shown → Bool
      is_there None = false
      is_there (Some s) = true

      entry_there : Option Entry → Bool
      entry_there None = false
      entry_there (Some e) = true

      past : ((position < length es) → ⊥) → length es ≤ position
      past h = omega arith

      go : (o : Option Entry) → slice_get es position ≡ o → None ≡ given o None (λ e. Some (shown_of e)) → leb (length es) position ≡ true
      go None w q =
          le-leb (length es) position (past λ h. true≢false (ap entry_there (sym (slice_get-get_or es position none h) ∙ w)))
      go (Some e) w q = absurd (true≢false (sym (ap is_there q)))

  pub there : (s : Shown) → Read x es position (Some s) → (e : Entry) × (slice_get es position ≡ Some e) × (s ≡ shown_of e)
  unfolding given
  there s r = go (slice_get es position) refl r.entry
    where
      is_there : Option Shown → Bool
      is_there None = false
      is_there (Some s) = true

      inner : Option Shown → Shown
      inner None = s
      inner (Some t) = t

      go : (o : Option Entry) → slice_get es position ≡ o → Some s ≡ given o None (λ e. Some (shown_of e))
          → (e : Entry) × (slice_get es position ≡ Some e) × (s ≡ shown_of e)
      go None w q = absurd (true≢false (ap is_there q))
      go (Some e) w q = (e, w, ap inner q)

  found : (e : Entry) → slice_get es position ≡ Some e → no_entry c f position ≡ false
  found e w = lt-leb (length es) position (slice_get_within es position e w)

  -- ---- 14 and 15
  pub caused-14 : (out : List ℕ) → Read x es position None → GaveBytes out out (Refusals.no_entry * Sizes.word) (asked out)
  caused-14 out r =
      bytes_same (sym (output-true Refusals.no_entry _ _ (omega arith) (ends r))) (bytes-refused out Refusals.no_entry refl)

  pub caused-15 : (out : List ℕ) (e : Entry) → slice_get es position ≡ Some e → any_of bad_volume (pairs c f) ≡ true
      → GaveBytes out out (Refusals.bad_volume * Sizes.word) (asked out)
  caused-15 out e w b =
      bytes_same (sym (output-false Refusals.no_entry _ _ (found e w) ∙ output-true Refusals.bad_volume _ _ (omega arith) b))
      (bytes-refused out Refusals.bad_volume refl)

  -- ---- the pairs that are left
  module _ (e : Entry) (w : slice_get es position ≡ Some e) (d : Deciding) (broken : Decides x d (broken_in x (shown_of e))) where
    stays-is : (kept : List Bool) → decides x d kept ≡ stays c f e kept
    unfolding stays context_of pairs_of
    stays-is kept = broken kept

    pub caused-kept : thinned (Decided.passes x (own e.target) d) (every (pair_count x.fit.now)) (down_from (pair_count x.fit.now)) ≡ cause_of c f e
    caused-kept =
        let n = pair_count x.fit.now in
        let t = Staying.passes c f e in
        thinned-same (Decided.passes x (own e.target) d) t (λ kept. ap₂ (λ (a b : Bool). a && b) (own-kept e.target kept) (stays-is kept))
        (every n) (down_from n)
        ∙ ap (λ (m : ℕ). thinned t (every m) (down_from m)) (sym (pairs-length x.catalogue.now x.fit.now))
        ∙ sym (cause-passes c f e (listed_at c f e position w))

  pub caused-written : (out after : List ℕ) (word : ℕ) (e : Entry) → slice_get es position ≡ Some e → any_of bad_volume (pairs c f) ≡ false
      → (kept : List Bool) → kept ≡ cause_of c f e
      → (let ks = each (numbers_of kept) (le 4) in GaveBytes out after word (output (room_refusals out ks) ks)) → GaveBytes out after word (asked out)
  unfolding cause_bytes given
  caused-written out after word e w b kept k g =
      let told : each (numbers_of kept) (le 4) ≡ bs =
      ap (λ (l : List Bool). each (numbers_of l) (le 4)) k
      ∙ sym (ap (λ (o : Option Entry). given o [] (λ e. each (numbers_of (cause_of c f e)) (le 4))) w) in
      bytes_same
      (sym (output-false Refusals.no_entry _ _ (found e w) ∙ output-false Refusals.bad_volume _ _ b))
      (subst (λ (ks : List ℕ). GaveBytes out after word (output (room_refusals out ks) ks)) told g)

-- what is given of the images that a context holds is given of those that it was made of
pub given_also : (P : List ℕ → List ℕ → Type 0) {b b' f f' : List ℕ} → b' ≡ b → f' ≡ f → P b' f' → P b f
given_also P {b} {b'} {f} {f'} e q g = subst (P b) q (subst (λ (m : List ℕ). P m f') e g)
