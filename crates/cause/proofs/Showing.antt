-- A part shows an entry where the entry's pair is kept and the list over the kept pairs, under their old numbers, has it. From the list
-- over pairs that are numbered anew.
use mathlib.Core.Path.{◌≡◌, refl, sym, ap, subst}
use mathlib.Core.Bool.{Bool, true, false, ◌&&◌}
use mathlib.Core.List.{List}
use lib.Dec.{T}
use Rattle.words.specs.Words.{any_of}
use Rattle.catalogue.specs.Catalogue.{Catalogue}
use Rattle.fit.specs.Fit.{Fit}
use Rattle.entry.specs.declared.Target.{Target}
use Rattle.entry.specs.declared.Target.TheVariants.{Ship, Item}
use Rattle.entry.specs.declared.Rule.{Rule}
use Rattle.entry.specs.declared.Entry.{Entry}
use Rattle.context.specs.Context.{pairs}
use Rattle.lists.specs.Terms.{main}
use Rattle.lists.specs.Lists.{whole_with, whole_list}
use Rattle.parts.specs.Parts.{chosen, part_of}
use Rattle.parts.proofs.Flags.{before_same}
use Rattle.parts.proofs.Beside.{beside_any}
use Rattle.parts.proofs.Numbered.{number_in, chosen-held}
use Rattle.parts.proofs.Renumbered.{Aims, ship, item, part-moves}
use Rattle.cause.specs.Cause.{alike, same_target, is_about, is_kept, renumbered, shows}

module _ (c : Catalogue) (f : Fit) where
  about_same : (s : List Bool) (t : Target) (u : Rule) → T (is_kept s t) → {a b : Entry} → Aims (number_in s) (chosen s (pairs c f)) a b
      → is_about t u a ≡ is_about (renumbered s t) u b
  unfolding is_about same_target renumbered is_kept
  about_same s Ship u h ship = refl
  about_same s Ship u h (item m) = refl
  about_same s (Item i) u h ship = refl
  about_same s (Item i) u h (item {p} {r} m) =
      ap (λ (b : Bool). b && alike u r) (sym (before_same s p.position i (chosen-held c f s p m) h))

  -- the list over the chosen pairs, under their old numbers, has an entry about a target, of a rule
  abbrev pub listed_among : List Bool → Entry → Bool
  listed_among s e = any_of (is_about e.target e.rule) (whole_with main c f.frame f.skills (chosen s (pairs c f)))

  pub shows-chosen : (e : Entry) (s : List Bool) → shows c f e s ≡ is_kept s e.target && listed_among s e
  unfolding shows
  shows-chosen e s = go (is_kept s e.target) refl
    where
      go : (b : Bool) → is_kept s e.target ≡ b
          → b && any_of (is_about (renumbered s e.target) e.rule) (whole_list main c (part_of f s)) ≡ b && listed_among s e
      go true q =
          sym (beside_any (is_about e.target e.rule) (is_about (renumbered s e.target) e.rule)
          (λ a b k. about_same s e.target e.rule (subst T (sym q) tt) k) (part-moves main c f s))
      go false q = refl
