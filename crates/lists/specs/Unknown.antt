-- Document 02, P5: rule 26, for each pair whose type the catalogue lacks, wherever the pair is.
use Rattle.std.specs.Prelude.{not, List}
use Rattle.words.specs.Words.{each, when}
use Rattle.catalogue.specs.Catalogue.{Catalogue}
use Rattle.catalogue.specs.Lookups.{is_known}
use Rattle.entry.specs.declared.Entry.{Entry}
use Rattle.entry.specs.declared.Rule.TheVariants.{UnknownType}
use Rattle.context.specs.Context.{Pair, on}

module _ (c : Catalogue) where
  unfoldable pub unknown_type_at : Pair → List Entry
  unknown_type_at p = when (not (is_known c p.type)) (on p (UnknownType p.type))

  unfoldable pub unknown_types : List Pair → List Entry
  unknown_types ps = each ps unknown_type_at
