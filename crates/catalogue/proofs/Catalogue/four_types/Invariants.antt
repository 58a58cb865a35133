-- `Catalogue::four_types` meets its contract. The invariant: the first j answers are in.
use Rattle.std.proofs.Common.{ℕ, ◌≡◌, ◌<◌, length, pos}
use Rattle.std.specs.Prelude.{None, Some, slice_index_or}
use Rattle.words.specs.Words.{given}
use Rattle.catalogue.specs.Catalogue.{catalogue_of}
use Rattle.catalogue.specs.Lookups.{type_of}
use Rattle.catalogue.specs.Answers.{info_of_type}
use Rattle.catalogue.proofs.Catalogue.four_types.Given as goal

abbrev pub invariant-loop-j : goal.invariant-loop-j
invariant-loop-j l =
    (length l.answers ≡ 4) ×
    ((k : ℕ) → k < l.j → slice_index_or l.answers k None ≡ given (type_of (catalogue_of l.self) (slice_index_or l.ids k (pos 0))) None (λ x. Some (info_of_type x)))
