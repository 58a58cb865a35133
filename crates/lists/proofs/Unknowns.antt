-- Rule 26, pair by pair.
use mathlib.Core.Path.{◌≡◌, refl, ap, ◌∙◌}
use mathlib.Core.Bool.{Bool, true, false, not}
use mathlib.Core.List.{List}
use Rattle.std.specs.Prelude.{Option, None, Some, is_some}
use Rattle.words.specs.Words.{each, given}
use Rattle.catalogue.specs.Catalogue.{Id, Catalogue}
use Rattle.catalogue.specs.Lookups.{is_known}
use Rattle.catalogue.specs.declared.TypeInfo.{TypeInfo}
use Rattle.context.specs.Context.{Pair}
use Rattle.context.specs.Gathered.{answer_of}
use Rattle.context.proofs.Types.{told-known}
use Rattle.lists.specs.Unknown.{unknown_type_at, unknown_types}

-- what a lookup's answer says of whether the type is there
none-given : (o : Option TypeInfo) (b : Bool) → is_some o ≡ not b → b ≡ not (given o false (λ x. true))
unfolding given
none-given None true e = refl
none-given None false e = cc
none-given (Some x) true e = cc
none-given (Some x) false e = refl

module _ (c : Catalogue) where
  pub none-told : (t : Id) (o : Option TypeInfo) {b : Bool} → o ≡ answer_of c t → is_some o ≡ not b → b ≡ not (is_known c t)
  none-told t o e h = none-given o _ h ∙ ap not (told-known c t e)

  pub unknown-each : (ps : List Pair) → each ps (unknown_type_at c) ≡ unknown_types c ps
  unfolding unknown_types
  unknown-each ps = refl
