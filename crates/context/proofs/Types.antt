-- What is read of a type lookup's answer by its cases is what is read of the catalogue by whether it has the type.
use mathlib.Core.Path.{◌≡◌, refl, sym, ap, ◌∙◌}
use mathlib.Core.Bool.{Bool, true, false}
use Rattle.std.specs.Prelude.{Option, None, Some, MatchOption}
use lib.IntN.{pos}
use Rattle.words.specs.Words.{given}
use Rattle.floats.specs.Floats.{zero_f}
use Rattle.catalogue.specs.Catalogue.{Id, Catalogue, TypeData}
use Rattle.catalogue.specs.Lookups.{type_of, is_known, group_of, category_of, volume_of}
use Rattle.catalogue.specs.Answers.{info_of_type}
use Rattle.catalogue.specs.declared.TypeInfo.{TypeInfo}
use Rattle.context.specs.Gathered.{answer_of}

module _ {A : Type 0} (missing : A) (read : TypeInfo → A) where
  -- of an answer by its cases
  pub when-known : {o : Option TypeInfo} {info : TypeInfo} → o ≡ Some info → read info ≡ given o missing read
  unfolding given
  when-known e = sym (ap (λ (o : Option TypeInfo). given o missing read) e)

  pub when-missing : {o : Option TypeInfo} → o ≡ None → missing ≡ given o missing read
  unfolding given
  when-missing e = sym (ap (λ (o : Option TypeInfo). given o missing read) e)

  by-type : (o : Option TypeData) → given (given o None (λ x. Some (info_of_type x))) missing read ≡ given o missing (λ x. read (info_of_type x))
  unfolding given
  by-type None = refl
  by-type (Some x) = refl

  pub told : (c : Catalogue) (id : Id) {o : Option TypeInfo} → o ≡ answer_of c id
      → given o missing read ≡ given (type_of c id) missing (λ x. read (info_of_type x))
  told c id {o} e = ap (λ (a : Option TypeInfo). given a missing read) e ∙ by-type (type_of c id)

-- what `map_or` and `is_some_and` answer of a value that may be there, where P is what the closure ensures
pub given-option : {A B : Type 0} (missing : B) (f : A → B) (o : Option A) {r : B} {P : A → Type 0} → ((x : A) → o ≡ Some x → P x → r ≡ f x)
    → MatchOption o (r ≡ missing) P → r ≡ given o missing f
unfolding given
given-option missing f None h m = m
given-option missing f (Some x) h m = h x refl m

-- whether it is there
pub told-known : (c : Catalogue) (id : Id) {o : Option TypeInfo} → o ≡ answer_of c id → given o false (λ x. true) ≡ is_known c id
unfolding is_known
told-known c id e = told false (λ x. true) c id e

-- what the rules read
pub told-group : (c : Catalogue) (id : Id) {o : Option TypeInfo} → o ≡ answer_of c id → given o (pos 0) (λ x. x.group) ≡ group_of c id
unfolding group_of
told-group c id e = told (pos 0) (λ x. x.group) c id e

pub told-category : (c : Catalogue) (id : Id) {o : Option TypeInfo} → o ≡ answer_of c id → given o (pos 0) (λ x. x.category) ≡ category_of c id
unfolding category_of
told-category c id e = told (pos 0) (λ x. x.category) c id e

pub told-volume : (c : Catalogue) (id : Id) {o : Option TypeInfo} → o ≡ answer_of c id → given o zero_f (λ x. x.volume) ≡ volume_of c id
unfolding volume_of
told-volume c id e = told zero_f (λ x. x.volume) c id e

-- a test of a category: a type that is not there does not pass it, and neither does category 0
module _ (test : Id → Bool) (failed : test (pos 0) ≡ false) where
  pub passes : (o : Option TypeInfo) {category : Id} → given o (pos 0) (λ x. x.category) ≡ category
      → given o false (λ x. test x.category) ≡ test category
  unfolding given
  passes None e = sym failed ∙ ap test e
  passes (Some x) e = ap test e
