-- calculate/mod.rs, `is_hull` to `is_skill`, and validate/mod.rs, `kind`.
use Rattle.std.specs.Prelude.{Bool, false, not, ◌||◌, List}
use Rattle.std.specs.Prelude.{Option}
use Rattle.words.specs.Words.{◌>>=◌, each, when, given, same, contains}
use Rattle.numbers.specs.Categories as Categories
use Rattle.numbers.specs.Groups as Groups
use Rattle.catalogue.specs.Catalogue.{Id, Catalogue}
use Rattle.catalogue.specs.Lookups.{type_of}
use Rattle.entry.specs.declared.Entry.{Entry}
use Rattle.entry.specs.declared.Rule.TheVariants.{NotAMode, NotASkill}
use Rattle.entry.specs.Entries.{on_ship}

-- a ship, structure or container
unfoldable pub is_hull_kind : (category group : Id) → Bool
is_hull_kind category group = same category Categories.ship || same category Categories.structure || contains group Groups.containers

module _ (c : Catalogue) where
  unfoldable pub is_hull : Id → Bool
  is_hull t = given (type_of c t) false λ x. is_hull_kind x.category x.group

  unfoldable pub is_mode : Id → Bool
  is_mode t = given (type_of c t) false λ x. same x.group Groups.ship_modifiers

  unfoldable pub is_skill : Id → Bool
  is_skill t = given (type_of c t) false λ x. same x.category Categories.skill

  unfoldable pub not_a_mode : Option Id → List Entry
  not_a_mode mode = do
    m ← mode
    when (not (is_mode m)) (on_ship NotAMode)

  -- of one skill
  abbrev pub not_a_skill_at : Id → List Entry
  not_a_skill_at id = when (not (is_skill id)) (on_ship (NotASkill id))

  unfoldable pub not_a_skill : List Id → List Entry
  not_a_skill ids = each ids not_a_skill_at
