-- The skills of a fit where they stand in its image, and rule 21 of the first of them.
use Rattle.std.specs.Prelude.{ℕ, ◌+◌, ◌*◌, List}
use Rattle.words.specs.Words.{each, table}
use Rattle.image.specs.Bytes.{i32_at}
use Rattle.catalogue.specs.Catalogue.{Id, Catalogue}
use Rattle.fit.specs.Fit.{skills_at}
use Rattle.entry.specs.declared.Entries.{Entries}
use Rattle.entry.specs.Emitted.{Emitted}
use Rattle.validate.specs.Kind.{not_a_skill_at}

-- listed skill i
abbrev pub skill_at : List ℕ → ℕ → Id
skill_at fit i = i32_at fit (skills_at fit + 4 * i)

-- from the writer `before` to the writer `after`, rule 21 of the first i skills was written
abbrev pub OfSkills : Catalogue → List ℕ → ℕ → (before after : Entries) → Type 0
OfSkills c fit i before after = Emitted before after (each (table i (skill_at fit)) (not_a_skill_at c))
