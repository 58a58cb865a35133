-- calculate/mod.rs: the groups of types that the rules ask for.
use Rattle.std.specs.Prelude.{List, [], ◌∷◌, ℤ, pos}

-- `GROUP_CONTAINERS`
abbrev pub containers : List ℤ
containers = pos 12 ∷ pos 340 ∷ pos 448 ∷ pos 649 ∷ []

-- `GROUP_SHIP_MODIFIERS`
abbrev pub ship_modifiers : ℤ
ship_modifiers = pos 1306
