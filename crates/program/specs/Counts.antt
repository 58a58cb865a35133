-- What the contracts of a number of a buffer's bytes cite.
use Rattle.std.specs.Prelude.{ℕ, ◌≡◌, ◌≤◌, List, length, take}

-- the first n bytes of b are there, and they are n. The second part follows from the first, and spares a caller's `&b[..n]` a proof file.
abbrev pub IsPrefixLen : ℕ → List ℕ → Type 0
IsPrefixLen n b = (n ≤ length b) × (n ≡ length (take n b))
