-- The keys of a block as what searches go through. Not for the clauses of this crate: it names their struct.
use Rattle.std.specs.Prelude.{ℕ, ◌*◌, ◌≡◌, List, take, drop}
use Rattle.keys.specs.declared.Keys.{Keys}

-- those of the n records of the block at a place
abbrev pub KeysOf : List ℕ → ℕ → ℕ → Keys → Type 0
KeysOf b at n keys = (keys.bytes.now ≡ take (4 * n) (drop at b)) × (keys.n ≡ n)
