-- Document 01, "Records": states follow Rust's `State`.
use Rattle.std.specs.Prelude.{ℕ}

-- ---- `State`
abbrev pub offline : ℕ
offline = 0

abbrev pub online : ℕ
online = 1

abbrev pub active : ℕ
active = 2

abbrev pub overload : ℕ
overload = 3
