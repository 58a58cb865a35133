-- Document 02, P14: who reads what a call gives. No number is higher.
use Rattle.std.specs.Prelude.{ℕ}

-- looks at shared fits, and is not told of a pilot's training
abbrev pub guest : ℕ
guest = 0

abbrev pub pilot : ℕ
pilot = 1

abbrev pub officer : ℕ
officer = 2
