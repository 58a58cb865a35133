-- Document 02: what a list or skill call brings beside its images and its buffer. A request that gives a call one thing more adds a field here.
use Rattle.std.specs.Prelude.{ℕ, min, List, []}
use Rattle.numbers.specs.Sizes as Sizes
use Rattle.numbers.specs.Readers as Readers

pub record Terms : Type 0 where
  -- a league profile's bytes, and the points that it allows; no bytes: no profile, and the allowance is not read
  pub profile : List ℕ
  pub allowance : ℕ
  -- how many pairs the page takes, and how many wanted skills of one result
  pub pairs : ℕ
  pub skills : ℕ
  -- for whom: 0 a guest, 1 a pilot, 2 an officer
  pub reader : ℕ

-- an officer's, on the main page
abbrev pub terms : (profile : List ℕ) → (allowance : ℕ) → Terms
terms profile allowance =
    record { profile = profile; allowance = allowance; pairs = Sizes.most_pairs; skills = Sizes.most_wanted; reader = Readers.officer }

-- on a page with limits of its own
abbrev pub limited : (pairs skills : ℕ) → Terms → Terms
limited pairs skills t = record { profile = t.profile; allowance = t.allowance; pairs = pairs; skills = skills; reader = t.reader }

-- for a reader
abbrev pub read_by : (reader : ℕ) → Terms → Terms
read_by reader t = record { profile = t.profile; allowance = t.allowance; pairs = t.pairs; skills = t.skills; reader = reader }

-- no profile, on the main page, an officer's: the hall, `check`, and every other call
abbrev pub main : Terms
main = terms [] 0

-- a limit above the main page's counts as that one
abbrev pub pair_limit : Terms → ℕ
pair_limit t = min t.pairs Sizes.most_pairs

abbrev pub skill_limit : Terms → ℕ
skill_limit t = min t.skills Sizes.most_wanted
