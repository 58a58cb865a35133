-- Reading a result, as `Context::value` and `Context::amount` in validate/mod.rs do, and a trained level.
use Rattle.std.specs.Prelude.{ℕ, cond, List, [], ◌∷◌, Float}
use Rattle.std.specs.Prelude.{Option, None, Some}
use Rattle.words.specs.Words.{find, given, same}
use Rattle.floats.specs.Floats.{zero_f}
use Rattle.catalogue.specs.Catalogue.{Id}
use Rattle.fit.specs.Fit.{Result}

-- what an attribute reached, where the result has it
unfoldable pub value : Result → Id → Option Float
value r a = given (find (λ x. same x.id a) r.attributes) None (λ x. Some x.value)

-- an amount that is not there reads as 0
unfoldable pub amount : Result → Id → Float
amount r a = given (value r a) zero_f (λ v. v)

-- the level of a skill among the listed ones; 0 where it is not listed
unfoldable pub trained : List Id → List ℕ → Id → ℕ
trained [] ls t = 0
trained (i ∷ is) [] t = 0
trained (i ∷ is) (l ∷ ls) t = cond (same i t) l (trained is ls t)
