-- What a `Context` holds, decoded: the pairs and the results of its two images.
use Rattle.std.specs.Prelude.{ℕ, List}
use Rattle.context.specs.declared.Context.{Context as Held}
use Rattle.context.specs.Context.{Pair, Context}
use Rattle.context.specs.Gathered.{pair_at, pairs_of, context_of}

abbrev pub pair_in : Held → ℕ → Pair
pair_in x i = pair_at x.catalogue.now x.fit.now i

abbrev pub pairs_in : Held → List Pair
pairs_in x = pairs_of x.catalogue.now x.fit.now

abbrev pub context_in : Held → Context
context_in x = context_of x.catalogue.now x.fit.now
