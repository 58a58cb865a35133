-- The catalogue that is trimmed, by computing; catalogues under which the fit's calls answer otherwise, by their words or by a byte;
-- catalogues that have a type too many, or lack a type or a link, by their ids; and bytes that are no copies, by one of them, by a number
-- of records or by their own number.
use Prim.Native.Nat.{ℕ, ◌<◌}
use native.Mathlib.Omega.{arith}
use mathlib.Core.Path.{◌≡◌, refl, ap}
use mathlib.Core.Bool.{cond}
use mathlib.Core.List.{List, ◌∷◌, Memᴰ}
use mathlib.Core.Logic.{inl, inr}
use lib.IntN.{pos}
use lib.ListN.{get_or, replicate}
use Rattle.words.specs.Words.{same}
use Rattle.skill.specs.Wanted.{asked}
use Rattle.lists.specs.Terms.{main}
use Rattle.calls.specs.Answers.{Answer, returned, buffered}
use Rattle.calls.specs.Output.{Output, output_word}
use Rattle.promises.specs.Trims.{as_skill, as_item, TrimExample}
use Rattle.promises.proofs.Opened.{opened}
use Rattle.promises.proofs.Touched.{type-touched, type-kept, link-kept}

-- two answers that a number tells apart
apart : (f : Answer → ℕ) {x y : Answer} → x ≡ y → (f x ≡ f y → ⊥) → ⊥
apart f e h = h (ap f e)

differ : {x y : Output} → x ≡ y → (output_word x ≡ output_word y → ⊥) → ⊥
differ e h = h (ap output_word e)

-- two numbers that are apart
other : {x y : ℕ} → x ≡ y → (x ≡ y → ⊥) → ⊥
other e h = h e

-- what stands three places on
three_on : {A : Type 0} {x a b c : A} {l : List A} → Memᴰ x l → Memᴰ x (a ∷ b ∷ c ∷ l)
three_on m = Memᴰ.tail (Memᴰ.tail (Memᴰ.tail m))

-- records of six
first : 0 < 6
first = omega arith

second : 1 < 6
second = omega arith

third : 2 < 6
third = omega arith

last : 5 < 6
last = omega arith

abbrev room : List ℕ
room = replicate 432 7

pub trim_example : TrimExample
unfolding opened
trim_example = record {
  trims = refl;
  once_more = refl;
  list = refl;
  small_list = refl;
  skills = refl;
  small_skills = refl;
  not_whole = λ e. differ e (λ q. omega (arith, q));
  not_typed = λ e. differ e (λ q. omega (arith, q));
  unlinked = λ x. apart returned (x.lists main room) (λ q. omega (arith, q));
  typed = λ x. apart returned (x.skills main 1 room) (λ q. omega (arith, q));
  unskilled = λ x. apart returned (x.lists main room) (λ q. omega (arith, q));
  -- one entry too, of another rule
  shipless = λ x. apart (λ a. get_or (buffered room a) 1 0) (x.lists main room) (λ q. omega (arith, q));
  -- type 13, which nothing names or wants; the listed skill; the link under 15, which the character wants; the link of item 9 that marks it
  not_all = λ x. type-touched x _ (three_on (Memᴰ.tail (Memᴰ.head refl)));
  not_unskilled = λ x. type-kept x _ (three_on (three_on (Memᴰ.head refl))) (inl (as_skill (Memᴰ.head refl)));
  not_untyped = λ x.
      link-kept x (λ y. y.type) _ (three_on (three_on (Memᴰ.tail (Memᴰ.head refl))))
      (inr (_, Memᴰ.tail (Memᴰ.head refl), asked (Memᴰ.head refl)));
  not_unlinked = λ x.
      link-kept x (λ y. cond (same y.type (pos 9)) y.effect (pos 0)) _ (three_on (Memᴰ.head refl))
      (inl (as_item _ (Memᴰ.head refl) refl));
  as_flagless = refl;
  not_flagless = λ x. other ((x.types.1 0 first).1 12 (omega arith)) (λ q. omega (arith, q));
  as_volume = refl;
  not_other_volume = λ x. other ((x.types.1 2 third).1 12 (omega arith)) (λ q. omega (arith, q));
  as_value = refl;
  not_other_value = λ x. other ((x.bases.1 1 second).1 4 (omega arith)) (λ q. omega (arith, q));
  not_other_size = λ x. other (x.sizes 7 (omega arith)) (λ q. omega (arith, q));
  not_other_mark = λ x. other (x.front 23 (omega arith)) (λ q. omega (arith, q));
  not_other_type = λ x. other ((x.types.1 2 third).0 0 (omega arith)) (λ q. omega (arith, q));
  not_other_link = λ x. other ((x.links.1 2 third).0 0 (omega arith)) (λ q. omega (arith, q));
  not_other_effect = λ x. other ((x.links.1 2 third).1 0 (omega arith)) (λ q. omega (arith, q));
  not_other_base = λ x. other ((x.bases.1 5 last).1 11 (omega arith)) (λ q. omega (arith, q));
  not_fewer = λ x. other x.links.0 (λ q. omega (arith, q));
  not_longer = λ x. other x.size (λ q. omega (arith, q));
}
