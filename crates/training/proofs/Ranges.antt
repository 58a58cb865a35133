-- Ids stay within 32 bits: those of an image, those that a walk wants, and those listed after all turns.
use Prim.Native.Nat.{ℕ, zero, suc, ◌+◌, ◌*◌, ◌-◌, ◌<◌, max}
use mathlib.Core.Bool.{Bool, true, false, cond}
use mathlib.Core.List.{List, [], ◌∷◌, foldl}
use Rattle.std.specs.Prelude.{Option, None, Some}
use lib.IntN.{ℤ}
use lib.Signed.{lt_z, mag}
use lib.Ieee.{Float}
use lib.Ieee.Casts.{to_signed_in}
use Rattle.words.specs.Words.{given, same}
use Rattle.words.proofs.All.{All, nil, cons, all_join, all-table, all-bind, all-each}
use Rattle.image.specs.Bytes.{i32_at, u32_at}
use Rattle.keys.proofs.Ranks.{signed_range}
use Rattle.catalogue.specs.Catalogue.{Id, Catalogue}
use Rattle.catalogue.specs.Lookups.{base_value}
use Rattle.fit.specs.Lookups.{value}
use Rattle.fit.specs.Fit.{Result, fit_of, skill_count, skills_at}
use Rattle.skill.specs.Skill.{Requirement, Demand, demand_of, demands, required, of_result, of_skill, note, noted, skill_at, met_from, met, walk_within}
use Rattle.training.specs.Training.{Training, behind, raised}
use Rattle.training.specs.Turns.{gain, portion, turns}

abbrev pub InRange : ℤ → Type 0
InRange z = mag z < 2147483648

abbrev Wanted : Demand → Type 0
Wanted w = InRange w.0

-- ---- of an image
pub skills-range : (b : List ℕ) → All InRange (fit_of b).skills
unfolding fit_of i32_at
skills-range b = all-table (λ i. i32_at b (skills_at b + 4 * i)) (λ i. signed_range (u32_at b (skills_at b + 4 * i))) 0 (skill_count b)

-- ---- of a walk
note-range : (ws : List Demand) (d : Demand) → All Wanted ws → Wanted d → All Wanted (note ws d)
unfolding note
note-range [] d h p = cons p nil
note-range (w ∷ ws) d (cons q h) p = go (same w.0 d.0) (note-range ws d h p)
  where
    go : (b : Bool) → All Wanted (note ws d) → All Wanted (cond b ((w.0, max w.1 d.1) ∷ ws) (w ∷ note ws d))
    go true r = cons q h
    go false r = cons q r

fold_range : (ds ws : List Demand) → All Wanted ws → All Wanted ds → All Wanted (foldl note ws ds)
fold_range [] ws h k = h
fold_range (d ∷ ds) ws h (cons p k) = fold_range ds (note ws d) (note-range ws d h p) k

asked-range : (c : Catalogue) (look : Id → Option Float) → All Wanted (demands c look)
unfolding demands demand_of
asked-range c look = all-each (required c) (λ (r : Requirement). all-bind (look r.0) (λ skill. cons (to_signed_in 31 skill) nil))

met-range : (c : Catalogue) (r : Result) (n : ℕ) → All Wanted (met c r n)
unfolding met_from of_result of_skill
met-range c r zero = asked-range c (value r)
met-range c r (suc n) = all_join (met-range c r n) (go (skill_at (noted (met c r n)) n))
  where
    go : (o : Option Id) → All Wanted (given o [] (of_skill c))
    go None = unfold given in nil
    go (Some t) = unfold given of_skill in asked-range c (base_value c t)

pub wanted-range : (limit : ℕ) (c : Catalogue) (r : Result) → All Wanted (walk_within limit c r)
unfolding walk_within noted
wanted-range limit c r = fold_range (met c r limit) [] nil (met-range c r limit)

-- ---- after turns
raised-range : (is : List Id) (ls : List ℕ) (t : Id) (k : ℕ) → All InRange is → InRange t → All InRange (raised is ls t k).ids
unfolding raised
raised-range [] ls t k h p = cons p nil
raised-range (i ∷ is) [] t k h p = h
raised-range (i ∷ is) (l ∷ ls) t k (cons q h) p = go (same i t) (lt_z t i) (raised-range is ls t k h p)
  where
    go : (x y : Bool) → All InRange (raised is ls t k).ids
        → All InRange (cond x (record { ids = i ∷ is; levels = (l + k) ∷ ls }) (cond y (record { ids = t ∷ i ∷ is; levels = k ∷ l ∷ ls }) (behind i l (raised is ls t k)))).ids
    go true y r = cons q h
    go false true r = cons p (cons q h)
    go false false r = cons q r

gain-range : (s : Training) (t : Id) (k : ℕ) → All InRange s.ids → InRange t → All InRange (gain s t k).ids
unfolding gain
gain-range s t zero h p = h
gain-range s t (suc k) h p = raised-range s.ids s.levels t (suc k) h p

pub turns-range : (ws : List Demand) (s : Training) (k : ℕ) → All Wanted ws → All InRange s.ids → All InRange (turns s k ws).0.ids
unfolding turns
turns-range [] s k h g = g
turns-range (w ∷ ws) s k (cons p h) g = turns-range ws (gain s w.0 (portion s k w)) (k - portion s k w) h (gain-range s w.0 (portion s k w) g p)
