-- The large rows of the edges. To compute them would take too long: lengths are by laws of lists, the walk through a chain by induction.
use Prim.Native.Nat.{ℕ, zero, suc, ◌+◌, ◌-◌, ◌≤◌, ◌<◌, min}
use native.Mathlib.Nat.{add-zero, zero-add, eq-or-lt_of_le}
use native.Mathlib.Numerals.{add-one}
use native.Mathlib.Omega.{arith}
use mathlib.Core.Path.{◌≡◌, refl, sym, ap, ap₂, ◌∙◌, subst}
use mathlib.Core.Bool.{Bool, true, false, not, ◌&&◌, ◌||◌, cond}
use mathlib.Core.List.{List, [], ◌∷◌, ◌++◌, foldl, foldl-append, append-nil}
use Rattle.std.specs.Prelude.{Option, None, Some}
use mathlib.Core.Logic.{⊎_elim}
use lib.Dec.{T, eqb, ltb}
use lib.IntN.{pos}
use lib.Ieee.{Float}
use lib.ListN.{length, replicate, length-append, length-replicate, get_or}
use Rattle.std.specs.Prelude.{slice_get}
use borrow.Author.Tests.{ne_eqb, lt-ltb, le-ltb}
use Rattle.words.specs.Words.{◌>>=◌, each, find, given, sum_of, any_of, first_of, table_from, table, from, same}
use Rattle.words.proofs.Tables.{length-table, get_or-table, table_more, map-table}
use Rattle.words.proofs.Elements.{elem_table}
use Rattle.image.specs.Bytes.{le, u32_at}
use Rattle.numbers.specs.Names.{required_skill1, required_skill1_level}
use Rattle.catalogue.specs.Catalogue.{Id, Base, Catalogue}
use Rattle.catalogue.specs.Catalogue as Catalogue
use Rattle.catalogue.specs.Refusals.{bad_length}
use Rattle.catalogue.specs.Lookups.{base_value}
use Rattle.fit.specs.Fit.{Fit, result_at, all_results, fit_of, skill_count, item_count, result_count, attribute_count, size_of}
use Rattle.fit.specs.Refusals.{bad_size}
use Rattle.skill.specs.Skill.{Demand, required, demands, of_skill, note, noted, skill_at, met_from, met, walk_within, wants_too_many, entry_of, skill_list}
use Rattle.skill.proofs.Limits.{walk_same, small-limit}
use Rattle.lists.specs.Terms.{Terms, limited, main, skill_limit}
use Rattle.calls.specs.Answers.{too_short}
use Rattle.trim.specs.Trim.{any_too_many}
use Rattle.promises.specs.Cases.{base, tree, result, asks, OverSkills, SkillRefusal, TrimRefusal, Number, Holds, Expected, outcome_of}
use Rattle.promises.specs.CallCases.{words}
use Rattle.promises.specs.RefusalCases.{linked, laden, step, chain, flown, crewed, LARGE}
use Rattle.promises.specs.PageCases.{LIMITS}
use Rattle.promises.specs.Edges.{Agree}
use Rattle.promises.proofs.Opened.{opened}

-- ---- what the skills of a chain demand
-- a base of type i, of an attribute
abbrev of : ℕ → Id → Base → Bool
of i a x = same x.type (pos i) && same x.attribute a

-- none of the types from j on is an earlier one, or a later one than those
find-before : (i : ℕ) (a : Id) (j n : ℕ) → i < j → find (of i a) (each (from j n) step) ≡ None
unfolding find each table_from same
find-before i a j zero h = refl
find-before i a j (suc n) h = rw (ne_eqb j i (λ e. omega arith)) (find-before i a (suc j) n (omega arith))

find-behind : (i : ℕ) (a : Id) (j n : ℕ) → j + n ≤ i → find (of i a) (each (from j n) step) ≡ None
unfolding find each table_from same
find-behind i a j zero h = refl
find-behind i a j (suc n) h = rw (ne_eqb j i (λ e. omega arith)) (find-behind i a (suc j) n (omega arith))

-- one of them has its own bases alone
find-own : (i : ℕ) (a : Id) (j n : ℕ) → j ≤ i → i < j + n → find (of i a) (each (from j n) step) ≡ find (of i a) (step i)
unfolding find each table_from same
find-own i a j zero h k = absurd (bad h k)
  where
    bad : j ≤ i → i < j + 0 → ⊥
    bad h k = omega arith
find-own i a j (suc n) h k =
    ⊎_elim
    (λ (q : j ≡ i).
    ap (λ (m : ℕ). find (of i a) (each (from m (suc n)) step)) q
    ∙ ap (λ (o : Option Base). cond (of i a (skill i)) (Some (skill i)) (cond (of i a (level i)) (Some (level i)) o))
    (find-before i a (suc i) n (omega arith)))
    (λ (q : j < i). rw (ne_eqb j i (λ e. omega arith)) (find-own i a (suc j) n q (omega arith)))
    (eq-or-lt_of_le h)
  where
    skill : ℕ → Base
    skill i = base i required_skill1 (i + 1)

    level : ℕ → Base
    level i = base i required_skill1_level 1

-- so that it demands what it would without the others; the last one demands nothing
own_demands : (n i : ℕ) → suc i < n → of_skill (chain n) (pos i) ≡ of_skill (tree (step i)) (pos i)
unfolding of_skill demands required base_value
own_demands n i h = ap (λ (look : Id → Option Float). demands (tree []) look) λ k a. values a k
  where
    values : (a : Id) → base_value (chain n) (pos i) a ≡ base_value (tree (step i)) (pos i) a
    values a = ap (λ (o : Option Base). given o None (λ x. Some x.value)) (find-own i a 0 (n - 1) (omega arith) (omega arith))

last-demands : (n : ℕ) → of_skill (chain n) (pos (n - 1)) ≡ []
unfolding opened
last-demands n = ap (λ (look : Id → Option Float). demands (tree []) look) λ k a. values a k
  where
    values : (a : Id) → base_value (chain n) (pos (n - 1)) a ≡ None
    values a = ap (λ (o : Option Base). given o None (λ x. Some x.value)) (find-behind (n - 1) a 0 (n - 1) (omega arith))

-- skill i at level 1
abbrev wanted : ℕ → Demand
wanted i = (pos i, 1)

demanded : table 512 (λ i. of_skill (tree (step i)) (pos i)) ≡ table 512 (λ i. wanted (suc i) ∷ [])
unfolding opened
demanded = refl

next_demand : (n i : ℕ) → suc i < n → n ≤ 513 → of_skill (chain n) (pos i) ≡ wanted (suc i) ∷ []
next_demand n i h m =
    let l : i < 512 = omega arith in
    own_demands n i h
    ∙ sym (get_or-table 512 (λ i. of_skill (tree (step i)) (pos i)) i [] l)
    ∙ ap (λ (t : List (List Demand)). get_or t i []) demanded
    ∙ get_or-table 512 (λ i. wanted (suc i) ∷ []) i [] l

-- ---- the walk through a chain
-- a skill that was not met goes last
note-next : (a k : ℕ) → note (table_from a k wanted) (wanted (a + k)) ≡ table_from a (suc k) wanted
unfolding note table_from same
note-next a zero = ap (λ (i : ℕ). wanted i ∷ []) (add-zero a)
note-next a (suc k) =
    let q : a + suc k ≡ suc a + k = omega arith in
    rw (ne_eqb a (a + suc k) (λ e. omega arith))
    (ap (λ (l : List Demand). wanted a ∷ l) (ap (λ (i : ℕ). note (table_from (suc a) k wanted) (wanted i)) q ∙ note-next (suc a) k))

-- one after the other, each once
noted-line : (k : ℕ) → noted (table k wanted) ≡ table k wanted
unfolding noted table_from
noted-line zero = refl
noted-line (suc k) =
    ap (λ (l : List Demand). foldl note [] l) (ap (λ (i : ℕ). table i wanted) (sym (add-one k)) ∙ table_more k wanted)
    ∙ foldl-append note [] (table k wanted) (wanted k ∷ [])
    ∙ ap (λ (l : List Demand). note l (wanted k)) (noted-line k)
    ∙ ap (λ (i : ℕ). note (table k wanted) (wanted i)) (sym (zero-add k)) ∙ note-next 0 k

at_line : (k : ℕ) → skill_at (table (suc k) wanted) k ≡ Some (pos k)
unfolding skill_at
at_line k =
    ap (λ (l : List Id). slice_get l k) (map-table (λ (w : Demand). w.0) (suc k) wanted)
    ∙ elem_table (suc k) (λ i. pos i) k (omega arith)

-- a step: what the skill at the last place demands
met-more : (n k : ℕ) → met (chain n) (asks 0 1) k ≡ table (suc k) wanted
    → met (chain n) (asks 0 1) (suc k) ≡ table (suc k) wanted ++ of_skill (chain n) (pos k)
unfolding met_from given
met-more n k e =
    ap (λ (l : List Demand). l ++ given (skill_at (noted l) k) [] (of_skill (chain n))) e
    ∙ ap (λ (l : List Demand). table (suc k) wanted ++ given (skill_at l k) [] (of_skill (chain n))) (noted-line (suc k))
    ∙ ap (λ (o : Option Id). table (suc k) wanted ++ given o [] (of_skill (chain n))) (at_line k)

asked : (n : ℕ) → met (chain n) (asks 0 1) 0 ≡ table 1 wanted
unfolding opened
asked n = refl

met-line : (n k : ℕ) → k < n → n ≤ 513 → met (chain n) (asks 0 1) k ≡ table (suc k) wanted
met-line n zero h m = asked n
met-line n (suc k) h m =
    met-more n k (met-line n k (omega arith) m)
    ∙ ap (λ (l : List Demand). table (suc k) wanted ++ l) (next_demand n k h m)
    ∙ sym (table_more (suc k) wanted)
    ∙ ap (λ (i : ℕ). table i wanted) (add-one (suc k))

-- 512 steps through a chain of 513; as many steps as there are skills through a shorter one
walk-513 : walk_within 512 (chain 513) (asks 0 1) ≡ table 513 wanted
unfolding walk_within
walk-513 = ap noted (met-line 513 512 (omega arith) (omega arith)) ∙ noted-line 513

walk-own : (k : ℕ) → k < 512 → walk_within (suc k) (chain (suc k)) (asks 0 1) ≡ table (suc k) wanted
unfolding walk_within
walk-own k h =
    let q : k ≡ suc k - 1 = omega arith in
    let nothing = ap (λ (i : ℕ). of_skill (chain (suc k)) (pos i)) q ∙ last-demands (suc k) in
    ap noted
    (met-more (suc k) k (met-line (suc k) k (omega arith) (omega arith))
    ∙ ap (λ (l : List Demand). table (suc k) wanted ++ l) nothing
    ∙ append-nil (table (suc k) wanted))
    ∙ noted-line (suc k)

walk_ends : (k : ℕ) → k < 512 → T (not (wants_too_many (suc k) (chain (suc k)) (asks 0 1)))
unfolding wants_too_many
walk_ends k h =
    let e = ap (λ (l : List Demand). length l) (walk-own k h) ∙ length-table 0 (suc k) wanted in
    subst (λ (b : Bool). T (not b)) (sym (le-ltb (suc k) (length (walk_within (suc k) (chain (suc k)) (asks 0 1))) (omega (arith, e)))) tt

-- further steps meet nothing
walk-to : (k : ℕ) → k < 512 → walk_within 512 (chain (suc k)) (asks 0 1) ≡ table (suc k) wanted
walk-to k h = walk_same (chain (suc k)) (asks 0 1) (suc k) 512 (omega arith) (walk_ends k h) ∙ walk-own k h

-- ---- the rows
-- zeros behind a head
long : (head : List ℕ) (n : ℕ) → length (head ++ replicate n 0) ≡ length head + n
long head n = length-append head (replicate n 0) ∙ ap (λ (k : ℕ). length head + k) (length-replicate n 0)

-- refusal 1 of an image that is n bytes long
by_length : (b : List ℕ) (n : ℕ) → length b ≡ n → bad_length b ≡ ltb 16777216 n || not (eqb n (Catalogue.size_of b))
unfolding bad_length
by_length b n e = ap (λ (k : ℕ). ltb 16777216 k || not (eqb k (Catalogue.size_of b))) e

catalogue_at : bad_length (linked 2097147 1) ≡ false
unfolding u32_at each
catalogue_at = by_length (linked 2097147 1) 16777216 (long (words (0 ∷ 0 ∷ 1 ∷ 2097147 ∷ 0 ∷ [])) 16777196)

catalogue_above : bad_length (linked 2097150 0) ≡ true
unfolding u32_at each
catalogue_above = by_length (linked 2097150 0) 16777220 (long (words (0 ∷ 0 ∷ 0 ∷ 2097150 ∷ 0 ∷ [])) 16777200)

-- over a limit, and how many attributes the results count
abbrev too_large : List ℕ → Bool
too_large b = ltb 1024 (skill_count b) || ltb 256 (item_count b) || ltb 256 (result_count b) || ltb 30000 (attribute_count b)

abbrev counts : List ℕ → ℕ
counts b = sum_of (λ r. length r.attributes) (all_results (fit_of b))

-- refusal 4 of one that is n bytes long
by_size : (b : List ℕ) (n : ℕ) → length b ≡ n → bad_size b ≡ too_large b || not (eqb n (size_of b)) || not (eqb (counts b) (attribute_count b))
unfolding bad_size
by_size b n e = ap (λ (k : ℕ). too_large b || not (eqb k (size_of b)) || not (eqb (counts b) (attribute_count b))) e

fit_at_lem : bad_size (laden 30000) ≡ false
unfolding opened
fit_at_lem = by_size (laden 30000) 360036 (long (words (0 ∷ 0 ∷ 0 ∷ 30000 ∷ 0 ∷ 0 ∷ 0 ∷ []) ++ (0 ∷ 0 ∷ le 2 30000 ++ replicate 4 0)) 360000)

fit-above : bad_size (laden 30001) ≡ true
unfolding opened
fit-above = by_size (laden 30001) 360048 (long (words (0 ∷ 0 ∷ 0 ∷ 30001 ∷ 0 ∷ 0 ∷ 0 ∷ []) ++ (0 ∷ 0 ∷ le 2 30001 ++ replicate 4 0)) 360012)

-- refusals 8, 9, 13 and 10 of a ship that asks for the first skill of a chain, by what its walk notes
noted-refusal : Terms → List ℕ → List Demand → Bool → Expected
noted-refusal t buffer ws over = Number (cond (ltb 512 (length ws)) 9 (cond over 13 (cond (too_short buffer (each ws (entry_of (flown (asks 0 1) []) 0))) 10 0)))

by-walk : (t : Terms) (c : Catalogue) (buffer : List ℕ) (ws : List Demand) → walk_within 512 c (asks 0 1) ≡ ws
    → outcome_of (SkillRefusal t c (flown (asks 0 1) []) 0 buffer) ≡ noted-refusal t buffer ws (ltb (skill_limit t) (length ws))
unfolding outcome_of first_of result_at given wants_too_many skill_list ◌>>=◌ noted-refusal
by-walk t c buffer ws e =
    ap (noted-refusal t buffer (walk_within 512 c (asks 0 1))) (small-limit c (asks 0 1) (skill_limit t) 512 (omega arith))
    ∙ ap (λ (l : List Demand). noted-refusal t buffer l (ltb (skill_limit t) (length l))) e

-- ---- 9 of a trim
many-513 : wants_too_many 512 (chain 513) (asks 0 1) ≡ true
unfolding wants_too_many
many-513 =
    let e = ap (λ (l : List Demand). length l) walk-513 ∙ length-table 0 513 wanted in
    lt-ltb 512 (length (walk_within 512 (chain 513) (asks 0 1))) (omega (arith, e))

few-512 : wants_too_many 512 (chain 512) (asks 0 1) ≡ false
unfolding wants_too_many
few-512 =
    let e = ap (λ (l : List Demand). length l) (walk-to 511 (omega arith)) ∙ length-table 0 512 wanted in
    le-ltb 512 (length (walk_within 512 (chain 512) (asks 0 1))) (omega (arith, e))

-- what wants nothing
idle : wants_too_many 512 (chain 513) (result 0 []) ≡ false
unfolding opened
idle = refl

by-any : (c : Catalogue) (f : Fit) (b : Bool) → any_too_many c f ≡ b → outcome_of (TrimRefusal c f) ≡ Number (cond b 9 0)
unfolding outcome_of first_of
by-any c f b e = ap (λ (x : Bool). Number (cond x 9 0)) e

any-512 : any_too_many (chain 512) (crewed (asks 0 1) (asks 0 1) (asks 0 1 ∷ [])) ≡ false
unfolding any_too_many any_of
any-512 = rw few-512

any-ship : any_too_many (chain 513) (crewed (asks 0 1) (result 0 []) []) ≡ true
unfolding any_too_many any_of
any-ship = rw many-513

any-character : any_too_many (chain 513) (crewed (result 0 []) (asks 0 1) []) ≡ true
unfolding any_too_many any_of
any-character = rw (idle, many-513)

any_last : any_too_many (chain 513) (crewed (result 0 []) (result 0 []) (asks 0 1 ∷ [])) ≡ true
unfolding any_too_many any_of
any_last = rw (idle, many-513)

pub agree_large : Agree LARGE
unfolding opened noted-refusal
agree_large =
    ap₂ ◌∷◌ (ap Holds catalogue_at) (ap₂ ◌∷◌ (ap Holds catalogue_above)
    (ap₂ ◌∷◌ (ap Holds fit_at_lem) (ap₂ ◌∷◌ (ap Holds fit-above)
    (ap₂ ◌∷◌ (by-walk main (chain 513) [] (table 513 wanted) walk-513)
    (ap₂ ◌∷◌ (by-walk main (chain 512) (replicate 12287 7) (table 512 wanted) (walk-to 511 (omega arith)))
    (ap₂ ◌∷◌ (by-walk main (chain 512) (replicate 12288 7) (table 512 wanted) (walk-to 511 (omega arith)))
    (ap₂ ◌∷◌ (by-any (chain 512) (crewed (asks 0 1) (asks 0 1) (asks 0 1 ∷ [])) false any-512)
    (ap₂ ◌∷◌ (by-any (chain 513) (crewed (asks 0 1) (result 0 []) []) true any-ship)
    (ap₂ ◌∷◌ (by-any (chain 513) (crewed (result 0 []) (asks 0 1) []) true any-character)
    (ap₂ ◌∷◌ (by-any (chain 513) (crewed (result 0 []) (result 0 []) (asks 0 1 ∷ [])) true any_last)
    refl))))))))))

-- on a page, with no room for an entry
by-limit : (k limit : ℕ) → k < 512
    → outcome_of (SkillRefusal (limited 0 limit main) (chain (suc k)) (flown (asks 0 1) []) 0 [])
    ≡ noted-refusal (limited 0 limit main) [] (table (suc k) wanted) (ltb (min limit 512) (length (table (suc k) wanted)))
by-limit k limit h = by-walk (limited 0 limit main) (chain (suc k)) [] (table (suc k) wanted) (walk-to k h)

over-513 : (limit : ℕ) → outcome_of (SkillRefusal (limited 0 limit main) (chain 513) (flown (asks 0 1) []) 0 []) ≡ Number 9
unfolding opened noted-refusal
over-513 limit = by-walk (limited 0 limit main) (chain 513) [] (table 513 wanted) walk-513

-- 513 are over every limit
over_any : (limit : ℕ) → 512 ≤ limit → outcome_of (OverSkills (limited 0 limit main) (chain 513) (flown (asks 0 1) []) 0) ≡ Holds true
unfolding outcome_of result_at given
over_any limit h =
    let e = ap (λ (l : List Demand). length l) walk-513 ∙ length-table 0 513 wanted in
    let many = small-limit (chain 513) (asks 0 1) (min limit 512) 512 (omega arith) in
    ap Holds (many ∙ lt-ltb (min limit 512) (length (walk_within 512 (chain 513) (asks 0 1))) (omega (arith, e, h)))

pub agree_limits : Agree LIMITS
unfolding opened noted-refusal
agree_limits =
    ap₂ ◌∷◌ (by-limit 0 0 (omega arith))
    (ap₂ ◌∷◌ (by-limit 63 0 (omega arith))
    (ap₂ ◌∷◌ (by-limit 511 0 (omega arith))
    (ap₂ ◌∷◌ (by-limit 0 1 (omega arith))
    (ap₂ ◌∷◌ (by-limit 1 1 (omega arith))
    (ap₂ ◌∷◌ (by-limit 62 63 (omega arith))
    (ap₂ ◌∷◌ (by-limit 63 63 (omega arith))
    (ap₂ ◌∷◌ (by-limit 62 64 (omega arith))
    (ap₂ ◌∷◌ (by-limit 63 64 (omega arith))
    (ap₂ ◌∷◌ (by-limit 64 64 (omega arith))
    (ap₂ ◌∷◌ (by-limit 63 65 (omega arith))
    (ap₂ ◌∷◌ (by-limit 64 65 (omega arith))
    (ap₂ ◌∷◌ (by-limit 65 65 (omega arith))
    (ap₂ ◌∷◌ (by-limit 254 255 (omega arith))
    (ap₂ ◌∷◌ (by-limit 255 255 (omega arith))
    (ap₂ ◌∷◌ (by-limit 255 256 (omega arith))
    (ap₂ ◌∷◌ (by-limit 256 256 (omega arith))
    (ap₂ ◌∷◌ (by-limit 255 257 (omega arith))
    (ap₂ ◌∷◌ (by-limit 256 257 (omega arith))
    (ap₂ ◌∷◌ (by-limit 257 257 (omega arith))
    (ap₂ ◌∷◌ (by-limit 509 511 (omega arith))
    (ap₂ ◌∷◌ (by-limit 510 511 (omega arith))
    (ap₂ ◌∷◌ (by-limit 511 511 (omega arith))
    (ap₂ ◌∷◌ (by-limit 510 512 (omega arith))
    (ap₂ ◌∷◌ (by-limit 511 512 (omega arith))
    (ap₂ ◌∷◌ (by-limit 511 513 (omega arith))
    (ap₂ ◌∷◌ (by-limit 511 65536 (omega arith))
    (ap₂ ◌∷◌ (by-limit 511 2147483648 (omega arith))
    (ap₂ ◌∷◌ (by-limit 511 4294967295 (omega arith))
    (ap₂ ◌∷◌ (over-513 0)
    (ap₂ ◌∷◌ (over-513 511)
    (ap₂ ◌∷◌ (over-513 512)
    (ap₂ ◌∷◌ (over-513 513)
    (ap₂ ◌∷◌ (over-513 4294967295)
    (ap₂ ◌∷◌ (over_any 513 (omega arith))
    (ap₂ ◌∷◌ (over_any 4294967295 (omega arith))
    refl)))))))))))))))))))))))))))))))))))
