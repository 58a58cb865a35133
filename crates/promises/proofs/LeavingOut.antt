-- The call that says what to leave out: its conditions, what it writes, and which set that is. From what the tries leave.
use Prim.Native.Nat.{ℕ, ◌+◌, ◌*◌, ◌/◌, ◌^◌, ◌≤◌, ◌<◌, min}
use native.Mathlib.Omega.{arith}
use mathlib.Core.Path.{◌≡◌, refl, sym, ap, ap₂, ◌∙◌, subst}
use mathlib.Core.Bool.{Bool, true, false, not, cond}
use mathlib.Core.List.{List, [], ◌∷◌, ◌++◌, map, Memᴰ, append_assoc}
use mathlib.Core.Logic.{◌↔◌}
use lib.Dec.{T, eqb, leb, ltb, ltb→lt, nltb→le, leb→le}
use lib.ListN.{length, drop, length-append, take-append-drop}
use lib.Pow.{pow_mono}
use lib.Seq.{drop_at}
use Rattle.words.specs.Words.{each, any_of, in_order, count_of, table, from}
use Rattle.words.proofs.All.{All, all-mem}
use Rattle.words.proofs.Tables.{length-table}
use Rattle.image.specs.Bytes.{u32_at, le}
use Rattle.image.proofs.Stores.{length-le}
use Rattle.catalogue.specs.Catalogue.{Catalogue, catalogue_of}
use Rattle.catalogue.specs.Refusals.{catalogue_refusals}
use Rattle.fit.specs.Fit.{Fit, fit_of}
use Rattle.fit.specs.Refusals.{fit_refusals}
use Rattle.context.specs.Context.{pairs}
use Rattle.entry.specs.declared.Entry.{Entry}
use Rattle.entry.specs.Entries.{entry_bytes}
use Rattle.lists.specs.Terms.{main}
use Rattle.lists.specs.Lists.{whole_list}
use Rattle.parts.specs.Parts.{size, holds, less, part_of, numbers_of}
use Rattle.cause.proofs.Entries.{each-length}
use Rattle.calls.specs.Output.{output, no_room}
use Rattle.leave_out.specs.LeaveOut.{is_named, all_tries, good, tries_made, left_out, surplus, distance, leave_out_bytes}
use Rattle.leave_out.proofs.Tries.{left-best, left-length, left-good, left-more, left-needed, left-least}
use Rattle.leave_out.proofs.Surplus.{left-bound}
use Rattle.fitcheck.specs.LeaveOut.{leave_out_call}
use Rattle.promises.specs.Answers.{Outcome, refusal, count, Conditions, catalogue_conditions, fit_conditions, None}
use Rattle.promises.specs.Widens.{Fills}
use Rattle.promises.specs.Causes.{kept_numbers, Numbers}
use Rattle.promises.specs.LeavingOut.{leave_outcome, leave_conditions, made_in, distance_in, behind_both, set_in, Good, is_against}
use Rattle.promises.specs.LeavingOut.{Smallest}
use Rattle.promises.proofs.Conditions.{none-parts, last-first}
use Rattle.promises.proofs.Lengths.{pairs-short}
use Rattle.promises.proofs.Widening.{fills}
use Rattle.promises.proofs.Parting.{any-mem}
use Rattle.promises.proofs.Seen.{any_found}
use Rattle.promises.proofs.Smallest.{best-smallest}
use Rattle.promises.proofs.Reading.{first_word, later_word, read_back, only-short, numbers_below, numbers_ascend, set_back}

both_of_one : (b : Bool) → T (not b) → T b → ⊥
both_of_one true g h = g
both_of_one false g h = h

not_of : (b : Bool) → (T b → ⊥) → T (not b)
not_of true h = h tt
not_of false h = tt

size-short : (s : List Bool) → size s ≤ length s
unfolding size count_of
size-short s = only-short (λ b. b) s

numbers_short : (s : List Bool) → length (numbers_of s) ≤ length s
unfolding numbers_of
numbers_short s =
    let h = only-short (holds s) (from 0 (length s)) in
    let l = length-table 0 (length s) (λ (i : ℕ). i) in
    omega (arith, h, l)

tries_small : (n : ℕ) → n ≤ 256 → all_tries n ≤ 65792
unfolding all_tries
tries_small n h = go (leb n 16) refl
  where
    go : (b : Bool) → leb n 16 ≡ b → n + cond b (2 ^ n) 0 ≤ 65792
    go true e = let p : 2 ^ n ≤ 2 ^ 16 = pow_mono (leb→le n 16 (subst T (sym e) tt)) in omega (arith, h, p)
    go false e = omega (arith, h)

module _ (catalogue fit : List ℕ) (budget : ℕ) (buffer : List ℕ) where
  abbrev c : Catalogue
  c = catalogue_of catalogue

  abbrev f : Fit
  f = fit_of fit

  abbrev n : ℕ
  n = length (pairs c f)

  abbrev off : List Bool
  off = left_out c f budget

  abbrev ns : List ℕ
  ns = numbers_of off

  abbrev bytes : List ℕ
  bytes = leave_out_bytes c f budget

  abbrev o : Outcome
  o = leave_outcome catalogue fit budget buffer

  abbrev made : ℕ
  made = tries_made c f budget

  abbrev far : ℕ
  far = distance c f budget

  -- the two numbers, and the set's
  two_in_front : bytes ≡ (le 4 made ++ le 4 far) ++ each ns (le 4)
  unfolding leave_out_bytes
  two_in_front = refl

  both-length : length (le 4 made ++ le 4 far) ≡ 8
  both-length =
      let a = length-append (le 4 made) (le 4 far) in
      let p = length-le 4 made in
      let q = length-le 4 far in
      omega (arith, a, p, q)

  bytes-length : length bytes ≡ 8 + 4 * length ns
  bytes-length =
      let e = ap (λ (l : List ℕ). length l) two_in_front in
      let a = length-append (le 4 made ++ le 4 far) (each ns (le 4)) in
      let b = each-length (le 4) 4 (length-le 4) ns in
      let d = both-length in
      omega (arith, e, a, b, d)

  bytes-short : length bytes ≤ 8 + 4 * n
  bytes-short = let e = bytes-length in let s = numbers_short off in let l = left-length c f budget in omega (arith, e, s, l)

  module _ (nothing : None (leave_conditions catalogue fit budget buffer)) where
    abbrev own : Conditions
    own = (10, ltb (length buffer) (length bytes)) ∷ []

    abbrev behind-catalogue : None (fit_conditions fit ++ own)
    behind-catalogue = (none-parts (catalogue_conditions catalogue) (fit_conditions fit ++ own) nothing).1

    few : n ≤ 256
    few = pairs-short fit (none-parts (fit_conditions fit) own behind-catalogue).0.0 c

    short : length bytes < 2 ^ 32
    short = let h = bytes-short in let k = few in omega (arith, h, k)

    its_room : length bytes ≤ length buffer
    its_room = nltb→le (length buffer) (length bytes) (none-parts (fit_conditions fit) own behind-catalogue).1.0

  pub leave_answers : Fills 10 (leave_conditions catalogue fit budget buffer) bytes buffer o
  unfolding leave_out_call output catalogue_refusals fit_refusals no_room
  leave_answers = fills 10 (leave_conditions catalogue fit budget buffer) (omega arith) bytes buffer short its_room

  -- room for the two numbers and 256 pairs is enough
  pub leave_room : 1032 ≤ length buffer → refusal o ≡ 10 → ⊥
  leave_room room h =
      let front : Conditions = catalogue_conditions catalogue ++ fit_conditions fit in
      let all : Conditions = leave_conditions catalogue fit budget buffer in
      let k = last-first 10 front (ltb (length buffer) (length bytes)) (omega arith) ((leave_answers.refused 10 (omega arith)).0 h) in
      let its = none-parts (catalogue_conditions catalogue) (fit_conditions fit) k.0 in
      omega (arith, bytes-short, pairs-short fit its.1.0 c, ltb→lt (length buffer) (length bytes) k.1, room)

  module _ (answered : refusal o ≡ 0) where
    ok : None (leave_conditions catalogue fit budget buffer)
    ok = leave_answers.answered.0 answered

    counted : count o ≡ 8 + 4 * length ns
    counted = leave_answers.counted answered ∙ bytes-length

    abbrev rest : List ℕ
    rest = drop (length bytes) o.buffer

    left : o.buffer ≡ (le 4 made ++ le 4 far) ++ (each ns (le 4) ++ rest)
    left =
        sym (take-append-drop (length bytes) o.buffer)
        ∙ ap (λ (l : List ℕ). l ++ rest) (leave_answers.front answered ∙ two_in_front)
        ∙ append_assoc (le 4 made ++ le 4 far) (each ns (le 4)) rest

    in_turn : o.buffer ≡ le 4 made ++ (le 4 far ++ (each ns (le 4) ++ rest))
    in_turn = left ∙ append_assoc (le 4 made) (le 4 far) (each ns (le 4) ++ rest)

    made-small : made < 4294967296
    unfolding tries_made
    made-small = let t = tries_small n (few ok) in omega (arith, t)

    far-small : far < 4294967296
    unfolding distance
    far-small = let s = size-short off in let l = left-length c f budget in let k = few ok in omega (arith, s, l, k)

    pub made-is : made_in o ≡ made
    made-is = ap (λ (b : List ℕ). u32_at b 0) in_turn ∙ first_word made (le 4 far ++ (each ns (le 4) ++ rest)) made-small

    distance-is : distance_in o ≡ far
    distance-is =
        ap (λ (b : List ℕ). u32_at b 4) in_turn
        ∙ later_word made (le 4 far ++ (each ns (le 4) ++ rest)) 0
        ∙ first_word far (each ns (le 4) ++ rest) far-small

    behind-is : (behind_both o).buffer ≡ each ns (le 4) ++ rest
    behind-is = ap (λ (b : List ℕ). drop 8 b) left ∙ drop_at (le 4 made ++ le 4 far) (each ns (le 4) ++ rest) 8 both-length

    behind-count : count (behind_both o) ≡ 4 * length ns
    behind-count = let h = counted in omega (arith, h, answered)

    small : All (λ (i : ℕ). i < 4294967296) ns
    small = numbers_below off 4294967296 (let q = left-length c f budget in let k = few ok in omega (arith, q, k))

    set-numbers : kept_numbers (behind_both o) ≡ ns
    set-numbers =
        let q : count (behind_both o) / 4 ≡ length ns = let h = behind-count in omega (arith, h) in
        ap₂ (λ (n : ℕ) (b : List ℕ). table n (λ i. u32_at b (4 * i))) q behind-is ∙ read_back ns rest small

    pub leave_numbers : Numbers n (behind_both o)
    leave_numbers = record {
      four = behind-count ∙ ap (λ (l : List ℕ). 4 * length l) (sym set-numbers);
      ascend = subst (λ (l : List ℕ). T (in_order ltb l)) (sym set-numbers) (numbers_ascend off);
      below = λ i m.
          all-mem (numbers_below off n (let q = left-length c f budget in omega (arith, q))) i
          (subst (λ (l : List ℕ). Memᴰ i l) set-numbers m);
    }

    pub set-is : set_in n o ≡ left_out c f budget
    set-is = ap (λ (l : List ℕ). table n (λ i. any_of (eqb i) l)) set-numbers ∙ set_back off n (left-length c f budget)

    pub tries-are : made_in o ≡ min budget (n + cond (leb n 16) (2 ^ n) 0)
    unfolding tries_made all_tries
    tries-are = made-is

    pub distance-adds : distance_in o + surplus c f ≡ size (set_in n o)
    unfolding distance
    distance-adds =
        let b = left-bound c f off (left-length c f budget) (left-good c f budget) in
        let d = distance-is in
        let e = ap size set-is in
        omega (arith, b, d, e)

    -- no good set has fewer by more than the distance
    pub off-by : (s : List Bool) → Good c f s → size (set_in n o) ≤ size s + distance_in o
    off-by s g = let b = left-bound c f s g.all g.good in let d = distance-adds in omega (arith, b, d)

    pub set-smallest : Smallest c f (made_in o) (set_in n o)
    set-smallest =
        subst (λ (k : ℕ). Smallest c f k (set_in n o)) (sym made-is)
        (subst (Smallest c f made) (sym (set-is ∙ left-best c f budget)) (best-smallest c f made))

    pub set-good : Good c f (set_in n o)
    set-good = subst (Good c f) (sym set-is) (record { all = left-length c f budget; good = left-good c f budget })

    pub set-needed : (i : ℕ) → n ≤ budget → T (holds (set_in n o) i) → T (good c f (less (set_in n o) i)) → ⊥
    set-needed i h =
        subst (λ (s : List Bool). T (holds s i) → T (good c f (less s i)) → ⊥) (sym set-is) (left-needed c f budget i h)

    pub set-best : (s : List Bool) → n ≤ 16 → 65552 ≤ budget → Good c f s → size (set_in n o) ≤ size s
    set-best s few h g = subst (λ (r : List Bool). size r ≤ size s) (sym set-is) (left-least c f budget s few h g.all g.good)

-- a set is good where no entry of the list without it is of a rule that is named
against : (e : Entry) → is_against (entry_bytes e) ≡ is_named e
unfolding entry_bytes is_named
against e = refl

pub good_lists : (c : Catalogue) (f : Fit) (s : List Bool)
    → T (good c f s) ↔ ((e : Entry) → Memᴰ e (whole_list main c (part_of f (map not s))) → T (is_against (entry_bytes e)) → ⊥)
unfolding good
good_lists c f s = (there, back)
  where
    es : List Entry
    es = whole_list main c (part_of f (map not s))

    there : T (not (any_of is_named es)) → (e : Entry) → Memᴰ e es → T (is_against (entry_bytes e)) → ⊥
    there g e m h = both_of_one (any_of is_named es) g (any-mem is_named es e m (subst T (against e) h))

    back : ((e : Entry) → Memᴰ e es → T (is_against (entry_bytes e)) → ⊥) → T (not (any_of is_named es))
    back none = not_of (any_of is_named es) λ h.
        let r = any_found is_named es h in none r.0 r.1 (subst T (sym (against r.0)) r.2)

-- every good set has at least the surplus
pub good-bound : (c : Catalogue) (f : Fit) (s : List Bool) → Good c f s → surplus c f ≤ size s
good-bound c f s g = left-bound c f s g.all g.good

-- a larger budget gives no larger set
pub set-more : (catalogue fit : List ℕ) (a b : ℕ) (buffer other : List ℕ) → a ≤ b
    → refusal (leave_outcome catalogue fit a buffer) ≡ 0 → refusal (leave_outcome catalogue fit b other) ≡ 0
    → let m = length (pairs (catalogue_of catalogue) (fit_of fit)) in
    size (set_in m (leave_outcome catalogue fit b other)) ≤ size (set_in m (leave_outcome catalogue fit a buffer))
set-more catalogue fit a b buffer other h p q =
    let r = left-more (catalogue_of catalogue) (fit_of fit) a b h in
    let d = ap size (set-is catalogue fit a buffer p) in
    let e = ap size (set-is catalogue fit b other q) in
    omega (arith, r, d, e)
