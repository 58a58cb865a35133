-- The call that gives the smallest part of a fit that shows an entry: its conditions, what it writes, and that this is least. From what is
-- left when pairs are taken off in turn.
use Prim.Native.Nat.{ℕ, ◌*◌, ◌/◌, ◌^◌, ◌≤◌, ◌<◌}
use native.Mathlib.Omega.{arith}
use mathlib.Core.Path.{◌≡◌, refl, sym, ap, ap₂, ◌∙◌, subst}
use mathlib.Core.Bool.{Bool, true, false, not}
use mathlib.Core.List.{List, [], ◌∷◌, ◌++◌, Memᴰ}
use Rattle.std.specs.Prelude.{Option, None as Missing, Some, slice_get}
use lib.Dec.{T, eqb, leb, ltb, ltb→lt, nltb→le, nleb→lt}
use lib.ListN.{length, get_or, drop, take-append-drop}
use Rattle.words.specs.Words.{each, given, any_of, in_order, table, from}
use Rattle.words.proofs.All.{All, all-mem, all-table}
use Rattle.words.proofs.Tables.{length-table}
use Rattle.image.specs.Bytes.{u32_at, le}
use Rattle.image.proofs.Stores.{length-le}
use Rattle.catalogue.specs.Catalogue.{Catalogue, catalogue_of}
use Rattle.catalogue.specs.Refusals.{catalogue_refusals}
use Rattle.fit.specs.Fit.{Fit, fit_of}
use Rattle.fit.specs.Refusals.{fit_refusals}
use Rattle.entry.specs.declared.Target.{Target}
use Rattle.entry.specs.declared.Target.TheVariants.{Ship, Item}
use Rattle.entry.specs.declared.Entry.{Entry}
use Rattle.entry.specs.declared.Rule.TheVariants.{NotAHull}
use Rattle.entry.specs.Entries.{fields, place, on_ship, entry_bytes}
use Rattle.context.specs.Context.{pairs}
use Rattle.lists.specs.Terms.{main}
use Rattle.lists.specs.Lists.{whole_with, whole_list, for_reader, list_for}
use Rattle.lists.proofs.Numbers.{only_no}
use Rattle.parts.specs.Parts.{chosen, every, holds, numbers_of, down_from, thinned}
use Rattle.cause.specs.Cause.{is_about, is_kept, shows, cause_of, bad_volume, cause_bytes}
use Rattle.cause.proofs.Showing.{listed_among, shows-chosen}
use Rattle.calls.specs.Output.{output, no_room}
use Rattle.fitcheck.specs.Calls.{list_call}
use Rattle.fitcheck.specs.Cause.{cause_call}
use Rattle.promises.specs.Answers.{Outcome, outcome, refusal, count, entry_at, Conditions, catalogue_conditions, fit_conditions, None}
use Rattle.promises.specs.Compare.{Bytes}
use Rattle.promises.specs.Widens.{Fills}
use Rattle.promises.specs.Causes.{cause_outcome, listed, cause_own, cause_conditions, kept_numbers, kept_of, Numbers, without}
use Rattle.promises.specs.Causes.{Least, looks_at_pairs, of_the_ship}
use Rattle.cause.proofs.Entries.{each-length}
use Rattle.promises.proofs.Conditions.{none-parts, last-first}
use Rattle.promises.proofs.Lengths.{pairs-short}
use Rattle.promises.proofs.Answering.{elem_of}
use Rattle.promises.proofs.Calls.{list_answers}
use Rattle.promises.proofs.Widening.{fills}
use Rattle.promises.proofs.Reading.{read_back, only-short, numbers_below, numbers_ascend, set_back}
use Rattle.promises.proofs.Dropping.{left-of_all}
use Rattle.promises.proofs.Placed.{and_both, and_left}
use Rattle.promises.proofs.Parting.{elem_mem, any-mem, about_self, cause_length, cause_least, cause_none}
use Rattle.promises.proofs.Alone.{alone-listed}

-- four bytes each, of no more numbers than pairs
numbers_short : (c : Catalogue) (f : Fit) (e : Entry) → length (numbers_of (cause_of c f e)) ≤ length (pairs c f)
unfolding numbers_of
numbers_short c f e =
    let s = cause_of c f e in
    let h = only-short (holds s) (from 0 (length s)) in
    let l = length-table 0 (length s) (λ (i : ℕ). i) in
    let q = cause_length c f e in
    omega (arith, h, l, q)

bytes-short : (c : Catalogue) (f : Fit) (position : ℕ) → length (cause_bytes c f position) ≤ 4 * length (pairs c f)
unfolding cause_bytes given
bytes-short c f position = go (slice_get (whole_list main c f) position)
  where
    go : (o : Option Entry) → length (given o [] λ e. each (numbers_of (cause_of c f e)) (le 4)) ≤ 4 * length (pairs c f)
    go Missing = omega arith
    go (Some e) =
        let l = each-length (le 4) 4 (length-le 4) (numbers_of (cause_of c f e)) in
        let h = numbers_short c f e in
        omega (arith, l, h)

module _ (catalogue fit : List ℕ) (position : ℕ) (buffer : List ℕ) where
  abbrev c : Catalogue
  c = catalogue_of catalogue

  abbrev f : Fit
  f = fit_of fit

  abbrev bytes : List ℕ
  bytes = cause_bytes c f position

  abbrev o : Outcome
  o = cause_outcome catalogue fit position buffer

  module _ (n : None (cause_conditions catalogue fit position buffer)) where
    abbrev behind-catalogue : None (fit_conditions fit ++ cause_own catalogue fit position buffer)
    behind-catalogue = (none-parts (catalogue_conditions catalogue) (fit_conditions fit ++ cause_own catalogue fit position buffer) n).1

    abbrev asked-for : None (cause_own catalogue fit position buffer)
    asked-for = (none-parts (fit_conditions fit) (cause_own catalogue fit position buffer) behind-catalogue).1

    few : length (pairs c f) ≤ 256
    few = pairs-short fit (none-parts (fit_conditions fit) (cause_own catalogue fit position buffer) behind-catalogue).0.0 c

    short : length bytes < 2 ^ 32
    short = let h = bytes-short c f position in let k = few in omega (arith, h, k)

    its_volumes : T (not (any_of bad_volume (pairs c f)))
    unfolding bad_volume
    its_volumes = asked-for.1.0

    its_room : length bytes ≤ length buffer
    its_room = nltb→le (length buffer) (length bytes) asked-for.1.1.0

  pub cause_answers : Fills 15 (cause_conditions catalogue fit position buffer) bytes buffer o
  unfolding cause_call output catalogue_refusals fit_refusals no_room bad_volume
  cause_answers = fills 15 (cause_conditions catalogue fit position buffer) (omega arith) bytes buffer short its_room

  -- room for 256 pairs is enough
  pub cause_room : 1024 ≤ length buffer → refusal o ≡ 10 → ⊥
  unfolding bad_volume
  cause_room room h =
      let own : Conditions = (14, leb (length (listed catalogue fit)) position) ∷ (15, any_of bad_volume (pairs c f)) ∷ [] in
      let front : Conditions = catalogue_conditions catalogue ++ (fit_conditions fit ++ own) in
      let k = last-first 10 front (ltb (length buffer) (length bytes)) (omega arith) ((cause_answers.refused 10 (omega arith)).0 h) in
      let its = none-parts (fit_conditions fit) own (none-parts (catalogue_conditions catalogue) (fit_conditions fit ++ own) k.0).1 in
      omega (arith, bytes-short c f position, pairs-short fit its.0.0 c, ltb→lt (length buffer) (length bytes) k.1, room)

  module _ (answered : refusal o ≡ 0) (e : Entry) (at : slice_get (listed catalogue fit) position ≡ Some e) where
    ok : None (cause_conditions catalogue fit position buffer)
    ok = cause_answers.answered.0 answered

    abbrev ns : List ℕ
    ns = numbers_of (cause_of c f e)

    own_bytes : bytes ≡ each ns (le 4)
    unfolding cause_bytes given
    own_bytes = ap (λ (x : Option Entry). given x [] λ e. each (numbers_of (cause_of c f e)) (le 4)) at

    counted : count o ≡ 4 * length ns
    counted = cause_answers.counted answered ∙ ap (λ (l : List ℕ). length l) own_bytes ∙ each-length (le 4) 4 (length-le 4) ns

    left : o.buffer ≡ each ns (le 4) ++ drop (length bytes) o.buffer
    left =
        sym (take-append-drop (length bytes) o.buffer)
        ∙ ap (λ (l : List ℕ). l ++ drop (length bytes) o.buffer) (cause_answers.front answered ∙ own_bytes)

    small : All (λ (i : ℕ). i < 4294967296) ns
    small = numbers_below (cause_of c f e) 4294967296 (let q = cause_length c f e in let k = few ok in omega (arith, q, k))

    pub kept-numbers : kept_numbers o ≡ ns
    kept-numbers =
        let q : count o / 4 ≡ length ns = let h = counted in omega (arith, h) in
        ap₂ (λ (n : ℕ) (b : List ℕ). table n (λ i. u32_at b (4 * i))) q left
        ∙ read_back ns (drop (length bytes) o.buffer) small

    pub cause_numbers : Numbers (length (pairs c f)) o
    cause_numbers = record {
      four = counted ∙ ap (λ (l : List ℕ). 4 * length l) (sym kept-numbers);
      ascend = subst (λ (l : List ℕ). T (in_order ltb l)) (sym kept-numbers) (numbers_ascend (cause_of c f e));
      below = λ i m.
          all-mem (numbers_below (cause_of c f e) (length (pairs c f)) (let q = cause_length c f e in omega (arith, q))) i
          (subst (λ (l : List ℕ). Memᴰ i l) kept-numbers m);
    }

    pub kept-is : kept_of (length (pairs c f)) o ≡ cause_of c f e
    kept-is =
        ap (λ (l : List ℕ). table (length (pairs c f)) (λ i. any_of (eqb i) l)) kept-numbers
        ∙ set_back (cause_of c f e) (length (pairs c f)) (cause_length c f e)

    pub in_turn : kept_of (length (pairs c f)) o ≡ thinned (shows c f e) (every (length (pairs c f))) (down_from (length (pairs c f)))
    unfolding cause_of
    in_turn = kept-is

    pub cause_dropped : (i : ℕ) → i < length (pairs c f)
        → holds (kept_of (length (pairs c f)) o) i ≡ not (shows c f e (without (length (pairs c f)) (kept_of (length (pairs c f)) o) i))
    cause_dropped i h =
        let n = length (pairs c f) in
        subst (λ (r : List Bool). holds r i ≡ not (shows c f e (without n r i))) (sym in_turn) (left-of_all (shows c f e) n i h)

    pub kept-least : Bytes fit → Least c f e (kept_of (length (pairs c f)) o)
    kept-least b =
        subst (Least c f e) (sym kept-is) (cause_least catalogue fit b (its_volumes ok) e (elem_mem (listed catalogue fit) position e at))

    -- an entry on the ship that looks at no pair is shown by every part
    module _ (own : T (of_the_ship e)) where
      on-ship : (t : Target) (s : List Bool) → T (eqb (place t).0 0) → T (is_kept s t)
      unfolding is_kept
      on-ship Ship s h = tt
      on-ship (Item i) s h = absurd h

      always : (s : List Bool) → T (shows c f e s)
      unfolding whole_list
      always s =
          let ps = chosen s (pairs c f) in
          subst T (sym (shows-chosen c f e s))
          (and_both (is_kept s e.target) (listed_among c f s e)
          (on-ship e.target s (and_left (eqb (place e.target).0 0) (not (looks_at_pairs (fields e.rule).0 (fields e.rule).1)) own))
          (any-mem (is_about e.target e.rule) (whole_with main c f.frame f.skills ps) e
          (alone-listed main c f.frame f.skills (pairs c f) ps e own (elem_mem (listed catalogue fit) position e at))
          (about_self e)))

      none-held : (i : ℕ) → holds (cause_of c f e) i ≡ false
      none-held i = go (holds (cause_of c f e) i) (cause_none c f e always i)
        where
          go : (q : Bool) → (T q → ⊥) → q ≡ false
          go true k = absurd (k tt)
          go false k = refl

      pub none_kept : count o ≡ 0
      unfolding numbers_of
      none_kept =
          let z : ns ≡ [] = only_no (holds (cause_of c f e)) (all-table (λ i. i) none-held 0 (length (cause_of c f e))) in
          counted ∙ ap (λ (l : List ℕ). 4 * length l) z

-- the entry at the position, as the officer's list call leaves it
pub cause_asked : (catalogue fit : List ℕ) (position : ℕ) (buffer other : List ℕ)
    → refusal (cause_outcome catalogue fit position buffer) ≡ 0
    → refusal (outcome other (list_call main catalogue fit other)) ≡ 0
    → (e : Entry) × (slice_get (listed catalogue fit) position ≡ Some e)
    × (entry_at (outcome other (list_call main catalogue fit other)) position ≡ entry_bytes e)
unfolding list_for for_reader
cause_asked catalogue fit position buffer other h k =
    let own = asked-for catalogue fit position buffer ((cause_answers catalogue fit position buffer).answered.0 h) in
    let below : position < length (listed catalogue fit) = nleb→lt (length (listed catalogue fit)) position own.0 in
    let e = get_or (listed catalogue fit) position (on_ship NotAHull) in
    let at = elem_of (on_ship NotAHull) (listed catalogue fit) position below in
    (e, at, (list_answers main catalogue fit other).entries k position e at)
