-- What it means that a part shows an entry, in the bytes of two entries: from the numbers that they are made of. The pairs before one of a
-- set are the numbers of that set below its own; an index and an id are 32 bits, so that equal words are equal numbers.
use Prim.Native.Nat.{ℕ, zero, suc, ◌≤◌, ◌<◌}
use native.Mathlib.Nat.{not-suc-le-zero}
use native.Mathlib.Omega.{arith}
use mathlib.Core.Path.{◌≡◌, refl, sym, ap, ◌∙◌, subst}
use mathlib.Core.Bool.{Bool, true, false, ◌&&◌, ◌||◌, cond}
use mathlib.Core.List.Memᴰ
use mathlib.Core.List.{List, [], ◌∷◌, ◌++◌, map, Memᴰ}
use mathlib.Core.Logic.{◌↔◌}
use lib.Dec.{T, eqb, ltb, eqb→eq, eqb_refl, ltb→lt, lt→ltb, lit<}
use lib.IntN.{pos}
use lib.ListN.{length, get_or, take, length-map}
use Rattle.words.specs.Words.{each, when_any, when_above, only, count_of, any_of, table_from, from, same}
use Rattle.words.proofs.All.{All, nil, cons, all-mem, all_join, all-when, all-unless, all-cond, all-bind, all-each, all-each_of}
use Rattle.words.proofs.All.{all-table, all-find}
use Rattle.words.proofs.Tables.{length-table}
use Rattle.image.specs.Bytes.{u32_at, i32_at, le}
use Rattle.image.proofs.Puts.{le-u32, bits_small}
use Rattle.keys.proofs.Ranks.{signed_range}
use Rattle.numbers.specs.Slots.{kind_of}
use Rattle.numbers.specs.declared.SlotKind.{SlotKind}
use Rattle.catalogue.specs.Catalogue.{Id, TypeData, Catalogue, catalogue_of, type_at, type_count}
use Rattle.catalogue.specs.Lookups.{type_of, group_of}
use Rattle.fit.specs.Fit.{Result, Frame, Fit, fit_of, mode_of}
use Rattle.fit.specs.Fit as Fit
use Rattle.profile.specs.Profile.{Price}
use Rattle.entry.specs.declared.Target.{Target}
use Rattle.entry.specs.declared.Target.TheVariants.{Ship, Item}
use Rattle.entry.specs.declared.Rule.{Rule}
use Rattle.entry.specs.declared.Rule.TheVariants.{Resource, Slots, WrongSlot, NotAModule, NotADrone, NotAFighter, NotAnImplant, SlotTaken}
use Rattle.entry.specs.declared.Rule.TheVariants.{WrongSlotIndex, SubsystemTaken, Skill, RigSize, ShipRestricted, CapitalItem}
use Rattle.entry.specs.declared.Rule.TheVariants.{StructureItem, ShipItem, MaxGroup, MaxType, NotAHull, NotAMode, NotASkill, Banned}
use Rattle.entry.specs.declared.Rule.TheVariants.{Points, UnknownType, Numbers}
use Rattle.entry.specs.declared.Entry.{Entry}
use Rattle.entry.specs.Entries.{fields, place, entry_bytes}
use Rattle.context.specs.Context.{Pair, Context, context, pairs_from, pairs}
use Rattle.resource.specs.Resource.{LOADS, resource, loads, launched_drones, cargo, resources}
use Rattle.racks.specs.Racks.{RACKS, HARDPOINTS, slots, racks, hardpoints}
use Rattle.slot.specs.Slot.{wrong_slot, not_a_module, not_a_drone, not_a_fighter, not_an_implant, wrong_slot_index, slot_taken}
use Rattle.slot.specs.Slot.{subsystem_taken, slot_checks}
use Rattle.item.specs.Item.{is_structure, rig_size_at, rig_size, ship_restricted_at, ship_restricted, capital_item_at, capital_item}
use Rattle.item.specs.Item.{standup_at, standup}
use Rattle.limits.specs.Limits.{group_limit_rows, group_limit_at, group_limit, group_limits, type_limit_at, type_limit}
use Rattle.league.specs.League.{banned_at, banned, over_allowance, league}
use Rattle.validate.specs.Kind.{is_hull, not_a_mode, not_a_skill}
use Rattle.validate.specs.Validate.{hull_rules, list_with}
use Rattle.lists.specs.Terms.{Terms, main}
use Rattle.lists.specs.Unknown.{unknown_type_at, unknown_types}
use Rattle.lists.specs.Lists.{on_hull, league_with, whole_with, whole_list}
use Rattle.training.proofs.Ranges.{InRange, skills-range}
use Rattle.parts.specs.Parts.{chosen, size, every, holds, numbers_of, part_of}
use Rattle.parts.proofs.Flags.{size_none, size-cons}
use Rattle.parts.proofs.Beside.{only-map, count_map}
use Rattle.parts.proofs.Numbered.{moved, number_in, pairs-part}
use Rattle.parts.proofs.Thinning.{held_below}
use Rattle.cause.specs.Cause.{WITH_ID, id_of, alike, same_target, is_about, is_kept, renumbered, shows}
use Rattle.promises.specs.Answers.{None, fit_conditions}
use Rattle.promises.specs.Causes.{listed, carries_id, SameEntry, Seen}
use Rattle.promises.proofs.Lengths.{pairs-short}
use Rattle.promises.proofs.Placed.{and_both, and_left, and_right}
use Rattle.promises.proofs.Growth.{only-mem}
use Rattle.promises.proofs.Parting.{any-mem, whole_shows}

-- ---- tests
bool_same : (a b : Bool) → (T a → T b) → (T b → T a) → a ≡ b
bool_same true true f g = refl
bool_same true false f g = absurd (f tt)
bool_same false true f g = absurd (g tt)
bool_same false false f g = refl

told : {m n : ℕ} → m ≡ n → T (eqb m n)
told {m} {n} e = subst (λ (k : ℕ). T (eqb m k)) e (eqb_refl m)

three_of : (a b c : Bool) → T (a && b && c) → T a × T b × T c
three_of true true true h = (tt, tt, tt)
three_of true true false h = absurd h
three_of true false c h = absurd h
three_of false b c h = absurd h

three : (a b c : Bool) → T a → T b → T c → T (a && b && c)
three true true true p q r = tt
three true true false p q r = absurd r
three true false c p q r = absurd q
three false b c p q r = absurd p

pub any_found : {A : Type 0} (t : A → Bool) (l : List A) → T (any_of t l) → (x : A) × Memᴰ x l × T (t x)
unfolding any_of
any_found t [] h = absurd h
any_found {A} t (y ∷ l) h = go (t y) refl h (any_found t l)
  where
    go : (b : Bool) → t y ≡ b → T (b || any_of t l) → (T (any_of t l) → (x : A) × Memᴰ x l × T (t x)) → (x : A) × Memᴰ x (y ∷ l) × T (t x)
    go true e k f = (y, Memᴰ.head refl, subst T (sym e) tt)
    go false e k f = let r = f k in (r.0, Memᴰ.tail r.1, r.2)

-- ---- the numbers of a set
from-later : (k n : ℕ) → from (suc k) n ≡ map suc (from k n)
unfolding table_from
from-later k zero = refl
from-later k (suc n) = ap (λ (l : List ℕ). suc k ∷ l) (from-later (suc k) n)

numbers_none : numbers_of [] ≡ []
unfolding numbers_of only table_from
numbers_none = refl

numbers-later : (b : Bool) (s : List Bool) → numbers_of (b ∷ s) ≡ cond b (0 ∷ map suc (numbers_of s)) (map suc (numbers_of s))
unfolding numbers_of only table_from
numbers-later b s =
    let e : only (holds (b ∷ s)) (from 1 (length s)) ≡ map suc (only (holds s) (from 0 (length s))) =
    ap (only (holds (b ∷ s))) (from-later 0 (length s)) ∙ only-map suc (holds s) (holds (b ∷ s)) (λ x. refl) (from 0 (length s)) in
    ap (λ (l : List ℕ). cond b (0 ∷ l) l) e

-- as many numbers are below one of a set as pairs stand before it
below_none : (l : List ℕ) → count_of (λ k. ltb k 0) l ≡ 0
unfolding count_of only
below_none [] = refl
below_none (x ∷ l) = go (ltb x 0) (ltb→lt x 0) (below_none l)
  where
    go : (b : Bool) → (T b → x < 0) → length (only (λ k. ltb k 0) l) ≡ 0
        → length (cond b (x ∷ only (λ k. ltb k 0) l) (only (λ k. ltb k 0) l)) ≡ 0
    go true h e = absurd (not-suc-le-zero (h tt))
    go false h e = e

pub numbers_before : (s : List Bool) (i : ℕ) → count_of (λ k. ltb k i) (numbers_of s) ≡ size (take i s)
unfolding count_of only
numbers_before [] zero = ap (count_of (λ k. ltb k 0)) numbers_none ∙ sym size_none
numbers_before [] (suc i) = ap (count_of (λ k. ltb k (suc i))) numbers_none ∙ sym size_none
numbers_before (b ∷ s) zero = below_none (numbers_of (b ∷ s)) ∙ sym size_none
numbers_before (b ∷ s) (suc i) = ap (count_of (λ k. ltb k (suc i))) (numbers-later b s) ∙ go (numbers_before s i) b
  where
    later : count_of (λ k. ltb k i) (numbers_of s) ≡ size (take i s)
        → count_of (λ k. ltb k (suc i)) (map suc (numbers_of s)) ≡ size (take i s)
    later e =
        count_map suc (λ k. ltb k i) (λ k. ltb k (suc i))
        (λ k. bool_same (ltb k i) (ltb (suc k) (suc i))
        (λ h. lt→ltb (suc k) (suc i) (let l = ltb→lt k i h in omega (arith, l)))
        (λ h. lt→ltb k i (let l = ltb→lt (suc k) (suc i) h in omega (arith, l))))
        (numbers_of s)
        ∙ e

    first : ltb 0 (suc i) ≡ true
    first = bool_same (ltb 0 (suc i)) true (λ _. tt) (λ _. lt→ltb 0 (suc i) (omega arith))

    go : count_of (λ k. ltb k i) (numbers_of s) ≡ size (take i s) → (x : Bool)
        → count_of (λ k. ltb k (suc i)) (cond x (0 ∷ map suc (numbers_of s)) (map suc (numbers_of s))) ≡ size (x ∷ take i s)
    go e true =
        ap (λ (t : Bool).
        length (cond t (0 ∷ only (λ k. ltb k (suc i)) (map suc (numbers_of s))) (only (λ k. ltb k (suc i)) (map suc (numbers_of s))))) first
        ∙ (let l = later e in let q = size-cons true (take i s) in omega (arith, l, q))
    go e false = let l = later e in let q = size-cons false (take i s) in omega (arith, l, q)

later_mem : {k : ℕ} (l : List ℕ) → Memᴰ k l → Memᴰ (suc k) (map suc l)
later_mem [] m = absurd (Memᴰ.not-nil m)
later_mem (x ∷ l) (Memᴰ.head e) = Memᴰ.head (ap suc e)
later_mem (x ∷ l) (Memᴰ.tail m) = Memᴰ.tail (later_mem l m)

pub held_number : (s : List Bool) (i : ℕ) → T (holds s i) → Memᴰ i (numbers_of s)
held_number [] i h = absurd h
held_number (b ∷ s) zero h = subst (λ (l : List ℕ). Memᴰ 0 l) (sym (numbers-later b s)) (go b h)
  where
    go : (x : Bool) → T x → Memᴰ 0 (cond x (0 ∷ map suc (numbers_of s)) (map suc (numbers_of s)))
    go true k = Memᴰ.head refl
    go false k = absurd k
held_number (b ∷ s) (suc i) h =
    subst (λ (l : List ℕ). Memᴰ (suc i) l) (sym (numbers-later b s)) (go b (later_mem (numbers_of s) (held_number s i h)))
  where
    go : (x : Bool) → Memᴰ (suc i) (map suc (numbers_of s)) → Memᴰ (suc i) (cond x (0 ∷ map suc (numbers_of s)) (map suc (numbers_of s)))
    go true m = Memᴰ.tail m
    go false m = m

pub number_held : (s : List Bool) (i : ℕ) → Memᴰ i (numbers_of s) → T (holds s i)
unfolding numbers_of
number_held s i m = (only-mem (holds s) (from 0 (length s)) i m).0

-- ---- ids of 32 bits
abbrev IdFits : Entry → Type 0
IdFits e = id_of e.rule < 4294967296

abbrev Ranged : Pair → Type 0
Ranged p = InRange p.group × InRange p.type

module _ (x : Context) (ps : List Pair) (h : All Ranged ps) where
  ids-resources : All IdFits (resources x ps)
  unfolding resources loads launched_drones cargo resource id_of fields any_of
  ids-resources =
      all_join (all_join
      (all-each LOADS λ l. all-bind _ λ load. all-bind _ λ output. all-when _ _ (λ _. lit< tt))
      (all-bind _ λ limit. all-when _ _ (λ _. lit< tt)))
      (all-bind _ λ capacity. all-when _ _ (λ _. lit< tt))

  ids-slots : (slot : SlotKind) (name used : ℕ) → All IdFits (slots x slot name used)
  unfolding slots when_above id_of fields any_of
  ids-slots slot name used = all-bind _ λ id. all-when _ _ (λ _. lit< tt)

  ids-racks : All IdFits (racks x ps ++ hardpoints x ps)
  unfolding racks hardpoints
  ids-racks = all_join (all-each RACKS λ r. ids-slots r.0 r.1 _) (all-each HARDPOINTS λ r. ids-slots r.0 r.1 _)

  ids-checks : (p : Pair) → All IdFits (slot_checks x ps p)
  unfolding slot_checks wrong_slot not_a_module not_a_drone not_a_fighter not_an_implant slot_taken wrong_slot_index subsystem_taken when_any id_of fields any_of
  ids-checks p =
      all_join (all_join (all_join (all_join (all_join (all_join (all_join
      (all-bind p.rack λ rack. all-bind (kind_of rack) λ _. all-when _ _ (λ _. lit< tt))
      (all-when _ _ (λ _. lit< tt)))
      (all-when _ _ (λ _. lit< tt)))
      (all-when _ _ (λ _. lit< tt)))
      (all-when _ _ (λ _. lit< tt)))
      (all-when _ _ (λ _. lit< tt)))
      (all-bind _ λ name. all-bind _ λ id. all-bind _ λ v. all-when _ _ (λ _. lit< tt)))
      (all-bind _ λ id. all-bind _ λ part. all-when _ _ (λ _. lit< tt))

  ids-items : All IdFits (rig_size x ps ++ ship_restricted x ps ++ capital_item x ps ++ standup x ps)
  unfolding rig_size rig_size_at ship_restricted ship_restricted_at capital_item capital_item_at standup standup_at id_of fields any_of
  ids-items =
      all_join (all_join (all_join
      (all-bind _ λ id. all-bind _ λ ship. all-each ps λ p. all-bind _ λ size. all-when _ _ (λ _. lit< tt))
      (all-each ps λ p. all-when _ _ (λ _. lit< tt)))
      (all-bind _ λ volume. all-bind _ λ capital. all-unless _ (all-each ps λ p. all-when _ _ (λ _. lit< tt))))
      (all-each ps λ p. all-cond (is_structure x) (all-when _ _ (λ _. lit< tt)) (all-when _ _ (λ _. lit< tt)))

  ids-limits : All IdFits (group_limits x ps ++ type_limit x ps)
  unfolding group_limits group_limit group_limit_at type_limit type_limit_at when_above id_of fields any_of
  ids-limits =
      all_join
      (all-each group_limit_rows λ g.
      all-bind _ λ id. all-each_of h λ p r. all-bind _ λ allowed. all-when _ _ (λ _. bits_small p.group r.0))
      (all-bind _ λ id. all-each_of h λ p r. all-bind _ λ allowed. all-when _ _ (λ _. bits_small p.type r.1))

  ids-hull : All IdFits (hull_rules x ps)
  unfolding hull_rules
  ids-hull = all_join (all_join (all_join (all_join ids-resources ids-racks) (all-each ps ids-checks)) ids-items) ids-limits

module _ (c : Catalogue) (k : Frame) (ids : List Id) (ps : List Pair) (listed : All InRange ids) (h : All Ranged ps) where
  ids-list : All IdFits (list_with c k ids ps)
  unfolding list_with not_a_mode not_a_skill id_of fields any_of
  ids-list =
      all-cond (is_hull c k.ship)
      (all_join
      (all_join (all-bind (mode_of k) λ m. all-when _ _ (λ _. lit< tt)) (all-each_of listed λ i r. all-when _ _ (λ _. bits_small i r)))
      (ids-hull (context c k) ps h))
      (cons (lit< tt) nil)

  ids-league : (prices : List Price) (allowance : ℕ) → All IdFits (league prices allowance ps)
  unfolding league banned banned_at over_allowance when_above id_of fields any_of
  ids-league prices allowance = all_join (all-each ps λ p. all-when _ _ (λ _. lit< tt)) (all-when _ _ (λ _. lit< tt))

  ids-unknown : All IdFits (unknown_types c ps)
  unfolding unknown_types unknown_type_at id_of fields any_of
  ids-unknown = all-each_of h λ p r. all-when _ _ (λ _. bits_small p.type r.1)

  pub ids_fit : (t : Terms) → All IdFits (whole_with t c k ids ps)
  unfolding whole_with league_with on_hull
  ids_fit t =
      all_join
      (all_join ids-list (all-cond (is_hull c k.ship) (ids-league _ _) nil))
      (all-cond (is_hull c k.ship) ids-unknown nil)

-- of images
groups-range : (b : List ℕ) (t : Id) → InRange (group_of (catalogue_of b) t)
unfolding catalogue_of group_of type_of i32_at
groups-range b t =
    let gs : All (λ (x : TypeData). InRange x.group) (catalogue_of b).types =
    all-table (type_at b) (λ i. signed_range _) 0 (type_count b) in
    all-find InRange (λ (x : TypeData). same x.id t) gs (pos 0) (λ (x : TypeData). x.group) (omega arith) (λ x p. p)

pairs-range : (b : List ℕ) (n : ℕ) {is : List Fit.Item} → All (λ (i : Fit.Item). InRange i.type) is → (rs : List Result)
    → All Ranged (pairs_from (catalogue_of b) n is rs)
unfolding pairs_from
pairs-range b n nil rs = nil
pairs-range b n (cons p h) [] = nil
pairs-range b n (cons {x = i} p h) (r ∷ rs) = cons (groups-range b i.type, p) (pairs-range b (suc n) h rs)

items-range : (b : List ℕ) → All (λ (i : Fit.Item). InRange i.type) (fit_of b).items
unfolding fit_of i32_at
items-range b = all-table (Fit.item_at b) (λ i. signed_range _) 0 (Fit.item_count b)

all-chosen : {A : Type 0} {P : A → Type 0} (s : List Bool) {l : List A} → All P l → All P (chosen s l)
unfolding chosen
all-chosen [] h = nil
all-chosen (b ∷ s) nil = nil
all-chosen {A} {P} (b ∷ s) (cons {x} {l} p h) = go b (all-chosen s h)
  where
    go : (y : Bool) → All P (chosen s l) → All P (cond y (x ∷ chosen s l) (chosen s l))
    go true k = cons p k
    go false k = k

chosen_short : {A : Type 0} (s : List Bool) (l : List A) → length (chosen s l) ≤ length l
unfolding chosen
chosen_short [] l = omega arith
chosen_short (b ∷ s) [] = omega arith
chosen_short {A} (b ∷ s) (x ∷ l) = go b (chosen_short s l)
  where
    go : (y : Bool) → length (chosen s l) ≤ length l → length (cond y (x ∷ chosen s l) (chosen s l)) ≤ suc (length l)
    go true h = omega (arith, h)
    go false h = omega (arith, h)

-- ---- what the bytes of an entry say
-- the index, the first word of the payload
index_word : (e : Entry) → (place e.target).1 < 4294967296 → u32_at (entry_bytes e) 4 ≡ (place e.target).1
unfolding entry_bytes u32_at
index_word e h = unfold u32_at in le-u32 (place e.target).1 h

first_word : (t : Target) (r : Rule) → u32_at (entry_bytes (record { target = t; rule = r })) 8 ≡ u32_at (le 4 (get_or (fields r).2 0 0)) 0
unfolding entry_bytes u32_at fields each
first_word t (Resource k u a) = refl
first_word t (Slots k u a) = refl
first_word t (WrongSlot k) = refl
first_word t NotAModule = refl
first_word t NotADrone = refl
first_word t NotAFighter = refl
first_word t NotAnImplant = refl
first_word t SlotTaken = refl
first_word t (WrongSlotIndex n) = refl
first_word t SubsystemTaken = refl
first_word t (Skill i n m) = refl
first_word t (RigSize n m) = refl
first_word t ShipRestricted = refl
first_word t CapitalItem = refl
first_word t StructureItem = refl
first_word t ShipItem = refl
first_word t (MaxGroup g l u a) = refl
first_word t (MaxType i u a) = refl
first_word t NotAHull = refl
first_word t NotAMode = refl
first_word t (NotASkill i) = refl
first_word t (Banned g) = refl
first_word t (Points u a) = refl
first_word t (UnknownType i) = refl
first_word t (Numbers n m a b c d) = refl

cond_first : {A : Type 0} (b : Bool) (x y : A) → T b → cond b x y ≡ x
cond_first true x y h = refl
cond_first false x y h = absurd h

carried : (r : Rule) → T (carries_id (fields r).0) → id_of r ≡ get_or (fields r).2 0 0
unfolding id_of
carried r h = cond_first (any_of (eqb (fields r).0) WITH_ID) (get_or (fields r).2 0 0) 0 h

uncarried : (r : Rule) → carries_id (fields r).0 ≡ false → id_of r ≡ 0
unfolding id_of
uncarried r h = ap (λ (b : Bool). cond b (get_or (fields r).2 0 0) 0) h

id_word : (e : Entry) → T (carries_id (fields e.rule).0) → u32_at (entry_bytes e) 8 ≡ u32_at (le 4 (id_of e.rule)) 0
id_word e h = first_word e.target e.rule ∙ ap (λ (w : ℕ). u32_at (le 4 w) 0) (sym (carried e.rule h))

kind_same : (s : List Bool) (t : Target) → (place (renumbered s t)).0 ≡ (place t).0
unfolding renumbered
kind_same s Ship = refl
kind_same s (Item i) = refl

-- ---- an entry of the list of an image, and one of the list of a part
index-fits : (c : Catalogue) (f : Fit) (e : Entry) → length (pairs c f) ≤ 256 → Memᴰ e (whole_list main c f)
    → (place e.target).1 < 4294967296
unfolding shows is_kept
index-fits c f e few m =
    let all : List Bool = every (length (pairs c f)) in
    go e.target
    (and_left (is_kept all e.target) (any_of (is_about (renumbered all e.target) e.rule) (whole_list main c (part_of f all)))
    (whole_shows c f e m))
  where
    go : (t : Target) → T (is_kept (every (length (pairs c f))) t) → (place t).1 < 4294967296
    go Ship h = lit< tt
    go (Item i) h =
        let l = held_below (every (length (pairs c f))) i h in
        let q = length-table 0 (length (pairs c f)) (λ _. true) in
        omega (arith, l, q, few)

module _ (catalogue fit : List ℕ) (fine : None (fit_conditions fit)) (e : Entry) (listed_e : Memᴰ e (listed catalogue fit))
    (s : List Bool) where
  abbrev c : Catalogue
  c = catalogue_of catalogue

  abbrev f : Fit
  f = fit_of fit

  abbrev part : List Entry
  part = whole_list main c (part_of f s)

  few : length (pairs c f) ≤ 256
  few = pairs-short fit fine.0 c

  few-chosen : length (pairs c (part_of f s)) ≤ 256
  few-chosen =
      let q = ap (λ (l : List Pair). length l) (pairs-part c f s) ∙ length-map (chosen s (pairs c f)) (moved (number_in s)) in
      let h = chosen_short s (pairs c f) in
      let k = few in
      omega (arith, q, h, k)

  index-of : u32_at (entry_bytes e) 4 ≡ (place e.target).1
  index-of = index_word e (index-fits c f e few listed_e)

  index-in : (x : Entry) → Memᴰ x part → u32_at (entry_bytes x) 4 ≡ (place x.target).1
  index-in x m = index_word x (index-fits c (part_of f s) x few-chosen m)

  id-of : id_of e.rule < 4294967296
  unfolding whole_list pairs
  id-of =
      all-mem
      (ids_fit c f.frame f.skills (pairs c f) (skills-range fit) (pairs-range catalogue 0 (items-range fit) f.results) main) e listed_e

  id-in : (x : Entry) → Memᴰ x part → id_of x.rule < 4294967296
  unfolding whole_list part_of pairs
  id-in x m =
      all-mem
      (ids_fit c f.frame f.skills (pairs c (part_of f s)) (skills-range fit)
      (pairs-range catalogue 0 (all-chosen s (items-range fit)) (chosen s f.results)) main) x m

  item : {i n : ℕ} (t : Target) → T (is_kept s t) → i ≡ (place t).1 → n ≡ (place (renumbered s t)).1 → (place t).0 ≡ 1
      → Memᴰ i (numbers_of s) × (n ≡ count_of (λ k. ltb k i) (numbers_of s))
  unfolding is_kept renumbered
  item Ship h p q z = absurd (let e : ◌≡◌ {A = ℕ} 0 1 = z in omega (arith, e))
  item (Item j) h p q z = (
    subst (λ (m : ℕ). Memᴰ m (numbers_of s)) (sym p) (held_number s j h),
    q ∙ sym (numbers_before s j) ∙ ap (λ (m : ℕ). count_of (λ k. ltb k m) (numbers_of s)) (sym p),
  )

  -- the same entry, by numbers
  pub seen : T (shows c f e s) → Seen c f e s
  unfolding shows is_about same_target alike entry_bytes
  seen h =
      let r = any_found (is_about (renumbered s e.target) e.rule) part
      (and_right (is_kept s e.target) (any_of (is_about (renumbered s e.target) e.rule) part) h) in
      let x = r.0 in
      let t = renumbered s e.target in
      let places = and_left (same_target x.target t) (alike e.rule x.rule) r.2 in
      let rules =
      three_of (eqb (fields e.rule).0 (fields x.rule).0) (eqb (fields e.rule).1 (fields x.rule).1) (eqb (id_of e.rule) (id_of x.rule))
      (and_right (same_target x.target t) (alike e.rule x.rule) r.2) in
      let kind =
      eqb→eq (place x.target).0 (place t).0
      (and_left (eqb (place x.target).0 (place t).0) (eqb (place x.target).1 (place t).1) places) in
      let at =
      eqb→eq (place x.target).1 (place t).1
      (and_right (eqb (place x.target).0 (place t).0) (eqb (place x.target).1 (place t).1) places) in
      let number = eqb→eq (fields e.rule).0 (fields x.rule).0 rules.0 in (
        x,
        r.1,
        record {
          target = kind ∙ kind_same s e.target;
          rule = sym number;
          sub = sym (eqb→eq (fields e.rule).1 (fields x.rule).1 rules.1);
          item = λ q.
              item e.target (and_left (is_kept s e.target) (any_of (is_about (renumbered s e.target) e.rule) part) h)
              index-of (index-in x r.1 ∙ at) q;
          id = λ k.
              id_word x (subst (λ (n : ℕ). T (carries_id n)) number k)
              ∙ ap (λ (w : ℕ). u32_at (le 4 w) 0) (sym (eqb→eq (id_of e.rule) (id_of x.rule) rules.2))
              ∙ sym (id_word e k);
        },
      )

  module _ (x : Entry) (m : Memᴰ x part) (w : SameEntry (numbers_of s) (entry_bytes e) (entry_bytes x)) where
    abbrev t : Target
    t = renumbered s e.target

    kind : (place x.target).0 ≡ (place e.target).0
    unfolding entry_bytes
    kind = w.target

    number : (fields e.rule).0 ≡ (fields x.rule).0
    unfolding entry_bytes
    number = sym w.rule

    sub : (fields e.rule).1 ≡ (fields x.rule).1
    unfolding entry_bytes
    sub = sym w.sub

    about_item : (place e.target).0 ≡ 1
        → Memᴰ (u32_at (entry_bytes e) 4) (numbers_of s)
        × (u32_at (entry_bytes x) 4 ≡ count_of (λ k. ltb k (u32_at (entry_bytes e) 4)) (numbers_of s))
    unfolding entry_bytes
    about_item = w.item

    with_id : T (carries_id (fields e.rule).0) → u32_at (entry_bytes x) 8 ≡ u32_at (entry_bytes e) 8
    unfolding entry_bytes
    with_id = w.id

    held : {i n : ℕ} (t : Target) → i ≡ (place t).1
        → ((place t).0 ≡ 1 → Memᴰ i (numbers_of s) × (n ≡ count_of (λ k. ltb k i) (numbers_of s))) → T (is_kept s t)
    unfolding is_kept
    held Ship p k = tt
    held (Item j) p k = number_held s j (subst (λ (m : ℕ). Memᴰ m (numbers_of s)) p (k refl).0)

    placed : {i n : ℕ} (y t : Target) → (place y).0 ≡ (place t).0 → i ≡ (place t).1 → n ≡ (place y).1
        → ((place t).0 ≡ 1 → Memᴰ i (numbers_of s) × (n ≡ count_of (λ k. ltb k i) (numbers_of s)))
        → (place y).1 ≡ (place (renumbered s t)).1
    unfolding renumbered
    placed Ship Ship z p q k = refl
    placed Ship (Item j) z p q k = absurd (let e : ◌≡◌ {A = ℕ} 0 1 = z in omega (arith, e))
    placed (Item i) Ship z p q k = absurd (let e : ◌≡◌ {A = ℕ} 1 0 = z in omega (arith, e))
    placed (Item i) (Item j) z p q k =
        sym q ∙ (k refl).1 ∙ ap (λ (m : ℕ). count_of (λ k. ltb k m) (numbers_of s)) p ∙ numbers_before s j

    ids : (b : Bool) → carries_id (fields e.rule).0 ≡ b → id_of e.rule ≡ id_of x.rule
    ids true q =
        let k = subst T (sym q) tt in
        sym (le-u32 (id_of e.rule) id-of) ∙ sym (id_word e k) ∙ sym (with_id k) ∙ id_word x (subst (λ (n : ℕ). T (carries_id n)) number k)
        ∙ le-u32 (id_of x.rule) (id-in x m)
    ids false q = uncarried e.rule q ∙ sym (uncarried x.rule (ap carries_id (sym number) ∙ q))

    shown : T (shows c f e s)
    unfolding shows is_about same_target alike
    shown =
        and_both (is_kept s e.target) (any_of (is_about t e.rule) part) (held e.target index-of about_item)
        (any-mem (is_about t e.rule) part x m
        (and_both (same_target x.target t) (alike e.rule x.rule)
        (and_both (eqb (place x.target).0 (place t).0) (eqb (place x.target).1 (place t).1)
        (told (kind ∙ sym (kind_same s e.target))) (told (placed x.target e.target kind index-of (index-in x m) about_item)))
        (three (eqb (fields e.rule).0 (fields x.rule).0) (eqb (fields e.rule).1 (fields x.rule).1) (eqb (id_of e.rule) (id_of x.rule))
        (told number) (told sub) (told (ids (carries_id (fields e.rule).0) refl)))))

-- in words of the definitions and in bytes it is the same
pub cause_shows : (catalogue fit : List ℕ) (e : Entry) (s : List Bool) → None (fit_conditions fit) → Memᴰ e (listed catalogue fit)
    → T (shows (catalogue_of catalogue) (fit_of fit) e s) ↔ Seen (catalogue_of catalogue) (fit_of fit) e s
cause_shows catalogue fit e s fine m = (seen catalogue fit fine e m s, λ r. shown catalogue fit fine e m s r.0 r.1 r.2)
