-- What the rules and the walks read of a catalogue is the same in the trimmed one, where the ids that they read under are kept; so are the
-- list and every skill list. By what is read.
use Prim.Native.Nat.{ℕ, zero, suc, ◌+◌, ◌-◌, ◌≤◌}
use native.Mathlib.Omega.{arith}
use mathlib.Core.Path.{◌≡◌, refl, sym, ap, ap₂, ◌∙◌, subst, fun_ext}
use mathlib.Core.Bool.{Bool, false, not, ◌&&◌, ◌||◌}
use mathlib.Core.List.Memᴰ
use mathlib.Core.List.{List, [], ◌∷◌, ◌++◌, map, Memᴰ}
use Rattle.std.proofs.lemmas.Option.{same_Some}
use Rattle.std.specs.Prelude.{Option, None, Some, slice_get}
use lib.Dec.{T, ltb}
use lib.Ieee.{Float}
use lib.ListN.{length}
use Rattle.words.specs.Words.{◌>>=◌, each, given, same, contains, any_of, when}
use Rattle.words.proofs.All.{All, nil, cons}
use Rattle.catalogue.specs.Catalogue.{Id, TypeData, Link, Base, Catalogue}
use Rattle.catalogue.specs.Lookups.{type_of, is_known, group_of, category_of, volume_of, marks, effect_mark, last_mark, rack_of}
use Rattle.catalogue.specs.Lookups.{hardpoint_of, base_value}
use Rattle.catalogue.specs.Walks.{link_marks}
use Rattle.fit.specs.Fit.{Result, Item, Fit, mode_of, all_results, result_at}
use Rattle.entry.specs.declared.Entry.{Entry}
use Rattle.entry.specs.declared.Rule.TheVariants.{NotAMode, NotASkill, UnknownType}
use Rattle.entry.specs.Entries.{on_ship}
use Rattle.context.specs.Context.{Pair, pair_of, pairs_from, pairs, context, on}
use Rattle.skill.specs.Skill.{Demand, required, demands, of_result, of_skill, noted, skill_at, met_from, met}
use Rattle.skill.specs.Skill.{walk_within, wanted_skills, wants_too_many, reported, skill_list}
use Rattle.validate.specs.Kind.{is_hull, is_mode, is_skill, not_a_mode, not_a_skill}
use Rattle.validate.specs.Validate.{list_with}
use Rattle.lists.specs.Terms.{Terms}
use Rattle.lists.specs.Unknown.{unknown_type_at, unknown_types}
use Rattle.lists.specs.Lists.{on_hull, league_with, whole_with, whole_list, for_reader, list_for}
use Rattle.skill.proofs.Walking.{same-eq, noted-at}
use Rattle.skill.proofs.Onces.{mem_contains, each-has}
use Rattle.trim.specs.Trim.{wanted_ids, touched, any_too_many, trimmed}
use Rattle.promises.proofs.Placed.{and_left}
use Rattle.promises.proofs.Only.{find-only, only-only}

-- an id that is the same as a kept one is kept
kept_same : (ids : List Id) (x t : Id) → T (contains t ids) → T (same x t) → T (contains x ids)
kept_same ids x t k h = subst (λ (z : Id). T (contains z ids)) (sym (same-eq x t h)) k

-- ---- lookups under a kept id
module _ (c : Catalogue) (ids : List Id) where
  abbrev small : Catalogue
  small = trimmed c ids

  module _ (t : Id) (k : T (contains t ids)) where
    type-same : type_of small t ≡ type_of c t
    unfolding type_of trimmed
    type-same = find-only (λ (x : TypeData). same x.id t) (λ x. contains x.id ids) (λ x h. kept_same ids x.id t k h) c.types

    known_same : is_known small t ≡ is_known c t
    unfolding is_known
    known_same = rw type-same

    group-same : group_of small t ≡ group_of c t
    unfolding group_of
    group-same = rw type-same

    category-same : category_of small t ≡ category_of c t
    unfolding category_of
    category-same = rw type-same

    volume-same : volume_of small t ≡ volume_of c t
    unfolding volume_of
    volume-same = rw type-same

    marks-same : marks small t ≡ marks c t
    unfolding marks trimmed effect_mark
    marks-same =
        ap (λ (l : List Link). each l (link_marks c))
        (only-only (λ (x : Link). same x.type t) (λ x. contains x.type ids) (λ x h. kept_same ids x.type t k h) c.links)

    rack-same : rack_of small t ≡ rack_of c t
    unfolding rack_of last_mark
    rack-same = rw marks-same

    hardpoint-same : hardpoint_of small t ≡ hardpoint_of c t
    unfolding hardpoint_of last_mark
    hardpoint-same = rw marks-same

    base_same : (a : Id) → base_value small t a ≡ base_value c t a
    unfolding base_value trimmed
    base_same a =
        ap (λ (o : Option Base). given o None (λ x. Some x.value))
        (find-only (λ (x : Base). same x.type t && same x.attribute a) (λ x. contains x.type ids)
        (λ x h. kept_same ids x.type t k (and_left (same x.type t) (same x.attribute a) h)) c.bases)

    skill-same : of_skill small t ≡ of_skill c t
    unfolding of_skill demands required trimmed
    skill-same = ap (λ (look : Id → Option Float). demands c look) (fun_ext (λ a. base_same a))

    hull_same : is_hull small t ≡ is_hull c t
    unfolding is_hull
    hull_same = rw type-same

    mode-same : is_mode small t ≡ is_mode c t
    unfolding is_mode
    mode-same = rw type-same

    is_skill-same : is_skill small t ≡ is_skill c t
    unfolding is_skill
    is_skill-same = rw type-same

-- ---- which ids are kept
module _ {A : Type 0} where
  all-elem : {P : A → Type 0} {l : List A} → All P l → (n : ℕ) (x : A) → slice_get l n ≡ Some x → P x
  all-elem nil n x e = absurd (let z : ◌≡◌ {A = ℕ} 0 1 = cc in omega arith)
  all-elem {P} (cons p h) zero x e = subst P (same_Some _ _ e) p
  all-elem (cons p h) (suc n) x e = all-elem h n x e

module _ {A : Type 0} {P : A → Type 0} where
  all-of : (l : List A) → ((x : A) → Memᴰ x l → P x) → All P l
  all-of [] h = nil
  all-of (x ∷ l) h = cons (h x (Memᴰ.head refl)) (all-of l (λ y m. h y (Memᴰ.tail m)))

abbrev In : List Id → Id → Type 0
In ids x = T (contains x ids)

-- all that a fit's rules and walks read under
pub record Keeps (c : Catalogue) (f : Fit) (ids : List Id) : Type 0 where
  pub ship : In ids f.frame.ship
  pub mode : (m : Id) → mode_of f.frame ≡ Some m → In ids m
  pub skills : All (In ids) f.skills
  pub items : All (λ (i : Item). In ids i.type) f.items
  pub wanted : All (λ (r : Result). All (In ids) (wanted_ids c r)) (all_results f)

pub touched-keeps : (c : Catalogue) (f : Fit) → Keeps c f (touched c f)
unfolding touched given
touched-keeps c f =
    let front = f.frame.ship ∷ given (mode_of f.frame) [] (λ (m : Id). m ∷ []) in
    let types = map (λ (i : Item). i.type) f.items in
    let wanted = each (all_results f) (wanted_ids c) in
    let named : (x : Id) → Memᴰ x (front ++ f.skills ++ types) → In (touched c f) x = λ x m.
    mem_contains x (touched c f) (Memᴰ.append_left wanted m) in
    let first : (x : Id) → Memᴰ x front → In (touched c f) x = λ x m.
    named x (Memᴰ.append_left types (Memᴰ.append_left f.skills m)) in
    record {
      ship = first _ (Memᴰ.head refl);
      mode = λ m e.
          first m (subst (λ (o : Option Id). Memᴰ m (f.frame.ship ∷ given o [] (λ (m : Id). m ∷ []))) (sym e)
          (Memᴰ.tail (Memᴰ.head refl)));
      skills = all-of f.skills (λ x m. named x (Memᴰ.append_left types (Memᴰ.append_right front m)));
      items =
          all-of f.items (λ i m. named i.type (Memᴰ.append_right (front ++ f.skills) (Memᴰ.map (λ (i : Item). i.type) m)));
      wanted =
          all-of (all_results f) λ r m. all-of (wanted_ids c r) λ x k.
          mem_contains x (touched c f) (Memᴰ.append_right (front ++ f.skills ++ types) (each-has (wanted_ids c) x m k));
    }

-- ---- walks
module _ (c : Catalogue) (ids : List Id) (r : Result) (kept : All (In ids) (wanted_ids c r)) where
  result-same : of_result (trimmed c ids) r ≡ of_result c r
  unfolding of_result demands required trimmed
  result-same = refl

  -- a skill of the order keeps its place
  later : (n d : ℕ) (t : Id) → skill_at (noted (met c r n)) n ≡ Some t → skill_at (noted (met c r (d + n))) n ≡ Some t
  unfolding met_from
  later n zero t e = ap (λ (k : ℕ). skill_at (noted (met c r k)) n) (let z : 0 + n ≡ n = omega arith in z) ∙ e
  later n (suc d) t e =
      let z : suc d + n ≡ suc (d + n) = omega arith in
      ap (λ (k : ℕ). skill_at (noted (met c r k)) n) z ∙ noted-at (met c r (d + n)) _ n t (later n d t e)

  -- those that are walked are kept
  walked-kept : (n : ℕ) (t : Id) → n ≤ 512 → skill_at (noted (met c r n)) n ≡ Some t → In ids t
  unfolding walk_within skill_at
  walked-kept n t h e =
      let d = 512 - n in
      let z : d + n ≡ 512 = omega (arith, h) in
      all-elem kept n t (ap (λ (k : ℕ). slice_get (map (λ (w : Demand). w.0) (noted (met c r k))) n) (sym z) ∙ later n d t e)

  met-same : (n : ℕ) → n ≤ 512 → met (trimmed c ids) r n ≡ met c r n
  unfolding met_from given
  met-same zero h = result-same
  met-same (suc n) h =
      ap₂ (λ (a b : List Demand). a ++ b) (met-same n (omega (arith, h)))
      (ap (λ (ds : List Demand). given (skill_at (noted ds) n) [] (of_skill (trimmed c ids))) (met-same n (omega (arith, h)))
      ∙ go (skill_at (noted (met c r n)) n) refl)
    where
      go : (o : Option Id) → skill_at (noted (met c r n)) n ≡ o → given o [] (of_skill (trimmed c ids)) ≡ given o [] (of_skill c)
      go None e = refl
      go (Some t) e = skill-same c ids t (walked-kept n t (omega (arith, h)) e)

  pub walk_same : (limit : ℕ) → limit ≤ 512 → walk_within limit (trimmed c ids) r ≡ walk_within limit c r
  unfolding walk_within
  walk_same limit h = ap noted (met-same limit h)

  pub many-same : (limit : ℕ) → limit ≤ 512 → wants_too_many limit (trimmed c ids) r ≡ wants_too_many limit c r
  unfolding wants_too_many
  many-same limit h = ap (λ (ws : List Demand). ltb limit (length ws)) (walk_same limit h)

-- ---- the list
module _ (c : Catalogue) (f : Fit) (ids : List Id) (keeps : Keeps c f ids) where
  abbrev less : Catalogue
  less = trimmed c ids

  abbrev OfItem : Item → Type 0
  OfItem i = In ids i.type

  abbrev OfResult : Result → Type 0
  OfResult r = All (In ids) (wanted_ids c r)

  pair_same : (n : ℕ) (i : Item) (r : Result) → In ids i.type → pair_of less n i r ≡ pair_of c n i r
  pair_same n i r h =
      rw (
        group-same c ids i.type h,
        category-same c ids i.type h,
        rack-same c ids i.type h,
        hardpoint-same c ids i.type h,
        volume-same c ids i.type h,
      )

  pairs-from : (n : ℕ) {is : List Item} → All OfItem is → (rs : List Result) → pairs_from less n is rs ≡ pairs_from c n is rs
  unfolding pairs_from
  pairs-from n nil rs = refl
  pairs-from n (cons h hs) [] = refl
  pairs-from n (cons {x = i} h hs) (r ∷ rs) = ap₂ (λ (p : Pair) (ps : List Pair). p ∷ ps) (pair_same n i r h) (pairs-from (suc n) hs rs)

  pub pairs-same : pairs less f ≡ pairs c f
  unfolding pairs
  pairs-same = pairs-from 0 keeps.items f.results

  context-same : context less f.frame ≡ context c f.frame
  unfolding context trimmed
  context-same = rw (group-same c ids f.frame.ship keeps.ship, category-same c ids f.frame.ship keeps.ship)

  hull : is_hull less f.frame.ship ≡ is_hull c f.frame.ship
  hull = hull_same c ids f.frame.ship keeps.ship

  modes_same : not_a_mode less (mode_of f.frame) ≡ not_a_mode c (mode_of f.frame)
  modes_same = go (mode_of f.frame) refl
    where
      go : (o : Option Id) → mode_of f.frame ≡ o → not_a_mode less o ≡ not_a_mode c o
      go None e = unfold not_a_mode ◌>>=◌ in refl
      go (Some m) e = unfold not_a_mode ◌>>=◌ in ap (λ (b : Bool). when (not b) (on_ship NotAMode)) (mode-same c ids m (keeps.mode m e))

  skills-same : {l : List Id} → All (In ids) l → not_a_skill less l ≡ not_a_skill c l
  unfolding not_a_skill each
  skills-same nil = refl
  skills-same (cons {x} h hs) =
      ap₂ (λ (a b : List Entry). a ++ b)
      (ap (λ (b : Bool). when (not b) (on_ship (NotASkill x))) (is_skill-same c ids x h)) (skills-same hs)

  types_of : (n : ℕ) {is : List Item} → All OfItem is → (rs : List Result) → All (λ (p : Pair). In ids p.type) (pairs_from c n is rs)
  unfolding pairs_from
  types_of n nil rs = nil
  types_of n (cons h hs) [] = nil
  types_of n (cons h hs) (r ∷ rs) = cons h (types_of (suc n) hs rs)

  unknown-each : {ps : List Pair} → All (λ (p : Pair). In ids p.type) ps → unknown_types less ps ≡ unknown_types c ps
  unfolding unknown_types unknown_type_at each
  unknown-each nil = refl
  unknown-each (cons {x = p} h hs) =
      ap₂ (λ (a b : List Entry). a ++ b)
      (ap (λ (b : Bool). when (not b) (on p (UnknownType p.type))) (known_same c ids p.type h)) (unknown-each hs)

  unknown-same : unknown_types less (pairs c f) ≡ unknown_types c (pairs c f)
  unfolding pairs
  unknown-same = unknown-each (types_of 0 keeps.items f.results)

  whole_same : (t : Terms) → whole_list t less f ≡ whole_list t c f
  unfolding whole_list whole_with league_with list_with on_hull
  whole_same t = rw (pairs-same, context-same, hull, modes_same, skills-same keeps.skills, unknown-same)

  pub list_same : (t : Terms) → list_for t less f ≡ list_for t c f
  unfolding list_for
  list_same t = ap (for_reader t.reader) (whole_same t)

  -- ---- each result
  at_result : (n : ℕ) (r : Result) → result_at f n ≡ Some r → All (In ids) (wanted_ids c r)
  unfolding result_at
  at_result n r e = all-elem keeps.wanted n r e

  pub over-same : (limit n : ℕ) → limit ≤ 512
      → given (result_at f n) false (wants_too_many limit less) ≡ given (result_at f n) false (wants_too_many limit c)
  over-same limit n h = go (result_at f n) (at_result n)
    where
      go : (o : Option Result) → ((r : Result) → o ≡ Some r → OfResult r)
          → given o false (wants_too_many limit less) ≡ given o false (wants_too_many limit c)
      go None k = unfold given in refl
      go (Some r) k = unfold given in many-same c ids r (k r refl) limit h

  pub skill-list_same : (n : ℕ) → skill_list less f n ≡ skill_list c f n
  unfolding skill_list
  skill-list_same n = go (result_at f n) (at_result n)
    where
      go : (o : Option Result) → ((r : Result) → o ≡ Some r → OfResult r)
          → (◌>>=◌ o λ r. reported f n (wanted_skills less r)) ≡ (◌>>=◌ o λ r. reported f n (wanted_skills c r))
      go None k = unfold ◌>>=◌ in refl
      go (Some r) k = unfold ◌>>=◌ in ap (reported f n) (walk_same c ids r (k r refl) 512 (omega arith))

  -- ---- what it touches
  wanted-same : {rs : List Result} → All OfResult rs → each rs (wanted_ids less) ≡ each rs (wanted_ids c)
  unfolding each
  wanted-same nil = refl
  wanted-same (cons {x = r} h hs) =
      ap₂ (λ (a b : List Id). a ++ b) (ap (map (λ (w : Demand). w.0)) (walk_same c ids r h 512 (omega arith))) (wanted-same hs)

  pub touched-same : touched less f ≡ touched c f
  unfolding touched
  touched-same = rw (wanted-same keeps.wanted)

  any_same : {rs : List Result} → All OfResult rs → any_of (wants_too_many 512 less) rs ≡ any_of (wants_too_many 512 c) rs
  unfolding any_of
  any_same nil = refl
  any_same (cons {x = r} h hs) = ap₂ (λ (a b : Bool). a || b) (many-same c ids r h 512 (omega arith)) (any_same hs)

  pub any-many_same : any_too_many less f ≡ any_too_many c f
  unfolding any_too_many
  any-many_same = any_same keeps.wanted
