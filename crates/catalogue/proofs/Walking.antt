-- Links and bases: the run of one type, its marks in order, its first value of an attribute.
use Prim.Native.Nat.{ℕ, ◌+◌, ◌-◌, ◌*◌, ◌≤◌, ◌<◌}
use native.Mathlib.Omega.{arith}
use mathlib.Core.Path.{◌≡◌, refl, sym, ap, ◌∙◌}
use mathlib.Core.Bool.{Bool, true, false, and-false}
use mathlib.Core.List.{List, [], ◌∷◌, ◌++◌, foldl, foldl-append, append-nil}
use Rattle.std.specs.Prelude.{Option, None, Some}
use lib.ListN.{take, drop}
use lib.Dec.{leb}
use lib.IntN.{ℤ}
use lib.Signed.{mag}
use borrow.Author.Tests.{le-leb, lt-leb}
use Rattle.words.specs.Words.{table, each, only, given, same}
use Rattle.words.proofs.Steps.{each_append}
use Rattle.words.proofs.Walks.{only_none, only-more, only-skip, find-done, find-turn, find-run}
use Rattle.image.specs.Bytes.{i32_at}
use Rattle.image.proofs.Parts.{part-i32}
use Rattle.keys.specs.Keys.{key_at, Sorted, Parts}
use Rattle.keys.proofs.Orders.{before-differs, after-differs}
use Rattle.catalogue.specs.Catalogue.{Id, Link, Base, catalogue_of, links_at, link_count, link_at, base_count, base_at}
use Rattle.catalogue.specs.Lookups.{marks, last_mark, base_value}
use Rattle.catalogue.specs.Walks.{Run, Ends, SpanOf, span_value, marked, link_marks}
use Rattle.catalogue.specs.declared.Span.{Span}
use Rattle.catalogue.specs.Sound.{Sound}
use Rattle.catalogue.proofs.Reading.{links-sorted}

-- ---- one more mark
module _ (low high : ℕ) (found : Option ℕ) (m : ℕ) where
  pub marked-low : m < low → found ≡ marked low high found m
  marked-low h = rw (lt-leb low m h)

  pub marked-high : high < m → found ≡ marked low high found m
  marked-high h = rw (lt-leb m high h, and-false (leb low m))

  pub marked-in : low ≤ m → m ≤ high → Some (m - 1) ≡ marked low high found m
  marked-in g h = rw (le-leb low m g, le-leb m high h)

-- ---- the keys of a block that are an id, from the first that is not under it on
module _ (b : List ℕ) (at n : ℕ) (id : ℤ) (range : mag id < 2147483648) (r : ℕ) (parts : Parts (take (4 * n) (drop at b)) n id r) where
  key : (k : ℕ) → k < n → key_at (take (4 * n) (drop at b)) k ≡ i32_at b (at + 4 * k)
  key k h = part-i32 b at (4 * n) (4 * k) (omega (arith, h))

  pub none_before : (k : ℕ) → k < r → same (i32_at b (at + 4 * k)) id ≡ false
  none_before k h = rw (← key k (omega (arith, h, parts.within))) (before-differs _ n id range r parts k h)

  pub none_after : Sorted (take (4 * n) (drop at b)) n → (i : ℕ) → r ≤ i → (i < n → same (i32_at b (at + 4 * i)) id ≡ false) → (k : ℕ) → i ≤ k
      → k < n → same (i32_at b (at + 4 * k)) id ≡ false
  none_after sorted i l e k h g =
      rw (← key k g) (after-differs _ n id range r parts sorted i k l (ap (λ (z : ℤ). same z id) (key i (omega arith)) ∙ e (omega arith)) h g)

  pub run_of : Sorted (take (4 * n) (drop at b)) n → (last : ℕ) → Ends (λ k. i32_at b (at + 4 * k)) n id r last → Run (λ k. i32_at b (at + 4 * k)) n id r last
  run_of sorted last ends = record {
    ordered = ends.ordered;
    within = ends.within;
    before = none_before;
    inside = ends.inside;
    after = none_after sorted last ends.ordered ends.beyond;
  }

-- ---- the marks of a type
module _ (b : List ℕ) (t : Id) where
  -- those of the first i links
  abbrev pub marks_to : ℕ → List ℕ
  marks_to i = each (only (λ x. same x.type t) (table i (link_at b))) (link_marks (catalogue_of b))

  marks-all : marks (catalogue_of b) t ≡ marks_to (link_count b)
  unfolding marks catalogue_of
  marks-all = refl

  module _ (low high : ℕ) where
    -- the last mark from low to high of the first i links
    abbrev pub last_to : ℕ → Option ℕ
    last_to i = foldl (marked low high) None (marks_to i)

    pub last_none : (i : ℕ) → ((k : ℕ) → k < i → same (link_at b k).type t ≡ false) → None ≡ last_to i
    unfolding each
    last_none i e =
        sym (ap (λ (l : List Link). foldl (marked low high) None (each l (link_marks (catalogue_of b))))
        (only-skip (link_at b) (λ x. same x.type t) 0 i (omega arith) (λ k a h. e k h) ∙ only_none (link_at b) (λ x. same x.type t)))

    pub last_more : (i : ℕ) → same (link_at b i).type t ≡ true → last_to (i + 1) ≡ foldl (marked low high) (last_to i) (link_marks (catalogue_of b) (link_at b i))
    unfolding each
    last_more i e =
        let f = link_at b in
        let g = link_marks (catalogue_of b) in
        let p : Link → Bool = λ x. same x.type t in
        ap (foldl (marked low high) None)
        (ap (λ (l : List Link). each l g) (only-more f p i e) ∙ each_append g (only p (table i f)) (f i ∷ []) ∙ ap (λ (l : List ℕ). marks_to i ++ l)
        (append-nil (g (f i))))
        ∙ foldl-append (marked low high) None (marks_to i) (g (f i))

    pub last-all : (i : ℕ) → i ≤ link_count b → ((k : ℕ) → i ≤ k → k < link_count b → same (link_at b k).type t ≡ false)
        → last_to i ≡ last_mark (catalogue_of b) low high t
    unfolding last_mark
    last-all i h e =
        ap (λ (l : List Link). foldl (marked low high) None (each l (link_marks (catalogue_of b))))
        (sym (only-skip (link_at b) (λ x. same x.type t) i (link_count b) h e))
        ∙ ap (foldl (marked low high) None) (sym marks-all)

-- the links of a type, from where the search of its block ends on
module _ (b : List ℕ) (sound : Sound b) (t : Id) (range : mag t < 2147483648) (r : ℕ)
    (parts : Parts (take (4 * link_count b) (drop (links_at b) b)) (link_count b) t r) (low high : ℕ) where
  -- none stands before it
  pub none_found : None ≡ last_to b t low high r
  none_found = last_none b t low high r (none_before b (links_at b) (link_count b) t range r parts)

  -- and where one of another type stands behind it, or none, all are found
  pub all_found : (i : ℕ) → r ≤ i → i ≤ link_count b → (i < link_count b → same (link_at b i).type t ≡ false)
      → last_to b t low high i ≡ last_mark (catalogue_of b) low high t
  all_found i l h e = last-all b t low high i h (none_after b (links_at b) (link_count b) t range r parts (links-sorted b sound) i l e)

-- ---- the base values of a type
module _ (b : List ℕ) (i last : ℕ) (a : Id) where
  pub span_none : last ≤ i → None ≡ span_value b i last a
  unfolding span_value given
  span_none h = rw (find-done (base_at b) (λ x. same x.attribute a) i last h)

  pub span_here : i < last → same (base_at b i).attribute a ≡ true → span_value b i last a ≡ Some (base_at b i).value
  unfolding span_value given
  span_here h e = rw (find-turn (base_at b) (λ x. same x.attribute a) i last h, e)

  pub span_next : i < last → same (base_at b i).attribute a ≡ false → span_value b i last a ≡ span_value b (i + 1) last a
  unfolding span_value given
  span_next h e = rw (find-turn (base_at b) (λ x. same x.attribute a) i last h, e)

pub span_value_lem : (b : List ℕ) (t a : Id) (s : Span) → SpanOf b t s → span_value b s.from s.to a ≡ base_value (catalogue_of b) t a
unfolding span_value base_value catalogue_of
span_value_lem b t a s run =
    ap (λ (o : Option Base). given o None (λ x. Some x.value))
    (sym (find-run (base_at b) (λ x. same x.type t) (λ x. same x.attribute a) s.from s.to (base_count b) run.ordered run.within
    run.before run.inside run.after))
