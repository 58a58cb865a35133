-- Runs that are kept: where the next begins, that none goes on there, and the list of all that are kept.
use Prim.Native.Nat.{ℕ, zero, suc, ◌+◌, ◌-◌, ◌*◌, ◌≤◌, ◌<◌}
use native.Mathlib.Nat.{add-zero}
use native.Mathlib.Omega.{arith}
use mathlib.Core.Path.{◌≡◌, refl, sym, ap, ◌∙◌, subst}
use mathlib.Core.Bool.{Bool, true, false, cond, true≢false}
use mathlib.Core.List.{List, [], ◌∷◌, ◌++◌, append_assoc, append-nil}
use lib.Dec.{ltb}
use lib.ListN.{length, take, drop, length-append}
use lib.Signed.{mag}
use borrow.Author.Tests.{ne_eqb, eqb-false, ltb-true, ltb-false}
use Rattle.words.specs.Words.{table_from, from, only, same, contains}
use Rattle.words.proofs.Sames.{same-eq, same_not, same_refl}
use Rattle.words.proofs.Walks.{only-more, only-skip}
use Rattle.words.proofs.Tables.{only-more as one_more, length-table}
use Rattle.image.specs.Bytes.{u32_at, i32_at}
use Rattle.image.proofs.Parts.{part-i32}
use Rattle.keys.specs.Keys.{rank_of, Sorted}
use Rattle.keys.proofs.Ranks.{rank_same, signed_range}
use Rattle.marks.specs.Marks.{NextMark}
use Rattle.catalogue.specs.Catalogue.{Id}
use Rattle.catalogue.specs.Walks.{Ends}
use Rattle.trim.specs.Marked.{window, key_in, is_kept, Leads, Fresh, BlockMarked, Stretch}

id_range : (b : List ℕ) (i : ℕ) → mag (i32_at b i) < 2147483648
unfolding i32_at
id_range b i = signed_range (u32_at b i)

module _ (b : List ℕ) (at n : ℕ) (sorted : Sorted (take (4 * n) (drop at b)) n) (ids : List Id) where
  abbrev rank : ℕ → ℕ
  rank i = rank_of (key_in b at i)

  abbrev kept : ℕ → Bool
  kept i = is_kept b at ids i

  rises : (j k : ℕ) → j ≤ k → k < n → rank j ≤ rank k
  rises j k h l =
      let p = part-i32 b at (4 * n) (4 * j) (omega (arith, h, l)) in
      let q = part-i32 b at (4 * n) (4 * k) (omega (arith, l)) in
      omega (arith, sorted j k h l, ap rank_of p, ap rank_of q)

  -- a key unlike the one before it is unlike all before it
  leads_next : (k : ℕ) → suc k < n → same (key_in b at k) (key_in b at (suc k)) ≡ false → Leads b at (suc k)
  leads_next k h e j l =
      let x = id_range b (at + 4 * j) in
      let y = id_range b (at + 4 * k) in
      let z = id_range b (at + 4 * suc k) in
      let d : rank k ≡ rank (suc k) → ⊥ = eqb-false (rank k) (rank (suc k)) (sym (rank_same (key_in b at k) (key_in b at (suc k)) y z) ∙ e) in
      rank_same (key_in b at j) (key_in b at (suc k)) x z
      ∙ ne_eqb (rank j) (rank (suc k)) (λ q. d (between (rank j) (rank k) (rank (suc k)) (rises j k (omega (arith, l)) (omega (arith, h))) (rises k (suc k) (omega arith) h) q))
    where
      between : (a b c : ℕ) → a ≤ b → b ≤ c → a ≡ c → b ≡ c
      between a b c p q s = omega arith

  -- behind a record that is not kept no kept run goes on
  fresh-next : (k : ℕ) → kept k ≡ false → Fresh b at n ids (suc k)
  fresh-next k e h f = leads_next k h (go (same (key_in b at k) (key_in b at (suc k))) refl)
    where
      go : (t : Bool) → same (key_in b at k) (key_in b at (suc k)) ≡ t → t ≡ false
      go false q = refl
      go true q = absurd (true≢false (sym f ∙ ap (λ (x : Id). contains x ids) (sym (same-eq (key_in b at k) (key_in b at (suc k)) q)) ∙ e))

  -- records of which none that leads is kept
  module _ (i : ℕ) (fresh : Fresh b at n ids i) where
    skip : (d : ℕ) → i + d ≤ n → ((k : ℕ) → i ≤ k → k < i + d → Leads b at k → kept k ≡ true → ⊥)
        → ((k : ℕ) → i ≤ k → k < i + d → kept k ≡ false) × Fresh b at n ids (i + d)
    skip zero h none = ((λ k p q. absurd (omega (arith, p, q))), subst (λ (x : ℕ). Fresh b at n ids x) (sym (add-zero i)) fresh)
    skip (suc d) h none =
        let rest = skip d (omega (arith, h)) (λ k p q. none k p (omega (arith, q))) in
        let here : kept (i + d) ≡ false = last (kept (i + d)) refl rest.1 in
        let e : suc (i + d) ≡ i + suc d = omega arith in (
          (λ k p q. cases k p q rest.0 here (ltb k (i + d)) refl),
          subst (λ (x : ℕ). Fresh b at n ids x) e (fresh-next (i + d) here),
        )
      where
        last : (t : Bool) → kept (i + d) ≡ t → Fresh b at n ids (i + d) → kept (i + d) ≡ false
        last false q f = q
        last true q f = absurd (none (i + d) (omega arith) (omega arith) (f (omega (arith, h)) q) q)

        cases : (k : ℕ) → i ≤ k → k < i + suc d → ((j : ℕ) → i ≤ j → j < i + d → kept j ≡ false) → kept (i + d) ≡ false → (t : Bool)
            → ltb k (i + d) ≡ t → kept k ≡ false
        cases k p q before here true s = before k p (ltb-true k (i + d) s)
        cases k p q before here false s =
            let z : k ≡ i + d = omega (arith, q, ltb-false k (i + d) s) in
            ap kept z ∙ here

    -- up to a record
    pub passed : (f : ℕ) → i ≤ f → f ≤ n → ((k : ℕ) → i ≤ k → k < f → Leads b at k → kept k ≡ true → ⊥)
        → ((k : ℕ) → i ≤ k → k < f → kept k ≡ false) × Fresh b at n ids f
    passed f h l none =
        let e : i + (f - i) ≡ f = omega (arith, h) in
        let all = skip (f - i) (omega (arith, h, l)) (λ k p q. none k p (omega (arith, q, h))) in
        ((λ k p q. all.0 k p (omega (arith, q, h))), subst (λ (x : ℕ). Fresh b at n ids x) e all.1)

  -- a run of one key that is kept
  module _ (f last : ℕ) (id : Id) (here : key_in b at f ≡ id) (below : f < n) (ends : Ends (key_in b at) n id f last) (held : kept f ≡ true) where
    pub run_forward : f < last
    run_forward = go (ltb f last) refl
      where
        go : (t : Bool) → ltb f last ≡ t → f < last
        go true e = ltb-true f last e
        go false e =
            let z : last ≡ f = omega (arith, ltb-false f last e, ends.ordered) in
            absurd (true≢false (sym (same_refl id) ∙ ap (λ (x : Id). same x id) (sym here) ∙ ap (λ (x : ℕ). same (key_in b at x) id) (sym z) ∙ ends.beyond (omega (arith, z, below))))

    pub run_kept : (k : ℕ) → f ≤ k → k < last → kept k ≡ true
    run_kept k h l = ap (λ (x : Id). contains x ids) (same-eq (key_in b at k) id (ends.inside k h l) ∙ sym here) ∙ held

    pub run_fresh : Fresh b at n ids last
    run_fresh h e =
        let k = last - 1 in
        let s : suc k ≡ last = omega (arith, run_forward) in
        let q : key_in b at k ≡ id = same-eq (key_in b at k) id (ends.inside k (omega (arith, run_forward)) (omega (arith, run_forward))) in
        let differs : same (key_in b at k) (key_in b at (suc k)) ≡ false =
        same_not (key_in b at k) (key_in b at (suc k)) (λ z.
        true≢false (sym (same_refl id) ∙ ap (λ (x : Id). same x id) (sym q ∙ z ∙ ap (key_in b at) s) ∙ ends.beyond h)) in
        subst (Leads b at) s (leads_next k (omega (arith, s, h)) differs)

    -- behind a stretch that ends where it begins it goes on with it
    pub run_joined : (i g : ℕ) → Stretch b at n ids i g f → Stretch b at n ids i g last
    run_joined i g s = record {
      ordered = s.ordered;
      forward = omega (arith, s.forward, ends.ordered);
      onward = omega (arith, s.onward, ends.ordered);
      within = ends.within;
      skipped = s.skipped;
      taken = λ k p q. either k p q (ltb k f) refl;
      fresh = run_fresh;
    }
      where
        either : (k : ℕ) → g ≤ k → k < last → (t : Bool) → ltb k f ≡ t → kept k ≡ true
        either k p q true e = s.taken k p (ltb-true k f e)
        either k p q false e = run_kept k (ltb-false k f e) q

  -- ---- from record i on, as far as a window shows, which ends at its place `end`
  module _ (first low i end : ℕ) (m : List ℕ) (marked : BlockMarked b at n first ids low m) (fresh : Fresh b at n ids i)
      (from_low : low ≤ first + i) (before-end : first + i < low + end) (in_window : end ≤ window) (in_block : low + end ≤ first + n)
      (p : ℕ) (next : NextMark m (first + i - low) end p) where
    -- the record at the place that is next
    abbrev pub found : ℕ
    found = low + p - first

    pub found_after : i ≤ found
    found_after = omega (arith, next.ordered, from_low)

    pub found_within : found ≤ n
    found_within = omega (arith, next.within, in_block)

    unmarked : (k : ℕ) → i ≤ k → k < found → Leads b at k → kept k ≡ true → ⊥
    unmarked k h l leads e =
        let j = first + k - low in
        let q : first + k ≡ low + j = omega (arith, from_low, h) in
        let free = next.none j (omega (arith, from_low, h)) (omega (arith, l, from_low, h)) in
        let w : j < window = omega (arith, l, from_low, h, in_window, next.within) in
        true≢false (sym (marked.whole k j (omega (arith, l, found_within)) w q leads e) ∙ free)

    abbrev all : ((k : ℕ) → i ≤ k → k < found → kept k ≡ false) × Fresh b at n ids found
    all = passed i fresh found found_after found_within unmarked

    -- none is marked
    pub none-next : p ≡ end → Stretch b at n ids i found found
    none-next e = record {
      ordered = found_after;
      forward = omega arith;
      onward = omega (arith, e, before-end);
      within = found_within;
      skipped = all.0;
      taken = λ k h l. absurd (omega (arith, h, l));
      fresh = all.1;
    }

    pub found_below : p < end → found < n
    found_below h = omega (arith, h, in_block, from_low, next.ordered)

    pub found-kept : p < end → kept found ≡ true
    found-kept h =
        let q : first + found ≡ low + p = omega (arith, next.ordered, from_low) in
        marked.sound found p (found_below h) (omega (arith, h, in_window)) q (next.here h)

    -- one is, and its run follows
    pub run_next : p < end → (last : ℕ) (id : Id) → key_in b at found ≡ id → Ends (key_in b at) n id found last → Stretch b at n ids i found last
    run_next h last id here ends =
        let f = run_forward found last id here (found_below h) ends (found-kept h) in
        record {
          ordered = found_after;
          forward = ends.ordered;
          onward = omega (arith, f, found_after);
          within = ends.within;
          skipped = all.0;
          taken = run_kept found last id here (found_below h) ends (found-kept h);
          fresh = run_fresh found last id here (found_below h) ends (found-kept h);
        }

-- ---- the list of what is kept
only-few : (p : ℕ → Bool) (l : List ℕ) → length (only p l) ≤ length l
unfolding only
only-few p [] = omega arith
only-few p (x ∷ l) = go (p x) (only-few p l)
  where
    go : (t : Bool) → length (only p l) ≤ length l → length (cond t (x ∷ only p l) (only p l)) ≤ suc (length l)
    go true h = omega (arith, h)
    go false h = omega (arith, h)

from_more : (i d : ℕ) → from i (suc d) ≡ from i d ++ ((i + d) ∷ [])
unfolding table_from
from_more i zero = ap (λ (k : ℕ). k ∷ []) (sym (add-zero i))
from_more i (suc d) =
    let q : suc i + d ≡ i + suc d = omega arith in
    ap (λ (l : List ℕ). i ∷ l) (from_more (suc i) d ∙ ap (λ (k : ℕ). from (suc i) d ++ (k ∷ [])) q)

-- elements that pass are all there
only-run : (p : ℕ → Bool) (f d : ℕ) → ((k : ℕ) → f ≤ k → k < f + d → p k ≡ true) → only p (from 0 (f + d)) ≡ only p (from 0 f) ++ from f d
unfolding table_from
only-run p f zero h = ap (λ (k : ℕ). only p (from 0 k)) (add-zero f) ∙ sym (append-nil (only p (from 0 f)))
only-run p f (suc d) h =
    let e : f + suc d ≡ f + d + 1 = omega arith in
    ap (λ (k : ℕ). only p (from 0 k)) e ∙ only-more (λ k. k) p (f + d) (h (f + d) (omega arith) (omega arith))
    ∙ ap (λ (l : List ℕ). l ++ ((f + d) ∷ [])) (only-run p f d (λ k a b. h k a (omega (arith, b))))
    ∙ append_assoc (only p (from 0 f)) (from f d) ((f + d) ∷ [])
    ∙ ap (λ (l : List ℕ). only p (from 0 f) ++ l) (sym (from_more f d))

module _ (b : List ℕ) (at : ℕ) (ids : List Id) where
  -- those of the first i records that are kept
  abbrev pub kept_to : ℕ → List ℕ
  kept_to i = only (is_kept b at ids) (from 0 i)

  pub stretch_kept : (n i f l : ℕ) → Stretch b at n ids i f l → kept_to l ≡ kept_to i ++ from f (l - f)
  stretch_kept n i f l s =
      let e : f + (l - f) ≡ l = omega (arith, s.forward) in
      ap kept_to (sym e)
      ∙ only-run (is_kept b at ids) f (l - f) (λ k p q. s.taken k p (omega (arith, q, s.forward)))
      ∙ ap (λ (x : List ℕ). x ++ from f (l - f)) (only-skip (λ k. k) (is_kept b at ids) i f s.ordered s.skipped)

  pub stretch_count : (n i f l : ℕ) → Stretch b at n ids i f l → length (kept_to l) ≡ length (kept_to i) + (l - f)
  stretch_count n i f l s =
      ap length (stretch_kept n i f l s) ∙ length-append (kept_to i) (from f (l - f))
      ∙ ap (λ (k : ℕ). length (kept_to i) + k) (length-table f (l - f) (λ k. k))

  pub kept-none : kept_to 0 ≡ []
  unfolding table_from only
  kept-none = refl

  grows_by : (i d : ℕ) → length (kept_to i) ≤ length (kept_to (i + d))
  grows_by i zero = let e : length (kept_to (i + 0)) ≡ length (kept_to i) = ap (λ (k : ℕ). length (kept_to k)) (add-zero i) in omega (arith, e)
  grows_by i (suc d) =
      let e : i + suc d ≡ i + d + 1 = omega arith in
      let more = ap (λ (k : ℕ). length (kept_to k)) e ∙ ap length (one_more (λ k. k) (is_kept b at ids) (i + d))
      ∙ length-append (kept_to (i + d)) (cond (is_kept b at ids (i + d)) ((i + d) ∷ []) []) in
      omega (arith, more, grows_by i d)

  pub kept-grows : (i n : ℕ) → i ≤ n → length (kept_to i) ≤ length (kept_to n)
  kept-grows i n h =
      let e : i + (n - i) ≡ n = omega (arith, h) in
      omega (arith, grows_by i (n - i), ap (λ (k : ℕ). length (kept_to k)) e)

  pub kept-few : (i : ℕ) → length (kept_to i) ≤ i
  kept-few i = omega (arith, only-few (is_kept b at ids) (from 0 i), length-table 0 i (λ k. k))
