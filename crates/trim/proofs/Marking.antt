-- Marks of a window: what marking the first record under an id does to each block.
use Prim.Native.Nat.{ℕ, zero, suc, ◌+◌, ◌-◌, ◌*◌, ◌≤◌, ◌<◌, min}
use native.Mathlib.Omega.{arith}
use mathlib.Core.Path.{◌≡◌, refl, sym, ap, ap₂, ◌∙◌, subst}
use mathlib.Core.Bool.{Bool, true, false, ◌||◌, cond, true≢false}
use mathlib.Core.List.{List, [], ◌∷◌, ◌++◌, append-nil, append_assoc}
use mathlib.Core.Logic.{◌⊎◌, inl, inr, ⊎_elim}
use Rattle.std.specs.Prelude.{Option, None, Some}
use lib.Dec.{eqb}
use lib.IntN.{pos}
use lib.ListN.{length, get_or, take, drop}
use lib.Seq.{take-suc}
use Rattle.std.proofs.lemmas.List.{ext_get_or}
use Rattle.std.proofs.lemmas.Bool.{cases_lt}
use borrow.Author.Tests.{eq-eqb, ne_eqb, eqb-true, eqb-false}
use Rattle.words.specs.Words.{table_from, table, from, find, given, any_of, same, contains}
use Rattle.words.proofs.Sames.{same-eq}
use Rattle.words.proofs.Tables.{length-table, get_or-table, any-more, any_none, any_false, find_at, find-below}
use Rattle.keys.specs.Keys.{Parts, place_of}
use Rattle.keys.proofs.Parts.{place-alike}
use Rattle.marks.specs.Marks.{is_marked}
use Rattle.catalogue.specs.Catalogue.{Id, type_count, link_count, base_count, types_at, links_at, bases_at}
use Rattle.catalogue.proofs.Tables.{find-part}
use Rattle.trim.specs.Marked.{window, key_in, is_kept, Leads, leads_at, BlockMarked, Marked}
use Rattle.trim.specs.Parts.{at_of, size_of, first_of, leads_in, Under}
use Rattle.trim.specs.Windows.{MarkedAt, MarkedMore}
use Rattle.trim.specs.declared.part.Part.{Part}
use Rattle.trim.specs.declared.part.Part.TheVariants.{Types, Links, Bases}
use Rattle.trim.specs.declared.window.Window.{Window}

-- ---- either of two
or_cases : (a b : Bool) → a || b ≡ true → (a ≡ true) ⊎ (b ≡ true)
or_cases true b e = inl refl
or_cases false b e = inr e

or_first : (a b : Bool) → a ≡ true → a || b ≡ true
or_first a b e = ap (λ (x : Bool). x || b) e

or_second : (a b : Bool) → b ≡ true → a || b ≡ true
or_second true b e = refl
or_second false b e = e

or_none : (a : Bool) → a || false ≡ a
or_none true = refl
or_none false = refl

pub or_kept : (a t : Bool) → t ≡ false → a ≡ a || t
or_kept a t e = sym (ap (λ (x : Bool). a || x) e ∙ or_none a)

-- ---- a place and the window from `low` on
pub place-there : (place low j : ℕ) → low ≤ place → eqb (place - low) j ≡ eqb place (low + j)
place-there place low j h = go (eqb place (low + j)) refl
  where
    go : (t : Bool) → eqb place (low + j) ≡ t → eqb (place - low) j ≡ t
    go true e = eq-eqb (place - low) j (omega (arith, eqb-true place (low + j) e))
    go false e = ne_eqb (place - low) j (λ q. eqb-false place (low + j) e (omega (arith, q, h)))

pub place-elsewhere : (m : List ℕ) (place low j : ℕ) → (place ≡ low + j → ⊥) → is_marked m j ≡ is_marked m j || eqb place (low + j)
place-elsewhere m place low j h = or_kept (is_marked m j) (eqb place (low + j)) (ne_eqb place (low + j) h)

-- ---- ids of two lists
pub contains-append : (x : Id) (l m : List Id) → contains x (l ++ m) ≡ contains x l || contains x m
unfolding contains any_of
contains-append x [] m = refl
contains-append x (y ∷ l) m =
    ap (λ (t : Bool). same x y || t) (contains-append x l m) ∙ sym (or_assoc (same x y) (contains x l) (contains x m))
  where
    or_assoc : (a b c : Bool) → (a || b) || c ≡ a || (b || c)
    or_assoc true b c = refl
    or_assoc false b c = refl

contains-one : (x id : Id) → contains x (id ∷ []) ≡ same x id
unfolding contains any_of
contains-one x id = or_none (same x id)

contains-more : (x : Id) (l : List Id) (id : Id) → contains x (l ++ (id ∷ [])) ≡ contains x l || same x id
contains-more x l id = contains-append x l (id ∷ []) ∙ ap (λ (t : Bool). contains x l || t) (contains-one x id)

-- ---- what a search finds passes
found-passes : (t : ℕ → Bool) (i n r : ℕ) → find t (from i n) ≡ Some r → t r ≡ true
unfolding table_from find
found-passes t i zero r e = absurd (let z : ◌≡◌ {A = ℕ} 0 1 = cc in omega arith)
found-passes t i (suc n) r e = go (t i) refl e (found-passes t (suc i) n r)
  where
    go : (b : Bool) → t i ≡ b → cond b (Some i) (find t (from (suc i) n)) ≡ Some r
        → (find t (from (suc i) n) ≡ Some r → t r ≡ true) → t r ≡ true
    go true p q h = let z : i ≡ r = cc in ap t (sym z) ∙ p
    go false p q h = h q

module _ (b : List ℕ) (at n first : ℕ) (id : Id) where
  -- what a search says
  pub lead_at : (i p : ℕ) → find (λ k. same (key_in b at k) id) (from 0 n) ≡ Some i → leads_at b at n first id p ≡ eqb (first + i) p
  unfolding leads_at given
  lead_at i p e = ap (λ (o : Option ℕ). given o false (λ k. eqb (first + k) p)) e

  pub lead_none : (p : ℕ) → find (λ k. same (key_in b at k) id) (from 0 n) ≡ None → leads_at b at n first id p ≡ false
  unfolding leads_at given
  lead_none p e = ap (λ (o : Option ℕ). given o false (λ k. eqb (first + k) p)) e

  -- a record that is found is under the id
  lead_same : (i p : ℕ) → first + i ≡ p → leads_at b at n first id p ≡ true → same (key_in b at i) id ≡ true
  unfolding leads_at given
  lead_same i p e h = go (find (λ k. same (key_in b at k) id) (from 0 n)) refl h
    where
      go : (o : Option ℕ) → find (λ k. same (key_in b at k) id) (from 0 n) ≡ o → given o false (λ k. eqb (first + k) p) ≡ true
          → same (key_in b at i) id ≡ true
      go None q k = absurd (true≢false (sym k))
      go (Some r) q k =
          let s : first + r ≡ p = eqb-true (first + r) p k in
          let z : r ≡ i = omega (arith, e, s) in
          ap (λ (x : ℕ). same (key_in b at x) id) (sym z) ∙ found-passes (λ k. same (key_in b at k) id) 0 n r q

  -- the first record under the id is found
  lead_found : (i p : ℕ) → i < n → first + i ≡ p → Leads b at i → same (key_in b at i) id ≡ true → leads_at b at n first id p ≡ true
  unfolding leads_at given
  lead_found i p h e leads s =
      let k : key_in b at i ≡ id = same-eq (key_in b at i) id s in
      let before : (j : ℕ) → j < i → same (key_in b at j) id ≡ false = λ j l. ap (same (key_in b at j)) (sym k) ∙ leads j l in
      ap (λ (o : Option ℕ). given o false (λ x. eqb (first + x) p)) (find_at (λ x. same (key_in b at x) id) n (λ x. x) i h before s)
      ∙ eq-eqb (first + i) p e

  -- no place of another block is
  lead_else : (p : ℕ) → ((r : ℕ) → r < n → first + r ≡ p → ⊥) → leads_at b at n first id p ≡ false
  unfolding leads_at given
  lead_else p apart = go (find (λ k. same (key_in b at k) id) (from 0 n)) refl
    where
      go : (o : Option ℕ) → find (λ k. same (key_in b at k) id) (from 0 n) ≡ o → given o false (λ k. eqb (first + k) p) ≡ false
      go None q = refl
      go (Some r) q = ne_eqb (first + r) p (apart r (find-below (λ k. same (key_in b at k) id) n r q))

-- of a part: what a search among its keys says
module _ (b : List ℕ) (p : Part) (id : Id) {keys : List ℕ} {n : ℕ} {z : Id} {o : Option ℕ} (e : o ≡ place_of keys n z)
    (q : keys ≡ take (4 * size_of b p) (drop (at_of b p) b)) (r : n ≡ size_of b p) (s : z ≡ id) where
  searched : o ≡ find (λ k. same (key_in b (at_of b p) k) id) (from 0 (size_of b p))
  searched = e ∙ place-alike _ _ _ _ q r _ _ s ∙ find-part b (at_of b p) (size_of b p) id

  pub part-lead : (i first place : ℕ) → o ≡ Some i → first ≡ first_of b p → eqb (first + i) place ≡ leads_in b p id place
  part-lead i first place h f =
      ap (λ (k : ℕ). eqb (k + i) place) f
      ∙ sym (lead_at b (at_of b p) (size_of b p) (first_of b p) id i place (sym searched ∙ h))

  pub part-leads-none : (place : ℕ) → o ≡ None → leads_in b p id place ≡ false
  part-leads-none place h = lead_none b (at_of b p) (size_of b p) (first_of b p) id place (sym searched ∙ h)

-- what is said of the keys of a part is said of its block
pub under_in : (b c : List ℕ) (p : Part) (x y : Id) (r : ℕ) {keys : List ℕ} {n : ℕ} → Parts keys n x r
    → keys ≡ take (4 * size_of b p) (drop (at_of b p) b) → n ≡ size_of b p → x ≡ y → b ≡ c → Under c p y r
under_in b c p x y r {keys = keys} {n = n} h k m e q =
    let block = take (4 * size_of b p) (drop (at_of b p) b) in
    subst (λ (i : List ℕ). Under i p y r) q
    (subst (λ (z : Id). Under b p z r) e
    (subst (λ (i : ℕ). Parts block i x r) m (subst (λ (l : List ℕ). Parts l n x r) k h)))

-- the block itself
pub marked_more : (b : List ℕ) (at n first : ℕ) (ids : List Id) (low : ℕ) (m m' : List ℕ) (id : Id)
    → ((j : ℕ) → j < window → is_marked m' j ≡ is_marked m j || leads_at b at n first id (low + j))
    → BlockMarked b at n first ids low m → BlockMarked b at n first (ids ++ (id ∷ [])) low m'
marked_more b at n first ids low m m' id effect h = record {
  sound = λ i j l w e k.
      contains-more (key_in b at i) ids id
      ∙ ⊎_elim
      (λ (a : is_marked m j ≡ true). or_first (is_kept b at ids i) (same (key_in b at i) id) (h.sound i j l w e a))
      (λ (a : leads_at b at n first id (low + j) ≡ true).
      or_second (is_kept b at ids i) (same (key_in b at i) id) (lead_same b at n first id i (low + j) e a))
      (or_cases (is_marked m j) (leads_at b at n first id (low + j)) (sym (effect j w) ∙ k));
  whole = λ i j l w e leads k.
      effect j w
      ∙ ⊎_elim
      (λ (a : is_kept b at ids i ≡ true). or_first (is_marked m j) (leads_at b at n first id (low + j)) (h.whole i j l w e leads a))
      (λ (a : same (key_in b at i) id ≡ true).
      or_second (is_marked m j) (leads_at b at n first id (low + j)) (lead_found b at n first id i (low + j) l e leads a))
      (or_cases (is_kept b at ids i) (same (key_in b at i) id) (sym (contains-more (key_in b at i) ids id) ∙ k));
}

-- another block, whose records stand elsewhere
pub marked-else : (b : List ℕ) (at n first : ℕ) (ids : List Id) (low : ℕ) (m m' : List ℕ) (at' n' first' : ℕ) (id : Id)
    → ((j : ℕ) → j < window → is_marked m' j ≡ is_marked m j || leads_at b at' n' first' id (low + j))
    → ((i r : ℕ) → i < n → r < n' → first' + r ≡ first + i → ⊥)
    → BlockMarked b at n first ids low m → BlockMarked b at n first ids low m'
marked-else b at n first ids low m m' at' n' first' id effect apart h = record {
  sound = λ i j l w e k. h.sound i j l w e (sym (same-marks i j l w e) ∙ k);
  whole = λ i j l w e leads k. same-marks i j l w e ∙ h.whole i j l w e leads k;
}
  where
    same-marks : (i j : ℕ) → i < n → j < window → first + i ≡ low + j → is_marked m' j ≡ is_marked m j
    same-marks i j l w e =
        effect j w
        ∙ ap (λ (t : Bool). is_marked m j || t) (lead_else b at' n' first' id (low + j) (λ r q s. apart i r l q (s ∙ sym e)))
        ∙ or_none (is_marked m j)

-- all three, one after the other
pub marked_three : (b : List ℕ) (id : Id) (low : ℕ) (m m₁ m₂ m₃ : List ℕ)
    → ((j : ℕ) → j < window → is_marked m₁ j ≡ is_marked m j || leads_at b (types_at b) (type_count b) 0 id (low + j))
    → ((j : ℕ) → j < window → is_marked m₂ j ≡ is_marked m₁ j || leads_at b (links_at b) (link_count b) (type_count b) id (low + j))
    → ((j : ℕ) → j < window → is_marked m₃ j ≡ is_marked m₂ j
    || leads_at b (bases_at b) (base_count b) (type_count b + link_count b) id (low + j))
    → (ids : List Id) → Marked b ids low m → Marked b (ids ++ (id ∷ [])) low m₃
marked_three b id low m m₁ m₂ m₃ t l s ids h =
    let T = type_count b in
    let L = link_count b in
    let B = base_count b in
    let more = ids ++ (id ∷ []) in
    record {
      types =
          marked-else b (types_at b) T 0 more low m₂ m₃ (bases_at b) B (T + L) id s (λ i r p q e. omega (arith, p, e))
          (marked-else b (types_at b) T 0 more low m₁ m₂ (links_at b) L T id l (λ i r p q e. omega (arith, p, e))
          (marked_more b (types_at b) T 0 ids low m m₁ id t h.types));
      links =
          marked-else b (links_at b) L T more low m₂ m₃ (bases_at b) B (T + L) id s (λ i r p q e. omega (arith, p, e))
          (marked_more b (links_at b) L T ids low m₁ m₂ id l
          (marked-else b (links_at b) L T ids low m m₁ (types_at b) T 0 id t (λ i r p q e. omega (arith, q, e)) h.links));
      bases =
          marked_more b (bases_at b) B (T + L) ids low m₂ m₃ id s
          (marked-else b (bases_at b) B (T + L) ids low m₁ m₂ (links_at b) L T id l (λ i r p q e. omega (arith, q, e))
          (marked-else b (bases_at b) B (T + L) ids low m m₁ (types_at b) T 0 id t (λ i r p q e. omega (arith, q, e)) h.bases));
    }

contains-none : (x : Id) → contains x [] ≡ false
unfolding contains any_of
contains-none x = refl

-- no marks for no ids
pub marked-none : (b : List ℕ) (low : ℕ) (m : List ℕ) → ((j : ℕ) → is_marked m j ≡ false) → Marked b [] low m
marked-none b low m bare = record {
  types = block (types_at b) (type_count b) 0;
  links = block (links_at b) (link_count b) (type_count b);
  bases = block (bases_at b) (base_count b) (type_count b + link_count b);
}
  where
    block : (at n first : ℕ) → BlockMarked b at n first [] low m
    block at n first = record {
      sound = λ i j l w e k. absurd (true≢false (sym k ∙ bare j));
      whole = λ i j l w e leads k. absurd (true≢false (sym k ∙ contains-none (key_in b at i)));
    }

-- the marks of each block are those of its part
pub marked-part : (b : List ℕ) (ids : List Id) (low : ℕ) (m : List ℕ) → Marked b ids low m
    → (p : Part) → BlockMarked b (at_of b p) (size_of b p) (first_of b p) ids low m
unfolding at_of size_of first_of
marked-part b ids low m h Types = h.types
marked-part b ids low m h Links = h.links
marked-part b ids low m h Bases = h.bases

-- marks for ids are those for others that are the same set
pub marked-alike : (b : List ℕ) (is js : List Id) (low : ℕ) (m : List ℕ) → ((x : Id) → contains x is ≡ contains x js)
    → Marked b is low m → Marked b js low m
marked-alike b is js low m e h = record {
  types = block (types_at b) (type_count b) 0 h.types;
  links = block (links_at b) (link_count b) (type_count b) h.links;
  bases = block (bases_at b) (base_count b) (type_count b + link_count b) h.bases;
}
  where
    block : (at n first : ℕ) → BlockMarked b at n first is low m → BlockMarked b at n first js low m
    block at n first k = record {
      sound = λ i j l w p q. sym (e (key_in b at i)) ∙ k.sound i j l w p q;
      whole = λ i j l w p leads q. k.whole i j l w p leads (e (key_in b at i) ∙ q);
    }

-- ---- windows
-- the same image and the same place
pub marked_moved : (b b' : List ℕ) (ids : List Id) (low low' : ℕ) (m : List ℕ) → b ≡ b' → low ≡ low'
    → Marked b ids low m → Marked b' ids low' m
marked_moved b b' ids low low' m e q h = subst (λ (x : List ℕ). Marked x ids low' m) e (subst (λ (k : ℕ). Marked b ids k m) q h)

-- nothing done
pub more-none : (v w : Window) → w.catalogue.now ≡ v.catalogue.now → w.low ≡ v.low → w.marks.now ≡ v.marks.now → MarkedMore v w []
more-none v w c l e = record {
  catalogue = c;
  low = l;
  marks = λ others h.
      subst (λ (is : List Id). Marked v.catalogue.now is v.low w.marks.now) (sym (append-nil others))
      (subst (Marked v.catalogue.now others v.low) (sym e) h);
}

-- one after the other
pub more-more : (u v w : Window) (is js : List Id) → MarkedMore u v is → MarkedMore v w js → MarkedMore u w (is ++ js)
more-more u v w is js h k = record {
  catalogue = k.catalogue ∙ h.catalogue;
  low = k.low ∙ h.low;
  marks = λ others m.
      let before = marked_moved u.catalogue.now v.catalogue.now (others ++ is) u.low v.low v.marks.now
      (sym h.catalogue) (sym h.low) (h.marks others m) in
      let after = marked_moved v.catalogue.now u.catalogue.now ((others ++ is) ++ js) v.low u.low w.marks.now
      h.catalogue h.low (k.marks (others ++ is) before) in
      subst (λ (l : List Id). Marked u.catalogue.now l u.low w.marks.now) (append_assoc others is js) after;
}

-- of the same ids
pub more-same : (v w : Window) (is js : List Id) → is ≡ js → MarkedMore v w is → MarkedMore v w js
more-same v w is js e h = subst (MarkedMore v w) e h

-- one more of a list of ids
pub more-next : (t u v : Window) (ids : List Id) (j : ℕ) (id : Id) → j < length ids → MarkedMore t u (take j ids)
    → MarkedMore u v (id ∷ []) → id ≡ get_or ids j (pos 0) → MarkedMore t v (take (j + 1) ids)
more-next t u v ids j id h s m e =
    let next : suc j ≡ j + 1 = omega arith in
    more-same t v _ _
    (ap (λ (x : Id). take j ids ++ (x ∷ [])) e ∙ sym (take-suc ids j (pos 0) h) ∙ ap (λ (k : ℕ). take k ids) next)
    (more-more t u v _ _ s m)

-- of the same set of ids
pub more-alike : (v w : Window) (is js : List Id) → ((x : Id) → contains x is ≡ contains x js) → MarkedMore v w is → MarkedMore v w js
more-alike v w is js e h = record {
  catalogue = h.catalogue;
  low = h.low;
  marks = λ others m.
      marked-alike v.catalogue.now (others ++ is) (others ++ js) v.low w.marks.now
      (λ x.
      contains-append x others is ∙ ap (λ (t : Bool). contains x others || t) (e x) ∙ sym (contains-append x others js)) (h.marks others m);
}

-- ---- some of n ids, from one on, and the last again where fewer are left
none-among : (x : Id) (n : ℕ) (f : ℕ → Id) → ((j : ℕ) → j < n → same x (f j) ≡ false) → contains x (table n f) ≡ false
unfolding contains
none-among x zero f h = any_none (same x) f
none-among x (suc n) f h =
    let next : n + 1 ≡ suc n = omega arith in
    subst (λ (k : ℕ). contains x (table k f) ≡ false) next
    (any-more (same x) n f ∙ ap₂ ◌||◌ (none-among x n f (λ j q. h j (omega (arith, q)))) (h n (omega arith)))

each-other : (x : Id) (n : ℕ) (f : ℕ → Id) → contains x (table n f) ≡ false → (j : ℕ) → j < n → same x (f j) ≡ false
unfolding contains
each-other x n f e = any_false (same x) n f e

both_false : (a b : Bool) → a || b ≡ false → (a ≡ false) × (b ≡ false)
both_false false b e = (refl, e)
both_false true b e = absurd (true≢false e)

agree : (a b : Bool) → (a ≡ false → b ≡ false) → (b ≡ false → a ≡ false) → a ≡ b
agree false b h k = sym (h refl)
agree true false h k = k refl
agree true true h k = refl

module _ (f : ℕ → Id) (n i count : ℕ) (inside : i < n) where
  abbrev some : ℕ → Id
  some j = f (i + min j (n - 1 - i))

  abbrev next : ℕ
  next = i + min count (n - i)

  some-there : (j : ℕ) → i ≤ j → j < next → f j ≡ some (j - i)
  some-there j h q = let k : j ≡ i + min (j - i) (n - 1 - i) = omega (arith, h, q, inside) in ap f k

  some-alike : (x : Id) → contains x (table i f) || contains x (table count some) ≡ contains x (table next f)
  some-alike x = agree _ _ forth back
    where
      forth : contains x (table i f) || contains x (table count some) ≡ false → contains x (table next f) ≡ false
      forth e =
          let o = both_false _ _ e in
          none-among x next f (λ j q.
          ⊎_elim
          (λ (h : j < i). each-other x i f o.0 j h)
          (λ (h : i ≤ j). ap (same x) (some-there j h q) ∙ each-other x count some o.1 (j - i) (omega (arith, h, q)))
          (cases_lt j i))

      back : contains x (table next f) ≡ false → contains x (table i f) || contains x (table count some) ≡ false
      back e =
          ap₂ ◌||◌
          (none-among x i f (λ j q. each-other x next f e j (omega (arith, q))))
          (none-among x count some (λ j q. each-other x next f e (i + min j (n - 1 - i)) (omega (arith, q, inside))))

  pub more-some : (t u v : Window) (ids : List Id) → length ids ≡ count → ((j : ℕ) → j < count → get_or ids j (pos 0) ≡ some j)
      → MarkedMore t u (table i f) → MarkedMore u v ids → MarkedMore t v (table next f)
  more-some t u v ids long e h m =
      let listed : ids ≡ table count some =
      ext_get_or (pos 0) ids (table count some) (long ∙ sym (length-table 0 count some))
      (λ j q. e j (omega (arith, q, long)) ∙ sym (get_or-table count some j (pos 0) (omega (arith, q, long)))) in
      more-alike t v (table i f ++ ids) (table next f)
      (λ x. contains-append x (table i f) ids ∙ ap (λ (l : List Id). contains x (table i f) || contains x l) listed ∙ some-alike x)
      (more-more t u v _ _ h m)

-- the runs of an id in each block
pub marked-id : (t u v w : Window) (id : Id) → MarkedAt t u (leads_in t.catalogue.now Types id)
    → MarkedAt u v (leads_in u.catalogue.now Links id) → MarkedAt v w (leads_in v.catalogue.now Bases id) → MarkedMore t w (id ∷ [])
unfolding at_of size_of first_of
marked-id t u v w id x y z =
    let b = t.catalogue.now in
    let c : v.catalogue.now ≡ b = y.catalogue ∙ x.catalogue in
    let l : v.low ≡ t.low = y.low ∙ x.low in
    record {
      catalogue = z.catalogue ∙ c;
      low = z.low ∙ l;
      marks =
          marked_three b id t.low t.marks.now u.marks.now v.marks.now w.marks.now
          x.marks
          (λ j h. y.marks j h ∙ ap₂ (λ (k : List ℕ) (n : ℕ). is_marked u.marks.now j || leads_in k Links id (n + j)) x.catalogue x.low)
          (λ j h. z.marks j h ∙ ap₂ (λ (k : List ℕ) (n : ℕ). is_marked v.marks.now j || leads_in k Bases id (n + j)) c l);
    }
