-- Entries of the list taken in, one after the other: what is counted of those before, and that there is room.
use Prim.Native.Nat.{ℕ, zero, suc, ◌+◌, ◌*◌, ◌≤◌}
use native.Mathlib.Omega.{arith}
use mathlib.Core.Path.{◌≡◌, refl, sym, ap, ap₂, ◌∙◌, subst}
use mathlib.Core.Bool.{Bool, true, false, ◌&&◌, ◌||◌, cond, true≢false}
use mathlib.Core.List.{List, [], ◌∷◌, ◌++◌}
use Rattle.std.specs.Prelude.{Some, slice_get}
use lib.Dec.{eqb, ltb}
use lib.ListN.{length, take, drop, take-append-drop}
use lib.Seq.{take_all}
use Rattle.words.specs.Words.{any_of, count_of, only, table_from, table, from}
use Rattle.fit.specs.Fit.{fit_of}
use Rattle.catalogue.specs.Catalogue.{catalogue_of}
use Rattle.entry.specs.declared.Entry.{Entry}
use Rattle.context.specs.declared.Context.{Context as Held}
use Rattle.context.specs.Context.{Pair, pairs}
use Rattle.context.specs.Gathered.{pair_count}
use Rattle.context.specs.Held.{pair_in, pairs_in, context_in}
use Rattle.context.proofs.Pairs.{pairs-table}
use Rattle.lists.specs.Lists.{whole_list}
use Rattle.parts.specs.Parts.{chosen, size}
use Rattle.cause.specs.declared.shown.Shown.{Shown}
use Rattle.cause.specs.Members.{is_counted}
use Rattle.cause.specs.Decided.{shown_of, member_in, limit_in, broken_in, Members}
use Rattle.cause.proofs.Choosing.{chosen-array, size-map}
use Rattle.cause.proofs.Breaking.{broken-counted}
use Rattle.cause.proofs.Listed.{none_some, some_same}
use Rattle.cause.proofs.Steady.{any-append}
use Rattle.cause.proofs.ReadBack.{pairs-length}
use Rattle.leave_out.specs.LeaveOut.{is_named}
use Rattle.leave_out.specs.declared.rows.Rows.{Rows}
use Rattle.leave_out.specs.Held.{is_over, any_over, Free, is_named_rule, is_left, Added, Taken, entries_in, stays_in, Hold}
use Rattle.leave_out.proofs.Sharing.{count-append, count-first, count_empty}
use Rattle.leave_out.proofs.Marking.{or_false}
use Rattle.leave_out.proofs.Naming.{named-whole}

-- ---- a named rule is one that counts pairs
named_any : (a x f : Bool) → x || (a && f) ≡ true → a || x ≡ true
named_any true x f h = refl
named_any false x f h = sym (or_false x) ∙ h

module _ (s : Shown) (named : is_named_rule s ≡ true) where
  pub named-counted : is_counted s.rule ≡ true
  unfolding is_counted any_of
  named-counted = named_any (eqb s.rule 2) (any_of (eqb s.rule) (8 ∷ 10 ∷ 17 ∷ 18 ∷ [])) (ltb s.sub 6) named

  pub named-other : s.rule ≡ 1 → ⊥
  unfolding any_of
  named-other e =
      true≢false (sym named ∙ ap (λ (r : ℕ). any_of (eqb r) (8 ∷ 10 ∷ 17 ∷ 18 ∷ []) || (eqb r 2 && ltb s.sub 6)) e)

module _ (x : Held) (s : Shown) (members : List Bool) (limit : ℕ) where
  -- it is broken where more of its members are left than it allows
  pub broken-left : pair_count x.fit.now ≤ length members → Members (pair_count x.fit.now) x s members → limit ≡ limit_in x s
      → is_named_rule s ≡ true
      → (left : List Bool) → ltb limit (size (chosen left (take (pair_count x.fit.now) members))) ≡ broken_in x s (chosen left (pairs_in x))
  broken-left room m l named left =
      let n = pair_count x.fit.now in
      let t = member_in x s in
      ap₂ ltb l
      (ap size (chosen-array t false members (pair_in x) n room m left)
      ∙ size-map t (chosen left (table n (pair_in x)))
      ∙ ap (λ (ps : List Pair). count_of t (chosen left ps)) (sym (pairs-table x.catalogue.now x.fit.now)))
      ∙ broken-counted (context_in x) (pairs_in x) s.own s.rule s.sub (named-other s named) (named-counted s named) (chosen left (pairs_in x))

-- ---- an entry taken in
module _ (x : Held) (s : Shown) (before after : Rows) where
  pub taken-named : (t : List Bool → Bool) → Added (pair_count x.fit.now) before after t → is_named_rule s ≡ true → ((left : List Bool) → t left ≡ is_left x s left)
      → Taken x s before after
  taken-named t h e l = record {
    count = h.count ∙ ap (λ (b : Bool). before.count + cond b 1 0) (sym e);
    free = h.free;
    over = λ left q. h.over left q ∙ ap (λ (b : Bool). any_over before left || b) (l left)
        ∙ ap (λ (b : Bool). any_over before left || (b && is_left x s left)) (sym e);
  }

  pub taken-other : after ≡ before → Free before → is_named_rule s ≡ false → Taken x s before after
  taken-other same free e = subst (Taken x s before) (sym same) (record {
    count = (let q : before.count ≡ before.count + 0 = omega arith in q ∙ ap (λ (b : Bool). before.count + cond b 1 0) (sym e));
    free = free;
    over = λ left q. sym (or_false (any_over before left)) ∙ ap (λ (b : Bool). any_over before left || (b && is_left x s left)) (sym e);
  })

-- ---- one entry more of a list
take-next : {A : Type 0} (l : List A) (i : ℕ) (x : A) → slice_get l i ≡ Some x → take (suc i) l ≡ take i l ++ (x ∷ [])
take-next [] i x e = none_some e
take-next {A} (y ∷ l) zero x e = ap (λ (z : A). z ∷ []) (some_same y x e)
take-next {A} (y ∷ l) (suc i) x e = ap (λ (r : List A). y ∷ r) (take-next l i x e)

module _ {A : Type 0} (l : List A) (i : ℕ) (x : A) (e : slice_get l i ≡ Some x) where
  next : take (i + 1) l ≡ take i l ++ (x ∷ [])
  next = let q : i + 1 ≡ suc i = omega arith in ap (λ (k : ℕ). take k l) q ∙ take-next l i x e

  pub count-next : (t : A → Bool) → count_of t (take (i + 1) l) ≡ count_of t (take i l) + cond (t x) 1 0
  count-next t =
      ap (count_of t) next ∙ count-append t (take i l) (x ∷ [])
      ∙ ap (λ (n : ℕ). count_of t (take i l) + n)
      (count-first t x [] ∙ ap (λ (n : ℕ). cond (t x) 1 0 + n) (count_empty t) ∙ (let q : cond (t x) 1 0 + 0 ≡ cond (t x) 1 0 = omega arith in q))

  pub any-next : (t : A → Bool) → any_of t (take (i + 1) l) ≡ any_of t (take i l) || t x
  any-next t =
      ap (any_of t) next ∙ any-append t (take i l) (x ∷ []) ∙ ap (λ (b : Bool). any_of t (take i l) || b) (unfold any_of in or_false (t x))

count-part : {A : Type 0} (t : A → Bool) (l : List A) (i : ℕ) → count_of t (take i l) ≤ count_of t l
count-part t l i =
    let e = count-append t (take i l) (drop i l) in
    let q = ap (count_of t) (take-append-drop i l) in
    omega (arith, e, q)

-- ---- the list of two images
-- what is held after the first i entries
pub record Begun (x : Held) (i : ℕ) (rows : Rows) : Type 0 where
  pub count : rows.count ≡ count_of is_named (take i (entries_in x))
  pub free : Free rows
  pub hold : Hold x (take i (entries_in x)) rows

module _ (x : Held) where
  -- its named entries
  pub named-most : pair_count x.fit.now ≤ 256 → count_of is_named (entries_in x) ≤ 1544
  unfolding whole_list
  named-most h =
      let c = catalogue_of x.catalogue.now in
      let f = fit_of x.fit.now in
      let n = pairs-length x.catalogue.now x.fit.now in
      let m : count_of is_named (entries_in x) ≤ 8 + 6 * length (pairs c f) = (named-whole c f.frame f.skills (pairs c f)).most in
      omega (arith, m, n, h)

  -- an entry by what the code reads of it
  pub named-is : (e : Entry) → is_named_rule (shown_of e) ≡ is_named e
  unfolding is_named
  named-is e = refl

  pub begun_none : (rows : Rows) → rows.count ≡ 0 → Free rows → Begun x 0 rows
  unfolding any_over any_of count_of only table_from
  begun_none rows e free = record {
    count = e;
    free = free;
    hold = λ left h. ap (λ (n : ℕ). any_of (is_over rows left) (from 0 n)) e;
  }

  module _ (i : ℕ) (rows : Rows) (b : Begun x i rows) (s : Shown) (e : Entry) (there : slice_get (entries_in x) i ≡ Some e) (is : s ≡ shown_of e) where
    named : is_named_rule s ≡ is_named e
    named = ap (λ (u : Shown). is_named_rule u) is ∙ named-is e

    -- there is room for it
    pub begun-room : pair_count x.fit.now ≤ 256 → rows.count + cond (is_named_rule s) 1 0 ≤ 1544
    begun-room few =
        let n = count-next (entries_in x) i e there is_named in
        let p = count-part is_named (entries_in x) (i + 1) in
        let m = named-most few in
        let q = ap (λ (t : Bool). cond t 1 0) named in
        le_trans3 rows.count (count_of is_named (take i (entries_in x))) (cond (is_named_rule s) 1 0) (cond (is_named e) 1 0)
        (count_of is_named (take (i + 1) (entries_in x))) (count_of is_named (entries_in x)) b.count q n p m
      where
        le_trans3 : (a a' d d' t w : ℕ) → a ≡ a' → d ≡ d' → t ≡ a' + d' → t ≤ w → w ≤ 1544 → a + d ≤ 1544
        le_trans3 a a' d d' t w e f g h k = omega (arith, e, f, g, h, k)

    pub begun-more : (after : Rows) → Taken x s rows after → Begun x (i + 1) after
    unfolding stays_in
    begun-more after t = record {
      count = t.count ∙ ap₂ (λ (k : ℕ) (n : Bool). k + cond n 1 0) b.count named ∙ sym (count-next (entries_in x) i e there is_named);
      free = t.free;
      hold = λ left h.
          t.over left h ∙ ap₂ (λ (p q : Bool). p || q) (b.hold left h)
          (ap (λ (u : Shown). is_named_rule u && is_left x u left) is ∙ ap (λ (n : Bool). n && is_left x (shown_of e) left) (named-is e))
          ∙ sym (any-next (entries_in x) i e there (stays_in x left));
    }

  pub begun-all : (i : ℕ) (rows : Rows) → i ≡ length (entries_in x) → pair_count x.fit.now ≤ 256 → Begun x i rows
      → Hold x (entries_in x) rows × (rows.count ≤ 1544)
  begun-all i rows e few b =
      let all : take i (entries_in x) ≡ entries_in x = ap (λ (k : ℕ). take k (entries_in x)) e ∙ take_all (length (entries_in x)) (entries_in x) (omega arith) in
      let m = named-most few in
      let p = count-part is_named (entries_in x) i in (
        (λ left h. b.hold left h ∙ ap (any_of (stays_in x left)) all),
        omega (arith, m, p, b.count),
      )
