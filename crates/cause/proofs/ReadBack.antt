-- An entry of the list, read back from its bytes.
use Prim.Native.Nat.{ℕ, ◌+◌, ◌*◌, ◌^◌, ◌≤◌, ◌<◌}
use native.Mathlib.Omega.{arith}
use mathlib.Core.Path.{◌≡◌, refl, sym, ap, ap₂, ◌∙◌, subst}
use mathlib.Core.Bool.{Bool, true, false, cond, true≢false}
use mathlib.Core.List.{List, [], ◌∷◌, ◌++◌}
use Rattle.std.specs.Prelude.{Option, None, Some, slice_get}
use Rattle.std.proofs.lemmas.List.{get_or-drop, get_or-take}
use Rattle.std.proofs.lemmas.Option.{slice_get-get_or, slice_get_past}
use lib.Dec.{eqb}
use lib.ListN.{length, get_or, take, drop}
use Rattle.words.specs.Words.{given, each}
use Rattle.image.specs.Bytes.{u8_at, u32_at, le}
use Rattle.image.proofs.Puts.{le-u32}
use Rattle.image.proofs.Parts.{part-u32}
use Rattle.catalogue.specs.Catalogue.{Catalogue, catalogue_of}
use Rattle.fit.specs.Fit.{Fit, fit_of}
use Rattle.entry.specs.declared.Target.{Target}
use Rattle.entry.specs.declared.Target.TheVariants.{Ship, Item}
use Rattle.entry.specs.declared.Rule.TheVariants.{NotAHull}
use Rattle.entry.specs.declared.Entry.{Entry}
use Rattle.entry.specs.Entries.{fields, place, number, entry_bytes, written, on_ship}
use Rattle.context.specs.declared.Context.{Context as Held}
use Rattle.context.specs.Context.{Pair, pairs}
use Rattle.context.specs.Gathered.{pair_count, pair_at, pairs_of}
use Rattle.context.proofs.Pairs.{pairs-table}
use Rattle.words.proofs.Tables.{length-table}
use Rattle.lists.specs.Terms.{terms, read_by, main}
use Rattle.lists.specs.Lists.{for_reader, whole_list, list_for}
use Rattle.cause.specs.Members.{own, sub_of}
use Rattle.cause.specs.Decided.{shown_of, own_at, shown_at, Inside, Read}
use Rattle.cause.specs.declared.shown.Shown.{Shown}
use Rattle.cause.proofs.Entries.{entry_at}
use Rattle.cause.proofs.Staying.{listed_at, own_below}

-- an officer gets the whole list, and no bytes are no profile
pub officers : (p : List ℕ) → p ≡ [] → (c : Catalogue) (f : Fit) → list_for (read_by 2 (terms p 0)) c f ≡ whole_list main c f
unfolding list_for for_reader
officers p e c f = rw e refl

-- an element that is there
pub none : Entry
none = on_ship NotAHull

-- ---- its bytes
module _ (b : List ℕ) (at : ℕ) (e : Entry) (here : take 24 (drop at b) ≡ entry_bytes e) where
  byte : (j : ℕ) → j < 24 → u8_at b (at + j) ≡ u8_at (entry_bytes e) j
  byte j h = sym (get_or-take 24 (drop at b) j 0 h ∙ get_or-drop at b j 0) ∙ ap (λ (l : List ℕ). get_or l j 0) here

  target-byte : u8_at b at ≡ (place e.target).0
  unfolding entry_bytes
  target-byte = let q : at + 0 ≡ at = omega arith in ap (λ (i : ℕ). u8_at b i) (sym q) ∙ byte 0 (omega arith)

  rule-byte : u8_at b (at + 1) ≡ number e
  unfolding entry_bytes
  rule-byte = byte 1 (omega arith)

  sub-byte : u8_at b (at + 2) ≡ sub_of e
  unfolding entry_bytes
  sub-byte = byte 2 (omega arith)

  pair-word : (place e.target).1 < 4294967296 → u32_at b (at + 4) ≡ (place e.target).1
  unfolding entry_bytes u32_at
  pair-word h = sym (part-u32 b at 24 4 (omega arith)) ∙ ap (λ (l : List ℕ). u32_at l 4) here ∙ le-u32 (place e.target).1 h

  own-read : ((i : ℕ) → own e.target ≡ Some i → i < 4294967296) → own_at b at ≡ own e.target
  unfolding own
  own-read small =
      ap (λ (n : ℕ). cond (eqb n 0) None (Some (u32_at b (at + 4)))) target-byte ∙ go e.target small pair-word
    where
      go : (t : Target) → ((i : ℕ) → own t ≡ Some i → i < 4294967296) → ((place t).1 < 4294967296 → u32_at b (at + 4) ≡ (place t).1)
          → cond (eqb (place t).0 0) None (Some (u32_at b (at + 4))) ≡ own t
      go Ship small w = refl
      go (Item i) small w = ap (λ (n : ℕ). Some n) (w (small i refl))

  pub shown-read : ((i : ℕ) → own e.target ≡ Some i → i < 4294967296) → shown_at b at ≡ shown_of e
  shown-read small =
      ap (λ (o : Option ℕ). record { own = o; rule = u8_at b (at + 1); sub = u8_at b (at + 2) }) (own-read small)
      ∙ ap₂ (λ (r s : ℕ). record { own = own e.target; rule = r; sub = s }) rule-byte sub-byte

-- ---- the pairs of two images
pub pairs-length : (catalogue fit : List ℕ) → length (pairs (catalogue_of catalogue) (fit_of fit)) ≡ pair_count fit
unfolding pairs_of
pairs-length catalogue fit =
    ap (λ (l : List Pair). length l) (pairs-table catalogue fit) ∙ length-table 0 (pair_count fit) (pair_at catalogue fit)

module _ (x : Held) (es : List Entry) (whole : es ≡ whole_list main (catalogue_of x.catalogue.now) (fit_of x.fit.now)) (position : ℕ) where
  pub read-none : length es ≤ position → Read x es position None
  unfolding given
  read-none h = record {
    entry = sym (ap (λ (o : Option Entry). given o None (λ e. Some (shown_of e))) (slice_get_past es position h));
    inside = λ s e. absurd (none-some e);
  }
    where
      there : Option Shown → Bool
      there None = false
      there (Some s) = true

      none-some : {s : Shown} → ◌≡◌ {A = Option Shown} None (Some s) → ⊥
      none-some e = true≢false (sym (ap there e))

  pub read-some : (few : pair_count x.fit.now ≤ 256) (b : List ℕ) → position < length es → (rest : List ℕ) → b ≡ each es entry_bytes ++ rest
      → Read x es position (Some (shown_at b (24 * position)))
  unfolding given
  read-some few b h rest q =
      let e = get_or es position none in
      let there = slice_get-get_or es position none h in
      let c = catalogue_of x.catalogue.now in
      let f = fit_of x.fit.now in
      let listed = listed_at c f e position (subst (λ (l : List Entry). slice_get l position ≡ Some e) whole there) in
      let below : (i : ℕ) → own e.target ≡ Some i → i < pair_count x.fit.now =
      λ i o. let l = own_below c f e listed i o in let n = pairs-length x.catalogue.now x.fit.now in omega (arith, l, n) in
      let same = shown-read b (24 * position) e (ap (λ (l : List ℕ). take 24 (drop (24 * position) l)) q ∙ entry_at none es rest position h)
      (λ i o. let l = below i o in omega (arith, l, few)) in
      record {
        entry = ap (λ (s : Shown). Some s) same ∙ sym (ap (λ (o : Option Entry). given o None (λ e. Some (shown_of e))) there);
        inside = λ s o i own. below i (sym (ap (λ (r : Shown). r.own) same) ∙ ap (λ (r : Option Shown). own_in r) o ∙ own);
      }
    where
      own_in : Option Shown → Option ℕ
      own_in None = None
      own_in (Some s) = s.own
