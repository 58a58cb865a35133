-- `Catalogue::four_types` meets its contract: each of the four by the place where its search ends.
use Rattle.std.proofs.Common.{◌≡◌, ℕ, ◌<◌, get_or, ℤ, pos, ⊎_elim, sym, ap, ◌∙◌, length, ◌≤◌, eq-or-lt_of_le, arith, w32}
use Rattle.std.specs.Prelude.{Option, None, Some}
use borrow.Author.Rules.{rules}
use mir.Val.{to_z, of_z}
use lib.ListN.{set, length-set}
use lib.Seq.{get_or-set_same, get_or-set_other}
use Rattle.words.specs.Words.{given}
use Rattle.catalogue.specs.Catalogue.{Catalogue, catalogue_of}
use Rattle.catalogue.specs.Lookups.{type_of}
use Rattle.catalogue.specs.Answers.{info_of_type}
use Rattle.catalogue.specs.declared.TypeInfo.{TypeInfo}
use Rattle.catalogue.proofs.Catalogue.four_types.Goals as goal

abbrev answer : Catalogue → ℤ → Option TypeInfo
answer x id = given (type_of x id) None (λ t. Some (info_of_type t))

pub type_found-requires : goal.type_found-requires
type_found-requires c =
    let e = c.type_keys.ensures in
    let j = c.loop-j.j in
    let id : get_or c.args.ids.now j (pos 0) ≡ to_z w32 (of_z w32 (get_or c.args.ids.now j (pos 0))) = search rules in
    let parts = c.each_from-found.ensures j c.loop-j-test.true in
    rw (← e.0, ← e.1, ← id) parts

pub loop-j-preserved : goal.loop-j-preserved
loop-j-preserved c = (
  length-set _ c.loop-j.j _ ∙ c.loop-j.invariant.0,
  λ k h.
      let l = c.loop-j in
      let a = c.args in
      let near : k ≤ l.j = omega (arith, h) in
      let room : l.j < length l.answers = omega (arith, l.invariant.0, c.loop-j-test.true) in
      let found : c.type_found.result ≡ answer (catalogue_of a.self.now) (get_or a.ids.now l.j (pos 0)) =
      c.type_found.ensures ∙ ap (answer (catalogue_of a.self.now)) (search rules) in
      ⊎_elim
      (λ (e : k ≡ l.j).
      ap (λ (i : ℕ). get_or (set l.answers l.j c.type_found.result) i None) e
      ∙ get_or-set_same l.answers l.j c.type_found.result None room
      ∙ found ∙ ap (λ (i : ℕ). answer (catalogue_of a.self.now) (get_or a.ids.now i (pos 0))) (sym e))
      (λ (q : k < l.j). get_or-set_other l.answers l.j k c.type_found.result None (λ e. omega (arith, e, q)) ∙ l.invariant.1 k q)
      (eq-or-lt_of_le near),
)
