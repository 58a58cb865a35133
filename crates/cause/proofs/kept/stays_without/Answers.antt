-- `kept::stays_without` meets its contract: the own pair, then what decides.
use Rattle.std.proofs.Common.{◌≡◌, ℕ, ◌<◌, Bool, true, false, ◌&&◌, List, sym, ap, ◌∙◌, arith}
use lib.ListN.{set, take}
use lib.Seq.{get_or-set_same}
use Rattle.context.specs.Gathered.{pair_count}
use Rattle.parts.specs.Parts.{less}
use Rattle.cause.specs.Decided.{has_own, decides}
use Rattle.cause.proofs.Trying.{own-first, less-first, still-untried}
use Rattle.cause.proofs.kept.stays_without.Goals as goal

pub is_kept-requires : goal.is_kept-requires
is_kept-requires c = λ i e. let h = c.requires.inside i e in omega (arith, h, c.is_sound.ensures.sized.items)

pub returns-then-is_kept : goal.returns-then-is_kept
returns-then-is_kept c =
    let a = c.args in
    let x = a.context.now in
    let n = pair_count x.fit.now in
    let flags = set a.kept.now a.i false in
    let e = less-first n a.kept.now a.i c.requires.within in
    let s = less (take n a.kept.now) a.i in
    let own : true ≡ has_own a.shown.own s =
    sym (sym c.is_kept.ensures ∙ c.if-is_kept.true) ∙ own-first n flags a.shown.own c.requires.inside ∙ ap (has_own a.shown.own) e in
    c.is_broken_without.ensures ∙ ap (decides x a.deciding.now) e ∙ ap (λ (b : Bool). b && decides x a.deciding.now s) own

pub returns-else-is_kept : goal.returns-else-is_kept
returns-else-is_kept c =
    let a = c.args in
    let x = a.context.now in
    let n = pair_count x.fit.now in
    let flags = set a.kept.now a.i false in
    let e = less-first n a.kept.now a.i c.requires.within in
    let s = less (take n a.kept.now) a.i in
    let own : false ≡ has_own a.shown.own s =
    sym (sym c.is_kept.ensures ∙ c.if-is_kept.false) ∙ own-first n flags a.shown.own c.requires.inside ∙ ap (has_own a.shown.own) e in
    c.if-is_kept.false ∙ ap (λ (b : Bool). b && decides x a.deciding.now s) own

pub is_broken_without-requires : goal.is_broken_without-requires
is_broken_without-requires c =
    let a = c.args in
    let few = c.is_sound.ensures.sized.items in
    record {
      ready = c.requires.ready;
      within = c.requires.within;
      dropped = (
        still-untried a.kept.now a.i a.i (omega arith) c.requires.untried,
        get_or-set_same a.kept.now a.i false false (omega (arith, few, c.requires.within)),
      );
    }
