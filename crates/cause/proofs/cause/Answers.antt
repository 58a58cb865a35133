-- `cause::cause` meets its contract: 14 by what was read, 15, and then the pairs that are left.
use Rattle.std.proofs.Common.{◌≡◌, ℕ, ◌*◌, List, ◌++◌, Bool, sym, ap, ◌∙◌, subst}
use Rattle.std.specs.Prelude.{Option}
use lib.ListN.{take}
use Rattle.words.specs.Words.{any_of}
use Rattle.numbers.specs.Sizes as Sizes
use Rattle.numbers.specs.Refusals as Refusals
use Rattle.catalogue.specs.Catalogue.{catalogue_of}
use Rattle.fit.specs.Fit.{fit_of}
use Rattle.context.specs.Context.{Pair}
use Rattle.context.specs.Gathered.{pair_count, pairs_of}
use Rattle.lists.specs.Terms.{main}
use Rattle.lists.specs.Lists.{whole_list}
use Rattle.calls.specs.Output.{output, room_refusals}
use Rattle.calls.specs.Gave.{GaveBytes, word_of}
use Rattle.parts.specs.Parts.{every, down_from, thinned}
use Rattle.cause.specs.Cause.{cause_refusals, cause_bytes}
use Rattle.cause.specs.Decided.{broken_in, passes, Decides, Read}
use Rattle.cause.specs.declared.shown.Shown.{Shown}
use Rattle.cause.proofs.Caused.{there, caused-14, caused-15, caused-kept, caused-written, given_also}
use Rattle.cause.proofs.cause.Goals as goal

-- what is given by a word and a buffer, of two images
abbrev Given : (out after : List ℕ) (w position : ℕ) (catalogue fit : List ℕ) → Type 0
Given out after w position b m =
    let c = catalogue_of b in
    let f = fit_of m in
    let bs = cause_bytes c f position in
    GaveBytes out after w (output (cause_refusals c f position ++ room_refusals out bs) bs)

pub returns-in_default : goal.returns-in_default
returns-in_default c =
    let a = c.args in
    let x = c.new-context.result in
    let es = whole_list main (catalogue_of x.catalogue.now) (fit_of x.fit.now) in
    let r = subst (λ (o : Option Shown). Read x es a.position o) c.in_default.is c.shown_at.ensures in
    given_also (Given a.out.now a.out.now (Refusals.no_entry * Sizes.word) a.position) c.new-context.ensures.0 c.new-context.ensures.1
    (caused-14 x a.position a.out.now r)

pub returns-then-any_bad_volume : goal.returns-then-any_bad_volume
unfolding pairs_of
returns-then-any_bad_volume c =
    let a = c.args in
    let x = c.new-context.result in
    let es = whole_list main (catalogue_of x.catalogue.now) (fit_of x.fit.now) in
    let r = subst (λ (o : Option Shown). Read x es a.position o) c.in-Some.is c.shown_at.ensures in
    let t = there x a.position c.in-Some.shown r in
    given_also (Given a.out.now a.out.now (Refusals.bad_volume * Sizes.word) a.position) c.new-context.ensures.0 c.new-context.ensures.1
    (caused-15 x a.position a.out.now t.0 t.1 (sym c.any_bad_volume.ensures ∙ c.if-any_bad_volume.true))

pub returns : goal.returns
unfolding pairs_of
returns c =
    let a = c.args in
    let x = c.new-context.result in
    let n = pair_count x.fit.now in
    let es = whole_list main (catalogue_of x.catalogue.now) (fit_of x.fit.now) in
    let d = c.new-deciding.result in
    let flags = c.thinned-kept.result in
    let m = c.pair_count.result in
    let r = subst (λ (o : Option Shown). Read x es a.position o) c.in-Some.is c.shown_at.ensures in
    let t = there x a.position c.in-Some.shown r in
    let broken = subst (λ (s : Shown). Decides x d (broken_in x s)) t.2 c.new-deciding.ensures.broken in
    let kept = ap (λ (k : ℕ). take k flags) c.pair_count.ensures ∙ c.thinned-kept.ensures
    ∙ ap (λ (s : Shown). thinned (passes x s.own d) (every n) (down_from n)) t.2
    ∙ caused-kept x a.position t.0 t.1 d broken in
    given_also (Given a.out.now c.write.new.out (word_of c.write.result) a.position) c.new-context.ensures.0 c.new-context.ensures.1
    (caused-written x a.position a.out.now c.write.new.out (word_of c.write.result) t.0 t.1
    (sym c.any_bad_volume.ensures ∙ c.if-any_bad_volume.false) (take m flags) kept c.write.ensures)
