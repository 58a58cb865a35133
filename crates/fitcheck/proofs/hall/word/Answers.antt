-- `hall::word` meets its contract. The invariant: `at` is where fit i begins, and the word is that of the fits before it.
use Rattle.std.proofs.Common.{ℕ, ◌≡◌, sym, ap, ◌∙◌, arith}
use Rattle.words.specs.Words.{table}
use Rattle.catalogue.specs.Catalogue.{catalogue_of}
use Rattle.fitcheck.specs.Hall.{fit_count, fit_at, share_of, word_of}
use Rattle.fitcheck.proofs.HallLaws.{start_none, start-next, laid_long, laid_within, part-fit, word_none, word_more, word-all}
use Rattle.fitcheck.proofs.hall.word.Goals as goal

pub size_at-n-requires : goal.size_at-n-requires
size_at-n-requires c = omega (arith, laid_long c.args.input.now c.requires)

pub loop-i-init : goal.loop-i-init
loop-i-init c =
    let a = c.args in
    (omega (arith, start_none a.input.now), sym (word_none (catalogue_of a.catalogue.now) (fit_at a.input.now)), omega arith)

pub length_at-size-requires : goal.length_at-size-requires
length_at-size-requires c = omega (arith, laid_long c.args.input.now c.requires)

-- fit i stands within the input
pub part-fit-requires : goal.part-fit-requires
part-fit-requires c = omega (arith, laid_within c.args.input.now c.requires c.loop-i.i (omega arith))

pub overflow_add-at-in-loop-i : goal.overflow_add-at-in-loop-i
overflow_add-at-in-loop-i c = omega (arith, laid_within c.args.input.now c.requires c.loop-i.i (omega arith))

pub loop-i-preserved : goal.loop-i-preserved
loop-i-preserved c =
    let l = c.loop-i in
    let a = c.args in
    let cat = catalogue_of a.catalogue.now in
    let part = c.part-fit.ensures ∙ part-fit a.input.now l.i l.invariant.0 c.length_at-size.ensures.0 in
    let more = c.share-word.ensures.0 ∙ c.judge.ensures ∙ ap (share_of cat) part in (
      omega (arith, start-next a.input.now l.i),
      omega (arith, more, word_more cat (fit_at a.input.now) l.i),
      omega (arith, c.share-word.ensures.1),
    )

pub returns : goal.returns
returns c =
    let l = c.loop-i in
    let a = c.args in
    let cat = catalogue_of a.catalogue.now in
    let e : l.i ≡ fit_count a.input.now = omega arith in
    l.invariant.1 ∙ ap (λ (k : ℕ). word_of cat (table k (fit_at a.input.now))) e ∙ word-all cat a.input.now
