-- `widener::text::printed` meets its contract: the bytes that the call wrote, or its refusal's line.
use Rattle.std.proofs.Common.{◌≡◌, ap, length, sym, length-take-le, arith}
use Rattle.widener.proofs.Printing.{prints, refuses}
use Rattle.widener.proofs.text.printed.Goals as goal

pub slice_bounds-result-end : goal.slice_bounds-result-end
slice_bounds-result-end c =
    let f = c.fit_widen-word.ensures in
    let p = prints c.args.old.now c.args.text.now c.requires.0 c.requires.1 (omega (arith, f.0, c.if-word-lt-WORD.true)) in
    sym (length-take-le _ _ (omega (arith, f.0, p.0, ap length f.1)))

pub returns-then-word-lt-WORD : goal.returns-then-word-lt-WORD
returns-then-word-lt-WORD c =
    let f = c.fit_widen-word.ensures in
    let p = prints c.args.old.now c.args.text.now c.requires.0 c.requires.1 (omega (arith, f.0, c.if-word-lt-WORD.true)) in
    rw (f.0, f.1) p.1

pub returns : goal.returns
returns c =
    let f = c.fit_widen-word.ensures in
    let r = refuses c.args.old.now c.args.text.now c.requires.0 c.requires.1 (omega (arith, f.0, c.if-word-lt-WORD.false)) in
    cc (r, f.0, c.deref.ensures.0, c.as_bytes.ensures.value, c.refused.ensures.text)
