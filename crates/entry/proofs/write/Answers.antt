-- `entry::write` meets its contract: eight bytes, then the payload, a word at a time.
use Rattle.std.proofs.Common.{◌≡◌, ℕ, ◌+◌, ◌*◌, List, ◌∷◌, length, get_or, take, refl, ap, ap₂, ◌∙◌, arith}
use lib.Seq.{take_all}
use Rattle.words.specs.Words.{each}
use Rattle.image.specs.Bytes.{le, put}
use Rattle.entry.proofs.Bytes.{four-words, put_head, put_word, put_entry}
use Rattle.entry.proofs.write.Goals as goal

pub loop-i-init : goal.loop-i-init
unfolding each
loop-i-init c = refl

pub loop-i-preserved : goal.loop-i-preserved
loop-i-preserved c =
    let at = c.args.at + 8 in
    let i = c.loop-i.i in
    let words = c.pack-code.result.2 in
    let four : length words ≡ 4 = ap (λ (r : ℕ × ℕ × List ℕ). length r.2) c.pack-code.ensures ∙ four-words c.args.e.rule in
    c.put_u32-in-loop-i.ensures
    ∙ ap (λ (l : List ℕ). put l (at + 4 * i) (le 4 (get_or words i 0))) c.loop-i.invariant
    ∙ put_word c.put_u32.new.out at words i (omega (arith, c.loop-i-test.true, four))

pub returns : goal.returns
returns c =
    let out = c.args.out.now in
    let at = c.args.at in
    let t = c.place-target.result in
    let r = c.pack-code.result in
    let four : length r.2 ≡ 4 = ap (λ (r : ℕ × ℕ × List ℕ). length r.2) c.pack-code.ensures ∙ four-words c.args.e.rule in
    let all : take c.loop-i.i r.2 ≡ r.2 = take_all c.loop-i.i r.2 (omega (arith, c.loop-i-test.false, four)) in
    let head = c.put_u32.ensures ∙ put_head out at t.0 r.0 r.1 (le 4 t.1)
    ∙ ap₂ (λ (t : ℕ × ℕ) (r : ℕ × ℕ × List ℕ). put out at (t.0 ∷ r.0 ∷ r.1 ∷ 0 ∷ le 4 t.1)) c.place-target.ensures c.pack-code.ensures in
    c.loop-i.invariant
    ∙ ap (λ (ws : List ℕ). put c.put_u32.new.out (at + 8) (each ws (le 4))) (all ∙ ap (λ (r : ℕ × ℕ × List ℕ). r.2) c.pack-code.ensures)
    ∙ put_entry out c.put_u32.new.out at c.args.e head
