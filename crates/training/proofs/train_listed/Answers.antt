-- `training::train_listed` meets its contract: how long the fit becomes decides, and then it is written.
use Rattle.std.proofs.Common.{ℕ, List, ◌≡◌, ◌+◌, ◌-◌, ◌*◌, ◌≤◌, refl, sym, ap, ◌∙◌, length, arith, subst}
use Rattle.words.proofs.Tables.{length-table}
use Rattle.numbers.specs.Refusals as Refusals
use Rattle.image.specs.Bytes.{put}
use Rattle.keys.specs.Keys.{key_at}
use Rattle.fit.specs.Fit.{fit_of, skill_count}
use Rattle.fit.specs.Sound as Fit
use Rattle.skill.specs.Skill.{Demand}
use Rattle.skill.specs.Held.{walk_of}
use Rattle.calls.proofs.Outputs.{output-short, output-written, bytes_same, bytes-refused, bytes-written}
use Rattle.training.specs.Training.{Training, training_of, trained_image}
use Rattle.training.specs.Turns.{turns, Listed}
use Rattle.training.specs.Plans.{plan_of}
use Rattle.training.specs.declared.Plan.{Plan}
use Rattle.training.proofs.Calling.{fit-listed, trained-size}
use Rattle.training.proofs.train_listed.Goals as goal

-- how long what is written is
size : (b : List ℕ) → Fit.Sound b → (steps : ℕ) (ws : List Demand) (p : Plan) {bytes : List ℕ} {old : ℕ}
    → plan_of p ≡ (turns (training_of (fit_of b)) steps ws).0 → bytes ≡ b → old ≡ skill_count b
    → length bytes - 5 * old + 5 * p.len ≡ length (trained_image b (turns (training_of (fit_of b)) steps ws).0)
size b s steps ws p e m o =
    let many = sym (ap (λ (t : Training). length t.ids) e) ∙ length-table 0 p.len (λ i. key_at p.ids (p.from + i)) in
    omega (arith, o, ap length m, trained-size b s steps ws p.len many)

pub take_turns-requires : goal.take_turns-requires
take_turns-requires c =
    let n = c.hold.ensures in (
      omega (arith, n.1),
      omega (arith, n.1, n.2),
      subst Listed (sym n.0) (fit-listed c.args.fit.now c.bytes.ensures.1),
    )

pub returns-then-out-size : goal.returns-then-out-size
returns-then-out-size c =
    let a = c.args in
    let b = a.fit.now in
    let ws = walk_of a.walk in
    let bs = trained_image b (turns (training_of (fit_of b)) a.steps ws).0 in
    let led = c.take_turns.ensures.0 ∙ ap (λ (t : Training). (turns t a.steps ws).0) c.hold.ensures.0 in
    let long = size b c.bytes.ensures.1 a.steps ws c.take_turns.new.self led c.bytes.ensures.0 c.skill_count.ensures in
    bytes_same (sym (output-short a.out.now bs (omega (arith, long, c.if-out-size.true)))) (bytes-refused _ Refusals.too_short refl)

pub returns : goal.returns
returns c =
    let a = c.args in
    let b = a.fit.now in
    let ws = walk_of a.walk in
    let bs = trained_image b (turns (training_of (fit_of b)) a.steps ws).0 in
    let led = c.take_turns.ensures.0 ∙ ap (λ (t : Training). (turns t a.steps ws).0) c.hold.ensures.0 in
    let long = size b c.bytes.ensures.1 a.steps ws c.take_turns.new.self led c.bytes.ensures.0 c.skill_count.ensures in
    let room : length bs ≤ length a.out.now = omega (arith, long, c.if-out-size.false) in
    let stored = c.write.ensures ∙ ap (λ (t : Training). put a.out.now 0 (trained_image b t)) led in
    bytes_same (sym (output-written a.out.now bs room)) (bytes-written a.out.now bs long stored room)
