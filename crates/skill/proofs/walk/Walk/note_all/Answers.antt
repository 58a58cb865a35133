-- `skill::Walk::note_all` meets its contract. The invariant: what the first rows ask for is noted.
use native.Mathlib.Omega.{arith}
use mathlib.Core.Path.{refl, sym, ap, ◌∙◌}
use mathlib.Core.Bool.{true, true≢false}
use mathlib.Core.List.{[], ◌∷◌}
use lib.IntN.{ℤ}
use mir.Syntax.{w32}
use mir.ValLaws.{to_z-of_z}
use borrow.Author.Rules.{rules}
use Rattle.std.specs.Prelude.{option_to_list}
use Rattle.words.specs.Words.{each}
use Rattle.skill.specs.Skill.{demand_of, note}
use Rattle.skill.specs.Held.{walk_of}
use lib.ListN.{length}
use Prim.Native.Nat.{◌+◌}
use Rattle.skill.proofs.Requirements.{read}
use Rattle.skill.proofs.Notes.{no_ok, no_row, row-asks, all-noted, some-over}
use Rattle.skill.proofs.walk.Walk.note_all.Goals as goal
use Rattle.skill.proofs.walk.Walk.note_all.Goals.{in-Some+in-Some-asked+in_ok-note, in-Some+in_default-asked, in_default}

pub loop-requirement-init : goal.loop-requirement-init
unfolding each
loop-requirement-init g c = λ values reads. refl

pub returns-in_err-note : goal.returns-in_err-note
returns-in_err-note g c = λ values reads.
    let l = c.loop-requirement in
    let rows = c.args.required.now in
    let start = walk_of c.args.self.now in
    let p = c.in-Some in
    let d = c.in-Some-asked in
    let asks = sym (ap option_to_list d.is) ∙ c.asked.ensures values (λ id v fits gives. reads id v fits (search rules))
    ∙ ap (demand_of values) (read p.skill p.level (search rules) (search rules)) in
    let noted = row-asks rows values start (walk_of l.self) l.requirement-index (omega arith) (l.invariant values reads) (p.skill, p.level) ((d.id, d.level) ∷ []) p.is asks in
    let over = c.in_err-note.ensures.full (refl {a = true}) in
    let bits = to_z-of_z w32 d.id (search rules) in
    record {
      holds = λ ok. absurd (no_ok _ c.from_residual.ensures.0 ok);
      full = λ _. some-over rows values start (note (walk_of l.self) (d.id, d.level)) (l.requirement-index + 1) noted
          (omega (arith, over, ap (λ (z : ℤ). length (note (walk_of l.self) (z, d.level))) bits));
    }

pub loop-requirement-preserved : goal.loop-requirement-preserved
loop-requirement-preserved g c =
    let l = c.loop-requirement in
    let rows = c.args.required.now in
    let start = walk_of c.args.self.now in
    elim c.match-requirement.branch [
      | in-Some+in-Some-asked+in_ok-note w ↦ λ values reads.
          let p = w.in-Some in
          let d = w.in-Some-asked in
          let asks = sym (ap option_to_list d.is) ∙ w.asked.ensures values (λ id v fits gives. reads id v fits (search rules))
          ∙ ap (demand_of values) (read p.skill p.level (search rules) (search rules)) in
          ap walk_of w.self-is
          ∙ w.in_ok-note.ensures.holds (refl {a = true})
          ∙ ap (λ (z : ℤ). note (walk_of l.self) (z, d.level)) (to_z-of_z w32 d.id (search rules))
          ∙ row-asks rows values start (walk_of l.self) l.requirement-index (omega arith) (l.invariant values reads) (p.skill, p.level) ((d.id, d.level) ∷ []) p.is asks
      | in-Some+in_default-asked w ↦ λ values reads.
          let p = w.in-Some in
          let asks = sym (ap option_to_list w.in_default-asked.is) ∙ w.asked.ensures values (λ id v fits gives. reads id v fits (search rules))
          ∙ ap (demand_of values) (read p.skill p.level (search rules) (search rules)) in
          ap walk_of w.self-is
          ∙ row-asks rows values start (walk_of l.self) l.requirement-index (omega arith) (l.invariant values reads) (p.skill, p.level) [] p.is asks
      | in_default w ↦ λ values reads.
          ap walk_of w.self-is ∙ no_row rows values start (walk_of l.self) l.requirement-index (omega arith) (l.invariant values reads) w.in_default.is
    ]

pub returns : goal.returns
returns g c = λ values reads.
    let l = c.loop-requirement in
    record {
      holds = λ _. all-noted c.args.required.now values (walk_of c.args.self.now) (walk_of l.self) l.requirement-index (omega arith) (l.invariant values reads);
      full = λ err. absurd (true≢false (sym err));
    }
