-- What a trim leaves by its contract is the outcome that the promises speak of, and what it wrote is their trimmed catalogue.
use Prim.Native.Nat.{ℕ, ◌%◌, ◌≤◌}
use native.Mathlib.Omega.{arith}
use mathlib.Core.Path.{◌≡◌, sym, ap, ◌∙◌}
use mathlib.Core.List.{List}
use lib.ListN.{length, take, drop, length-take}
use lib.Seq.{take_at}
use Rattle.lists.specs.Terms.{Terms}
use Rattle.calls.specs.Output.{Output, Written, output_word, filled}
use Rattle.fitcheck.specs.Calls.{list_call, skill_call}
use Rattle.fitcheck.specs.Trim.{trim_call}
use Rattle.promises.specs.Answers.{Outcome, outcome, refusal, count}
use Rattle.promises.specs.Widens.{written}
use Rattle.promises.specs.Trims.{trim_outcome, trimmed_bytes}
use Rattle.promises.proofs.Trims.{trim_answers, trim_same, trim_twice}
use Rattle.two_fits.specs.Kept.{left}

pub trim_is : (before : List ℕ) (o : Output) {w : ℕ} {b : List ℕ} → (w ≡ output_word o) × (b ≡ filled before o)
    → ◌≡◌ {A = Outcome} (record { word = output_word o; buffer = filled before o }) (left w b)
trim_is before o {w} {b} e = ap (λ (v : ℕ). left v (filled before o)) (sym e.0) ∙ ap (λ (c : List ℕ). left w c) (sym e.1)

module _ (catalogue fit buffer : List ℕ) {w : ℕ} {b kept : List ℕ} (is : trim_outcome catalogue fit buffer ≡ left w b)
    (part : w ≤ length b → kept ≡ take w b) (answered : refusal (left w b) ≡ 0) where
  abbrev o : Outcome
  o = trim_outcome catalogue fit buffer

  answered-too : refusal o ≡ 0
  answered-too = ap refusal is ∙ answered

  -- it has room for what it counts
  room : w ≤ length b
  room =
      let a = trim_answers catalogue fit buffer in
      let counts = a.counted answered-too in
      let front = ap length (a.front answered-too) in
      let long = length-take (length (trimmed_bytes catalogue fit)) o.buffer in
      let same = ap (λ (x : Outcome). count x) is in
      let buffers = ap (λ (x : Outcome). length x.buffer) is in
      omega (arith, counts, front, long, same, buffers, answered)

  -- the part of so many bytes is what was written
  kept-is : kept ≡ written o
  kept-is =
      let z : w ≡ w % 4294967296 = omega (arith, answered) in
      part room ∙ ap (λ (k : ℕ). take k b) z ∙ sym (ap written is)

  pub kept-written : written (left w b) ≡ kept
  kept-written = sym (ap written is) ∙ sym kept-is

  -- ---- the calls of the fit under it
  pub lists-trimmed : (t : Terms) (before after : List ℕ) → before ≡ after
      → outcome before (list_call t catalogue fit before) ≡ outcome after (list_call t kept fit after)
  lists-trimmed t before after e =
      ap (λ (x : List ℕ). outcome x (list_call t catalogue fit x)) e
      ∙ ap (outcome after) (sym ((trim_same catalogue fit buffer answered-too).lists t after))
      ∙ ap (λ (x : List ℕ). outcome after (list_call t x fit after)) (sym kept-is)

  pub skills-trimmed : (t : Terms) (n : ℕ) (before after : List ℕ) → before ≡ after
      → outcome before (skill_call t catalogue fit n before) ≡ outcome after (skill_call t kept fit n after)
  skills-trimmed t n before after e =
      ap (λ (x : List ℕ). outcome x (skill_call t catalogue fit n x)) e
      ∙ ap (outcome after) (sym ((trim_same catalogue fit buffer answered-too).skills t n after))
      ∙ ap (λ (x : List ℕ). outcome after (skill_call t x fit n after)) (sym kept-is)

  -- ---- trimmed once more
  module _ (other : List ℕ) (enough : count (left w b) ≤ length other) where
    small-length : length (written o) ≡ w
    small-length =
        ap length (sym kept-is) ∙ ap length (part room) ∙ length-take w b ∙ omega (arith, room)

    again_is : trim_call kept fit other ≡ Written kept
    again_is =
        ap (λ (x : List ℕ). trim_call x fit other) kept-is
        ∙ trim_twice catalogue fit buffer answered-too other (omega (arith, small-length, enough, answered))
        ∙ ap Written (sym kept-is)

    kept-length : length kept ≡ w
    kept-length = ap length kept-is ∙ small-length

    pub word-again : output_word (trim_call kept fit other) ≡ w
    unfolding output_word
    word-again = ap output_word again_is ∙ kept-length

    pub written-again : take w (filled other (trim_call kept fit other)) ≡ take w b
    unfolding filled
    written-again =
        ap (λ (x : Output). take w (filled other x)) again_is ∙ take_at kept (drop (length kept) other) w kept-length ∙ part room

    pub same-written : {r : ℕ} {x : List ℕ} → (r ≡ output_word (trim_call kept fit other)) × (x ≡ filled other (trim_call kept fit other))
        → (r ≡ w) × (written (left r x) ≡ written (left w b))
    same-written {r} {x} e =
        let q : r ≡ w = e.0 ∙ word-again in
        let z : w % 4294967296 ≡ w = omega (arith, answered) in (
          q,
          ap (λ (k : ℕ). take (k % 4294967296) x) q ∙ ap (λ (k : ℕ). take k x) z ∙ ap (take w) e.1
              ∙ written-again ∙ sym (ap (λ (k : ℕ). take k b) z),
        )
