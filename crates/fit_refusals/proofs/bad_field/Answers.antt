-- `fit_refusals::bad_field` meets its contract: one test after the other.
use Rattle.std.proofs.Common.{ℕ, Bool, List, not, ◌&&◌, ◌||◌, ◌≡◌, ◌+◌, sym, ap, ap₂, ◌∙◌, ltb, eqb, rules}
use Rattle.words.specs.Words.{any_of, table}
use Rattle.words.proofs.Tables.{any-table}
use Rattle.image.specs.Bytes.{u32_at}
use Rattle.fit.specs.Fit.{fit_of, item_count, item_at, result_count, result_of, all_results}
use Rattle.fit.specs.Refusals.{bad_item, bad_result}
use Rattle.fit.proofs.Decoded.{all_results_lem}
use Rattle.fit.proofs.Soundness.{bad_mode}
use Rattle.fit_refusals.proofs.Refused.{mode-bits, field_parts}
use Rattle.fit_refusals.proofs.bad_field.Goals as goal

-- the mode by its bits
mode-told : (b : List ℕ) {flag mode : ℕ} {r : Bool} → r ≡ (ltb 1 flag || (eqb flag 0 && not (eqb mode 0))) → flag ≡ u32_at b 20 → mode ≡ u32_at b 24
    → bad_mode (fit_of b) ≡ r
mode-told b e f m = mode-bits b ∙ sym (e ∙ ap₂ (λ (x y : ℕ). ltb 1 x || (eqb x 0 && not (eqb y 0))) f m)

-- any item, and any result
items-told : (b : List ℕ) {n : ℕ} {r : Bool} → n ≡ item_count b → r ≡ any_of (λ t. t) (table n (λ i. bad_item (item_at b i))) → any_of bad_item (fit_of b).items ≡ r
unfolding fit_of
items-told b c e =
    sym (e ∙ sym (any-table (λ t. t) bad_item _ (item_at b)) ∙ ap (λ (k : ℕ). any_of bad_item (table k (item_at b))) c)

results-told : (b : List ℕ) {n : ℕ} {r : Bool} → n ≡ result_count b + 2 → r ≡ any_of (λ t. t) (table n (λ j. bad_result (result_of b j)))
    → any_of bad_result (all_results (fit_of b)) ≡ r
results-told b c e =
    sym
    (e
    ∙ sym (any-table (λ t. t) bad_result _ (result_of b))
    ∙ ap (λ (k : ℕ). any_of bad_result (table k (result_of b))) c
    ∙ ap (any_of bad_result) (sym (all_results_lem b)))

pub returns-then-bad_mode : goal.returns-then-bad_mode
returns-then-bad_mode c =
    let b = c.bytes-fit.result.now in
    let same = c.bytes-fit.ensures.0 in
    rw (sym same, field_parts b, mode-told b c.bad_mode.ensures c.u32_at-flag.ensures c.u32_at-mode.ensures, c.if-bad_mode.true)

pub returns-then-any : goal.returns-then-any
returns-then-any c =
    let b = c.bytes-fit.result.now in
    let same = c.bytes-fit.ensures.0 in
    let e = c.any.ensures (λ i. bad_item (item_at b i)) (λ i r h q. search rules) in
    rw (
      sym same,
      field_parts b,
      mode-told b c.bad_mode.ensures c.u32_at-flag.ensures c.u32_at-mode.ensures,
      c.if-bad_mode.false,
      items-told b (c.items.ensures.0 ∙ sym (ap item_count same)) e,
      c.if-any.true,
    )

pub returns : goal.returns
returns c =
    let b = c.bytes-fit.result.now in
    let same = c.bytes-fit.ensures.0 in
    let e = c.any.ensures (λ i. bad_item (item_at b i)) (λ i r h q. search rules) in
    let f = c.any-2.ensures (λ j. bad_result (result_of b j)) (λ j r h q. search rules) in
    rw (
      sym same,
      field_parts b,
      mode-told b c.bad_mode.ensures c.u32_at-flag.ensures c.u32_at-mode.ensures,
      c.if-bad_mode.false,
      items-told b (c.items.ensures.0 ∙ sym (ap item_count same)) e,
      c.if-any.false,
      results-told b (ap (λ (k : ℕ). k + 2) (c.results.ensures.0 ∙ sym (ap result_count same))) f,
    )
