-- What became of refusal 7: no call gives it, every other outcome is as it was, and no total of drones is rounded. By the conditions of the
-- calls, and as 256 stacks are below 2 ^ 53.
use Prim.Native.Nat.{ℕ, suc, ◌*◌, ◌/◌, ◌^◌, ◌≤◌, ◌<◌}
use native.Mathlib.Omega.{arith}
use mathlib.Core.Path.{◌≡◌, sym, ap}
use mathlib.Core.Bool.{Bool, true, false, not, cond}
use mathlib.Core.List.{List, [], ◌∷◌, ◌++◌}
use lib.Dec.{T, ltb}
use lib.ListN.{length}
use lib.Ieee.{binary64, of_int}
use lib.Ieee.Back.{round_whole}
use lib.Ieee.Exact.{HasValue}
use Rattle.words.specs.Words.{only, sum_of, first_of}
use Rattle.floats.specs.Floats.{of_nat}
use Rattle.catalogue.specs.Catalogue.{Catalogue, catalogue_of}
use Rattle.fit.specs.Fit.{Item, Result, fit_of}
use Rattle.fit.specs.Refusals.{bad_size}
use Rattle.context.specs.Context.{Pair, pairs_from, pairs}
use Rattle.resource.specs.Resource.{is_launched, launched}
use Rattle.lists.specs.Terms.{Terms}
use Rattle.lists.specs.Lists.{list_for}
use Rattle.calls.specs.Answers.{answer_by, answer, input_refusals, buffer_refusals}
use Rattle.fitcheck.specs.Calls.{list_call, skill_call}
use Rattle.fitcheck.specs.Hall.{hall_call, hall_returned}
use Rattle.promises.specs.Answers.{outcome, refusal, Conditions, list_conditions, skill_conditions}
use Rattle.promises.specs.Before.{too_many_drones, list_before}
use Rattle.promises.specs.Compare.{Bytes}
use Rattle.promises.specs.Halls.{hall_conditions}
use Rattle.words.proofs.All.{All, nil, cons}
use Rattle.promises.proofs.Conditions.{never_first, left_out}
use Rattle.promises.proofs.Lengths.{pairs-short}
use Rattle.promises.proofs.Answering.{given-first}
use Rattle.promises.proofs.Calls.{list_answers, skill_answers}
use Rattle.promises.proofs.Comparing.{quantities}
use Rattle.promises.proofs.Judging.{hall_answers}

pub no_seven : (t : Terms) (catalogue fit input buffer : List ℕ) (result : ℕ)
    → (refusal (outcome buffer (list_call t catalogue fit buffer)) ≡ 7 → ⊥)
    × (refusal (outcome buffer (skill_call t catalogue fit result buffer)) ≡ 7 → ⊥)
    × (hall_returned (hall_call catalogue input) / 4294967296 ≡ 7 → ⊥)
no_seven t catalogue fit input buffer result = (
  λ h. never_first 7 (list_conditions t catalogue fit buffer) (omega arith) (((list_answers t catalogue fit buffer).refused 7 (omega arith)).0 h),
  λ h. never_first 7 (skill_conditions t catalogue fit result buffer) (omega arith) (((skill_answers t catalogue fit result buffer).refused 7 (omega arith)).0 h),
  λ h. never_first 7 (hall_conditions catalogue input) (omega arith) (((hall_answers catalogue input).refused 7 (omega arith)).0 h),
)

-- ---- the calls that 7 did not refuse
pub list_as_before : (t : Terms) (catalogue fit buffer : List ℕ) → (refusal (outcome buffer (list_before t catalogue fit buffer)) ≡ 7 → ⊥)
    → outcome buffer (list_call t catalogue fit buffer) ≡ outcome buffer (list_before t catalogue fit buffer)
unfolding list_before list_call answer
list_as_before t catalogue fit buffer h =
    let c = catalogue_of catalogue in
    let f = fit_of fit in
    let es = list_for t c f in
    let l : Conditions = (19, ltb 2 t.reader) ∷ input_refusals t catalogue fit in
    let m = buffer_refusals buffer es in
    let e = left_out 7 (too_many_drones c f) l m (λ q. h (given-first 6 buffer es (first_of (l ++ (7, too_many_drones c f) ∷ m)) q)) in
    ap (λ (k : ℕ). outcome buffer (answer_by k es)) (sym e)

-- ---- the total
abbrev pub Small : Pair → Type 0
Small p = p.quantity < 2 ^ 32

pub pairs_small : (c : Catalogue) (n : ℕ) {is : List Item} → All (λ (i : Item). i.quantity < 2 ^ 32) is → (rs : List Result) → All Small (pairs_from c n is rs)
unfolding pairs_from
pairs_small c n nil rs = nil
pairs_small c n (cons p h) [] = nil
pairs_small c n (cons p h) (r ∷ rs) = cons p (pairs_small c (suc n) h rs)

sum_most : (t : Pair → Bool) {ps : List Pair} → All Small ps → sum_of (λ p. p.quantity) (only t ps) ≤ 4294967295 * length ps
unfolding sum_of only
sum_most t nil = omega arith
sum_most t (cons {x} {l} h hs) = go (t x) (sum_most t hs)
  where
    go : (b : Bool) → sum_of (λ p. p.quantity) (only t l) ≤ 4294967295 * length l
        → sum_of (λ p. p.quantity) (cond b (x ∷ only t l) (only t l)) ≤ 4294967295 * suc (length l)
    go true k = omega arith
    go false k = omega arith

pub drones_exact : (c : Catalogue) (fit : List ℕ) → Bytes fit → T (not (bad_size fit))
    → HasValue (of_nat (launched (pairs c (fit_of fit)))) false (launched (pairs c (fit_of fit))) 1
unfolding of_int launched
drones_exact c fit bytes fine =
    let n = sum_of (λ p. p.quantity) (only is_launched (pairs c (fit_of fit))) in
    let small : All Small (pairs c (fit_of fit)) = unfold pairs in pairs_small c 0 (quantities fit bytes) (fit_of fit).results in
    let most = sum_most is_launched small in
    let few = pairs-short fit fine c in
    let room : n ≤ 2 ^ 53 = omega arith in
    round_whole binary64 false n room
