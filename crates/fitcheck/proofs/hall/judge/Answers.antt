-- `hall::judge` meets its contract: refusals 4 to 6, items and results in unequal numbers, then the list.
use Rattle.std.proofs.Common.{ℕ, Bool, ◌≡◌, ◌<◌, sym, ◌∙◌, Result, Ok, Err, true, false, arith}
use Rattle.std.specs.Result.{is_err}
use mathlib.Core.Bool.{true≢false}
use Rattle.numbers.specs.Refused.{number_of}
use Rattle.numbers.specs.declared.refusals.Refusal.{Refusal}
use Rattle.numbers.proofs.Refused.{some-number}
use Rattle.catalogue.specs.Catalogue.{catalogue_of}
use Rattle.fit.specs.Refusals.{fit_refusal}
use Rattle.fit.proofs.Soundness.{sound}
use Rattle.fitcheck.proofs.HallLaws.{share_unread, share_unequal, share_clear, share_faulted}
use Rattle.fitcheck.proofs.hall.judge.Goals as goal

refused : {A : Type 0} {n : ℕ} {t : Bool} (r : Result A Refusal) → number_of r ≡ n → t ≡ is_err r → t ≡ true → 0 < n
refused (Ok x) e p q = absurd (true≢false (sym q ∙ p))
refused (Err x) e p q = omega (arith, e, some-number x)

accepted : {A : Type 0} {n : ℕ} {t : Bool} (r : Result A Refusal) → number_of r ≡ n → t ≡ is_err r → t ≡ false → n ≡ 0
accepted (Ok x) e p q = sym e
accepted (Err x) e p q = absurd (true≢false (sym p ∙ q))

pub returns-then-is_err : goal.returns-then-is_err
returns-then-is_err c =
    share_unread (catalogue_of c.args.catalogue.now) c.args.fit.now (refused c.check.result c.check.ensures c.is_err.ensures.value c.if-is_err.true)

pub new-layout-requires : goal.new-layout-requires
new-layout-requires c = (sound _ (accepted c.check.result c.check.ensures c.is_err.ensures.value c.if-is_err.false)).sized

pub returns-then-items-results : goal.returns-then-items-results
returns-then-items-results c =
    share_unequal (catalogue_of c.args.catalogue.now) c.args.fit.now (accepted c.check.result c.check.ensures c.is_err.ensures.value c.if-is_err.false)
    (λ q. omega (arith, rw c.new-layout.ensures at c.items.ensures.0, rw c.new-layout.ensures at c.results.ensures.0, c.if-items-results.true, q))

pub new-fit-requires : goal.new-fit-requires
new-fit-requires c = sound _ (accepted c.check.result c.check.ensures c.is_err.ensures.value c.if-is_err.false)

pub returns-then-is_empty : goal.returns-then-is_empty
returns-then-is_empty c =
    share_clear (catalogue_of c.args.catalogue.now) c.args.fit.now (accepted c.check.result c.check.ensures c.is_err.ensures.value c.if-is_err.false)
    (sym (rw (c.new-context.ensures.0, c.new-context.ensures.1, c.new-fit.ensures) at c.is_empty.ensures) ∙ c.if-is_empty.true)
    (omega (arith, rw c.new-layout.ensures at c.items.ensures.0, rw c.new-layout.ensures at c.results.ensures.0, c.if-items-results.false))

pub returns : goal.returns
returns c =
    share_faulted (catalogue_of c.args.catalogue.now) c.args.fit.now (accepted c.check.result c.check.ensures c.is_err.ensures.value c.if-is_err.false)
    (sym (rw (c.new-context.ensures.0, c.new-context.ensures.1, c.new-fit.ensures) at c.is_empty.ensures) ∙ c.if-is_empty.false)
