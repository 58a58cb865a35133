-- The fit that is trained step by step, by computing; lists that no step leads to, by their lengths or by a level; bytes that no training
-- writes, by their number or by one of them.
use Prim.Native.Nat.{ℕ}
use native.Mathlib.Omega.{arith}
use mathlib.Core.Path.{◌≡◌, refl, ap}
use mathlib.Core.List.{List}
use mathlib.Core.Logic.{◌⊎◌, inl, inr}
use lib.ListN.{length, get_or, take}
use Rattle.entry.specs.declared.Entry.{Entry}
use Rattle.promises.specs.Compare.{Bytes}
use Rattle.promises.specs.Trains.{missing, PILOT, TrainExample}
use Rattle.promises.proofs.Growing.{below, are_bytes}
use Rattle.promises.proofs.Opened.{opened}

-- two lists that a number tells apart
apart : (f : List Entry → ℕ) {l m : List Entry} → l ≡ m → (f l ≡ f m → ⊥) → ⊥
apart f e h = h (ap f e)

neither : {A B : Type 0} → (A → ⊥) → (B → ⊥) → A ⊎ B → ⊥
neither f g (inl a) = f a
neither f g (inr b) = g b

-- two lists of bytes that are apart at a place
apart-at : (k : ℕ) {l m : List ℕ} → l ≡ m → (get_or l k 0 ≡ get_or m k 0 → ⊥) → ⊥
apart-at k e h = h (ap (λ (x : List ℕ). get_or x k 0) e)

apart_by : {l m : List ℕ} → l ≡ m → (length l ≡ length m → ⊥) → ⊥
apart_by e h = h (ap length e)

pilot-bytes : Bytes PILOT
unfolding below opened
pilot-bytes = are_bytes PILOT tt

pub train_example : TrainExample
unfolding opened
train_example = record {
  none_yet = refl;
  one = refl;
  last_but_one = refl;
  last = refl;
  one_more = refl;
  five = refl;
  list_0 = refl;
  list_1 = refl;
  list_2 = refl;
  list_4 = refl;
  list_5 = refl;
  raised = inr refl;
  gone = inl refl;
  not_still = neither (λ e. apart length e (λ q. omega (arith, q))) (λ e. apart missing e (λ q. omega (arith, q)));
  not_two = neither (λ e. apart length e (λ q. omega (arith, q))) (λ e. apart missing e (λ q. omega (arith, q)));
  not_the_last = neither (λ e. apart length e (λ q. omega (arith, q))) (λ e. apart (λ l. missing (take 1 l)) e (λ q. omega (arith, q)));
  not_another_gone = neither (λ e. apart missing e (λ q. omega (arith, q))) (λ e. apart length e (λ q. omega (arith, q)));
  not_all = neither (λ e. apart length e (λ q. omega (arith, q))) (λ e. apart length e (λ q. omega (arith, q)));
  not_added = neither (λ e. apart length e (λ q. omega (arith, q))) (λ e. apart length e (λ q. omega (arith, q)));
  not_from_none = λ e. apart length e (λ q. omega (arith, q));
  bytes = pilot-bytes;
  itself = (refl, refl);
  copied = (refl, refl);
  not_other_items = λ e. apart-at 1 e.0 (λ q. omega (arith, q));
  not_other_ship = λ e. apart-at 15 e.0 (λ q. omega (arith, q));
  not_other_mode = λ e. apart-at 23 e.0 (λ q. omega (arith, q));
  not_other_result = λ e. apart-at 0 e.1 (λ q. omega (arith, q));
  not_other_value = λ e. apart-at 59 e.1 (λ q. omega (arith, q));
  not_longer = λ e. apart_by e.1 (λ q. omega (arith, q));
  not_shorter = λ e. apart_by e.1 (λ q. omega (arith, q));
}
