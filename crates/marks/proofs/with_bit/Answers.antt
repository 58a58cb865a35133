-- `marks::with_bit` meets its contract.
use Prim.Native.Nat.{ℕ, ◌*◌, ◌%◌, ◌^◌, ◌<◌}
use native.Mathlib.Nat.{mod-eq_of_lt, one-mul}
use mathlib.Core.Path.{ap, ◌∙◌, subst, sym}
use mathlib.Core.Bool.{Bool, ◌||◌}
use lib.Pow.{pow-lt}
use Rattle.marks.specs.Marks.{bit_of}
use Rattle.marks.proofs.Bits.{bit_or_lem, bit_pow}
use Rattle.marks.proofs.with_bit.Goals as goal

small : (i : ℕ) → i < 64 → 1 * 2 ^ i < 2 ^ 64
small i h = subst (λ (n : ℕ). n < 2 ^ 64) (sym (one-mul (2 ^ i))) (pow-lt h)

pub returns : goal.returns
returns c = λ j.
    bit_or_lem c.args.x (1 * 2 ^ c.args.i % 2 ^ 64) j
    ∙ ap (λ (n : ℕ). bit_of c.args.x j || bit_of n j) (mod-eq_of_lt (small c.args.i c.requires) ∙ one-mul (2 ^ c.args.i))
    ∙ ap (λ (t : Bool). bit_of c.args.x j || t) (bit_pow c.args.i j)
