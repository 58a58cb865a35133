-- `replay::record::first` meets its contract: each part stands behind the last.
use Rattle.std.proofs.Common.{ℕ, ◌+◌, ◌≡◌, ◌∙◌, List, take, drop, arith, ap}
use Rattle.std.proofs.lemmas.List.{drop-drop}
use Rattle.image.specs.Bytes.{u32_at}
use Rattle.replay.proofs.record.first.Goals as goal

-- the place behind a part of n bytes
next : (b : List ℕ) {rest behind : List ℕ} (n i k : ℕ) → rest ≡ drop i b → behind ≡ drop n rest → i + n ≡ k → behind ≡ drop k b
next b n i k at parted is = parted ∙ ap (drop n) at ∙ drop-drop n i b ∙ ap (λ (j : ℕ). drop j b) is

cut : (b : List ℕ) {rest part : List ℕ} (n i m : ℕ) → rest ≡ drop i b → part ≡ take n rest → n ≡ m → part ≡ take m (drop i b)
cut b n i m at parted is = parted ∙ ap (take n) at ∙ ap (λ (k : ℕ). take k (drop i b)) is

pub returns-clause-parts : goal.returns-clause-parts
returns-clause-parts c =
    let b = c.args.b.now in
    let head = c.in_ok-rest.ensures.cases in
    let catalogue = c.in_ok-catalogue.ensures.cases in
    let input = c.in_ok-input.ensures.cases in
    let profile = c.in_ok-profile.ensures.cases in
    let written = c.in_ok-written.ensures.cases in
    let at_input = next b _ 36 (36 + u32_at b 0) head.2 catalogue.2 (omega arith) in
    let at_profile = next b _ (36 + u32_at b 0) (36 + u32_at b 0 + u32_at b 4) at_input input.2 (omega arith) in
    let at_written = next b _ (36 + u32_at b 0 + u32_at b 4) (36 + u32_at b 0 + u32_at b 4 + u32_at b 8) at_profile profile.2 (omega arith) in
    record {
      catalogue_is = cut b _ 36 (u32_at b 0) head.2 catalogue.1 (omega arith);
      input_is = cut b _ (36 + u32_at b 0) (u32_at b 4) at_input input.1 (omega arith);
      profile_is = cut b _ (36 + u32_at b 0 + u32_at b 4) (u32_at b 8) at_profile profile.1 (omega arith);
      written_is = cut b _ (36 + u32_at b 0 + u32_at b 4 + u32_at b 8) (u32_at b 32) at_written written.1 (omega arith);
    }

pub returns-clause-behind : goal.returns-clause-behind
returns-clause-behind c =
    let head = c.in_ok-rest.ensures.cases in
    let catalogue = c.in_ok-catalogue.ensures.cases in
    let input = c.in_ok-input.ensures.cases in
    let profile = c.in_ok-profile.ensures.cases in
    let written = c.in_ok-written.ensures.cases in (
      omega (arith, head, catalogue, input, profile, written),
      rw (written.2, profile.2, input.2, catalogue.2, head.2) (simp drop-drop (ap (λ (k : ℕ). drop k c.args.b.now) (omega arith))),
    )
