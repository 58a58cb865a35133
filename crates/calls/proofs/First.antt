-- Numbers with conditions, one list behind another: which is the first that holds. By cases on the conditions.
use Prim.Native.Nat.{ℕ, zero, suc, ◌≤◌, ◌<◌, zero-le}
use native.Mathlib.Omega.{arith}
use mathlib.Core.Path.{◌≡◌, refl, sym, ap, ◌∙◌}
use mathlib.Core.Bool.{Bool, true, false, cond}
use mathlib.Core.List.{List, [], ◌∷◌, ◌++◌}
use Rattle.words.specs.Words.{first_of}
use Rattle.numbers.specs.Refusals as Refusals
use Rattle.catalogue.specs.Catalogue.{catalogue_of}
use Rattle.catalogue.specs.Refusals.{catalogue_refusals, catalogue_refusal}
use Rattle.catalogue.specs.Sound as Catalogue
use Rattle.catalogue.proofs.Sound.{accepted-sound}
use Rattle.fit.specs.Fit.{fit_of}
use Rattle.fit.specs.Refusals.{fit_refusals, fit_refusal}
use Rattle.fit.specs.Sound as Fit
use Rattle.fit.proofs.Soundness.{sound}
use Rattle.profile.specs.Profile.{profile_refusals, profile_refusal}
use Rattle.profile.specs.Sound as Profile
use Rattle.profile.proofs.Accepted as Profiles
use Rattle.lists.specs.Terms.{Terms}
use Rattle.calls.specs.Answers.{over_pairs, image_refusals, page_refusals, input_refusals}

-- every number is one of 1 to limit
abbrev pub Numbered : ℕ → List (ℕ × Bool) → Type 0
Numbered limit [] = Unit {0}
Numbered limit (x ∷ l) = (0 < x.0) × (x.0 ≤ limit) × Numbered limit l

pub first_small : (limit : ℕ) (l : List (ℕ × Bool)) → Numbered limit l → first_of l ≤ limit
unfolding first_of
first_small limit [] h = zero-le
first_small limit (x ∷ l) h = go x.1 (first_small limit l h.2)
  where
    go : (b : Bool) → first_of l ≤ limit → cond b x.0 (first_of l) ≤ limit
    go true f = h.1
    go false f = f

-- one that holds in front is the first
pub first-kept : (l m : List (ℕ × Bool)) → 0 < first_of l → first_of (l ++ m) ≡ first_of l
unfolding first_of
first-kept [] m h = absurd (omega arith)
first-kept (x ∷ l) m h = go x.1 h (first-kept l m)
  where
    go : (b : Bool) → 0 < cond b x.0 (first_of l) → (0 < first_of l → first_of (l ++ m) ≡ first_of l)
        → cond b x.0 (first_of (l ++ m)) ≡ cond b x.0 (first_of l)
    go true h f = refl
    go false h f = f h

-- where none holds in front, the first is one behind
pub first_past : (limit : ℕ) (l m : List (ℕ × Bool)) → Numbered limit l → first_of l ≡ 0 → first_of (l ++ m) ≡ first_of m
unfolding first_of
first_past limit [] m a e = refl
first_past limit (x ∷ l) m a e = go x.1 e (first_past limit l m a.2)
  where
    go : (b : Bool) → cond b x.0 (first_of l) ≡ 0 → (first_of l ≡ 0 → first_of (l ++ m) ≡ first_of m) → cond b x.0 (first_of (l ++ m)) ≡ first_of m
    go true e f = absurd (omega (arith, e, a.0))
    go false e f = f e

-- lists whose first numbers are the same, two and two
pub first-join : (limit : ℕ) (l l' m m' : List (ℕ × Bool)) → Numbered limit l → Numbered limit l' → first_of l ≡ first_of l' → first_of m ≡ first_of m'
    → first_of (l ++ m) ≡ first_of (l' ++ m')
first-join limit l l' m m' n n' e d = go (first_of l) refl
  where
    go : (k : ℕ) → first_of l ≡ k → first_of (l ++ m) ≡ first_of (l' ++ m')
    go zero q = first_past limit l m n q ∙ d ∙ sym (first_past limit l' m' n' (sym e ∙ q))
    go (suc k) q = first-kept l m (omega (arith, q)) ∙ e ∙ sym (first-kept l' m' (omega (arith, q, e)))

-- ---- of both images
pub numbered-catalogue : (catalogue : List ℕ) → Numbered 6 (catalogue_refusals catalogue)
unfolding catalogue_refusals
numbered-catalogue catalogue = (omega arith, omega arith, (omega arith, omega arith, (omega arith, omega arith, tt)))

pub numbered-images : (catalogue fit : List ℕ) → Numbered 6 (image_refusals catalogue fit)
unfolding catalogue_refusals fit_refusals
numbered-images catalogue fit = (
  omega arith,
  omega arith,
  (
    omega arith,
    omega arith,
    (
      omega arith,
      omega arith,
      (omega arith, omega arith, (omega arith, omega arith, (omega arith, omega arith, tt))),
    ),
  ),
)

module _ (catalogue fit : List ℕ) where
  pub catalogue_first : 0 < catalogue_refusal catalogue → catalogue_refusal catalogue ≡ first_of (image_refusals catalogue fit)
  unfolding catalogue_refusal
  catalogue_first h = sym (first-kept (catalogue_refusals catalogue) (fit_refusals fit) h)

  pub fit-first : catalogue_refusal catalogue ≡ 0 → fit_refusal fit ≡ first_of (image_refusals catalogue fit)
  unfolding catalogue_refusal fit_refusal
  fit-first e = sym (first_past 6 (catalogue_refusals catalogue) (fit_refusals fit) (numbered-catalogue catalogue) e)

  pub images_sound : first_of (image_refusals catalogue fit) ≡ 0 → Catalogue.Sound catalogue × Fit.Sound fit
  images_sound e = go (catalogue_refusal catalogue) refl
    where
      go : (k : ℕ) → catalogue_refusal catalogue ≡ k → Catalogue.Sound catalogue × Fit.Sound fit
      go zero q = (accepted-sound catalogue q, sound fit (fit-first q ∙ e))
      go (suc k) q = absurd (omega (arith, q, e, catalogue_first (omega (arith, q))))

-- ---- on a page
pub numbered-page : (t : Terms) (catalogue fit : List ℕ) → Numbered 13 (page_refusals t catalogue fit)
unfolding catalogue_refusals fit_refusals
numbered-page t catalogue fit = omega arith

module _ (t : Terms) (catalogue fit : List ℕ) where
  pub images_first : 0 < first_of (image_refusals catalogue fit) → first_of (image_refusals catalogue fit) ≡ first_of (page_refusals t catalogue fit)
  images_first h = sym (first-kept (image_refusals catalogue fit) _ h)

  -- what is left is 13
  pub limit-first : first_of (image_refusals catalogue fit) ≡ 0 → (b : Bool) → over_pairs t (catalogue_of catalogue) (fit_of fit) ≡ b
      → first_of (page_refusals t catalogue fit) ≡ cond b Refusals.over_limit 0
  unfolding first_of
  limit-first e b q =
      first_past 6 (image_refusals catalogue fit) _ (numbered-images catalogue fit) e ∙ ap (λ (x : Bool). cond x Refusals.over_limit 0) q

  pub page_sound : first_of (page_refusals t catalogue fit) ≡ 0 → Catalogue.Sound catalogue × Fit.Sound fit
  page_sound e = go (first_of (image_refusals catalogue fit)) refl
    where
      go : (k : ℕ) → first_of (image_refusals catalogue fit) ≡ k → Catalogue.Sound catalogue × Fit.Sound fit
      go zero q = images_sound catalogue fit q
      go (suc k) q = absurd (omega (arith, q, e, images_first (omega (arith, q))))

-- ---- of all that a list call brings
pub numbered-inputs : (t : Terms) (catalogue fit : List ℕ) → Numbered 13 (input_refusals t catalogue fit)
unfolding catalogue_refusals fit_refusals profile_refusals
numbered-inputs t catalogue fit = omega arith

-- what the profile adds stands behind what a page's call brings
inputs_are : (t : Terms) (catalogue fit : List ℕ) → input_refusals t catalogue fit ≡ page_refusals t catalogue fit ++ profile_refusals t.profile
inputs_are t catalogue fit = refl

module _ (t : Terms) (catalogue fit : List ℕ) where
  pub page_first : 0 < first_of (page_refusals t catalogue fit) → first_of (page_refusals t catalogue fit) ≡ first_of (input_refusals t catalogue fit)
  page_first h = sym (first-kept (page_refusals t catalogue fit) (profile_refusals t.profile) h)

  pub profile-first : first_of (page_refusals t catalogue fit) ≡ 0 → profile_refusal t.profile ≡ first_of (input_refusals t catalogue fit)
  unfolding profile_refusal
  profile-first e =
      sym (ap first_of (inputs_are t catalogue fit)
      ∙ first_past 13 (page_refusals t catalogue fit) (profile_refusals t.profile) (numbered-page t catalogue fit) e)

  pub inputs_sound : first_of (input_refusals t catalogue fit) ≡ 0 → Catalogue.Sound catalogue × Fit.Sound fit × Profile.Sound t.profile
  inputs_sound e = go (first_of (page_refusals t catalogue fit)) refl
    where
      go : (k : ℕ) → first_of (page_refusals t catalogue fit) ≡ k → Catalogue.Sound catalogue × Fit.Sound fit × Profile.Sound t.profile
      go zero q = let s = page_sound t catalogue fit q in (s.0, s.1, Profiles.sound t.profile (profile-first q ∙ e))
      go (suc k) q = absurd (omega (arith, q, e, page_first (omega (arith, q))))
