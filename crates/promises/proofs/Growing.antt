-- What grows: any fit with as many results as items, by whatever is put behind them; and the two images, by computing.
use Prim.Native.Nat.{ℕ, zero, suc, ◌≤◌, zero-le}
use native.Mathlib.Nat.{le_refl}
use native.Mathlib.Omega.{arith}
use mathlib.Core.Path.{◌≡◌, refl, ap}
use mathlib.Core.Bool.{Bool, true, ◌&&◌}
use mathlib.Core.List.{List, [], ◌∷◌, ◌++◌}
use lib.Dec.{T, ltb, ltb→lt, lit<, lit≤}
use lib.ListN.{length, get_or, take}
use lib.Ieee.{le}
use Rattle.numbers.specs.Slots as Slots
use Rattle.floats.specs.Floats.{is_volume}
use Rattle.catalogue.specs.Catalogue.{catalogue_of}
use Rattle.fit.specs.Fit.{Item, Result, Fit, fit_of}
use Rattle.promises.specs.Compare.{Bytes, Grown, volume_allowed, added_items}
use Rattle.promises.specs.Hauls.{Hauled}
use Rattle.promises.specs.GrownCase.{grown_by, CATALOGUE, OLD, NEW, LOADED, LIGHTENED, Example, GuestExample, HaulExample}
use Rattle.promises.proofs.Placed.{and_left, and_right}
use Rattle.words.proofs.All.{All, nil, cons, all-mem}
use Rattle.promises.proofs.Opened.{opened}

-- ---- any fit
take_own : {A : Type 0} (l m : List A) → take (length l) (l ++ m) ≡ l
take_own [] m = refl
take_own (x ∷ l) m = ap (λ k. x ∷ k) (take_own l m)

pub any_growth : (old : Fit) (levels : List ℕ) (items : List Item) (results : List Result)
    → length old.items ≡ length old.results
    → ((i : ℕ) → get_or levels i 0 ≤ get_or old.levels i 0)
    → Grown old (grown_by old levels items results)
any_growth old levels items results even lower =
    record { frame = refl; skills = refl; levels = lower; even = even; items = take_own old.items items; results = take_own old.results results }

-- ---- bytes
unfoldable pub below : List ℕ → Bool
below [] = true
below (x ∷ l) = ltb x 256 && below l

pub are_bytes : (l : List ℕ) → T (below l) → Bytes l
unfolding below
are_bytes [] t i = lit< tt
are_bytes (x ∷ l) t zero = ltb→lt x 256 (and_left (ltb x 256) (below l) t)
are_bytes (x ∷ l) t (suc i) = are_bytes l (and_right (ltb x 256) (below l) t) i

new-bytes : Bytes NEW
unfolding below opened
new-bytes = are_bytes NEW tt

-- ---- the premises
lower : (i : ℕ) → get_or (1 ∷ []) i 0 ≤ get_or (3 ∷ []) i 0
lower zero = lit≤ tt
lower (suc i) = zero-le

grown : Grown (fit_of OLD) (fit_of NEW)
unfolding opened
grown = record { frame = refl; skills = refl; levels = lower; even = refl; items = refl; results = refl }

-- an item in a High slot is no cargo
fitted : {A : Type 0} → Slots.high ≡ Slots.cargo → A
fitted e = absurd (omega arith)

allowed : All (λ (i : Item). i.slot ≡ Slots.cargo → T (volume_allowed (catalogue_of CATALOGUE) i.type)) (added_items (fit_of OLD) (fit_of NEW))
unfolding opened volume_allowed is_volume le
allowed = cons fitted (cons (λ _. tt) (cons (λ _. tt) (cons (λ _. tt) (cons fitted nil))))

-- the three examples are three records of specs/, each field of them a computation of its own: no law of two would be shorter
pub example : Example
unfolding opened
example = record {
  old_fit = refl;
  new_fit = refl;
  items = refl;
  results = refl;
  bytes = new-bytes;
  grown = grown;
  volumes = all-mem allowed;
  old_list = refl;
  new_list = refl;
  old_bans = refl;
  new_bans = refl;
  old_points = refl;
  new_points = refl;
  old_skills = refl;
  new_skills = refl;
  old_narrow = refl;
  new_narrow = refl;
  new_wider = refl;
  old_narrow_skills = refl;
  new_wider_skills = refl;
}

pub guest_example : GuestExample
unfolding opened
guest_example = record {
  retrained_fit = refl;
  longer = refl;
  apart = record { frame = refl; items = refl; results = refl };
  old_fine = (tt, (tt, (tt, tt)));
  retrained_fine = (tt, (tt, (tt, tt)));
  guests_old = refl;
  guests_retrained = refl;
  officers_retrained = refl;
  pilots_old = refl;
  guests_new = refl;
  guests_skills = refl;
  pilots_skills = refl;
}

-- ---- cargo
loads : Hauled (fit_of OLD) (fit_of LOADED)
unfolding opened
loads = record {
  grown = record { frame = refl; skills = refl; levels = λ i. le_refl (get_or (3 ∷ []) i 0); even = refl; items = refl; results = refl };
  levels = refl;
  cargo = all-mem (cons refl (cons refl (cons refl (cons refl nil))));
}

lightens : Hauled (fit_of OLD) (fit_of LIGHTENED)
unfolding opened
lightens = record {
  grown = record { frame = refl; skills = refl; levels = λ i. le_refl (get_or (3 ∷ []) i 0); even = refl; items = refl; results = refl };
  levels = refl;
  cargo = all-mem (cons refl nil);
}

loaded_bytes : Bytes LOADED
unfolding below opened
loaded_bytes = are_bytes LOADED tt

lightened_bytes : Bytes LIGHTENED
unfolding below opened
lightened_bytes = are_bytes LIGHTENED tt

loaded-volumes : All (λ (i : Item). i.slot ≡ Slots.cargo → T (volume_allowed (catalogue_of CATALOGUE) i.type)) (added_items (fit_of OLD) (fit_of LOADED))
unfolding opened volume_allowed is_volume le
loaded-volumes = cons (λ _. tt) (cons (λ _. tt) (cons (λ _. tt) (cons (λ _. tt) nil)))

pub haul_example : HaulExample
unfolding opened
haul_example = record {
  loaded_fit = refl;
  lightened_fit = refl;
  items = refl;
  results = refl;
  bytes = loaded_bytes;
  lightened_bytes = lightened_bytes;
  loads = loads;
  volumes = all-mem loaded-volumes;
  lightens = lightens;
  loaded_list = refl;
  lightened_list = refl;
  loaded_skills = refl;
  outside = refl;
  outside_bans = refl;
  outside_points = refl;
  kept = refl;
  held = refl;
  gone = refl;
  armed_fit = refl;
  armed_grows = record { frame = refl; skills = refl; levels = λ i. le_refl (get_or (3 ∷ []) i 0); even = refl; items = refl; results = refl };
  armed_list = refl;
}
