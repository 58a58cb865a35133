-- The rules of resource.rs by whether their names have ids, and that each lists one entry at most.
use Rattle.std.proofs.Common.{◌≡◌, ℕ, ◌≤◌, List, length, ap₂}
use Rattle.std.specs.Prelude.{None, Some}
use lib.Ieee.{Float}
use Rattle.words.specs.Words.{◌>>=◌}
use Rattle.words.proofs.Lengths.{few-when, few-bind}
use Rattle.numbers.specs.Names as Names
use Rattle.numbers.specs.declared.Resource.{Resource}
use Rattle.numbers.specs.declared.Resource.TheVariants.{LaunchedDrones, CargoBay}
use Rattle.floats.specs.Floats.{of_nat, over}
use Rattle.catalogue.specs.Catalogue.{Id, catalogue_of}
use Rattle.catalogue.specs.Lookups.{name_id}
use Rattle.fit.specs.Fit.{fit_of, result_of}
use Rattle.fit.specs.Lookups.{amount}
use Rattle.entry.specs.declared.Entries.{Entries}
use Rattle.entry.specs.Emitted.{Emitted}
use Rattle.entry.proofs.Emitted.{emitted-same, emitted-bind, emitted-bind_none}
use Rattle.context.specs.Context.{Pair, Context, context}
use Rattle.context.specs.Gathered.{pairs_of, context_of}
use Rattle.resource.specs.Resource.{resource, launched, cargo_used, load_of, launched_drones, cargo}

module _ (catalogue fit : List ℕ) {b a : Entries} where
  pub drones-some : {id : Id} {used available : Float} → name_id (catalogue_of catalogue).names Names.max_active_drones ≡ Some id
      → used ≡ of_nat (launched (pairs_of catalogue fit)) → available ≡ amount (result_of fit 1) id
      → Emitted b a (resource LaunchedDrones used available) → Emitted b a (launched_drones (context_of catalogue fit) (pairs_of catalogue fit))
  unfolding launched_drones context_of context fit_of
  drones-some e u v w =
      emitted-bind (λ i. resource LaunchedDrones (of_nat (launched (pairs_of catalogue fit))) (amount (result_of fit 1) i)) e
      (emitted-same (ap₂ (resource LaunchedDrones) u v) w)

  pub cargo-some : {id : Id} {used available : Float} → name_id (catalogue_of catalogue).names Names.capacity ≡ Some id
      → used ≡ cargo_used (pairs_of catalogue fit) → available ≡ amount (result_of fit 0) id
      → Emitted b a (resource CargoBay used available) → Emitted b a (cargo (context_of catalogue fit) (pairs_of catalogue fit))
  unfolding cargo context_of context fit_of
  cargo-some e u v w =
      emitted-bind (λ i. resource CargoBay (cargo_used (pairs_of catalogue fit)) (amount (result_of fit 0) i)) e
      (emitted-same (ap₂ (resource CargoBay) u v) w)

  pub load-some : (kind : Resource) (load output : ℕ) {l o : Id} {used available : Float} → name_id (catalogue_of catalogue).names load ≡ Some l
      → name_id (catalogue_of catalogue).names output ≡ Some o → used ≡ amount (result_of fit 0) l → available ≡ amount (result_of fit 0) o
      → Emitted b a (resource kind used available) → Emitted b a (load_of (context_of catalogue fit) (kind, load, output))
  unfolding context_of context fit_of
  load-some kind load output {l} e g u v w =
      let ship = amount (result_of fit 0) in
      emitted-bind (λ i. ◌>>=◌ (name_id (catalogue_of catalogue).names output) (λ j. resource kind (ship i) (ship j))) e
      (emitted-bind (λ j. resource kind (ship l) (ship j)) g (emitted-same (ap₂ (resource kind) u v) w))

module _ (catalogue fit : List ℕ) {b : Entries} where
  pub drones-none : name_id (catalogue_of catalogue).names Names.max_active_drones ≡ None
      → Emitted b b (launched_drones (context_of catalogue fit) (pairs_of catalogue fit))
  unfolding launched_drones context_of context fit_of
  drones-none e = emitted-bind_none (λ i. resource LaunchedDrones (of_nat (launched (pairs_of catalogue fit))) (amount (result_of fit 1) i)) e

  pub cargo-none : name_id (catalogue_of catalogue).names Names.capacity ≡ None → Emitted b b (cargo (context_of catalogue fit) (pairs_of catalogue fit))
  unfolding cargo context_of context fit_of
  cargo-none e = emitted-bind_none (λ i. resource CargoBay (cargo_used (pairs_of catalogue fit)) (amount (result_of fit 0) i)) e

  pub load-none : (kind : Resource) (load output : ℕ) → name_id (catalogue_of catalogue).names load ≡ None
      → Emitted b b (load_of (context_of catalogue fit) (kind, load, output))
  unfolding context_of context fit_of
  load-none kind load output e =
      let ship = amount (result_of fit 0) in
      emitted-bind_none (λ i. ◌>>=◌ (name_id (catalogue_of catalogue).names output) (λ j. resource kind (ship i) (ship j))) e

  pub load-half : (kind : Resource) (load output : ℕ) {l : Id} → name_id (catalogue_of catalogue).names load ≡ Some l
      → name_id (catalogue_of catalogue).names output ≡ None
      → Emitted b b (load_of (context_of catalogue fit) (kind, load, output))
  unfolding context_of context fit_of
  load-half kind load output {l} e g =
      let ship = amount (result_of fit 0) in
      emitted-bind (λ i. ◌>>=◌ (name_id (catalogue_of catalogue).names output) (λ j. resource kind (ship i) (ship j))) e
      (emitted-bind_none (λ j. resource kind (ship l) (ship j)) g)

-- ---- how many entries
few-resource : (kind : Resource) (used available : Float) → length (resource kind used available) ≤ 1
unfolding resource
few-resource kind used available = few-when (over used available) _

module _ (x : Context) where
  pub few-load : (row : Resource × ℕ × ℕ) → length (load_of x row) ≤ 1
  few-load row = few-bind _ 1 (λ i. few-bind _ 1 (λ j. few-resource _ _ _) _) _

  pub few-drones : (ps : List Pair) → length (launched_drones x ps) ≤ 1
  unfolding launched_drones
  few-drones ps = few-bind _ 1 (λ i. few-resource _ _ _) _

  pub few-cargo : (ps : List Pair) → length (cargo x ps) ≤ 1
  unfolding cargo
  few-cargo ps = few-bind _ 1 (λ i. few-resource _ _ _) _
