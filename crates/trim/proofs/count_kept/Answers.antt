-- `trim::count_kept` meets its contract: one block after the other.
use Prim.Native.Nat.{ℕ, ◌≤◌}
use mathlib.Core.Path.{◌≡◌}
use mathlib.Core.List.{List}
use lib.ListN.{length}
use Rattle.catalogue.specs.Catalogue.{Id}
use Rattle.trim.specs.Parts.{size_of, kept_in}
use Rattle.trim.specs.Trimmers.{ids_in, SameImages}
use Rattle.trim.specs.declared.part.Part.{Part}
use Rattle.trim.specs.declared.part.Part.TheVariants.{Types, Links, Bases}
use Rattle.trim.specs.declared.trimmer.Trimmer.{Trimmer}
use Rattle.trim.proofs.Runs.{same_refl, same_trans, same-moved}
use Rattle.trim.proofs.count_kept.Goals as goal

-- what a trimmer of the same images has counted
counted : (s t : Trimmer) → SameImages s t → (p : Part) (k : ℕ)
    → (k ≡ length (kept_in t.window.catalogue.now (ids_in t) p)) × (k ≤ size_of t.window.catalogue.now p)
    → (k ≡ length (kept_in s.window.catalogue.now (ids_in s) p)) × (k ≤ size_of s.window.catalogue.now p)
counted s t h p k e =
    same-moved (λ (b : List ℕ) (ids : List Id). (k ≡ length (kept_in b ids p)) × (k ≤ size_of b p)) s t h e

pub returns : goal.returns
unfolding size_of
returns c =
    let s = c.args.trimmer.now in
    let t = c.count-types in
    let l = c.count-links in
    let b = c.count-bases in
    let first = t.ensures.0 in
    let second = same_trans s t.new.self l.new.self first l.ensures.0 in
    let types = counted s s (same_refl s) Types t.result (t.ensures.1, t.ensures.2) in
    let links = counted s t.new.self first Links l.result (l.ensures.1, l.ensures.2) in
    let bases = counted s l.new.self second Bases b.result (b.ensures.1, b.ensures.2) in (
      same_trans s l.new.self b.new.self second b.ensures.0,
      record {
        types = types.0;
        links = links.0;
        bases = bases.0;
        few_types = types.1;
        few_links = links.1;
        few_bases = bases.1;
      },
    )
