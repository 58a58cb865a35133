-- `Keys::place_at` meets its contract: the first key that is not under the id is the id, or no key is.
use Rattle.std.proofs.Common.{◌≡◌, ℕ, ◌<◌, ◌≤◌, sym, ap, ◌∙◌, arith, w32}
use mir.ValLaws.{to_z-of_z}
use Rattle.keys.specs.Keys.{rank_of, key_at}
use Rattle.keys.proofs.Orders.{place_found, place_none}
use Rattle.keys.proofs.Keys.place_at.Goals as goal

pub returns-then-self-at : goal.returns-then-self-at
returns-then-self-at c =
    place_none c.args.self.now.bytes.now c.args.self.now.n c.args.id c.ranges.id.sfits c.args.at c.requires
    (λ k h g. absurd (omega (arith, h, g, c.if-self-at.true)))

pub returns-then-x-key : goal.returns-then-x-key
returns-then-x-key c =
    place_found c.args.self.now.bytes.now c.args.self.now.n c.args.id c.ranges.id.sfits c.args.at c.requires
    c.if-self-at.false
    (sym c.rank_at-x.ensures ∙ c.if-x-key.true ∙ c.rank-key.ensures ∙ ap rank_of (to_z-of_z w32 c.args.id c.ranges.id))

pub returns-else-x-key : goal.returns-else-x-key
returns-else-x-key c =
    let p = c.requires in
    let keys = c.args.self.now.bytes.now in
    let r = c.args.at in
    let in_range = c.if-self-at.false in
    let e : c.rank-key.result ≡ rank_of c.args.id = c.rank-key.ensures ∙ ap rank_of (to_z-of_z w32 c.args.id c.ranges.id) in
    let x : c.rank_at-x.result ≡ rank_of (key_at keys r) = c.rank_at-x.ensures in
    let d : rank_of c.args.id < rank_of (key_at keys r) = above _ _ _ _ e x c.if-x-key.false (p.beyond r (omega arith) in_range) in
    place_none keys c.args.self.now.n c.args.id c.ranges.id.sfits r p
    (λ k h g. omega (arith, c.args.self.now.sorted r k h g, d))
  where
    above : (a b i k : ℕ) → a ≡ i → b ≡ k → (b ≡ a → ⊥) → i ≤ k → i < k
    above a b i k e x n h = lt_of_le_ne h (λ q. n (x ∙ sym q ∙ sym e))
      where
        lt_of_le_ne : i ≤ k → (i ≡ k → ⊥) → i < k
        lt_of_le_ne p q = omega arith
