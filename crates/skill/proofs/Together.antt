-- One walk from the demands of all results finds the skills that each result wants, where it has room for them: no result wants too many
-- then. By what is wanted, of one result and of all, and by counting ids.
use Prim.Native.Nat.{◌≤◌}
use native.Mathlib.Omega.{arith}
use mathlib.Core.Path.{◌≡◌, refl, sym, ap, ap₂, subst}
use mathlib.Core.Bool.{Bool, false, not, ◌||◌}
use mathlib.Core.List.Memᴰ
use mathlib.Core.List.{List, [], ◌∷◌, Memᴰ}
use lib.Dec.{T}
use lib.ListN.{length, length-map}
use borrow.Author.Tests.{le-ltb}
use Rattle.words.specs.Words.{each, any_of, contains}
use Rattle.catalogue.specs.Catalogue.{Id, Catalogue}
use Rattle.fit.specs.Fit.{Result, Fit, all_results}
use Rattle.skill.specs.Skill.{Demand, of_result, noted, met_from, met, walk_within, wanted_skills, wants_too_many}
use Rattle.skill.specs.Held.{all_demands}
use Rattle.skill.specs.Wanted.{ids_of, WantedFrom, asked, needed, WalkedFrom}
use Rattle.skill.proofs.Walking.{noted-wanted, noted-once, walked_from, walked, listed-iff_wanted}
use Rattle.skill.proofs.Onces.{contains_same, once-length, each_from, each-has}

any_none : {A : Type 0} (t : A → Bool) (l : List A) → ((x : A) → Memᴰ x l → t x ≡ false) → any_of t l ≡ false
unfolding any_of
any_none t [] h = refl
any_none t (x ∷ l) h = ap₂ (λ (a b : Bool). a || b) (h x (Memᴰ.head refl)) (any_none t l (λ y m. h y (Memᴰ.tail m)))

module _ (c : Catalogue) (f : Fit) where
  -- what one result wants all of them want, and the other way round
  of-one : (r : Result) → Memᴰ r (all_results f) → (x : Id) → WantedFrom c (of_result c r) x → WantedFrom c (all_demands c f) x
  of-one r m x (asked {l = l} k) = asked (each-has (of_result c) (x, l) m k)
  of-one r m x (needed {t = t} w k) = needed (of-one r m t w) k

  of-some : (x : Id) → WantedFrom c (all_demands c f) x → (r : Result) × Memᴰ r (all_results f) × WantedFrom c (of_result c r) x
  of-some x (asked {l = l} k) = let a = each_from (all_results f) (of_result c) (x, l) k in (a.0, a.1, asked a.2)
  of-some x (needed {t = t} w k) = let a = of-some t w in (a.0, a.1, needed a.2 k)

  module _ (ws : List Demand) (e : ws ≡ noted (met_from c (all_demands c f) 512)) (h : length ws ≤ 512) where
    all-walked : WalkedFrom c (all_demands c f) ws
    all-walked = subst (WalkedFrom c (all_demands c f)) (sym e) (walked_from 512 c (all_demands c f) (omega (arith, h, ap length e)))

    is_in : (x : Id) → WantedFrom c (all_demands c f) x → Memᴰ x (ids_of ws)
    is_in x w = let k = (listed-iff_wanted c (all_demands c f) ws all-walked x).0 w in Memᴰ.map (λ (d : Demand). d.0) k.1

    one-in : (r : Result) → Memᴰ r (all_results f) → (x : Id) → Memᴰ x (ids_of (noted (met c r 512))) → Memᴰ x (ids_of ws)
    one-in r m x k = is_in x (of-one r m x (noted-wanted c (of_result c r) 512 x k))

    few : (r : Result) → Memᴰ r (all_results f) → wants_too_many 512 c r ≡ false
    unfolding wants_too_many walk_within
    few r m =
        let one = noted (met c r 512) in
        let k = once-length (ids_of one) (ids_of ws) (noted-once (met c r 512)) (one-in r m) in
        le-ltb 512 (length one) (omega (arith, k, h, length-map one (λ (d : Demand). d.0), length-map ws (λ (d : Demand). d.0)))

    pub all-few : any_of (wants_too_many 512 c) (all_results f) ≡ false
    all-few = any_none (wants_too_many 512 c) (all_results f) few

    one-has : (r : Result) → Memᴰ r (all_results f) → (x : Id) → WantedFrom c (of_result c r) x → Memᴰ x (ids_of (wanted_skills c r))
    one-has r m x w =
        let t : T (not (wants_too_many 512 c r)) = subst (λ (b : Bool). T (not b)) (sym (few r m)) tt in
        let k = (listed-iff_wanted c (of_result c r) (walk_within 512 c r) (walked 512 c r t) x).0 w in
        Memᴰ.map (λ (d : Demand). d.0) k.1

    -- the skills of the one walk are those of all the others
    pub all-skills : (x : Id) → contains x (ids_of ws) ≡ contains x (each (all_results f) (λ r. ids_of (wanted_skills c r)))
    all-skills x = contains_same (ids_of ws) (each (all_results f) (λ r. ids_of (wanted_skills c r))) x to from
      where
        to : Memᴰ x (ids_of ws) → Memᴰ x (each (all_results f) (λ r. ids_of (wanted_skills c r)))
        to m =
            let k = Memᴰ.of_map (λ (d : Demand). d.0) ws m in
            let d = k.0 in
            let w = subst (WantedFrom c (all_demands c f)) k.2 ((listed-iff_wanted c (all_demands c f) ws all-walked d.0).1 (d.1, k.1)) in
            let a = of-some x w in
            each-has (λ (r : Result). ids_of (wanted_skills c r)) x a.1 (one-has a.0 a.1 x a.2)

        from : Memᴰ x (each (all_results f) (λ r. ids_of (wanted_skills c r))) → Memᴰ x (ids_of ws)
        from m =
            let a = each_from (all_results f) (λ (r : Result). ids_of (wanted_skills c r)) x m in
            one-in a.0 a.1 x (unfold walk_within in a.2)
