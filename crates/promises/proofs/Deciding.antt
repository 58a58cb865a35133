-- Whether one outcome is kept in another can be computed: `is_kept` tries every place for every old entry. By induction on both counts.
use Prim.Native.Nat.{ℕ, zero, suc, ◌-◌, ◌<◌, zero-le, suc-le-suc}
use native.Mathlib.Nat.{le_of_suc-le-suc, not-suc-le-zero}
use native.Mathlib.Omega.{arith}
use mathlib.Core.Path.{◌≡◌, refl, ap₂, subst}
use mathlib.Core.Bool.{Bool, true, false, not, ◌&&◌, ◌||◌}
use mathlib.Core.List.{List, [], ◌∷◌}
use lib.Dec.{T, eqb, leb, eqb→eq, eqb_refl, leb→le, le→leb}
use lib.Ieee.{le}
use Rattle.image.specs.Bytes.{u8_at, u32_at}
use Rattle.floats.specs.Floats.{f64_at}
use Rattle.promises.specs.Answers.{Outcome, count, entry_at}
use Rattle.promises.specs.Compare.{blank, Stays, Kept}
use Rattle.promises.proofs.Placed.{and_both, and_left, and_right, or_left, or_right}
use Rattle.words.proofs.All.{All, nil, cons}

-- ---- tests
-- b, where the numbers are equal
where_equal : ℕ → ℕ → Bool → Bool
where_equal n m b = not (eqb n m) || b

asked : (n m : ℕ) (b : Bool) → T (where_equal n m b) → n ≡ m → T b
unfolding where_equal
asked n m b t e = go (eqb n m) (subst (λ (k : ℕ). T (eqb n k)) e (eqb_refl n)) t
  where
    go : (c : Bool) → T c → T (not c || b) → T b
    go true p q = q
    go false p q = absurd p

answers : (n m : ℕ) (b : Bool) → (n ≡ m → T b) → T (where_equal n m b)
unfolding where_equal
answers n m b f = go (eqb n m) (λ t. f (eqb→eq n m t))
  where
    go : (c : Bool) → (T c → T b) → T (not c || b)
    go true g = g tt
    go false g = tt

-- ---- lists of numbers
equal : List ℕ → List ℕ → Bool
equal [] [] = true
equal [] (y ∷ m) = false
equal (x ∷ l) [] = false
equal (x ∷ l) (y ∷ m) = eqb x y && equal l m

equal_eq : (l m : List ℕ) → T (equal l m) → l ≡ m
unfolding equal
equal_eq [] [] t = refl
equal_eq [] (y ∷ m) t = absurd t
equal_eq (x ∷ l) [] t = absurd t
equal_eq (x ∷ l) (y ∷ m) t = ap₂ ◌∷◌ (eqb→eq x y (and_left (eqb x y) (equal l m) t)) (equal_eq l m (and_right (eqb x y) (equal l m) t))

equal_refl : (l : List ℕ) → T (equal l l)
unfolding equal
equal_refl [] = tt
equal_refl (x ∷ l) = and_both (eqb x x) (equal l l) (eqb_refl x) (equal_refl l)

-- ---- one entry
-- all of some tests
conj : List Bool → Bool
conj [] = true
conj (b ∷ l) = b && conj l

conj_all : (l : List Bool) → T (conj l) → All T l
unfolding conj
conj_all [] t = nil
conj_all (b ∷ l) t = cons (and_left b (conj l) t) (conj_all l (and_right b (conj l) t))

all-conj : {l : List Bool} → All T l → T (conj l)
unfolding conj
all-conj nil = tt
all-conj (cons {x} {l} t h) = and_both x (conj l) t (all-conj h)

module _ (a b : List ℕ) where
  abbrev rule : ℕ
  rule = u8_at a 1

  abbrev tests : List Bool
  tests =
      equal (blank a) (blank b)
      ∷ where_equal rule 1 (le (f64_at a 8) (f64_at b 8))
      ∷ where_equal rule 2 (leb (u32_at a 8) (u32_at b 8))
      ∷ where_equal rule 11 (leb (u32_at b 16) (u32_at a 16))
      ∷ where_equal rule 17 (leb (u32_at a 12) (u32_at b 12))
      ∷ where_equal rule 18 (leb (u32_at a 12) (u32_at b 12))
      ∷ where_equal rule 25 (leb (u32_at a 8) (u32_at b 8))
      ∷ []

  is_stays : Bool
  is_stays = conj tests

  stays_by : All T tests → Stays a b
  stays_by (cons same (cons resource (cons slots (cons skill (cons max_group (cons max_type (cons points nil))))))) = record {
    bytes = equal_eq (blank a) (blank b) same;
    resource = asked rule 1 (le (f64_at a 8) (f64_at b 8)) resource;
    slots = λ e. leb→le (u32_at a 8) (u32_at b 8) (asked rule 2 _ slots e);
    skill = λ e. leb→le (u32_at b 16) (u32_at a 16) (asked rule 11 _ skill e);
    max_group = λ e. leb→le (u32_at a 12) (u32_at b 12) (asked rule 17 _ max_group e);
    max_type = λ e. leb→le (u32_at a 12) (u32_at b 12) (asked rule 18 _ max_type e);
    points = λ e. leb→le (u32_at a 8) (u32_at b 8) (asked rule 25 _ points e);
  }

  stays-if : T is_stays → Stays a b
  unfolding is_stays
  stays-if t = stays_by (conj_all tests t)

  if_stays : Stays a b → T is_stays
  unfolding is_stays
  if_stays s =
      all-conj {l = tests}
      (cons (subst (λ (l : List ℕ). T (equal (blank a) l)) s.bytes (equal_refl (blank a)))
      (cons (answers rule 1 _ s.resource)
      (cons (answers rule 2 _ (λ e. le→leb (u32_at a 8) (u32_at b 8) (s.slots e)))
      (cons (answers rule 11 _ (λ e. le→leb (u32_at b 16) (u32_at a 16) (s.skill e)))
      (cons (answers rule 17 _ (λ e. le→leb (u32_at a 12) (u32_at b 12) (s.max_group e)))
      (cons (answers rule 18 _ (λ e. le→leb (u32_at a 12) (u32_at b 12) (s.max_type e)))
      (cons (answers rule 25 _ (λ e. le→leb (u32_at a 8) (u32_at b 8) (s.points e)))
      nil)))))))

-- ---- places of a entries, which f gives, among b others, which g gives
record Places (a b : ℕ) (f g : ℕ → List ℕ) : Type 0 where
  place : ℕ → ℕ
  rising : (i j : ℕ) → i < j → j < a → place i < place j
  inside : (i : ℕ) → i < a → place i < b
  stays : (i : ℕ) → i < a → Stays (f i) (g (place i))

-- all but the first
abbrev next : (ℕ → List ℕ) → ℕ → List ℕ
next f i = f (suc i)

has_places : (b a : ℕ) (f g : ℕ → List ℕ) → Bool
has_places zero zero f g = true
has_places zero (suc a) f g = false
has_places (suc b) zero f g = true
has_places (suc b) (suc a) f g = is_stays (f 0) (g 0) && has_places b a (next f) (next g) || has_places b (suc a) f (next g)

none : (b : ℕ) (f g : ℕ → List ℕ) → Places 0 b f g
none b f g = record {
  place = λ i. i;
  rising = λ i j h k. absurd (not-suc-le-zero k);
  inside = λ i k. absurd (not-suc-le-zero k);
  stays = λ i k. absurd (not-suc-le-zero k);
}

-- the first at 0, and the others behind it
abbrev behind : (ℕ → ℕ) → ℕ → ℕ
behind p zero = 0
behind p (suc i) = suc (p i)

module _ {a b : ℕ} {f g : ℕ → List ℕ} where
  kept-first : Stays (f 0) (g 0) → Places a b (next f) (next g) → Places (suc a) (suc b) f g
  kept-first s p = record { place = behind p.place; rising = rising; inside = inside; stays = stays }
    where
      rising : (i j : ℕ) → i < j → j < suc a → behind p.place i < behind p.place j
      rising i zero h k = absurd (not-suc-le-zero h)
      rising zero (suc j) h k = suc-le-suc zero-le
      rising (suc i) (suc j) h k = suc-le-suc (p.rising i j (le_of_suc-le-suc h) (le_of_suc-le-suc k))

      inside : (i : ℕ) → i < suc a → behind p.place i < suc b
      inside zero k = suc-le-suc zero-le
      inside (suc i) k = suc-le-suc (p.inside i (le_of_suc-le-suc k))

      stays : (i : ℕ) → i < suc a → Stays (f i) (g (behind p.place i))
      stays zero k = s
      stays (suc i) k = p.stays i (le_of_suc-le-suc k)

  passed : Places a b f (next g) → Places a (suc b) f g
  passed p = record {
    place = λ i. suc (p.place i);
    rising = λ i j h k. suc-le-suc (p.rising i j h k);
    inside = λ i k. suc-le-suc (p.inside i k);
    stays = p.stays;
  }

  -- where none has the first place
  lowered : (p : Places a (suc b) f g) → ((i : ℕ) → i < a → 0 < p.place i) → Places a b f (next g)
  lowered p h = record {
    place = λ i. p.place i - 1;
    rising = λ i j l k. omega (arith, p.rising i j l k, h i (omega arith));
    inside = λ i k. omega (arith, p.inside i k, h i k);
    stays = λ i k.
        let e : p.place i ≡ suc (p.place i - 1) = omega (arith, h i k) in
        subst (λ (n : ℕ). Stays (f i) (g n)) e (p.stays i k);
  }

  rest : Places (suc a) b f g → Places a b (next f) g
  rest p = record {
    place = λ i. p.place (suc i);
    rising = λ i j h k. p.rising (suc i) (suc j) (suc-le-suc h) (suc-le-suc k);
    inside = λ i k. p.inside (suc i) (suc-le-suc k);
    stays = λ i k. p.stays (suc i) (suc-le-suc k);
  }

places : (b a : ℕ) (f g : ℕ → List ℕ) → T (has_places b a f g) → Places a b f g
unfolding has_places
places zero zero f g t = none 0 f g
places zero (suc a) f g t = absurd t
places (suc b) zero f g t = none (suc b) f g
places (suc b) (suc a) f g t =
    go (is_stays (f 0) (g 0)) (has_places b a (next f) (next g)) (has_places b (suc a) f (next g))
    (stays-if (f 0) (g 0)) (places b a (next f) (next g)) (places b (suc a) f (next g)) t
  where
    go : (x y z : Bool) → (T x → Stays (f 0) (g 0)) → (T y → Places a b (next f) (next g)) → (T z → Places (suc a) b f (next g))
        → T (x && y || z) → Places (suc a) (suc b) f g
    go true true z s p q t = kept-first (s tt) (p tt)
    go true false z s p q t = passed (q t)
    go false y z s p q t = passed (q t)

has-places : (b a : ℕ) (f g : ℕ → List ℕ) → Places a b f g → T (has_places b a f g)
unfolding has_places rest
has-places zero zero f g p = tt
has-places zero (suc a) f g p = absurd (not-suc-le-zero (p.inside 0 (suc-le-suc zero-le)))
has-places (suc b) zero f g p = tt
has-places (suc b) (suc a) f g p =
    go (is_stays (f 0) (g 0)) (has_places b a (next f) (next g)) (has_places b (suc a) f (next g)) (p.place 0) refl
    (if_stays (f 0) (g 0)) (has-places b a (next f) (next g)) (has-places b (suc a) f (next g))
  where
    above : (n : ℕ) → p.place 0 ≡ suc n → (i : ℕ) → i < suc a → 0 < p.place i
    above n e zero k = omega (arith, e)
    above n e (suc i) k = omega (arith, p.rising 0 (suc i) (suc-le-suc zero-le) k)

    go : (x y z : Bool) (n : ℕ) → p.place 0 ≡ n
        → (Stays (f 0) (g 0) → T x) → (Places a b (next f) (next g) → T y) → (Places (suc a) b f (next g) → T z) → T (x && y || z)
    go x y z zero e s q r =
        or_left (x && y) z
        (and_both x y
        (s (subst (λ (m : ℕ). Stays (f 0) (g m)) e (p.stays 0 (suc-le-suc zero-le))))
        (q (lowered (rest p) (λ i k. omega (arith, p.rising 0 (suc i) (suc-le-suc zero-le) (suc-le-suc k))))))
    go x y z (suc n) e s q r = or_right (x && y) z (r (lowered p (above n e)))

-- ---- two outcomes
unfoldable pub is_kept : Outcome → Outcome → Bool
unfolding has_places is_stays conj equal where_equal
is_kept o n = has_places (count n) (count o) (entry_at o) (entry_at n)

pub kept_if : (o n : Outcome) → T (is_kept o n) → Kept o n
unfolding is_kept
kept_if o n t =
    let p = places (count n) (count o) (entry_at o) (entry_at n) t in
    record { place = p.place; rising = p.rising; inside = p.inside; stays = p.stays }

pub if_kept : (o n : Outcome) → Kept o n → T (is_kept o n)
unfolding is_kept
if_kept o n k =
    has-places (count n) (count o) (entry_at o) (entry_at n) (record { place = k.place; rising = k.rising; inside = k.inside; stays = k.stays })
