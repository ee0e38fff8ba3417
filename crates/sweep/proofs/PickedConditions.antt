-- Conditions that numbers pick from a list.
use Rattle.std.proofs.Common.{◌≡◌, ℕ, zero, suc, ◌-◌, ◌<◌, Bool, true, ◌&&◌, List, [], ◌∷◌, length, map, get_or, refl, sym, ap, ◌∙◌, subst, inl, inr, arith, ℤ, Option, Some, None, slice_index, eq-eqb, eqb-true}
use Rattle.std.specs.Option.{option_map}
use Rattle.std.specs.Prelude.{slice_get, Contains, nat_eq, IfSome, IfNone}
use Rattle.std.specs.List.{All, list_any, cons_option}
use Rattle.std.proofs.lemmas.Bool.{false≢true, true≢false, and_parts, or_left, or_right, or_cases, not_from_false}
use Rattle.std.proofs.lemmas.List.{length-map}
use Rattle.std.proofs.lemmas.List.Elements.{All-get_or, All-head, All-tail, All-cons}
use Rattle.std.proofs.lemmas.Option.{slice_get-map, slice_get-get_or, same_Some}
use Rattle.geo_base.specs.Boxes.{Has}
use Rattle.geo_base.specs.declared.kbox.KBox.{KBox}
use Rattle.geo_conditions.specs.declared.cond.Cond.{Cond}
use Rattle.std.proofs.lemmas.Int.{ints}
use Rattle.geo_base.specs.Ways.{IsSmallPoint}
use Rattle.indexical.specs.Forbidden.{IsForbiddenBox}
use Rattle.geo_conditions.specs.Reach.{State, Region, dims, just, with_at}
use Rattle.geo_conditions.specs.Conditions.{possible, FitsIn, AllFit, IsRefuted}
use Rattle.geo_conditions.specs.Supported.{NoneRefuted}
use Rattle.geo_conditions.proofs.SmallerBoxes.{refuted_smaller_box}
use Rattle.geo_conditions.specs.Regions.{region_of}
use Rattle.derivation.specs.Covers.{refutes}
use Rattle.indexical.specs.Disjunctions.{IsDisjunction}
use Rattle.derivation.proofs.Leaves.{IsSound, all_at}
use Rattle.sweep.specs.Picks.{ArePicks, PicksAt, IsPickedBox, picked}
use Rattle.sweep.specs.Sweep.{refutes_pick}

-- what follows from having no value
pub none_with : {A : Type 0} (r : Option A) (P Q : Type 0) → (P → Q) → IfNone r P → IfNone r Q
none_with None P Q f h = f h
none_with (Some a) P Q f h = h

-- a number that picks counts from 1, and is at most the length
pub pick_in : (n : ℕ) (picks : List ℕ) (k : ℕ) → ArePicks n picks → k < length picks → (0 < slice_index picks k) × (slice_index picks k - 1 < n)
pick_in n picks k a h = All-get_or (λ i. (0 < i) × (i - 1 < n)) picks k 0 h a

-- what a pick names in a list, it names in the list of what f makes of each
pub picks-map : {X Y : Type 0} (f : X → Y) (list : List X) (picks : List ℕ) (k : ℕ) (d : X) → ArePicks (length list) picks → k < length picks → PicksAt (map f list) picks k (f (get_or list (slice_index picks k - 1) d))
picks-map f list picks k d a h =
    let i = slice_index picks k - 1 in
    (h, slice_get-map f list i ∙ ap (option_map f) (slice_get-get_or list i d (pick_in (length list) picks k a h).1))

-- the numbers pick from what f makes of each as well
pub mapped_picks : {X Y : Type 0} (f : X → Y) (list : List X) (picks : List ℕ) → ArePicks (length list) picks → ArePicks (length (map f list)) picks
mapped_picks f list picks a = subst (λ (n : ℕ). ArePicks n picks) (sym (length-map list f)) a

-- a number picks one thing
pub one_pick : {X : Type 0} (list : List X) (picks : List ℕ) (k : ℕ) (x y : X) → PicksAt list picks k x → PicksAt list picks k y → x ≡ y
one_pick list picks k x y p q = same_Some _ _ (sym p.1 ∙ q.1)

cons_all : {X : Type 0} (P : X → Type 0) (o : Option X) (xs : List X) → ((x : X) → o ≡ Some x → P x) → All P xs → All P (cons_option o xs)
cons_all P None xs f a = a
cons_all P (Some x) xs f a = All-cons P x xs (f x refl) a

cons_head : {X : Type 0} (P : X → Type 0) (o : Option X) (xs : List X) (x : X) → o ≡ Some x → All P (cons_option o xs) → P x
cons_head P None xs x e a = absurd (cc)
cons_head P (Some y) xs x e a = subst P (same_Some _ _ e) (All-head P y xs a)

cons_rest : {X : Type 0} (P : X → Type 0) (o : Option X) (xs : List X) → All P (cons_option o xs) → All P xs
cons_rest P None xs a = a
cons_rest P (Some y) xs a = All-tail P y xs a

-- what holds of each pick holds of all that is picked
pub picked_all : {X : Type 0} (P : X → Type 0) (list : List X) (picks : List ℕ) → ((k : ℕ) (x : X) → PicksAt list picks k x → P x) → All P (picked list picks)
picked_all P list [] f = λ k d h. absurd (omega arith)
picked_all P list (i ∷ picks) f = cons_all P (slice_get list (i - 1)) (picked list picks) (λ x e. f 0 x (omega arith, e)) (picked_all P list picks (λ k x p. f (suc k) x (omega (arith, p.0), p.1)))

-- and back
pub picked_at : {X : Type 0} (P : X → Type 0) (list : List X) (picks : List ℕ) (k : ℕ) (x : X) → All P (picked list picks) → PicksAt list picks k x → P x
picked_at P list [] k x a p = absurd (omega (arith, p.0))
picked_at P list (i ∷ picks) zero x a p = cons_head P (slice_get list (i - 1)) (picked list picks) x p.1 a
picked_at P list (i ∷ picks) (suc k) x a p = picked_at P list picks k x (cons_rest P (slice_get list (i - 1)) (picked list picks) a) (omega (arith, p.0), p.1)

-- a condition that is picked names only what is there
pub fits_at : (cs : List Cond) (S : State) (picks : List ℕ) (k : ℕ) (x : Cond) → AllFit cs S → PicksAt cs picks k x → FitsIn x S
fits_at cs S picks k x a p = all_at (λ c. FitsIn c S) cs (slice_index picks k - 1) x a p.1

any_here : (xs : List ℕ) (k : ℕ) → k < length xs → list_any (nat_eq (slice_index xs k)) xs ≡ true
any_here [] k h = absurd (omega arith)
any_here (x ∷ xs) zero h = or_left (nat_eq x x) (list_any (nat_eq x) xs) (eq-eqb x x refl)
any_here (x ∷ xs) (suc k) h = or_right (nat_eq (slice_index xs k) x) (list_any (nat_eq (slice_index xs k)) xs) (any_here xs k (omega arith))

any_back : (i : ℕ) (xs : List ℕ) → list_any (nat_eq i) xs ≡ true → Contains xs i
any_back i [] e = absurd (false≢true e)
any_back i (x ∷ xs) e = elim (or_cases (nat_eq i x) (list_any (nat_eq i) xs) e) [
  | inl q ↦ (0, omega arith, sym (eqb-true i x q))
  | inr r ↦ let w = any_back i xs r in (suc w.0, omega (arith, w.1), w.2)
]

refutes_at : (cs : List Cond) (i : ℕ) (x : Cond) (T : State) → 0 < i → slice_get cs (i - 1) ≡ Some x → IsRefuted x T → refutes cs i T ≡ true
refutes_at cs zero x T some e r = absurd (omega arith)
refutes_at cs (suc i) x T some e r =
    let one : suc i - 1 ≡ i = omega arith in
    let here : slice_get cs i ≡ Some x = subst (λ (n : ℕ). slice_get cs n ≡ Some x) one e in
    rw here (not_from_false (possible x T) r)

-- the condition is refuted with o at the place s in the box from lo to hi
abbrev pub RefutedIn : State → ℕ → ℕ → Cond → List ℤ → List ℤ → Type 0
RefutedIn S o s x lo hi = IsRefuted x (with_at S o s (record { lo = lo; hi = hi }))

module _ (cs : List Cond) (picks : List ℕ) (S : State) (o s : ℕ) where
  -- the test is true of a pick whose condition is refuted
  pub refutes_pick_true : (k : ℕ) (x : Cond) (lo hi : List ℤ) → ArePicks (length cs) picks → PicksAt cs picks k x → IsRefuted x (with_at S o s (record { lo = lo; hi = hi })) → refutes_pick cs picks S o s (slice_index picks k) lo hi ≡ true
  refutes_pick_true k x lo hi a p r =
      let T = with_at S o s (record { lo = lo; hi = hi }) in
      ap (λ (b : Bool). b && refutes cs (slice_index picks k) T) (any_here picks k p.0) ∙ refutes_at cs (slice_index picks k) x T (pick_in (length cs) picks k a p.0).0 p.1 r

  -- it is true only of conditions that are refuted
  pub refutes_pick_sound : IsSound (refutes_pick cs picks S o s) cs S o s
  refutes_pick_sound i lo hi e = (and_parts (list_any (nat_eq i) picks) (refutes cs i (with_at S o s (record { lo = lo; hi = hi }))) e).1

  -- and only of numbers that are picked
  pub refutes_pick_named : (i : ℕ) (lo hi : List ℤ) → refutes_pick cs picks S o s i lo hi ≡ true → Contains picks i
  refutes_pick_named i lo hi e = any_back i picks (and_parts (list_any (nat_eq i) picks) (refutes cs i (with_at S o s (record { lo = lo; hi = hi }))) e).0

  module _ (K : ℕ) (dim : dims S o ≡ K) (there : o < length S) where
    -- a condition that is refuted on a box is refuted at each of its points
    pub refuted_at_point : (x : Cond) (lo hi q : List ℤ) → FitsIn x S → Has K lo hi q → RefutedIn S o s x lo hi → RefutedIn S o s x q q
    refuted_at_point x lo hi q f has r = refuted_smaller_box x S o s (just q) (record { lo = lo; hi = hi }) f there (λ d h. has d (omega (arith, h, dim))) r

    -- at a point of a box that a pick refutes, some picked condition is refuted
    pub forbidden : (k : ℕ) (x : Cond) (lo hi q : List ℤ) → AllFit cs S → PicksAt cs picks k x → Has K lo hi q → RefutedIn S o s x lo hi
        → NoneRefuted (picked cs picks) (with_at S o s (just q)) → ⊥
    forbidden k x lo hi q a p has r none =
        true≢false (sym (picked_at (λ c. possible c (with_at S o s (just q)) ≡ true) cs picks k x none p) ∙ refuted_at_point x lo hi q (fits_at cs S picks k x a p) has r)

-- a box inside a bounded region is bounded
small_inside : (K : ℕ) (lo hi q : List ℤ) → IsSmallPoint K lo → IsSmallPoint K hi → Has K lo hi q → IsSmallPoint K q
small_inside K lo hi q l h has d b = (omega (arith, ints, (l d b).0, (has d b).0), omega (arith, ints, (h d b).1, (has d b).1))

-- a box that a picked condition forbids
pub picked_box_at : (K : ℕ) (cs : List Cond) (picks : List ℕ) (S : State) (o s : ℕ) (c : List ℤ) (region : Region) (k : ℕ) (b : Region) (x : Cond) → ArePicks (length cs) picks → PicksAt cs picks k x → IsForbiddenBox K x S o s c region b → IsPickedBox K cs picks S o s c region k b
picked_box_at K cs picks S o s c region k b x are pick box = record {
  condition = x;
  pick = pick;
  box = box;
  known = refutes_pick_true cs picks S o s k x b.lo b.hi are pick box.refuted;
  small_low = λ l h. small_inside K region.lo region.hi b.lo l h box.low;
  small_high = λ l h. small_inside K region.lo region.hi b.hi l h box.high;
}

-- what asking the condition of a pick says of the pick
pub picked_box : (K : ℕ) (cs : List Cond) (picks : List ℕ) (S : State) (o s : ℕ) (c : List ℤ) (region : KBox K) (k : ℕ) (x : Cond) (r : Option (KBox K)) → ArePicks (length cs) picks → PicksAt cs picks k x → IfSome r (λ b. Has K b.lo.coordinates b.hi.coordinates c)
    → IfSome r (λ b. Has K region.lo.coordinates region.hi.coordinates b.lo.coordinates × Has K region.lo.coordinates region.hi.coordinates b.hi.coordinates) → IfSome r (λ b. IsRefuted x (with_at S o s (region_of b)))
    → IfSome r (λ b. IsDisjunction o x → (q : List ℤ) → Has K region.lo.coordinates region.hi.coordinates q → IsRefuted x (with_at S o s (just q)) → Has K b.lo.coordinates b.hi.coordinates q)
    → IfSome r (λ b. IsPickedBox K cs picks S o s c (region_of region) k (region_of b))
picked_box K cs picks S o s c region k x None are pick has within refuted whole = tt
picked_box K cs picks S o s c region k x (Some b) are pick has within refuted whole =
    picked_box_at K cs picks S o s c (region_of region) k (region_of b) x are pick (record { has = has; low = within.0; high = within.1; refuted = refuted; whole = whole })

pub picked_none : (cs : List Cond) (picks : List ℕ) (k : ℕ) (x : Cond) (T : State) (r : Bool) → PicksAt cs picks k x → possible x T ≡ r → (y : Cond) → PicksAt cs picks k y → possible y T ≡ r
picked_none cs picks k x T r pick e y p = subst (λ (z : Cond). possible z T ≡ r) (one_pick cs picks k x y pick p) e
