-- A page after the last layout of another goes on where that one ends.
use Rattle.std.proofs.Common.{◌≡◌, ◌≢◌, ◌+◌, ◌-◌, ◌<◌, ◌≤◌, ℕ, zero, suc, ℤ, Bool, true, false, Contains, AllPairs, List, [], ◌∷◌, ◌++◌, length, take, drop, get_or, refl, sym, ap, ◌∙◌, subst, inl, inr, IfSome, arith}
use Rattle.std.specs.Prelude.{◌⊎◌, filter, if◌then◌else◌}
use Rattle.std.specs.List.{All}
use Rattle.std.proofs.lemmas.Bool.Decides.{nat_tests}
use Rattle.std.proofs.lemmas.Bool.{cases_Bool}
use Rattle.std.proofs.lemmas.Int.{ints}
use Rattle.std.proofs.lemmas.List.{take_all, take-take, take-append-drop, take-append-le, length-take, length-append, append_assoc, get_or_append_left}
use Rattle.std.proofs.lemmas.List.Elements.{All-filter, All-head, All-tail, Contains-append_cases, filter-append, filter_passes}
use Rattle.std.proofs.lemmas.List.Kept.{AllPairs-filter}
use Rattle.std.proofs.lemmas.Option.{IfSome_then}
use Rattle.std.proofs.Math.Seq.{take-append-add}
use Rattle.geo_conditions.specs.declared.cond.Cond.{Cond}
use Rattle.geo_conditions.specs.Reach.{State}
use Rattle.geo_conditions.specs.Walk.{Variable, PlaceOf, CoordinateOf, IsBefore, Begins, IsMember, IsAfter, Tree, Precedes, IsIn, IsWalk, is_full, EndWord, More, End, OutOfBudget, IsListing, IsEndWord, Lists}
use Rattle.geo_conditions.proofs.Beginnings.{listing_follows}
use Rattle.geo_conditions.proofs.Fronts.{before_once, precedes_once}
use Rattle.walk_listings.specs.Laws.{past}
use Rattle.walk_listings.proofs.Listings.{lists_listing}

-- ---- the order

before_then : (x : Variable) (u v w : ℤ) → IsBefore x u v → IsBefore x v w → IsBefore x u w
before_then (PlaceOf o) u v w h k = omega (arith, ints, h, k)
before_then (CoordinateOf o d false) u v w h k = omega (arith, ints, h, k)
before_then (CoordinateOf o d true) u v w h k = omega (arith, ints, h, k)

precedes_then : (xs : List Variable) (q r s : List ℤ) → Precedes xs q r → Precedes xs r s → Precedes xs q s
precedes_then xs [] [] s h k = absurd h
precedes_then xs (u ∷ q) [] s h k = absurd h
precedes_then xs q (v ∷ r) [] h k = absurd k
precedes_then [] [] (v ∷ r) (w ∷ s) h k = tt
precedes_then (x ∷ xs) [] (v ∷ r) (w ∷ s) h k = tt
precedes_then [] (u ∷ q) (v ∷ r) (w ∷ s) h k = absurd h
precedes_then (x ∷ xs) (u ∷ q) (v ∷ r) (w ∷ s) (inl h) (inl k) = inl (before_then x u v w h k)
precedes_then (x ∷ xs) (u ∷ q) (v ∷ r) (w ∷ s) (inl h) (inr k) = inl (subst (IsBefore x u) k.0 h)
precedes_then (x ∷ xs) (u ∷ q) (v ∷ r) (w ∷ s) (inr h) (inl k) = inl (subst (λ (z : ℤ). IsBefore x z w) (sym h.0) k)
precedes_then (x ∷ xs) (u ∷ q) (v ∷ r) (w ∷ s) (inr h) (inr k) = inr (h.0 ∙ k.0, precedes_then xs q r s h.1 k.1)

-- ---- lists in order that have all elements of a kind

all_back : {X : Type 0} (P : X → Type 0) (xs ys : List X) → All P (xs ++ ys) → All P ys
all_back P [] ys h = h
all_back P (x ∷ xs) ys h = all_back P xs ys (All-tail P x (xs ++ ys) h)

pairs_back : {X : Type 0} (R : X → X → Type 0) (xs ys : List X) → AllPairs R (xs ++ ys) → AllPairs R ys
pairs_back R [] ys h = h
pairs_back R (x ∷ xs) ys h = pairs_back R xs ys (λ i j d l b. h (suc i) (suc j) d (omega arith) (omega arith))

pairs_front : {X : Type 0} (R : X → X → Type 0) (xs ys : List X) → AllPairs R (xs ++ ys) → AllPairs R xs
pairs_front R xs ys h i j d l b =
    let at : (k : ℕ) → k < length xs → get_or (xs ++ ys) k d ≡ get_or xs k d = λ k c. get_or_append_left xs ys d k c in
    subst (λ (z : _). R z (get_or xs j d)) (at i (omega (arith, l, b))) (subst (R (get_or (xs ++ ys) i d)) (at j b) (h i j d l (omega (arith, b, length-append xs ys))))

in_filter : {X : Type 0} (p : X → Bool) (xs : List X) (q : X) → Contains xs q → p q ≡ true → Contains (filter p xs) q
in_filter p [] q (k, b, e) h = absurd (omega arith)
in_filter p (x ∷ xs) q (zero, b, e) h = subst (λ (v : Bool). Contains (if v then x ∷ filter p xs else filter p xs) q) (sym (ap p e ∙ h)) (0, omega arith, e)
in_filter p (x ∷ xs) q (suc k, b, e) h =
    let r = in_filter p xs q (k, omega arith, e) h in
    elim (cases_Bool (p x)) [
      | inl c ↦ subst (λ (v : Bool). Contains (if v then x ∷ filter p xs else filter p xs) q) (sym c) (suc r.0, omega (arith, r.1), r.2)
      | inr c ↦ subst (λ (v : Bool). Contains (if v then x ∷ filter p xs else filter p xs) q) (sym c) r
    ]

module _ {X : Type 0} (R : X → X → Type 0) (once : (a b : X) → R a b → R b a → ⊥) (next : (a b c : X) → R a b → R b c → R a c) where
  record HasAll (M : X → Type 0) (xs : List X) : Type 0 where
    each : All M xs
    in_order : AllPairs R xs
    all : (q : X) → M q → Contains xs q

  head_or : (a : X) (u : List X) (q : X) → Contains (a ∷ u) q → (a ≡ q) ⊎ Contains u q
  head_or a u q (zero, b, e) = inl e
  head_or a u q (suc k, b, e) = inr (k, omega arith, e)

  tail : (M : X → Type 0) (a : X) (u : List X) → HasAll M (a ∷ u) → HasAll (λ q. M q × R a q) u
  tail M a u f = record {
    each = λ k d b. (f.each (suc k) d (omega arith), f.in_order 0 (suc k) d (omega arith) (omega arith));
    in_order = λ i j d h b. f.in_order (suc i) (suc j) d (omega arith) (omega arith);
    all = λ q m. elim (head_or a u q (f.all q m.0)) [ inr k ↦ k | inl e ↦ absurd (let l : R q q = subst (λ (z : X). R z q) e m.1 in once q q l l) ];
  }

  of_kind : (M N : X → Type 0) (u : List X) → ((q : X) → M q → N q) → ((q : X) → N q → M q) → HasAll M u → HasAll N u
  of_kind M N u to back h = record { each = λ k d b. to (get_or u k d) (h.each k d b); in_order = h.in_order; all = λ q n. h.all q (back q n) }

  before_head : (M : X → Type 0) (a : X) (u : List X) → HasAll M (a ∷ u) → (b : X) → M b → (a ≡ b) ⊎ R a b
  before_head M a u f b m = elim (head_or a u b (f.all b m)) [
    | inl e ↦ inl e
    | inr k ↦ inr (subst (R a) k.2 (f.in_order 0 (suc k.0) b (omega arith) (omega (arith, k.1))))
  ]

  same_list : (M N : X → Type 0) (u w : List X) → ((q : X) → M q → N q) → ((q : X) → N q → M q) → HasAll M u → HasAll N w → u ≡ w
  same_list M N [] [] to back f g = refl
  same_list M N [] (b ∷ w) to back f g = absurd (let c = f.all b (back b (All-head N b w g.each)) in omega (arith, c.1))
  same_list M N (a ∷ u) [] to back f g = absurd (let c = g.all a (to a (All-head M a u f.each)) in omega (arith, c.1))
  same_list M N (a ∷ u) (b ∷ w) to back f g =
      let e : a ≡ b = elim (before_head M a u f b (back b (All-head N b w g.each))) [
        | inl e ↦ e
        | inr h ↦ elim (before_head N b w g a (to a (All-head M a u f.each))) [ inl e ↦ sym e | inr k ↦ absurd (once a b h k) ]
      ] in
      let rest : u ≡ w = same_list (λ q. M q × R a q) (λ q. N q × R b q) u w (λ q m. (to q m.0, subst (λ (z : X). R z q) e m.1)) (λ q m. (back q m.0, subst (λ (z : X). R z q) (sym e) m.1)) (tail M a u f) (tail N b w g) in
      λ i. e i ∷ rest i

  -- what stands behind an element are those after it
  behind : (M : X → Type 0) (u : List X) (t : X) (r : List X) → HasAll M (u ++ t ∷ r) → HasAll (λ q. M q × R t q) r
  behind M [] t r h = tail M t r h
  behind M (x ∷ u) t r h =
      let own = tail M x (u ++ t ∷ r) h in
      let b : R x t = (all_back (λ q. M q × R x q) u (t ∷ r) own.each 0 t (omega arith)).1 in
      of_kind (λ q. (M q × R x q) × R t q) (λ q. M q × R t q) r (λ q m. (m.0.0, m.1)) (λ q m. ((m.0, next x t q b m.1), m.1)) (behind (λ q. M q × R x q) u t r own)

-- ---- pages

module _ (W : Tree) (t : List ℤ) where
  abbrev Full : Tree → List ℤ → Type 0
  Full V q = IsIn V q × (is_full V q ≡ true)

  full_list : (V : Tree) (w : List (List ℤ)) → IsWalk V w → HasAll (Precedes V.variables) (precedes_once V.variables) (precedes_then V.variables) (Full V) (filter (is_full V) w)
  full_list V w h = record {
    each = λ k d b. (All-filter (is_full V) (IsIn V) w h.members k d b, filter_passes (is_full V) w k d b);
    in_order = AllPairs-filter (Precedes V.variables) (is_full V) w h.in_order;
    all = λ q m. in_filter (is_full V) w q (h.whole q m.0) m.1;
  }

  long : (q : List ℤ) → is_full W q ≡ true → length q ≡ length W.variables
  long q h = grind (arith, nat_tests, h)

  -- the full members after t of both walks
  to_rest : Full W t → (q : List ℤ) → Full (past W t) q → Full W q × Precedes W.variables t q
  to_rest own q (m, full) =
      let same : length q ≡ length t = long q full ∙ sym (long t own.1) in
      let whole : take (length q) t ≡ t = take_all (length q) t (omega (arith, same)) in
      let p : Precedes W.variables t q = elim m.1 [ inl p ↦ subst (λ (z : List ℤ). Precedes W.variables z q) whole p | inr e ↦ absurd (omega (arith, same, e.1)) ] in (
        (
          (
            m.0,
            IfSome_then W.after own.0.1 (λ a h.
                let cut : take (length t) a ≡ take (length q) a = ap (λ (k : ℕ). take k a) (sym same) in
                elim h [
                  | inl b ↦ inl (precedes_then W.variables (take (length q) a) t q (subst (λ (z : List ℤ). Precedes W.variables z t) cut b) p)
                  | inr e ↦ inl (subst (λ (z : List ℤ). Precedes W.variables z q) (e.0 ∙ cut) p)
                ]),
          ),
          full,
        ),
        p,
      )

  from_rest : Full W t → (q : List ℤ) → Full W q × Precedes W.variables t q → Full (past W t) q
  from_rest own q ((m, full), p) =
      let same : length q ≡ length t = long q full ∙ sym (long t own.1) in
      let whole : take (length q) t ≡ t = take_all (length q) t (omega (arith, same)) in
      ((m.0, inl (subst (λ (z : List ℤ). Precedes W.variables z q) (sym whole) p)), full)

  -- the full members of the later walk stand behind t among those of the earlier one
  rest_is : (w v front rest : List (List ℤ)) → IsWalk W w → IsWalk (past W t) v → filter (is_full W) w ≡ front ++ t ∷ rest → rest ≡ filter (is_full W) v
  rest_is w v front rest h k e =
      let all = subst (HasAll (Precedes W.variables) (precedes_once W.variables) (precedes_then W.variables) (Full W)) e (full_list W w h) in
      let own : Full W t = all_back (Full W) front (t ∷ rest) all.each 0 t (omega arith) in
      same_list (Precedes W.variables) (precedes_once W.variables) (precedes_then W.variables) (λ q. Full W q × Precedes W.variables t q) (Full (past W t)) rest (filter (is_full W) v) (from_rest own) (to_rest own)
      (behind (Precedes W.variables) (precedes_once W.variables) (precedes_then W.variables) (Full W) front t rest all) (full_list (past W t) v k)

-- what a listing has of the full members of the whole walk
first_of : (W : Tree) (w : List (List ℤ)) (most n : ℕ) (found : List (List ℤ)) (word : EndWord) → word ≢ OutOfBudget → Lists W w most n found word → found ≡ take most (filter (is_full W) w)
first_of W w most n found More other l =
    let a = filter (is_full W) (take n w) in
    let b = filter (is_full W) (drop n w) in
    let parts : filter (is_full W) w ≡ a ++ b = ap (filter (is_full W)) (sym (take-append-drop n w)) ∙ filter-append (is_full W) (take n w) (drop n w) in
    l.full ∙ sym (ap (take most) parts ∙ take-append-le most a b (omega (arith, ap length l.full, l.ends, length-take most a)))
first_of W w most n found End other l = l.full ∙ ap (λ (u : List (List ℤ)). take most (filter (is_full W) u)) (take_all n w l.ends.1)
first_of W w most n found OutOfBudget other l = absurd (other refl)

-- ---- a second page that runs out of budget

-- where the elements that are kept are some, then t, and then others, so is the list
record Splits {X : Type 0} (p : X → Bool) (w front : List X) (t : X) (rest : List X) : Type 0 where
  before : List X
  behind : List X
  whole : w ≡ before ++ t ∷ behind
  kept : filter p before ≡ front
  others : filter p behind ≡ rest

abbrev first_or : {X : Type 0} → X → List X → X
first_or d [] = d
first_or d (x ∷ u) = x

abbrev after_first : {X : Type 0} → List X → List X
after_first [] = []
after_first (x ∷ u) = u

splits : {X : Type 0} (p : X → Bool) (w front : List X) (t : X) (rest : List X) → filter p w ≡ front ++ t ∷ rest → Splits p w front t rest
splits p [] [] t rest e = absurd (omega (arith, ap length e))
splits p [] (a ∷ front) t rest e = absurd (omega (arith, ap length e))
splits p (x ∷ w) [] t rest e = elim (cases_Bool (p x)) [
  | inr c ↦
      let left : (u : List _) → filter p (x ∷ u) ≡ filter p u = λ u. subst (λ (b : Bool). (if b then x ∷ filter p u else filter p u) ≡ filter p u) (sym c) refl in
      let r = splits p w [] t rest (sym (left w) ∙ e) in
      record { before = x ∷ r.before; behind = r.behind; whole = ap (λ u. x ∷ u) r.whole; kept = left r.before ∙ r.kept; others = r.others }
  | inl c ↦
      let kept : filter p (x ∷ w) ≡ x ∷ filter p w = subst (λ (b : Bool). (if b then x ∷ filter p w else filter p w) ≡ x ∷ filter p w) (sym c) refl in
      record { before = []; behind = w; whole = ap (λ (z : _). z ∷ w) (ap (first_or x) (sym kept ∙ e)); kept = refl; others = ap after_first (sym kept ∙ e) }
]
splits p (x ∷ w) (a ∷ front) t rest e = elim (cases_Bool (p x)) [
  | inr c ↦
      let left : (u : List _) → filter p (x ∷ u) ≡ filter p u = λ u. subst (λ (b : Bool). (if b then x ∷ filter p u else filter p u) ≡ filter p u) (sym c) refl in
      let r = splits p w (a ∷ front) t rest (sym (left w) ∙ e) in
      record { before = x ∷ r.before; behind = r.behind; whole = ap (λ u. x ∷ u) r.whole; kept = left r.before ∙ r.kept; others = r.others }
  | inl c ↦
      let kept : (u : List _) → filter p (x ∷ u) ≡ x ∷ filter p u = λ u. subst (λ (b : Bool). (if b then x ∷ filter p u else filter p u) ≡ x ∷ filter p u) (sym c) refl in
      let r = splits p w front t rest (ap after_first (sym (kept w) ∙ e)) in
      record {
        before = x ∷ r.before;
        behind = r.behind;
        whole = ap (λ u. x ∷ u) r.whole;
        kept = kept r.before ∙ ap (λ u. x ∷ u) r.kept ∙ ap (λ (z : _). z ∷ front) (ap (first_or x) (sym (kept w) ∙ e));
        others = r.others;
      }
]

-- where elements of the one kind never come behind those of the other, they come first
record Parts {X : Type 0} (P Q : X → Type 0) (v : List X) : Type 0 where
  ones : List X
  others : List X
  whole : v ≡ ones ++ others
  each : All P ones
  each_other : All Q others

all_cons : {X : Type 0} (P : X → Type 0) (x : X) (u : List X) → P x → All P u → All P (x ∷ u)
all_cons P x u h k zero d b = h
all_cons P x u h k (suc i) d b = k i d (omega arith)

parts_of : {X : Type 0} (R : X → X → Type 0) (P Q : X → Type 0) (apart : (a b : X) → R a b → Q a → P b → ⊥) (v : List X) → All (λ q. P q ⊎ Q q) v → AllPairs R v → Parts P Q v
parts_of R P Q apart [] h k = record { ones = []; others = []; whole = refl; each = λ i d b. absurd (omega arith); each_other = λ i d b. absurd (omega arith) }
parts_of R P Q apart (a ∷ v) h k = elim (All-head (λ q. P q ⊎ Q q) a v h) [
  | inl p ↦
      let r = parts_of R P Q apart v (All-tail (λ q. P q ⊎ Q q) a v h) (λ i j d l b. k (suc i) (suc j) d (omega arith) (omega arith)) in
      record { ones = a ∷ r.ones; others = r.others; whole = ap (λ u. a ∷ u) r.whole; each = all_cons P a r.ones p r.each; each_other = r.each_other }
  | inr q ↦
      record {
        ones = [];
        others = a ∷ v;
        whole = refl;
        each = λ i d b. absurd (omega arith);
        each_other = all_cons Q a v q (λ i d b. elim (h (suc i) d (omega arith)) [
          | inr o ↦ o
          | inl p ↦ absurd (apart a (get_or v i d) (k 0 (suc i) d (omega arith) (omega arith)) q p)
        ]);
      }
]

-- lengths that rise stay within as many lists as there are numbers
few_rising : {X : Type 0} (u : List (List X)) (lo n : ℕ) → lo ≤ n → All (λ q. (lo ≤ length q) × (length q < n)) u → AllPairs (λ q r. length q < length r) u → length u + lo ≤ n
few_rising [] lo n h k l = omega (arith, h)
few_rising (a ∷ u) lo n h k l =
    let own = All-head (λ q. (lo ≤ length q) × (length q < n)) a u k in
    let rest = few_rising u (suc (length a)) n (omega (arith, own.1))
    (λ i d b. (omega (arith, l 0 (suc i) d (omega arith) (omega arith)), (k (suc i) d (omega arith)).1))
    (λ i j d c b. l (suc i) (suc j) d (omega arith) (omega arith)) in
    omega (arith, rest, own.0)

-- ---- beginnings of t, and what comes behind it

begins_short : (S : State) (xs : List Variable) (q : List ℤ) → Begins S xs q → length q ≤ length xs
begins_short S [] [] h = absurd h
begins_short S (x ∷ xs) [] h = absurd h
begins_short S [] (v ∷ q) h = absurd h
begins_short S (x ∷ xs) (v ∷ []) h = omega arith
begins_short S (x ∷ xs) (v ∷ w ∷ q) h = omega (arith, begins_short S xs (w ∷ q) h.1)

member_short : (cs : List Cond) (S : State) (xs : List Variable) (q : List ℤ) → IsMember cs S xs q → length q ≤ length xs
member_short cs S [] [] h = omega arith
member_short cs S [] (v ∷ q) h = absurd h
member_short cs S (x ∷ xs) q h = begins_short h.0 (x ∷ xs) q h.3

-- the order of two lists tells that of their fronts, and that of a front that of the list
fronts_precede : (xs : List Variable) (a t : List ℤ) (k : ℕ) → Precedes xs a t → Precedes xs (take k a) (take k t) ⊎ (take k a ≡ take k t)
fronts_precede xs a t zero h = inr refl
fronts_precede xs a [] (suc k) h = absurd h
fronts_precede [] [] (w ∷ t) (suc k) h = inl tt
fronts_precede (x ∷ xs) [] (w ∷ t) (suc k) h = inl tt
fronts_precede [] (v ∷ a) (w ∷ t) (suc k) h = absurd h
fronts_precede (x ∷ xs) (v ∷ a) (w ∷ t) (suc k) (inl h) = inl (inl h)
fronts_precede (x ∷ xs) (v ∷ a) (w ∷ t) (suc k) (inr h) = elim (fronts_precede xs a t k h.1) [
  | inl p ↦ inl (inr (h.0, p))
  | inr e ↦ inr (λ i. h.0 i ∷ e i)
]

front_precedes : (xs : List Variable) (t q : List ℤ) → Precedes xs (take (length q) t) q → Precedes xs t q
front_precedes xs t [] h = absurd h
front_precedes xs [] (w ∷ q) h = h
front_precedes [] (v ∷ t) (w ∷ q) h = absurd h
front_precedes (x ∷ xs) (v ∷ t) (w ∷ q) (inl h) = inl h
front_precedes (x ∷ xs) (v ∷ t) (w ∷ q) (inr h) = inr (h.0, front_precedes xs t q h.1)

precedes_front : (xs : List Variable) (t q : List ℤ) → length q ≤ length t → Precedes xs t q → Precedes xs (take (length q) t) q
precedes_front xs t [] b h = absurd h
precedes_front xs [] (w ∷ q) b h = absurd (omega (arith, b))
precedes_front [] (v ∷ t) (w ∷ q) b h = absurd h
precedes_front (x ∷ xs) (v ∷ t) (w ∷ q) b (inl h) = inl h
precedes_front (x ∷ xs) (v ∷ t) (w ∷ q) b (inr h) = inr (h.0, precedes_front xs t q (omega (arith, b)) h.1)

-- a shorter front of t comes before t, and of two fronts the first in order is the shorter one
short_precedes : (xs : List Variable) (t : List ℤ) (k : ℕ) → k < length t → length t ≤ length xs → Precedes xs (take k t) t
short_precedes xs [] k b l = absurd (omega (arith, b))
short_precedes [] (v ∷ t) k b l = absurd (omega (arith, l))
short_precedes (x ∷ xs) (v ∷ t) zero b l = tt
short_precedes (x ∷ xs) (v ∷ t) (suc k) b l = inr (refl, short_precedes xs t k (omega (arith, b)) (omega (arith, l)))

shorter_first : (xs : List Variable) (t : List ℤ) (i j : ℕ) → Precedes xs (take i t) (take j t) → i < j
shorter_first xs t i zero h = absurd h
shorter_first xs t zero (suc j) h = omega arith
shorter_first xs [] (suc i) (suc j) h = absurd h
shorter_first [] (v ∷ t) (suc i) (suc j) h = absurd h
shorter_first (x ∷ xs) (v ∷ t) (suc i) (suc j) (inl h) = absurd (before_once x v v h h)
shorter_first (x ∷ xs) (v ∷ t) (suc i) (suc j) (inr h) = omega (arith, shorter_first xs t i j h.1)

-- what the later walk has: beginnings of t, and behind them the members after t
module _ (W : Tree) (t : List ℤ) (own : IsIn W t) (long : length t ≡ length W.variables) where
  abbrev IsBeginning : List ℤ → Type 0
  IsBeginning q = (q ≡ take (length q) t) × (length q < length t)

  abbrev IsBehind : List ℤ → Type 0
  IsBehind q = IsIn W q × Precedes W.variables t q

  -- after the tuple that the walk comes after, if any, since t is
  after_first_tuple : (q : List ℤ) → length q ≤ length t → Precedes W.variables (take (length q) t) q → IfSome W.after (λ a. IsAfter W.variables a q)
  after_first_tuple q b p = IfSome_then W.after own.1 (λ a h.
      let short : take (length q) (take (length t) a) ≡ take (length q) a = take-take (length q) (length t) a b in
      let same : take (length q) t ≡ take (length q) a → IsAfter W.variables a q = λ e. inl (subst (λ (z : List ℤ). Precedes W.variables z q) e p) in
      elim h [
        | inr e ↦ same (ap (take (length q)) e.0 ∙ short)
        | inl before ↦ elim (fronts_precede W.variables (take (length t) a) t (length q) before) [
          | inr e ↦ same (sym e ∙ short)
          | inl k ↦ inl (precedes_then W.variables (take (length q) a) (take (length q) t) q (subst (λ (z : List ℤ). Precedes W.variables z (take (length q) t)) short k) p)
        ]
      ])

  either : (q : List ℤ) → IsIn (past W t) q → IsBeginning q ⊎ IsBehind q
  either q (m, after) =
      let b : length q ≤ length t = omega (arith, member_short W.conditions W.first W.variables q m, long) in
      elim after [
        | inl p ↦ inr ((m, after_first_tuple q b p), front_precedes W.variables t q p)
        | inr e ↦ inl e
      ]

  beginning_first : (q : List ℤ) → IsBeginning q → Precedes W.variables q t
  beginning_first q (e, b) = subst (λ (z : List ℤ). Precedes W.variables z t) (sym e) (short_precedes W.variables t (length q) b (omega (arith, long)))

  apart : (q r : List ℤ) → Precedes W.variables q r → IsBehind q → IsBeginning r → ⊥
  apart q r h behind begins = precedes_once W.variables t r (precedes_then W.variables t q r behind.1 h) (beginning_first r begins)

  not_both : (q : List ℤ) → IsBehind q → IsBeginning q → ⊥
  not_both q behind begins = precedes_once W.variables t q behind.1 (beginning_first q begins)

  rising : (q r : List ℤ) → IsBeginning q → IsBeginning r → Precedes W.variables q r → length q < length r
  rising q r a b h = shorter_first W.variables t (length q) (length r)
      (subst (λ (z : List ℤ). Precedes W.variables (take (length q) t) z) b.0 (subst (λ (z : List ℤ). Precedes W.variables z r) a.0 h))

  is_after : (q : List ℤ) → IsBehind q → IsIn (past W t) q
  is_after q (m, p) = (m.0, inl (precedes_front W.variables t q (omega (arith, member_short W.conditions W.first W.variables q m.0, long)) p))

  not_full : (q : List ℤ) → IsBeginning q → is_full W q ≡ false
  not_full q (e, b) = elim (cases_Bool (is_full W q)) [
    | inr c ↦ c
    | inl c ↦ absurd (let same : length q ≡ length W.variables = grind (arith, nat_tests, c) in omega (arith, same, b, long))
  ]

  -- the parts of the later walk
  record Later (v rest : List (List ℤ)) : Type 0 where
    ones : List (List ℤ)
    whole : v ≡ ones ++ rest
    few : length ones ≤ length t
    none : filter (is_full W) ones ≡ []

  none_kept : {X : Type 0} (p : X → Bool) (u : List X) → All (λ q. p q ≡ false) u → filter p u ≡ []
  none_kept p [] h = refl
  none_kept p (x ∷ u) h =
      subst (λ (b : Bool). (if b then x ∷ filter p u else filter p u) ≡ []) (sym (All-head (λ q. p q ≡ false) x u h)) (none_kept p u (All-tail (λ q. p q ≡ false) x u h))

  later : (v before rest : List (List ℤ)) → IsWalk W (before ++ t ∷ rest) → IsWalk (past W t) v → Later v rest
  later v before rest h k =
      let R = Precedes W.variables in
      let once = precedes_once W.variables in
      let next = precedes_then W.variables in
      let parts = parts_of R IsBeginning IsBehind apart v (λ i d b. either (get_or v i d) (k.members i d b)) k.in_order in
      let cut = subst (λ (u : List (List ℤ)). IsWalk (past W t) u) parts.whole k in
      let mine : HasAll R once next IsBehind parts.others = record {
        each = parts.each_other;
        in_order = pairs_back R parts.ones parts.others cut.in_order;
        all = λ q m. elim (Contains-append_cases parts.ones parts.others q (cut.whole q (is_after q m))) [
          | inr c ↦ c
          | inl c ↦ absurd (not_both q m (subst IsBeginning c.2 (parts.each c.0 q c.1)))
        ];
      } in
      let theirs : HasAll R once next IsBehind rest = behind R once next (IsIn W) before t rest (record { each = h.members; in_order = h.in_order; all = h.whole }) in
      let e : parts.others ≡ rest = same_list R once next IsBehind IsBehind parts.others rest (λ q m. m) (λ q m. m) mine theirs in
      record {
        ones = parts.ones;
        whole = parts.whole ∙ ap (λ u. parts.ones ++ u) e;
        few = omega (
          arith,
          few_rising parts.ones 0 (length t) (omega arith) (λ i d b. (omega arith, (parts.each i d b).1))
              (λ i j d l b. rising (get_or parts.ones i d) (get_or parts.ones j d) (parts.each i d (omega (arith, l, b))) (parts.each j d b) (pairs_front R parts.ones parts.others cut.in_order i j d l b)),
        );
        none = none_kept (is_full W) parts.ones (λ i d b. not_full (get_or parts.ones i d) (parts.each i d b));
      }

-- the end word of both pages
joined_word : (W : Tree) (w v : List (List ℤ)) (most more m : ℕ) (found others : List (List ℤ)) (word : EndWord) → word ≢ OutOfBudget → length found ≡ most → IsEndWord W more m v others word → IsEndWord W (most + more) (length w) w (found ++ others) word
joined_word W w v most more m found others More other e h = omega (arith, e, h, length-append found others)
joined_word W w v most more m found others End other e h = (omega (arith, e, h.0, length-append found others), omega arith)
joined_word W w v most more m found others OutOfBudget other e h = absurd (other refl)

page_in_budget : (W : Tree) (w v : List (List ℤ)) (t : List ℤ) (most n more m : ℕ) (front others : List (List ℤ)) (word : EndWord) → IsWalk W w → IsWalk (past W t) v → word ≢ OutOfBudget
    → IsListing W most n (front ++ t ∷ []) More → IsListing (past W t) more m others word → (j : ℕ) × IsListing W (most + more) j ((front ++ t ∷ []) ++ others) word
page_in_budget W w v t most n more m front others word h k other first second =
    let found = front ++ t ∷ [] in
    let a = listing_follows W w most n found More h first in
    let b = listing_follows (past W t) v more m others word k second in
    let all = filter (is_full W) w in
    let rest = drop most all in
    let own : found ≡ take most all = first_of W w most n found More (λ e. absurd cc) a in
    let cut : all ≡ found ++ rest = sym (ap (λ u. u ++ rest) own ∙ take-append-drop most all) in
    let same : rest ≡ filter (is_full W) v = rest_is W t w v front rest h k (cut ∙ append_assoc front (t ∷ []) rest) in
    let theirs : others ≡ take more rest = first_of (past W t) v more m others word other b ∙ ap (take more) (sym same) in
    let size : most + more ≡ length found + more = ap (λ (x : ℕ). x + more) (sym a.ends) in
    let e : found ++ others ≡ take (most + more) all =
    ap (λ u. found ++ u) theirs ∙ sym (ap (take (most + more)) cut ∙ ap (λ (x : ℕ). take x (found ++ rest)) size ∙ take-append-add found rest more)
    in (
      length w,
      lists_listing W w h (most + more) (length w) (found ++ others) word (record {
        full = e ∙ ap (λ (u : List (List ℤ)). take (most + more) (filter (is_full W) u)) (sym (take_all (length w) w (omega arith)));
        ends = joined_word W w v most more m found others word other a.ends b.ends;
      }),
    )

-- where the second page runs out of budget behind the beginnings of t
page_out_of_budget : (W : Tree) (w v : List (List ℤ)) (t : List ℤ) (most n more m : ℕ) (front others : List (List ℤ)) → IsWalk W w → IsWalk (past W t) v → length t ≤ m
    → IsListing W most n (front ++ t ∷ []) More → IsListing (past W t) more m others OutOfBudget → (j : ℕ) × IsListing W (most + more) j ((front ++ t ∷ []) ++ others) OutOfBudget
page_out_of_budget W w v t most n more m front others h k enough first second =
    let found = front ++ t ∷ [] in
    let a = listing_follows W w most n found More h first in
    let b = listing_follows (past W t) v more m others OutOfBudget k second in
    let kept = filter (is_full W) in
    let rest = drop most (kept w) in
    let own : found ≡ take most (kept w) = first_of W w most n found More (λ e. absurd cc) a in
    let cut : kept w ≡ front ++ t ∷ rest = sym (ap (λ u. u ++ rest) own ∙ take-append-drop most (kept w)) ∙ append_assoc front (t ∷ []) rest in
    let each = subst (HasAll (Precedes W.variables) (precedes_once W.variables) (precedes_then W.variables) (Full W t W)) cut (full_list W t W w h) in
    let is : Full W t W t = all_back (Full W t W) front (t ∷ rest) each.each 0 t (omega arith) in
    let s = splits (is_full W) w front t rest cut in
    let l = later W t is.0 (long W t t is.1) v s.before s.behind (subst (IsWalk W) s.whole h) k in
    let r = m - length l.ones in
    let m_is : m ≡ length l.ones + r = omega (arith, l.few, enough) in
    let j = length s.before + suc r in
    let last = kept (take r s.behind) in
    let theirs : kept (take m v) ≡ last =
    ap kept (ap (take m) l.whole ∙ ap (λ (z : ℕ). take z (l.ones ++ s.behind)) m_is ∙ take-append-add l.ones s.behind r)
    ∙ filter-append (is_full W) l.ones (take r s.behind) ∙ ap (λ u. u ++ last) l.none in
    let with_t : kept (t ∷ take r s.behind) ≡ t ∷ last = subst (λ (b : Bool). (if b then t ∷ last else last) ≡ t ∷ last) (sym is.1) (refl {a = t ∷ last}) in
    let ours : kept (take j w) ≡ found ++ last =
    ap kept (ap (take j) s.whole ∙ take-append-add s.before (t ∷ s.behind) (suc r))
    ∙ filter-append (is_full W) s.before (t ∷ take r s.behind) ∙ ap (λ u. u ++ kept (t ∷ take r s.behind)) s.kept ∙ ap (λ u. front ++ u) with_t ∙ sym (append_assoc front (t ∷ []) last) in
    let size : most + more ≡ length found + more = ap (λ (x : ℕ). x + more) (sym a.ends) in
    let e : found ++ others ≡ take (most + more) (kept (take j w)) =
    ap (λ u. found ++ u) (b.full ∙ ap (take more) theirs) ∙ sym (ap (take (most + more)) ours ∙ ap (λ (x : ℕ). take x (found ++ last)) size ∙ take-append-add found last more) in
    let in_w = ap length s.whole in
    let in_v = ap length l.whole in (
      j,
      lists_listing W w h (most + more) j (found ++ others) OutOfBudget (record {
        full = e;
        ends = (
          omega (arith, a.ends, b.ends.0, length-append found others),
          omega (arith, b.ends.1, m_is, in_w, in_v, length-append s.before (t ∷ s.behind), length-append l.ones s.behind),
        );
      }),
    )

pub pages_join : (W : Tree) (w v : List (List ℤ)) (t : List ℤ) (most n more m : ℕ) (front others : List (List ℤ)) (word : EndWord) → IsWalk W w → IsWalk (past W t) v
    → (word ≡ OutOfBudget → length t ≤ m) → IsListing W most n (front ++ t ∷ []) More → IsListing (past W t) more m others word
    → (j : ℕ) × IsListing W (most + more) j ((front ++ t ∷ []) ++ others) word
pages_join W w v t most n more m front others More h k enough first second = page_in_budget W w v t most n more m front others More h k (λ e. absurd cc) first second
pages_join W w v t most n more m front others End h k enough first second = page_in_budget W w v t most n more m front others End h k (λ e. absurd cc) first second
pages_join W w v t most n more m front others OutOfBudget h k enough first second = page_out_of_budget W w v t most n more m front others h k (enough refl) first second
