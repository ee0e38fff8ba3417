-- Every walk is a list: it is put together from the walks of smaller states.
use Rattle.std.proofs.Common.{◌≡◌, ℕ, zero, suc, ◌<◌, ◌≤◌, List, [], ◌∷◌, ◌++◌, map, length, get_or, refl, sym, ap, ◌∙◌, subst, inl, inr, ◌⊎◌, arith, ℤ, Contains, AllPairs}
use Rattle.std.specs.List.{All}
use Rattle.std.proofs.lemmas.List.{get_or-map, length-map}
use Rattle.std.proofs.lemmas.List.Elements.{All-nil, All-cons, All-append, All-map, Contains-append_left, Contains-append_right}
use Rattle.std.proofs.lemmas.List.Kept.{AllPairs-cons}
use Rattle.geo_conditions.specs.declared.cond.Cond.{Cond}
use Rattle.geo_conditions.specs.Reach.{State, Inside, HasNoEmpty}
use Rattle.geo_conditions.specs.Supported.{IsSupported, IsGreatest, NoneInside}
use Rattle.geo_conditions.specs.Keeps.{Keeps, size}
use Rattle.std.proofs.Common.{None}
use Rattle.std.proofs.lemmas.Bool.{cases_lt}
use Rattle.geo_conditions.specs.Reach.{IsState}
use Rattle.geo_conditions.specs.Walk.{Variable, PlaceOf, CoordinateOf, IsBefore, Precedes, IsFixed, IsFirstValue, Begins, AreOf, IsMember, IsIn, IsWalk, Order, NamesEach, variables_in}
use Rattle.geo_conditions.proofs.Few.{dims_are}
use Rattle.geo_conditions.proofs.Layouts.{even_state, empty_list, no_objects, no_variables, some_variable}
use Rattle.geo_conditions.proofs.Orders.{AreIn, order_are_of, order_are_in}
use Rattle.geo_conditions.proofs.Points.{inside_self, inside_trans}
use Rattle.geo_conditions.proofs.Greatest.{IsEven, one_step, even_kept, greatest_or_none}
use Rattle.geo_conditions.proofs.Steps.{Narrows, first_not_before}
use Rattle.geo_conditions.proofs.Walks.{fixed_first}
use Rattle.geo_conditions.proofs.Cuts.{IsThere, IsPast, there_inside, object_there, first_of, fix, cut, order_cases, value_past, past_value}

-- ---- the greatest supported state is no larger

abbrev Found : List Cond → State → Type 0
Found cs S = ((G : State) × IsGreatest cs S G × (size G ≤ size S)) ⊎ NoneInside cs S

found_itself : (cs : List Cond) (S : State) → IsSupported cs S → Found cs S
found_itself cs S s = inl (S, record { supported = s; inside = inside_self S; greatest = λ T t i. i }, omega arith)

found_carried : (cs : List Cond) (S R : State) → Keeps cs S R → size R < size S → Found cs R → Found cs S
found_carried cs S R k less (inl g) = inl (g.0, record { supported = g.1.supported; inside = inside_trans g.0 R S g.1.inside k.inside; greatest = λ T t i. g.1.greatest T t (k.all T t i) }, omega (arith, g.2))
found_carried cs S R k less (inr none) = inr (λ T t i. none T t (k.all T t i))

found_upto : (n : ℕ) (cs : List Cond) (S : State) → IsEven S → size S ≤ n → Found cs S
found_upto zero cs S e h = elim (one_step cs S e) [
  | inl s ↦ found_itself cs S s
  | inr o ↦ elim o [ inl none ↦ inr none | inr w ↦ absurd (omega (arith, w.2)) ]
]
found_upto (suc n) cs S e h = elim (one_step cs S e) [
  | inl s ↦ found_itself cs S s
  | inr o ↦ elim o [
    | inl none ↦ inr none
    | inr w ↦ found_carried cs S w.0 w.1 w.2 (found_upto n cs w.0 (even_kept S w.0 w.1.inside e) (omega (arith, w.2)))
  ]
]

-- ---- lists in order

append_pairs : {X : Type 0} (R : X → X → Type 0) (xs ys : List X) → AllPairs R xs → AllPairs R ys → All (λ x. All (R x) ys) xs → AllPairs R (xs ++ ys)
append_pairs R [] ys p q h = q
append_pairs R (x ∷ xs) ys p q h =
    AllPairs-cons R x (xs ++ ys)
    (All-append (R x) xs ys (λ k d b. p 0 (suc k) d (omega arith) (omega arith)) (h 0 x (omega arith)))
    (append_pairs R xs ys (λ i j d l b. p (suc i) (suc j) d (omega arith) (omega arith)) q (λ k d b. h (suc k) d (omega arith)))

map_pairs : {X Y : Type 0} (R : X → X → Type 0) (Q : Y → Y → Type 0) (f : X → Y) (xs : List X) → ((a b : X) → R a b → Q (f a) (f b)) → AllPairs R xs → AllPairs Q (map f xs)
map_pairs R Q f [] h p = λ i j d l b. absurd (omega arith)
map_pairs R Q f (x ∷ xs) h p =
    AllPairs-cons Q (f x) (map f xs)
    (All-map (Q (f x)) f xs (λ k d b. h x (get_or xs k d) (p 0 (suc k) d (omega arith) (omega arith))))
    (map_pairs R Q f xs h (λ i j d l b. p (suc i) (suc j) d (omega arith) (omega arith)))

contains_map : {X Y : Type 0} (f : X → Y) (xs : List X) (x : X) → Contains xs x → Contains (map f xs) (f x)
contains_map f xs x (k, b, e) = (k, omega (arith, b, length-map xs f), get_or-map f xs k x (f x) b ∙ ap f e)

pub contains_after : {X : Type 0} (a : X) (xs : List X) (x : X) → Contains xs x → Contains (a ∷ xs) x
contains_after a xs x (k, b, e) = (suc k, omega arith, e)

-- ---- members

abbrev pub AreThere : State → List Variable → Type 0
AreThere S [] = Unit {0}
AreThere S (x ∷ xs) = IsThere S x × AreThere S xs

all_there_inside : (T S : State) (xs : List Variable) → Inside T S → AreThere S xs → AreThere T xs
all_there_inside T S [] i h = tt
all_there_inside T S (x ∷ xs) i h = (there_inside T S x i h.0, all_there_inside T S xs i h.1)

-- q begins in a supported state inside S
abbrev pub Member : List Cond → State → List Variable → List ℤ → Type 0
Member cs S xs q = (T : State) × IsSupported cs T × Inside T S × Begins T xs q

-- w has all of them, in order
pub record IsList (cs : List Cond) (S : State) (xs : List Variable) (w : List (List ℤ)) : Type 0 where
  pub members : All (Member cs S xs) w
  pub in_order : AllPairs (Precedes xs) w
  pub whole : (q : List ℤ) → Member cs S xs q → Contains w q

-- q begins with a value after u
abbrev pub IsLater : Variable → ℤ → List ℤ → Type 0
IsLater x u [] = ⊥
IsLater x u (v ∷ q) = IsBefore x u v

-- w has all members of S that begin with a value after u, in order
pub record IsRest (cs : List Cond) (S : State) (x : Variable) (xs : List Variable) (u : ℤ) (w : List (List ℤ)) : Type 0 where
  pub members : All (λ q. Member cs S (x ∷ xs) q × IsLater x u q) w
  pub in_order : AllPairs (Precedes (x ∷ xs)) w
  pub whole : (q : List ℤ) → Member cs S (x ∷ xs) q → IsLater x u q → Contains w q

begins_first : (T : State) (x : Variable) (xs : List Variable) (v : ℤ) (q : List ℤ) → HasNoEmpty T → IsThere T x → Begins T (x ∷ xs) (v ∷ q) → IsFirstValue T x v
begins_first T x xs v [] n h b = b
begins_first T x xs v (w ∷ q) n h b = fixed_first T x v n (object_there T x h) b.0

empty_begins : (T : State) (xs : List Variable) → Begins T xs [] → ⊥
empty_begins T [] b = b
empty_begins T (x ∷ xs) b = b

-- the empty list comes before what begins in a state
empty_before : (T : State) (xs : List Variable) (q : List ℤ) → Begins T xs q → Precedes xs [] q
empty_before T xs [] b = absurd (empty_begins T xs b)
empty_before T [] (v ∷ q) b = tt
empty_before T (x ∷ xs) (v ∷ q) b = tt

module _ (cs : List Cond) (S G : State) (x : Variable) (xs : List Variable) (u : ℤ) (there : IsThere S x) (g : IsGreatest cs S G) (f : IsFirstValue G x u) where
  later_member : (N : State) → Narrows G N (λ T. IsPast T x u) → (q : List ℤ) → Member cs N (x ∷ xs) q → Member cs S (x ∷ xs) q × IsLater x u q
  later_member N n [] m = absurd m.3
  later_member N n (v ∷ q) m =
      let i : Inside m.0 S = inside_trans m.0 G S (inside_trans m.0 N G m.2 n.inside) g.inside in
      ((m.0, m.1, i, m.3), past_value m.0 x u v (begins_first m.0 x xs v q m.1.nonempty (there_inside m.0 S x i there) m.3) (n.meet m.0 m.1.nonempty m.2))

  later_past : (q : List ℤ) → (m : Member cs S (x ∷ xs) q) → IsLater x u q → IsPast m.0 x u
  later_past [] m l = absurd l
  later_past (v ∷ q) m l = value_past m.0 x u v (begins_first m.0 x xs v q m.1.nonempty (there_inside m.0 S x m.2 there) m.3) l

  -- the members past u are those of what is left
  rest_of : (N : State) → Narrows G N (λ T. IsPast T x u) → (w : List (List ℤ)) → IsList cs N (x ∷ xs) w → IsRest cs S x xs u w
  rest_of N n w l = record {
    members = λ k d b. later_member N n (get_or w k d) (l.members k d b);
    in_order = l.in_order;
    whole = λ q m h. l.whole q (m.0, m.1, n.all m.0 m.1.nonempty (g.greatest m.0 m.1 m.2) (later_past q m h), m.3);
  }

  no_rest : ((T : State) → HasNoEmpty T → Inside T G → IsPast T x u → ⊥) → IsRest cs S x xs u []
  no_rest never = record {
    members = All-nil (λ q. Member cs S (x ∷ xs) q × IsLater x u q);
    in_order = λ i j d l b. absurd (omega arith);
    whole = λ q m h. absurd (never m.0 m.1.nonempty (g.greatest m.0 m.1 m.2) (later_past q m h));
  }

  module _ (N : State) (n : Narrows G N (λ T. IsFixed T x u)) (w : List (List ℤ)) (l : IsList cs N xs w) (r : List (List ℤ)) (rest : IsRest cs S x xs u r) where
    longer_member : (q : List ℤ) → Member cs N xs q → Member cs S (x ∷ xs) (u ∷ q)
    longer_member [] m = absurd (empty_begins m.0 xs m.3)
    longer_member (v ∷ q) m = (m.0, m.1, inside_trans m.0 G S (inside_trans m.0 N G m.2 n.inside) g.inside, (n.meet m.0 m.1.nonempty m.2, m.3))

    head_before : (q : List ℤ) → Member cs N xs q → Precedes (x ∷ xs) (u ∷ []) (u ∷ q)
    head_before q m = inr (refl, empty_before m.0 xs q m.3)

    later_after : (p q : List ℤ) → IsLater x u q → Precedes (x ∷ xs) (u ∷ p) q
    later_after p [] h = absurd h
    later_after p (v ∷ q) h = inl h

    joined_members : All (Member cs S (x ∷ xs)) ((u ∷ []) ∷ (map (λ q. u ∷ q) w ++ r))
    joined_members =
        All-cons (Member cs S (x ∷ xs)) (u ∷ []) (map (λ q. u ∷ q) w ++ r) (G, g.supported, g.inside, f)
        (All-append (Member cs S (x ∷ xs)) (map (λ q. u ∷ q) w) r
        (All-map (Member cs S (x ∷ xs)) (λ q. u ∷ q) w (λ k d b. longer_member (get_or w k d) (l.members k d b)))
        (λ k d b. (rest.members k d b).0))

    joined_order : AllPairs (Precedes (x ∷ xs)) ((u ∷ []) ∷ (map (λ q. u ∷ q) w ++ r))
    joined_order =
        AllPairs-cons (Precedes (x ∷ xs)) (u ∷ []) (map (λ q. u ∷ q) w ++ r)
        (All-append (Precedes (x ∷ xs) (u ∷ [])) (map (λ q. u ∷ q) w) r
        (All-map (Precedes (x ∷ xs) (u ∷ [])) (λ q. u ∷ q) w (λ k d b. head_before (get_or w k d) (l.members k d b)))
        (λ k d b. later_after [] (get_or r k d) (rest.members k d b).1))
        (append_pairs (Precedes (x ∷ xs)) (map (λ q. u ∷ q) w) r
        (map_pairs (Precedes xs) (Precedes (x ∷ xs)) (λ q. u ∷ q) w (λ a b h. inr (refl, h)) l.in_order)
        rest.in_order
        (All-map (λ p. All (Precedes (x ∷ xs) p) r) (λ q. u ∷ q) w (λ k d b. λ j e c. later_after (get_or w k d) (get_or r j e) (rest.members j e c).1)))

    in_rest : (q : List ℤ) → Contains r q → Contains ((u ∷ []) ∷ (map (λ p. u ∷ p) w ++ r)) q
    in_rest q c = contains_after (u ∷ []) (map (λ p. u ∷ p) w ++ r) q (Contains-append_right (map (λ p. u ∷ p) w) r q c)

    in_longer : (q : List ℤ) → Contains w q → Contains ((u ∷ []) ∷ (map (λ p. u ∷ p) w ++ r)) (u ∷ q)
    in_longer q c = contains_after (u ∷ []) (map (λ p. u ∷ p) w ++ r) (u ∷ q) (Contains-append_left (map (λ p. u ∷ p) w) r (u ∷ q) (contains_map (λ p. u ∷ p) w q c))

    -- a member that begins with u is u alone, or goes on in the smaller state
    in_same : (q : List ℤ) → Member cs S (x ∷ xs) (u ∷ q) → Contains ((u ∷ []) ∷ (map (λ p. u ∷ p) w ++ r)) (u ∷ q)
    in_same [] m = (0, omega arith, refl)
    in_same (v ∷ q) m = in_longer (v ∷ q) (l.whole (v ∷ q) (m.0, m.1, n.all m.0 m.1.nonempty (g.greatest m.0 m.1 m.2) m.3.0, m.3.1))

    joined_whole : (q : List ℤ) → Member cs S (x ∷ xs) q → Contains ((u ∷ []) ∷ (map (λ p. u ∷ p) w ++ r)) q
    joined_whole [] m = absurd m.3
    joined_whole (v ∷ q) m = elim (order_cases x v u) [
      | inl before ↦ absurd (first_not_before m.0 G x v u (g.greatest m.0 m.1 m.2) (begins_first m.0 x xs v q m.1.nonempty (there_inside m.0 S x m.2 there) m.3) f before)
      | inr e ↦ elim e [
        | inl same ↦ subst (λ (z : ℤ). Contains ((u ∷ []) ∷ (map (λ p. u ∷ p) w ++ r)) (z ∷ q)) (sym same) (in_same q (subst (λ (z : ℤ). Member cs S (x ∷ xs) (z ∷ q)) same m))
        | inr later ↦ in_rest (v ∷ q) (rest.whole (v ∷ q) m later)
      ]
    ]

    pub joined : IsList cs S (x ∷ xs) ((u ∷ []) ∷ (map (λ q. u ∷ q) w ++ r))
    joined = record { members = joined_members; in_order = joined_order; whole = joined_whole }

-- ---- the list

no_member : (cs : List Cond) (S : State) (x : Variable) (xs : List Variable) → NoneInside cs S → IsList cs S (x ∷ xs) []
no_member cs S x xs none = record {
  members = All-nil (Member cs S (x ∷ xs));
  in_order = λ i j d l b. absurd (omega arith);
  whole = λ q m. absurd (none m.0 m.1 m.2);
}

-- with the lists of smaller states for the later variables, and for the later values of this one
one_more : (cs : List Cond) (x : Variable) (xs : List Variable) → ((N : State) → IsEven N → AreThere N xs → (w : List (List ℤ)) × IsList cs N xs w)
    → (S G : State) → IsEven S → AreThere S (x ∷ xs) → IsGreatest cs S G
    → ((u : ℤ) → IsFirstValue G x u → (r : List (List ℤ)) × IsRest cs S x xs u r) → (w : List (List ℤ)) × IsList cs S (x ∷ xs) w
one_more cs x xs sub S G e a g rest =
    let eG : IsEven G = even_kept S G g.inside e in
    let there : IsThere G x = there_inside G S x g.inside a.0 in
    let u = first_of G x g.supported.nonempty there in
    let n = fix G x u.0 eG g.supported.nonempty there u.1 in
    let i : Inside n.0 S = inside_trans n.0 G S n.1.inside g.inside in
    let l = sub n.0 (even_kept S n.0 i e) (all_there_inside n.0 S xs i a.1) in
    let r = rest u.0 u.1 in
    (_, joined cs S G x xs u.0 a.0 g u.1 n.0 n.1 l.0 l.1 r.0 r.1)

list_upto : (n : ℕ) (cs : List Cond) (x : Variable) (xs : List Variable) → ((N : State) → IsEven N → AreThere N xs → (w : List (List ℤ)) × IsList cs N xs w)
    → (S : State) → IsEven S → AreThere S (x ∷ xs) → size S ≤ n → (w : List (List ℤ)) × IsList cs S (x ∷ xs) w
list_upto zero cs x xs sub S e a h = elim (found_upto (size S) cs S e (omega arith)) [
  | inr none ↦ ([], no_member cs S x xs none)
  | inl g ↦ one_more cs x xs sub S g.0 e a g.1 (λ u f. elim (cut g.0 x u (even_kept S g.0 g.1.inside e) g.1.supported.nonempty (there_inside g.0 S x g.1.inside a.0) f) [
    | inr never ↦ ([], no_rest cs S g.0 x xs u a.0 g.1 f never)
    | inl c ↦ absurd (omega (arith, c.2, g.2, h))
  ])
]
list_upto (suc n) cs x xs sub S e a h = elim (found_upto (size S) cs S e (omega arith)) [
  | inr none ↦ ([], no_member cs S x xs none)
  | inl g ↦ one_more cs x xs sub S g.0 e a g.1 (λ u f. elim (cut g.0 x u (even_kept S g.0 g.1.inside e) g.1.supported.nonempty (there_inside g.0 S x g.1.inside a.0) f) [
    | inr never ↦ ([], no_rest cs S g.0 x xs u a.0 g.1 f never)
    | inl c ↦
        let i : Inside c.0 S = inside_trans c.0 g.0 S c.1.inside g.1.inside in
        let l = list_upto n cs x xs sub c.0 (even_kept S c.0 i e) (all_there_inside c.0 S (x ∷ xs) i a) (omega (arith, c.2, g.2, h)) in
        (l.0, rest_of cs S g.0 x xs u a.0 g.1 f c.0 c.1 l.0 l.1)
  ])
]

nothing_begins : (T : State) (q : List ℤ) → Begins T [] q → ⊥
nothing_begins T [] b = b
nothing_begins T (v ∷ q) b = b

pub list_of : (cs : List Cond) (xs : List Variable) (S : State) → IsEven S → AreThere S xs → (w : List (List ℤ)) × IsList cs S xs w
list_of cs [] S e a = (
  [],
  record {
    members = All-nil (Member cs S []);
    in_order = λ i j d l b. absurd (omega arith);
    whole = λ q m. absurd (nothing_begins m.0 q m.3);
  },
)
list_of cs (x ∷ xs) S e a = list_upto (size S) cs x xs (list_of cs xs) S e a (omega arith)

-- ---- the walk

-- a state without objects is supported, or no supported state lies inside it
bare_walk : (cs : List Cond) → (w : List (List ℤ)) × IsWalk (record { conditions = cs; first = []; variables = []; after = None }) w
bare_walk cs = elim (greatest_or_none cs [] (λ o. refl)) [
  | inr none ↦ (
    [],
    record {
      members = All-nil (IsIn (record { conditions = cs; first = []; variables = []; after = None }));
      in_order = λ i j d l b. absurd (omega arith);
      whole = λ q m. absurd (never none q m.0);
    },
  )
  | inl g ↦ (
    [] ∷ [],
    record {
      members = All-cons (IsIn (record { conditions = cs; first = []; variables = []; after = None })) [] [] (empty g.0 g.1.supported g.1.inside.objects, tt) (All-nil (IsIn (record { conditions = cs; first = []; variables = []; after = None })));
      in_order = λ i j d l b. absurd (omega arith);
      whole = λ q m. only q m.0;
    },
  )
]
  where
    never : NoneInside cs [] → (q : List ℤ) → IsMember cs [] [] q → ⊥
    never none [] m = none [] m (inside_self [])
    never none (v ∷ q) m = m

    empty : (G : State) → IsSupported cs G → length G ≡ 0 → IsSupported cs []
    empty [] s h = s
    empty (r ∷ G) s h = absurd (omega arith)

    only : (q : List ℤ) → IsMember cs [] [] q → Contains ([] ∷ []) q
    only [] m = (0, omega arith, refl)
    only (v ∷ q) m = absurd m

are_there : (k : ℕ) (S : State) (xs : List Variable) → IsState k S → AreOf S xs → AreIn k xs → AreThere S xs
are_there k S [] s a b = tt
are_there k S (PlaceOf o ∷ xs) s a b = (a.0, are_there k S xs s a.1 b)
are_there k S (CoordinateOf o d down ∷ xs) s a b = ((a.0, omega (arith, b.0, dims_are k S o s a.0)), are_there k S xs s a.1 b.1)

walk_cons : (cs : List Cond) (S : State) (xs : List Variable) (w : List (List ℤ)) → 0 < length xs → IsList cs S xs w → IsWalk (record { conditions = cs; first = S; variables = xs; after = None }) w
walk_cons cs S [] w h l = absurd (omega arith)
walk_cons cs S (x ∷ xs) w h l = record {
  members = λ i d b. (l.members i d b, tt);
  in_order = l.in_order;
  whole = λ q m. l.whole q m.0;
}

walk_bare : (cs : List Cond) (S : State) (xs : List Variable) → S ≡ [] → xs ≡ [] → (w : List (List ℤ)) × IsWalk (record { conditions = cs; first = S; variables = xs; after = None }) w
walk_bare cs [] [] e f = bare_walk cs
walk_bare cs (r ∷ S) xs e f = absurd (omega (arith, ap length e))
walk_bare cs [] (x ∷ xs) e f = absurd (omega (arith, ap length f))

-- every walk without a token is a list
pub walk_list : (k : ℕ) (cs : List Cond) (S : State) (order : Order) → IsState k S → NamesEach k S order → (w : List (List ℤ)) × IsWalk (record { conditions = cs; first = S; variables = variables_in order; after = None }) w
walk_list k cs S order s n = elim (cases_lt 0 (length order.objects)) [
  | inl some ↦
      let l = list_of cs (variables_in order) S (even_state k S s) (are_there k S (variables_in order) s (order_are_of k S order n) (order_are_in k S order n)) in
      (l.0, walk_cons cs S (variables_in order) l.0 (some_variable order some) l.1)
  | inr none ↦
      let e : order.objects ≡ [] = empty_list order.objects none in
      walk_bare cs S (variables_in order) (no_objects k S order n e) (no_variables order e)
]
