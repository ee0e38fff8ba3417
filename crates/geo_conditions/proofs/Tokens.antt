-- The walk after a token is a list: of the members of the whole walk those that come after the token.
use Rattle.std.proofs.Common.{◌≡◌, ◌⊎◌, ℕ, zero, suc, Option, None, Some, List, [], ◌∷◌, length, take, get_or, refl, sym, ap, ◌∙◌, subst, inl, inr, arith, ℤ, Contains, AllPairs}
use Rattle.std.specs.List.{All}
use Rattle.std.proofs.lemmas.Bool.{cases_lt}
use Rattle.std.proofs.lemmas.List.Elements.{All-nil, All-cons}
use Rattle.std.proofs.lemmas.List.Kept.{AllPairs-cons}
use Rattle.geo_conditions.specs.declared.cond.Cond.{Cond}
use Rattle.geo_conditions.specs.Reach.{State, IsState}
use Rattle.geo_conditions.specs.Walk.{Variable, IsBefore, Precedes, IsAfter, IsMember, IsWalk, Order, NamesEach, variables_in}
use Rattle.geo_conditions.proofs.Cuts.{order_cases}
use Rattle.geo_conditions.proofs.Decide.{Decided, decide_ℤ}
use Rattle.geo_conditions.proofs.Fronts.{before_once}
use Rattle.geo_conditions.proofs.Whole.{contains_after, walk_list}

-- ---- what comes after the token is decided

decide_precedes : (xs : List Variable) (q r : List ℤ) → Decided (Precedes xs q r)
decide_precedes xs [] [] = inr (λ h. h)
decide_precedes xs (v ∷ q) [] = inr (λ h. h)
decide_precedes xs [] (w ∷ r) = inl tt
decide_precedes [] (v ∷ q) (w ∷ r) = inr (λ h. h)
decide_precedes (x ∷ xs) (v ∷ q) (w ∷ r) = elim (order_cases x v w) [
  | inl b ↦ inl (inl b)
  | inr o ↦ elim o [
    | inr b ↦ inr (λ h. elim h [
      | inl c ↦ before_once x v w c b
      | inr p ↦ let c : IsBefore x v v = subst (λ (z : ℤ). IsBefore x z v) (sym p.0) b in before_once x v v c c
    ])
    | inl e ↦ elim (decide_precedes xs q r) [
      | inl p ↦ inl (inr (e, p))
      | inr n ↦ inr (λ h. elim h [
        | inl c ↦ let d : IsBefore x v v = subst (IsBefore x v) (sym e) c in before_once x v v d d
        | inr p ↦ n p.1
      ])
    ]
  ]
]

decide_same : (q r : List ℤ) → Decided (q ≡ r)
decide_same [] [] = inl refl
decide_same [] (w ∷ r) = inr (λ e. absurd (omega (arith, ap length e)))
decide_same (v ∷ q) [] = inr (λ e. absurd (omega (arith, ap length e)))
decide_same (v ∷ q) (w ∷ r) = elim (decide_ℤ v w) [
  | inr n ↦ inr (λ e. let h : v ≡ w = cc in n h)
  | inl h ↦ elim (decide_same q r) [
    | inr n ↦ inr (λ e. let k : q ≡ r = cc in n k)
    | inl k ↦ inl (ap (λ (z : ℤ). z ∷ q) h ∙ ap (λ (l : List ℤ). w ∷ l) k)
  ]
]

decide_after : (xs : List Variable) (t q : List ℤ) → Decided (IsAfter xs t q)
decide_after xs t q = elim (decide_precedes xs (take (length q) t) q) [
  | inl p ↦ inl (inl p)
  | inr n ↦ elim (decide_same q (take (length q) t)) [
    | inr m ↦ inr (λ h. elim h [ inl p ↦ n p | inr p ↦ m p.0 ])
    | inl e ↦ elim (cases_lt (length q) (length t)) [
      | inl b ↦ inl (inr (e, b))
      | inr b ↦ inr (λ h. elim h [ inl p ↦ n p | inr p ↦ absurd (omega (arith, b, p.1)) ])
    ]
  ]
]

-- ---- a part of a list

split_contains : {X : Type 0} (x : X) (xs : List X) (q : X) → Contains (x ∷ xs) q → (x ≡ q) ⊎ Contains xs q
split_contains x xs q (zero, b, e) = inl e
split_contains x xs q (suc k, b, e) = inr (k, omega arith, e)

-- ys are the elements of xs of which P holds, in their order
record IsPart {X : Type 0} (P : X → Type 0) (R : X → X → Type 0) (xs ys : List X) : Type 0 where
  holds : All P ys
  there : All (Contains xs) ys
  in_order : AllPairs R ys
  all : (q : X) → Contains xs q → P q → Contains ys q

part_of : {X : Type 0} (P : X → Type 0) (decide : (x : X) → Decided (P x)) (R : X → X → Type 0) (xs : List X) → AllPairs R xs → (ys : List X) × IsPart P R xs ys
part_of P decide R [] p = ([], record { holds = All-nil P; there = All-nil (Contains []); in_order = p; all = λ q c h. c })
part_of P decide R (x ∷ xs) p =
    let r = part_of P decide R xs (λ i j d l b. p (suc i) (suc j) d (omega arith) (omega arith)) in
    elim (decide x) [
      | inl y ↦ (
        x ∷ r.0,
        record {
          holds = All-cons P x r.0 y r.1.holds;
          there = All-cons (Contains (x ∷ xs)) x r.0 (0, omega arith, refl) (λ k d b. contains_after x xs (get_or r.0 k d) (r.1.there k d b));
          in_order = AllPairs-cons R x r.0 (λ k d b. let c = r.1.there k d b in subst (R x) c.2 (p 0 (suc c.0) (get_or r.0 k d) (omega arith) (omega (arith, c.1)))) r.1.in_order;
          all = λ q c h. elim (split_contains x xs q c) [ inl e ↦ (0, omega arith, e) | inr d ↦ contains_after x r.0 q (r.1.all q d h) ];
        },
      )
      | inr n ↦ (
        r.0,
        record {
          holds = r.1.holds;
          there = λ k d b. contains_after x xs (get_or r.0 k d) (r.1.there k d b);
          in_order = r.1.in_order;
          all = λ q c h. elim (split_contains x xs q c) [ inl e ↦ absurd (n (subst P (sym e) h)) | inr d ↦ r.1.all q d h ];
        },
      )
    ]

-- ---- every walk is a list

token_walk : (cs : List Cond) (S : State) (xs : List Variable) (t : List ℤ) (w : List (List ℤ)) → IsWalk (record { conditions = cs; first = S; variables = xs; after = None }) w
    → (v : List (List ℤ)) × IsWalk (record { conditions = cs; first = S; variables = xs; after = Some t }) v
token_walk cs S xs t w h =
    let r = part_of (IsAfter xs t) (decide_after xs t) (Precedes xs) w h.in_order in (
      r.0,
      record {
        members = λ k d b. let c = r.1.there k d b in (subst (IsMember cs S xs) c.2 (h.members c.0 (get_or r.0 k d) c.1).0, r.1.holds k d b);
        in_order = r.1.in_order;
        whole = λ q m. r.1.all q (h.whole q (m.0, tt)) m.1;
      },
    )

pub every_walk : (k : ℕ) (cs : List Cond) (S : State) (order : Order) (after : Option (List ℤ)) → IsState k S → NamesEach k S order → (w : List (List ℤ)) × IsWalk (record { conditions = cs; first = S; variables = variables_in order; after = after }) w
every_walk k cs S order None s n = walk_list k cs S order s n
every_walk k cs S order (Some t) s n = let w = walk_list k cs S order s n in token_walk cs S (variables_in order) t w.0 w.1
