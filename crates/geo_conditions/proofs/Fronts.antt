-- Two fronts of one walk of the same length are the same list.
use Rattle.std.proofs.Common.{◌≡◌, zero, suc, true, false, List, [], ◌∷◌, length, refl, sym, ap, ◌∙◌, subst, inl, inr, ◌⊎◌, arith, ℤ, Contains, AllPairs}
use Rattle.std.proofs.lemmas.Int.{ints}
use Rattle.std.specs.List.{All}
use Rattle.std.proofs.lemmas.List.Elements.{All-head, All-tail}
use Rattle.geo_conditions.specs.Walk.{Variable, PlaceOf, CoordinateOf, IsBefore, Precedes, Tree, IsIn, IsFront}

-- the order has no two that come before one another
pub before_once : (x : Variable) (v w : ℤ) → IsBefore x v w → IsBefore x w v → ⊥
before_once (PlaceOf o) v w h k = absurd (omega (arith, ints, h, k))
before_once (CoordinateOf o d false) v w h k = absurd (omega (arith, ints, h, k))
before_once (CoordinateOf o d true) v w h k = absurd (omega (arith, ints, h, k))

pub precedes_once : (xs : List Variable) (q r : List ℤ) → Precedes xs q r → Precedes xs r q → ⊥
precedes_once xs [] [] h k = h
precedes_once xs [] (w ∷ r) h k = k
precedes_once xs (v ∷ q) [] h k = h
precedes_once [] (v ∷ q) (w ∷ r) h k = h
precedes_once (x ∷ xs) (v ∷ q) (w ∷ r) (inl h) (inl k) = before_once x v w h k
precedes_once (x ∷ xs) (v ∷ q) (w ∷ r) (inl h) (inr k) = let h' : IsBefore x v v = subst (IsBefore x v) k.0 h in before_once x v v h' h'
precedes_once (x ∷ xs) (v ∷ q) (w ∷ r) (inr h) (inl k) = let k' : IsBefore x w w = subst (IsBefore x w) h.0 k in before_once x w w k' k'
precedes_once (x ∷ xs) (v ∷ q) (w ∷ r) (inr h) (inr k) = precedes_once xs q r h.1 k.1

module _ {X : Type 0} (R : X → X → Type 0) (once : (a b : X) → R a b → R b a → ⊥) where
  record Front (M : X → Type 0) (w : List X) : Type 0 where
    members : All M w
    in_order : AllPairs R w
    first : (q : X) → M q → Contains w q ⊎ All (λ r. R r q) w

  -- what the list of one more holds is its head or in its tail
  head_or : (a : X) (u : List X) (q : X) → Contains (a ∷ u) q → (a ≡ q) ⊎ Contains u q
  head_or a u q (zero, b, e) = inl e
  head_or a u q (suc k, b, e) = inr (k, omega arith, e)

  before_head : (M : X → Type 0) (a : X) (u : List X) → Front M (a ∷ u) → (b : X) → M b → (a ≡ b) ⊎ R a b
  before_head M a u f b m = elim (f.first b m) [
    | inr h ↦ inr (All-head (λ r. R r b) a u h)
    | inl c ↦ elim (head_or a u b c) [
      | inl e ↦ inl e
      | inr k ↦ inr (subst (R a) k.2 (f.in_order 0 (suc k.0) b (omega arith) (omega (arith, k.1))))
    ]
  ]

  heads : (M : X → Type 0) (a b : X) (u w : List X) → Front M (a ∷ u) → Front M (b ∷ w) → a ≡ b
  heads M a b u w f g = elim (before_head M a u f b (All-head M b w g.members)) [
    | inl e ↦ e
    | inr h ↦ elim (before_head M b w g a (All-head M a u f.members)) [ inl e ↦ sym e | inr k ↦ absurd (once a b h k) ]
  ]

  tail : (M : X → Type 0) (a : X) (u : List X) → Front M (a ∷ u) → Front (λ q. M q × R a q) u
  tail M a u f = record {
    members = λ k d b. (f.members (suc k) d (omega arith), f.in_order 0 (suc k) d (omega arith) (omega arith));
    in_order = λ i j d h b. f.in_order (suc i) (suc j) d (omega arith) (omega arith);
    first = λ q m. elim (f.first q m.0) [
      | inr h ↦ inr (All-tail (λ r. R r q) a u h)
      | inl c ↦ elim (head_or a u q c) [ inr k ↦ inl k | inl e ↦ absurd (let l : R q q = subst (λ (z : X). R z q) e m.1 in once q q l l) ]
    ];
  }

  agree : (M : X → Type 0) (u w : List X) → Front M u → Front M w → length u ≡ length w → u ≡ w
  agree M [] [] f g e = refl
  agree M [] (b ∷ w) f g e = absurd (omega arith)
  agree M (a ∷ u) [] f g e = absurd (omega arith)
  agree M (a ∷ u) (b ∷ w) f g e =
      let h : a ≡ b = heads M a b u w f g in
      let g' : Front (λ q. M q × R a q) w = subst (λ (z : X). Front (λ q. M q × R z q) w) (sym h) (tail M b w g) in
      ap (λ (z : X). z ∷ u) h ∙ ap (λ (l : List X). b ∷ l) (agree (λ q. M q × R a q) u w (tail M a u f) g' (omega arith))

pub fronts_agree : (W : Tree) (u w : List (List ℤ)) → IsFront W u → IsFront W w → length u ≡ length w → u ≡ w
fronts_agree W u w f g e =
    agree (Precedes W.variables) (precedes_once W.variables) (IsIn W) u w (record { members = f.members; in_order = f.in_order; first = f.first }) (record { members = g.members; in_order = g.in_order; first = g.first }) e
