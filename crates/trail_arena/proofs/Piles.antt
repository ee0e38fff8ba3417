-- Piles that stand on one another.
use Rattle.std.proofs.Common.{◌≡◌, ℕ, zero, suc, ◌+◌, ◌<◌, List, [], ◌∷◌, ◌++◌, length, refl, sym, ap, ◌∙◌, subst, arith, append-nil}
use Rattle.std.specs.List.{All}
use Rattle.std.proofs.lemmas.List.Elements.{All-head, All-tail, All-cons}
use Rattle.trail_arena.specs.Stack.{Pile, stacked, room, IsStacked, AreFree, HasRoom, HasItem, ArePiles, Holds, OnTop}

module _ {X : Type 0} where
  abbrev IsFull : Pile X → Type 0
  IsFull q = (q.spare ≡ 0) × (0 < length q.items)

  abbrev IsFree : Pile X → Type 0
  IsFree q = (q.items ≡ []) × (0 < q.spare)

  -- full piles have no room
  no_room : (ps : List (Pile X)) → All IsFull ps → room ps ≡ 0
  no_room [] h = refl
  no_room (p ∷ ps) h = let a = All-head IsFull p ps h in let b = no_room ps (All-tail IsFull p ps h) in omega (arith, a.0, b)

  -- without room on top, the piles are full
  all_full : (ps : List (Pile X)) → IsStacked ps → (HasRoom ps → ⊥) → All IsFull ps
  all_full [] h not_so = λ k d l. absurd (omega arith)
  all_full (p ∷ ps) h not_so = All-cons IsFull p ps (full p.spare h.0 not_so, items p.spare h.0 not_so) h.1
    where
      full : (n : ℕ) → 0 < length p.items + n → (0 < n → ⊥) → n ≡ 0
      full zero l not_so = refl
      full (suc n) l not_so = absurd (not_so (omega arith))

      items : (n : ℕ) → 0 < length p.items + n → (0 < n → ⊥) → 0 < length p.items
      items zero l not_so = omega arith
      items (suc n) l not_so = absurd (not_so (omega arith))

  -- a free pile goes on top of full ones
  pub room_made : (used free used' free' : List (Pile X)) → ArePiles used free → 0 < room used + room free → (HasRoom used → ⊥) → OnTop free (λ b bs. (free' ≡ bs) × (used' ≡ b ∷ used))
      → Holds used' free' (stacked used) (room used + room free) × HasRoom used'
  room_made used [] used' free' h l not_so e = absurd e
  room_made used (b ∷ bs) used' free' h l not_so e =
      let full = all_full used h.stack not_so in
      let top = All-head IsFree b bs h.others in (
        record {
          piles = record {
            stack = subst IsStacked (sym e.1) (omega (arith, top.1), full);
            others = subst AreFree (sym e.0) (All-tail IsFree b bs h.others);
          };
          items = ap stacked e.1 ∙ ap (λ (l : List X). stacked used ++ l) top.0 ∙ append-nil (stacked used);
          spare = omega (arith, ap room e.1, ap room e.0);
        },
        subst HasRoom (sym e.1) top.1,
      )

  -- while room is there, some pile is on top of the free ones where none in use has room
  pub is_one_free : (used free : List (Pile X)) → ArePiles used free → 0 < room used + room free → (HasRoom used → ⊥) → OnTop free (λ b bs. Unit {0})
  is_one_free used [] h l not_so = absurd (omega (arith, l, no_room used (all_full used h.stack not_so)))
  is_one_free used (b ∷ bs) h l not_so = tt

  -- an empty pile goes from the top to the free ones
  pub uncovered : (used free used' free' : List (Pile X)) → ArePiles used free → 0 < length (stacked used) → (HasItem used → ⊥) → OnTop used (λ b bs. (used' ≡ bs) × (free' ≡ b ∷ free))
      → Holds used' free' (stacked used) (room used + room free) × HasItem used'
  uncovered [] free used' free' h l not_so e = absurd e
  uncovered (p ∷ ps) free used' free' h l not_so e =
      let z = none p.items not_so in (
        record {
          piles = record {
            stack = subst IsStacked (sym e.0) (below ps h.stack.1);
            others = subst AreFree (sym e.1) (All-cons IsFree p free (z, omega (arith, ap length z, h.stack.0)) h.others);
          };
          items = ap stacked e.0 ∙ sym (ap (λ (l : List X). stacked ps ++ l) z ∙ append-nil (stacked ps));
          spare = omega (arith, ap room e.1, ap room e.0);
        },
        subst HasItem (sym e.0) (next ps h.stack.1 (subst (λ (l : List X). 0 < length l) (ap (λ (l : List X). stacked ps ++ l) z ∙ append-nil (stacked ps)) l)),
      )
    where
      none : (xs : List X) → (0 < length xs → ⊥) → xs ≡ []
      none [] not_so = refl
      none (x ∷ xs) not_so = absurd (not_so (omega arith))

      below : (qs : List (Pile X)) → All IsFull qs → IsStacked qs
      below [] a = tt
      below (q ∷ qs) a = let b = All-head IsFull q qs a in (omega (arith, b.1), All-tail IsFull q qs a)

      next : (qs : List (Pile X)) → All IsFull qs → 0 < length (stacked qs) → HasItem qs
      next [] a l = absurd (omega arith)
      next (q ∷ qs) a l = (All-head IsFull q qs a).1
