-- Stacks of piles, behind a call.
use Rattle.std.proofs.Common.{◌≡◌, ℕ, ◌+◌, ◌-◌, ◌<◌, ◌^◌, List, [], ◌∷◌, ◌++◌, length, refl, sym, ap, ◌∙◌, subst, arith, append_assoc, length-append}
use Rattle.std.specs.List.{All}
use Rattle.std.proofs.lemmas.List.Elements.{All-cons}
use Rattle.trail_arena.specs.Stack.{Pile, pile, stacked, room, AreFree, HasItem, Holds, OnTop, IsStack}

module _ {X : Type 0} where
  -- an empty pile more is free
  pub reserved : (used free free' : List (Pile X)) (b : Pile X) (len spare n : ℕ) → IsStack used free len spare → b ≡ pile [] (n - spare) → free' ≡ b ∷ free → spare < n → len + n < 2 ^ 64
      → IsStack used free' len n
  reserved used free free' b len spare n h is linked more fits =
      let items = ap (λ (p : Pile X). p.items) is in
      let here = ap (λ (p : Pile X). p.spare) is in
      record {
        piles = record {
          stack = h.piles.stack;
          others = subst AreFree (sym linked) (All-cons (λ q. (q.items ≡ []) × (0 < q.spare)) b free (items, omega (arith, here)) h.piles.others);
        };
        count = h.count;
        spare = omega (arith, ap room linked, here, h.spare);
        fits = fits;
      }

  -- the top item is taken
  pub popped : (used free used' : List (Pile X)) (xs : List X) (len n : ℕ) (x : X) → Holds used free xs n → length xs ≡ len → len + n < 2 ^ 64 → HasItem used
      → OnTop used (λ p ps. OnTop used' (λ q qs. (p.items ≡ q.items ++ x ∷ []) × (q.spare ≡ p.spare + 1) × (qs ≡ ps)))
      → IsStack used' free (len - 1) (n + 1) × (xs ≡ stacked used' ++ x ∷ [])
  popped [] free used' xs len n x h long fits some e = absurd some
  popped (p ∷ ps) free [] xs len n x h long fits some e = absurd e
  popped (p ∷ ps) free (q ∷ qs) xs len n x h long fits some e =
      let items : xs ≡ (stacked qs ++ q.items) ++ x ∷ [] = sym h.items ∙ ap (λ (l : List X). stacked ps ++ l) e.0 ∙ ap (λ (l : List (Pile X)). stacked l ++ (q.items ++ x ∷ [])) (sym e.2) ∙ sym (append_assoc (stacked qs) q.items (x ∷ [])) in (
        record {
          piles = record {
            stack = (omega (arith, e.1), subst (All (λ r. (r.spare ≡ 0) × (0 < length r.items))) (sym e.2) h.piles.stack.1);
            others = h.piles.others;
          };
          count = omega (arith, ap length items, length-append (stacked qs ++ q.items) (x ∷ []), long);
          spare = omega (arith, e.1, ap room e.2, h.spare);
          fits = omega (arith, ap length items, length-append (stacked qs ++ q.items) (x ∷ []), long, fits);
        },
        items,
      )
