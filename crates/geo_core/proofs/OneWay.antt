-- There is one way in which the rounds go, and one thing that they come to, but for the derivation.
use Rattle.std.proofs.Common.{◌≡◌, ◌<◌, ℕ, zero, suc, List, [], ◌∷◌, ◌++◌, length, refl, sym, subst, ap, ◌∙◌, arith, inl, inr}
use Rattle.std.specs.Prelude.{◌⊎◌}
use Rattle.std.proofs.Math.Logic.{⊎_elim}
use Rattle.std.proofs.lemmas.Bool.{cases_eq}
use Rattle.geo_base.specs.Tuple.{Tuple}
use Rattle.geo_conditions.specs.Walk.{values}
use Rattle.geo_conditions.proofs.Fronts.{precedes_once}
use Rattle.problem_data.specs.Problem.{ProblemData}
use Rattle.problem_data.specs.SomeRules.{AreRules, with_rules}
use Rattle.problem_data.specs.WellFormed.{IsWellFormed}
use Rattle.problem_data.proofs.SomeRules.{well_formed_kept}
use Rattle.rule_ground.specs.Order.{order_of, variables_for}
use Rattle.rule_ground.specs.Start.{first_state}
use Rattle.rule_ground.proofs.Starts.{names-each}
use Rattle.layout_search.specs.FirstLayout.{IsFirstLayout}
use Rattle.layout_search.proofs.Alike as alike
use Rattle.layout_search.proofs.States.{state-is}
use Rattle.geo_core.specs.Cores.{RoundFinds, RoundEnds, RoundSpends, without, Tries, SpendsBehind, ComesTo}
use Rattle.geo_core.specs.OneAnswer.{SameCore}
use Rattle.geo_core.specs.declared.leaving.Core.{Core}
use Rattle.geo_core.specs.declared.leaving.Core.TheVariants.{Found, Budget, Left}
use Rattle.geo_core.proofs.LeftOut.{rules_without, rules_left}

-- ---- a round ends in one way

-- two first layouts are one
one_layout : (p : ProblemData) (t u : Tuple) → IsFirstLayout p t → IsFirstLayout p u → t ≡ u
one_layout p t u f g = elim (g.first t f.layout) [
  | inl e ↦ e
  | inr b ↦ elim (f.first u g.layout) [
    | inl e ↦ sym e
    | inr a ↦ absurd (precedes_once (variables_for p) (values (variables_for p) u) (values (variables_for p) t) b a)
  ]
]

found_or_ended : (p : ProblemData) (n : ℕ) (t : Tuple) → RoundFinds p n t → RoundEnds p n → ⊥
found_or_ended p n t f e = e.none t f.first.layout

found_or_spent : (p : ProblemData) (n : ℕ) (t : Tuple) → IsWellFormed p → RoundFinds p n t → RoundSpends p n → ⊥
found_or_spent p n t well f s =
    alike.found-or-spent p.dims f.conditions s.conditions (first_state p) (order_of p) n (state-is p well) (names-each p well) (f.are ∙ sym s.are) _ f.listing s.listing

ended_or_spent : (p : ProblemData) (n : ℕ) → IsWellFormed p → RoundEnds p n → RoundSpends p n → ⊥
ended_or_spent p n well e s =
    alike.ended-or-spent p.dims e.conditions s.conditions (first_state p) (order_of p) n (state-is p well) (names-each p well) (e.are ∙ sym s.are) e.listing s.listing

module _ (p : ProblemData) (n : ℕ) where
  -- ---- the rounds

  ends_first : (i : ℕ) (R : List ℕ) (ts : List Tuple) → Tries p n i R ts → RoundEnds p n
  ends_first zero R ts (e, f, ends) = ends
  ends_first (suc i) R ts (Q, us, tried, l, x) = ends_first i Q us tried

  -- as many rounds leave the same rules
  one_way : (i : ℕ) (R Q : List ℕ) (ts us : List Tuple) → Tries p n i R ts → Tries p n i Q us → (R ≡ Q) × (ts ≡ us)
  one_way zero R Q ts us (e, f, x) (g, h, y) = (e ∙ sym g, f ∙ sym h)
  one_way (suc i) R Q ts us (R', ts', a, l, inl (e, f, x)) (Q', us', b, k, inl (g, h, y)) =
      let one = one_way i R' Q' ts' us' a b in
      (e ∙ ap (without (suc i)) one.0 ∙ sym g, f ∙ one.1 ∙ sym h)
  one_way (suc i) R Q ts us (R', ts', a, l, inr (t, x, e, f)) (Q', us', b, k, inr (u, y, g, h)) =
      let one = one_way i R' Q' ts' us' a b in
      let here = subst (λ (S : List ℕ). RoundFinds (with_rules p (without (suc i) S)) n t) one.0 x in
      let same : t ≡ u = one_layout (with_rules p (without (suc i) Q')) t u here.first y.first in
      (e ∙ one.0 ∙ sym g, f ∙ (λ j. one.1 j ++ same j ∷ []) ∙ sym h)
  one_way (suc i) R Q ts us (R', ts', a, l, inl (e, f, x)) (Q', us', b, k, inr (u, y, g, h)) =
      let one = one_way i R' Q' ts' us' a b in
      absurd (found_or_ended (with_rules p (without (suc i) Q')) n u y (subst (λ (S : List ℕ). RoundEnds (with_rules p (without (suc i) S)) n) one.0 x))
  one_way (suc i) R Q ts us (R', ts', a, l, inr (t, x, e, f)) (Q', us', b, k, inl (g, h, y)) =
      let one = one_way i R' Q' ts' us' a b in
      absurd (found_or_ended (with_rules p (without (suc i) Q')) n t (subst (λ (S : List ℕ). RoundFinds (with_rules p (without (suc i) S)) n t) one.0 x) y)

  module _ (well : IsWellFormed p) where
    part_well : (i : ℕ) (R : List ℕ) (ts : List Tuple) → Tries p n i R ts → IsWellFormed (with_rules p (without (suc i) R))
    part_well i R ts tried = well_formed_kept p (without (suc i) R) (rules_without p (suc i) R (rules_left p n i R ts tried)) well

    -- a round that is spent has no round behind it
    last_spent : (k i : ℕ) (R Q : List ℕ) (ts us : List Tuple) → Tries p n k R ts → i < k → Tries p n i Q us → RoundSpends (with_rules p (without (suc i) Q)) n → ⊥
    last_spent zero i R Q ts us a l b s = absurd (omega (arith, l))
    last_spent (suc k) i R Q ts us (R', ts', a, m, x) l b s = elim (cases_eq i k) [
      | inl e ↦ (
          let c : Tries p n k Q us = subst (λ (j : ℕ). Tries p n j Q us) e b in
          let one = one_way k Q R' us ts' c a in
          let here : RoundSpends (with_rules p (without (suc k) R')) n = subst (λ (S : List ℕ). RoundSpends (with_rules p (without (suc k) S)) n) one.0 (subst (λ (j : ℕ). RoundSpends (with_rules p (without (suc j) Q)) n) e s) in
          ⊎_elim (λ y. ended_or_spent (with_rules p (without (suc k) R')) n (part_well k R' ts' a) y.2 here)
          (λ y. found_or_spent (with_rules p (without (suc k) R')) n y.0 (part_well k R' ts' a) y.1 here) x
          )
      | inr ne ↦ last_spent k i R' Q ts' us a (omega (arith, l, ne)) b s
    ]

    -- where all rules were tried, no round was spent
    all_tried : (k : ℕ) (R : List ℕ) (ts : List Tuple) → k ≡ length p.rules → Tries p n k R ts → RoundSpends p n ⊎ SpendsBehind p n → ⊥
    all_tried k R ts e tried (inl s) = ended_or_spent p n well (ends_first k R ts tried) s
    all_tried k R ts e tried (inr (i, Q, us, b, l, s)) = last_spent k i R Q ts us tried (omega (arith, e, l)) b s

    spent_or_found : (t : Tuple) → RoundFinds p n t → RoundSpends p n ⊎ SpendsBehind p n → ⊥
    spent_or_found t f (inl s) = found_or_spent p n t well f s
    spent_or_found t f (inr (i, Q, us, b, l, s)) = found_or_ended p n t f (ends_first i Q us b)

    pub one_answer : (c d : Core) → ComesTo p n c → ComesTo p n d → SameCore c d
    one_answer (Found t) (Found u) a b = one_layout p t u a.first b.first
    one_answer (Found t) Budget a b = spent_or_found t a b
    one_answer (Found t) (Left R ts log) a b = found_or_ended p n t a (ends_first (length p.rules) R.items ts.items b.0)
    one_answer Budget (Found u) a b = spent_or_found u b a
    one_answer Budget Budget a b = tt
    one_answer Budget (Left R ts log) a b = all_tried (length p.rules) R.items ts.items refl b.0 a
    one_answer (Left R ts log) (Found u) a b = found_or_ended p n u b (ends_first (length p.rules) R.items ts.items a.0)
    one_answer (Left R ts log) Budget a b = all_tried (length p.rules) R.items ts.items refl a.0 b
    one_answer (Left R ts log) (Left Q us other) a b = one_way (length p.rules) R.items Q.items ts.items us.items a.0 b.0
