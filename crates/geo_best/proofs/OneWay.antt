-- There is one way in which the rounds go: what they come to is one, but for records.
use Rattle.std.proofs.Common.{◌≡◌, ◌<◌, ℕ, zero, suc, ℤ, sym, ap, subst, ◌∙◌, arith, inl, inr, Option, Some, None}
use Rattle.std.proofs.lemmas.Bool.{cases_lt}
use Rattle.std.proofs.lemmas.Int.{ints}
use Rattle.geo_base.specs.Tuple.{Tuple}
use Rattle.geo_conditions.specs.Walk.{values}
use Rattle.geo_conditions.proofs.Fronts.{precedes_once}
use Rattle.derivation.specs.Events.{Kept}
use Rattle.problem_data.specs.Problem.{ProblemData}
use Rattle.problem_data.specs.WellFormed.{IsWellFormed}
use Rattle.rule_ground.specs.Order.{order_of, variables_for}
use Rattle.rule_ground.specs.Start.{first_state}
use Rattle.rule_ground.proofs.Starts.{names-each}
use Rattle.extent_caps.specs.Extents.{IsEnd}
use Rattle.layout_search.proofs.Alike as alike
use Rattle.layout_search.proofs.States.{state-is}
use Rattle.layout_search.specs.declared.first.Outcome.{Outcome}
use Rattle.layout_search.specs.declared.first.Outcome.TheVariants.{Found, Nothing, OutOfBudget}
use Rattle.geo_best.specs.declared.extent.Extent.{Extent}
use Rattle.geo_best.specs.declared.one_round.Best.{Best}
use Rattle.geo_best.specs.declared.one_round.Best.TheVariants.{Refused, Budget, Bare, Least}
use Rattle.geo_best.specs.Rounds.{AreSameBest, Comes, EndsRound, IsBest, RoundsEnd}

same-end : (p : ProblemData) (d : ℕ) (t : Tuple) (x y : ℤ) → IsEnd p t d (Some x) → IsEnd p t d (Some y) → x ≡ y
same-end p d t x y h k = let a = h.1 y k.0 in let b = k.1 x h.0 in omega (arith, ints, a, b)

-- two ends of one round are of one kind, and where both found a layout it is one
abbrev SameKind : Outcome Kept → Outcome Kept → Type 0
SameKind (Found t) (Found u) = t ≡ u
SameKind (Nothing a) (Nothing b) = Unit {0}
SameKind OutOfBudget OutOfBudget = Unit {0}
SameKind _ _ = ⊥

some-is : (x y : Extent) → Some x ≡ Some y → x ≡ y
some-is x y e = cc

some-none : (x : Extent) → None ≡ Some x → ⊥
some-none x e = cc

module _ (p : ProblemData) (d n : ℕ) (well : IsWellFormed p) where
  one-kind : (r : Option Extent) (o q : Outcome Kept) → EndsRound p d n r o → EndsRound p d n r q → SameKind o q
  one-kind r (Found t) (Found u) a b = elim (a.finds.1 u b.finds.0) [
    | inl e ↦ sym e
    | inr f ↦ elim (b.finds.1 t a.finds.0) [
      | inl e ↦ e
      | inr g ↦ absurd (precedes_once (variables_for p) (values (variables_for p) t) (values (variables_for p) u) f g)
    ]
  ]
  one-kind r (Found t) (Nothing log) a b = absurd (b.finds t a.finds.0)
  one-kind r (Nothing log) (Found t) b a = absurd (b.finds t a.finds.0)
  one-kind r (Nothing a) (Nothing b) c e = tt
  one-kind r OutOfBudget OutOfBudget c e = tt
  one-kind r (Found t) OutOfBudget a b =
      absurd (alike.found-or-spent p.dims a.conditions b.conditions (first_state p) (order_of p) n (state-is p well) (names-each p well) (a.are ∙ sym b.are) _ a.listing b.listing)
  one-kind r OutOfBudget (Found t) b a =
      absurd (alike.found-or-spent p.dims a.conditions b.conditions (first_state p) (order_of p) n (state-is p well) (names-each p well) (a.are ∙ sym b.are) _ a.listing b.listing)
  one-kind r (Nothing log) OutOfBudget a b =
      absurd (alike.ended-or-spent p.dims a.conditions b.conditions (first_state p) (order_of p) n (state-is p well) (names-each p well) (a.are ∙ sym b.are) a.listing b.listing)
  one-kind r OutOfBudget (Nothing log) b a =
      absurd (alike.ended-or-spent p.dims a.conditions b.conditions (first_state p) (order_of p) n (state-is p well) (names-each p well) (a.are ∙ sym b.are) a.listing b.listing)

  one-extent : (r : Option Extent) (x y : Extent) → EndsRound p d n r (Found x.layout) → EndsRound p d n r (Found y.layout) → IsEnd p x.layout d (Some x.end) → IsEnd p y.layout d (Some y.end) → x ≡ y
  one-extent r x y a b h k =
      let t : x.layout ≡ y.layout = one-kind r (Found x.layout) (Found y.layout) a b in
      let e : x.end ≡ y.end = same-end p d y.layout x.end y.end (subst (λ (u : Tuple). IsEnd p u d (Some x.end)) t h) k in
      λ i. record { end = e i; layout = t i }

  -- two rounds with the same number are one
  one-round : (k : ℕ) (r s : Option Extent) → Comes p d n k r → Comes p d n k s → r ≡ s
  one-round zero r s e f = e ∙ sym f
  one-round (suc k) r s (b, x, i, f, h, q) (c, y, j, g, l, m) =
      let one : b ≡ c = one-round k b c i j in
      q ∙ ap Some (one-extent c x y (subst (λ (z : Option Extent). EndsRound p d n z (Found x.layout)) one f) g h l) ∙ sym m

  -- a round stops the rounds where it finds no layout with an end
  abbrev Stops : Option Extent → Type 0
  Stops r = (x : Extent) → EndsRound p d n r (Found x.layout) → IsEnd p x.layout d (Some x.end) → ⊥

  -- behind a round that stops them there is no other
  none-later : (m k : ℕ) (r s : Option Extent) → k < m → Comes p d n k r → Stops r → Comes p d n m s → ⊥
  none-later zero k r s l i stop j = omega (arith, l)
  none-later (suc m) k r s l i stop (b, x, j, f, h, q) = elim (cases_lt k m) [
    | inl less ↦ none-later m k r b less i stop j
    | inr le ↦ (let same : k ≡ m = omega (arith, l, le) in
        let one : r ≡ b = one-round m r b (subst (λ (z : ℕ). Comes p d n z r) same i) j in
        stop x (subst (λ (z : Option Extent). EndsRound p d n z (Found x.layout)) (sym one) f) h)
  ]

  -- a round that stops the rounds, and how it ends
  record IsStop (r : Option Extent) (o : Outcome Kept) : Type 0 where
    ends : RoundsEnd p d n r o
    stops : Stops r

  -- the rounds stop at one round
  one-stop : (r s : Option Extent) (o q : Outcome Kept) → IsStop r o → IsStop s q → (r ≡ s) × SameKind o q
  one-stop r s o q a b =
      let same : r ≡ s = elim (cases_lt a.ends.0 b.ends.0) [
        | inl l ↦ absurd (none-later b.ends.0 a.ends.0 r s l a.ends.1 a.stops b.ends.1)
        | inr le ↦ elim (cases_lt b.ends.0 a.ends.0) [
          | inl l ↦ absurd (none-later a.ends.0 b.ends.0 s r l b.ends.1 b.stops a.ends.1)
          | inr ge ↦ (let k : a.ends.0 ≡ b.ends.0 = omega (arith, le, ge) in one-round b.ends.0 r s (subst (λ (z : ℕ). Comes p d n z r) k a.ends.1) b.ends.1)
        ]
      ] in
      (same, one-kind s o q (subst (λ (z : Option Extent). EndsRound p d n z o) same a.ends.2) b.ends.2)

  -- where a round finds nothing, a layout without a box, or is spent, the rounds stop
  nothing-stops : (r : Option Extent) (log : Kept) → RoundsEnd p d n r (Nothing log) → IsStop r (Nothing log)
  nothing-stops r log h = record { ends = h; stops = λ x f e. one-kind r (Found x.layout) (Nothing log) f h.2 }

  spent-stops : (r : Option Extent) → RoundsEnd p d n r OutOfBudget → IsStop r OutOfBudget
  spent-stops r h = record { ends = h; stops = λ x f e. one-kind r (Found x.layout) OutOfBudget f h.2 }

  bare-stops : (r : Option Extent) (t : Tuple) → RoundsEnd p d n r (Found t) → IsEnd p t d None → IsStop r (Found t)
  bare-stops r t h none = record {
    ends = h;
    stops = λ x f e. let same : x.layout ≡ t = one-kind r (Found x.layout) (Found t) f h.2 in none x.end (subst (λ (u : Tuple). IsEnd p u d (Some x.end)) same e).0;
  }

  pub one-best : (a b : Best) → IsBest p d n a → IsBest p d n b → AreSameBest a b
  one-best (Refused a) (Refused b) h k = tt
  one-best Budget Budget h k = tt
  one-best (Bare t) (Bare u) (r, h, e) (s, k, f) = (one-stop r s (Found t) (Found u) (bare-stops r t h e) (bare-stops s u k f)).1
  one-best (Least x t a) (Least y u b) h k =
      let same = some-is (record { end = x; layout = t }) (record { end = y; layout = u })
      (one-stop (Some (record { end = x; layout = t })) (Some (record { end = y; layout = u })) (Nothing a) (Nothing b) (nothing-stops (Some (record { end = x; layout = t })) a h) (nothing-stops (Some (record { end = y; layout = u })) b k)).0 in
      (ap (λ (z : Extent). z.end) same, ap (λ (z : Extent). z.layout) same)
  one-best (Refused a) Budget h (s, k) = (one-stop None s (Nothing a) OutOfBudget (nothing-stops None a h) (spent-stops s k)).1
  one-best Budget (Refused a) (s, k) h = (one-stop None s (Nothing a) OutOfBudget (nothing-stops None a h) (spent-stops s k)).1
  one-best (Refused a) (Bare t) h (s, k, f) = (one-stop None s (Nothing a) (Found t) (nothing-stops None a h) (bare-stops s t k f)).1
  one-best (Bare t) (Refused a) (s, k, f) h = (one-stop None s (Nothing a) (Found t) (nothing-stops None a h) (bare-stops s t k f)).1
  one-best (Refused a) (Least y u b) h k =
      some-none (record { end = y; layout = u })
      (one-stop None (Some (record { end = y; layout = u })) (Nothing a) (Nothing b) (nothing-stops None a h) (nothing-stops (Some (record { end = y; layout = u })) b k)).0
  one-best (Least y u b) (Refused a) k h =
      some-none (record { end = y; layout = u })
      (one-stop None (Some (record { end = y; layout = u })) (Nothing a) (Nothing b) (nothing-stops None a h) (nothing-stops (Some (record { end = y; layout = u })) b k)).0
  one-best Budget (Bare t) (r, h) (s, k, f) = (one-stop r s OutOfBudget (Found t) (spent-stops r h) (bare-stops s t k f)).1
  one-best (Bare t) Budget (s, k, f) (r, h) = (one-stop r s OutOfBudget (Found t) (spent-stops r h) (bare-stops s t k f)).1
  one-best Budget (Least y u b) (r, h) k = (one-stop r (Some (record { end = y; layout = u })) OutOfBudget (Nothing b) (spent-stops r h) (nothing-stops (Some (record { end = y; layout = u })) b k)).1
  one-best (Least y u b) Budget k (r, h) = (one-stop r (Some (record { end = y; layout = u })) OutOfBudget (Nothing b) (spent-stops r h) (nothing-stops (Some (record { end = y; layout = u })) b k)).1
  one-best (Bare t) (Least y u b) (r, h, f) k = (one-stop r (Some (record { end = y; layout = u })) (Found t) (Nothing b) (bare-stops r t h f) (nothing-stops (Some (record { end = y; layout = u })) b k)).1
  one-best (Least y u b) (Bare t) k (r, h, f) = (one-stop r (Some (record { end = y; layout = u })) (Found t) (Nothing b) (bare-stops r t h f) (nothing-stops (Some (record { end = y; layout = u })) b k)).1
