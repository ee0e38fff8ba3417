-- A round: what a search under its conditions finds is what the round finds, and what follows of
-- it.
use Rattle.std.proofs.Common.{◌≡◌, ◌≤◌, ◌<◌, ◌^◌, ◌++◌, ℕ, zero, suc, ℤ, pos, negsuc, ◌-ℤ◌, ◌+ℤ◌, ◌≤ℤ◌, List, length, map, refl, sym, ap, subst, ◌∙◌, arith, Option, Some, None, Vec, Global}
use Rattle.std.specs.Prelude.{true, take}
use Rattle.std.proofs.lemmas.Int.{ints}
use Rattle.std.proofs.lemmas.List.{length-append, map-append}
use Rattle.std.proofs.lemmas.List.Elements.{All-nil, All-append}
use Rattle.std.proofs.Math.Seq.{take-append_seam}
use Rattle.geo_base.specs.Tuple.{Tuple}
use Rattle.geo_conditions.specs.declared.cond.Cond.{Cond}
use Rattle.geo_conditions.specs.Conditions.{AllFit, AllHold, FitsIn, holds}
use Rattle.derivation.specs.Events.{Kept}
use Rattle.linear_conditions.specs.CondTree.{cond_view}
use Rattle.problem_data.specs.Problem.{ProblemData}
use Rattle.problem_data.specs.Cells.{IsWideTuple}
use Rattle.problem_data.specs.Layouts.{IsLayout}
use Rattle.problem_data.specs.WellFormed.{IsWellFormed}
use Rattle.problem_data.proofs.Hulls.{tuple_is_wide}
use Rattle.rule_ground.specs.Start.{first_state}
use Rattle.rule_ground.proofs.Truths.{all-left, all-right}
use Rattle.extent_caps.specs.Capped.{AddsCaps, IsReachable}
use Rattle.extent_caps.specs.Extents.{IsEnd, EndsBy, caps}
use Rattle.layout_search.specs.FirstLayout.{Derives, FindsSolution, Lists}
use Rattle.layout_search.specs.declared.first.Outcome.{Outcome}
use Rattle.layout_search.specs.declared.first.Outcome.TheVariants.{Found, Nothing, OutOfBudget}
use Rattle.geo_best.specs.declared.extent.Extent.{Extent}
use Rattle.geo_best.specs.declared.one_round.Best.{Best}
use Rattle.geo_best.specs.declared.one_round.Best.TheVariants.{Budget, Bare}
use Rattle.geo_best.specs.declared.one_round.Round.{Round}
use Rattle.geo_best.specs.Rounds.{
  Comes,
  EndsRound,
  FindsFirst,
  IsBare,
  IsBest,
  IsLeast,
  IsOfRound,
  IsSmallBest,
  PromisesLeast,
  ShowsBest,
  ShowsEnd,
  caps_below,
  round_conditions,
}
use Rattle.geo_best.specs.Turns.{AreOfRound, AreOver, CapsBelow, IsRound, IsSmallEnd, number_of, room, stopped}

-- ---- what a round looks for, and its conditions

layout-of : (p : ProblemData) (d : ℕ) (r : Option Extent) (t : Tuple) → IsOfRound p d r t → IsLayout p t
layout-of p d None t o = o
layout-of p d (Some x) t o = o.0

below-out : (p : ProblemData) (d : ℕ) (r : Option Extent) (cs : List Cond) (t : Tuple) → CapsBelow p d r cs → IsWideTuple p t → AllHold cs t → IsLayout p t → IsOfRound p d r t
below-out p d None cs t c w a l = l
below-out p d (Some x) cs t c w a l = (l, (c.meaning t w).0 a)

below-in : (p : ProblemData) (d : ℕ) (r : Option Extent) (cs : List Cond) (t : Tuple) → CapsBelow p d r cs → IsWideTuple p t → IsOfRound p d r t → AllHold cs t
below-in p d None cs t c w o = subst (λ (xs : List Cond). AllHold xs t) (sym c) (All-nil (λ (k : Cond). holds k t ≡ true))
below-in p d (Some x) cs t c w o = (c.meaning t w).1 o.1

below-trees : (p : ProblemData) (d : ℕ) (r : Option Extent) (cs : List Cond) → CapsBelow p d r cs → map cond_view cs ≡ caps_below p d r
below-trees p d None cs c = ap (map cond_view) c
below-trees p d (Some x) cs c = c.trees

below-fit : (p : ProblemData) (d : ℕ) (r : Option Extent) (cs : List Cond) → CapsBelow p d r cs → AllFit cs (first_state p)
below-fit p d None cs c = subst (λ (xs : List Cond). AllFit xs (first_state p)) (sym c) (All-nil (λ (k : Cond). FitsIn k (first_state p)))
below-fit p d (Some x) cs c = c.fit

below-few : (p : ProblemData) (d : ℕ) (r : Option Extent) (cs : List Cond) → CapsBelow p d r cs → length cs ≤ 51200
below-few p d None cs c = let e = ap length c in omega (arith, e)
below-few p d (Some x) cs c = c.few

module _ (p : ProblemData) (d own : ℕ) (r : Option Extent) (cs : List Cond) (h : AreOfRound p d own r cs) where
  pub round-trees : map cond_view cs ≡ round_conditions p d r
  round-trees =
      ap (map cond_view) h.both ∙ map-append cond_view h.first h.caps
      ∙ (λ i. h.are_own.are i ++ below-trees p d r h.caps h.are_caps i)

  pub round-fit : AllFit cs (first_state p)
  round-fit =
      subst (λ (xs : List Cond). AllFit xs (first_state p)) (sym h.both)
      (All-append (λ (k : Cond). FitsIn k (first_state p)) h.first h.caps h.are_own.of.fit (below-fit p d r h.caps h.are_caps))

  pub round-few : length cs ≤ 10 ^ 9
  round-few =
      let e = ap length h.both ∙ length-append h.first h.caps in
      let f = below-few p d r h.caps h.are_caps in
      let o = h.are_own.few in
      omega (arith, e, f, o)

  pub round-long : own ≤ length cs
  round-long = let e = ap length h.both ∙ length-append h.first h.caps in let c = h.count in omega (arith, e, c)

  module _ (well : IsWellFormed p) where
    out : (t : Tuple) → IsWideTuple p t → AllHold cs t → IsOfRound p d r t
    out t w a =
        let b = subst (λ (xs : List Cond). AllHold xs t) h.both a in
        below-out p d r h.caps t h.are_caps w (all-right (λ (k : Cond). holds k t ≡ true) h.first h.caps b)
        ((h.are_own.of.meaning t w).0 (all-left (λ (k : Cond). holds k t ≡ true) h.first h.caps b))

    wide : (t : Tuple) → IsOfRound p d r t → IsWideTuple p t
    wide t o = tuple_is_wide p t well (layout-of p d r t o).tuple

    back : (t : Tuple) → IsOfRound p d r t → AllHold cs t
    back t o =
        subst (λ (xs : List Cond). AllHold xs t) (sym h.both)
        (All-append (λ (k : Cond). holds k t ≡ true) h.first h.caps ((h.are_own.of.meaning t (wide t o)).1 (layout-of p d r t o)) (below-in p d r h.caps t h.are_caps (wide t o) o))

    pub round-finds : (o : Outcome Kept) → FindsSolution p cs o → FindsFirst p d r o
    round-finds (Found t) s = (out t s.tuple s.holds, λ u v. s.first u (wide u v) (back u v))
    round-finds (Nothing log) s = λ t v. s t (wide t v) (back t v)
    round-finds OutOfBudget s = tt

    pub round-ends : (n : ℕ) (o : Outcome Kept) → Lists p cs n o → FindsSolution p cs o → EndsRound p d n r o
    round-ends n o l s = record { conditions = cs; are = round-trees; listing = l; finds = round-finds o s }

-- ---- the round behind a layout that was found

-- the first of the conditions stay the problem's own
pub next-round : (p : ProblemData) (d own : ℕ) (r : Option Extent) (cs : List Cond) (x : Extent) (new added : List Cond) → AreOfRound p d own r cs
    → new ≡ take own cs ++ added → CapsBelow p d (Some x) added → AreOfRound p d own (Some x) new
next-round p d own r cs x new added h e c =
    let first : take own cs ≡ h.first = ap (take own) h.both ∙ ap (λ (m : ℕ). take m (h.first ++ h.caps)) (sym h.count) ∙ take-append_seam h.first h.caps in
    record {
      first = h.first;
      caps = added;
      both = e ∙ ap (λ (xs : List Cond). xs ++ added) first;
      count = h.count;
      are_own = h.are_own;
      are_caps = c;
    }

lower : (e f : ℤ) → e ≤ℤ (f -ℤ pos 1) → negsuc 1999998 ≤ℤ e → number_of (e +ℤ pos 2000000) < number_of (f +ℤ pos 2000000)
lower e f h l = grind (arith, ints)

below-all : (e : ℤ) → negsuc 1999998 ≤ℤ e → e ≤ℤ pos 3000000 → number_of (e +ℤ pos 2000000) < 5000001
below-all e l h = grind (arith, ints)

-- there is less room behind it
pub less-room : (p : ProblemData) (d : ℕ) (r : Option Extent) (x : Extent) → IsOfRound p d r x.layout → IsEnd p x.layout d (Some x.end) → IsReachable x.end → room (Some x) < room r
less-room p d None x o e s = below-all x.end s.0 s.1
less-room p d (Some y) x o e s = lower x.end y.end (o.1 x.end e.0) s.0

-- ---- a round that finds nothing

one-some : (x y : Extent) → Some x ≡ Some y → x ≡ y
one-some x y e = cc

no-some : (x : Extent) → Some x ≡ None → ⊥
no-some x e = cc

pub ends-below : (p : ProblemData) (d : ℕ) (u : Tuple) (e f : ℤ) → IsEnd p u d (Some e) → e ≤ℤ f → EndsBy p u d f
ends-below p d u e f h l v b = let a = h.1 v b in omega (arith, ints, a, l)

-- a layout that ends as the one that a round found is also of that round
also-of : (p : ProblemData) (d : ℕ) (r : Option Extent) (t u : Tuple) (e : ℤ) → IsOfRound p d r t → IsEnd p t d (Some e) → IsLayout p u → IsEnd p u d (Some e) → IsOfRound p d r u
also-of p d None t u e o a l b = l
also-of p d (Some y) t u e o a l b = (l, ends-below p d u e (y.end -ℤ pos 1) b (o.1 e a.0))

-- a layout without a box is of every round
bare-of : (p : ProblemData) (d : ℕ) (r : Option Extent) (u : Tuple) → IsLayout p u → IsEnd p u d None → IsOfRound p d r u
bare-of p d None u l b = l
bare-of p d (Some y) u l b = (l, λ v e. absurd (b v e))

pub is-bare : (p : ProblemData) (d n : ℕ) (r : Option Extent) (t : Tuple) → EndsRound p d n r (Found t) → IsEnd p t d None → IsBare p d t
is-bare p d n r t h e = record { layout = layout-of p d r t h.finds.0; end = e; first = λ u l b. h.finds.1 u (bare-of p d r u l b) }

is-least : (p : ProblemData) (d n k : ℕ) (x : Extent) (log : Kept) → Comes p d n k (Some x) → EndsRound p d n (Some x) (Nothing log) → IsLeast p d x.end x.layout
is-least p d n zero x log c h = absurd (no-some x c)
is-least p d n (suc k) x log (s, y, before, found, end, e) h = subst (λ (z : Extent). IsLeast p d z.end z.layout) (sym (one-some x y e)) (record {
  layout = layout-of p d s y.layout found.finds.0;
  end = end;
  least = λ u l b. h.finds u (l, subst (λ (z : Extent). EndsBy p u d (z.end -ℤ pos 1)) (sym (one-some x y e)) b);
  first = λ u l b. found.finds.1 u (also-of p d s y.layout u y.end found.finds.0 end l b);
})

pub stopped-best : (p : ProblemData) (d n k : ℕ) (r : Option Extent) (log : Kept) → Comes p d n k r → EndsRound p d n r (Nothing log) → IsBest p d n (stopped r log)
stopped-best p d n k None log c h = (k, c, h)
stopped-best p d n k (Some x) log c h = (k, c, h)

pub stopped-least : (p : ProblemData) (d n k : ℕ) (r : Option Extent) (log : Kept) → Comes p d n k r → EndsRound p d n r (Nothing log) → PromisesLeast p d (stopped r log)
stopped-least p d n k None log c h = h.finds
stopped-least p d n k (Some x) log c h = is-least p d n k x log c h

pub stopped-small : (r : Option Extent) (log : Kept) → IsSmallEnd r → IsSmallBest (stopped r log)
stopped-small None log h = tt
stopped-small (Some x) log h = h

pub stopped-shows : (p : ProblemData) (d : ℕ) (r : Option Extent) (cs : List Cond) (log : Kept) → ShowsEnd p d r cs log → ShowsBest p d cs (stopped r log)
stopped-shows p d None cs log h = h
stopped-shows p d (Some x) cs log h = h

pub shows-end : (p : ProblemData) (d own : ℕ) (r : Option Extent) (cs : List Cond) (log : Kept) → AreOfRound p d own r cs → Derives p cs (λ l. l.events) (Nothing log) → ShowsEnd p d r cs log
shows-end p d own r cs log h e = record { are = round-trees p d own r cs h; fit = round-fit p d own r cs h; derivation = e.0; few = e.1 }

-- ---- what a search under the conditions of a round leads to

module _ (p : ProblemData) (d n own : ℕ) (round : Round) (well : IsWellFormed p) (h : IsRound p d n own round) (given : List Cond) (same : given ≡ round.conditions.items) where
  ended : (o : Outcome Kept) → Lists p round.conditions.items n o → FindsSolution p round.conditions.items o → EndsRound p d n round.last o
  ended o l s = round-ends p d own round.last round.conditions.items h.conditions well n o l s

  -- a layout with an end: the next round is capped below it
  pub leads-on : (t : Tuple) (e : ℤ) (new : Vec Cond Global) → Lists {R = Kept} p round.conditions.items n (Found t) → FindsSolution {R = Kept} p round.conditions.items (Found t) → IsEnd p t d (Some e) → IsReachable e
      → AddsCaps p d (e -ℤ pos 1) (take own given) new.items
      → IsRound p d n own (record { last = Some (record { end = e; layout = t }); conditions = new }) × (number_of (e +ℤ pos 2000000) < room round.last)
  leads-on t e new l s end small caps =
      let x : Extent = record { end = e; layout = t } in
      let found = ended (Found t) l s in (
        record {
          number = suc h.number;
          comes = (round.last, x, h.comes, found, end, refl);
          small = small;
          conditions = next-round p d own round.last round.conditions.items x new.items caps.added h.conditions (caps.behind ∙ ap (λ (cs : List Cond). take own cs ++ caps.added) same) caps.are;
        },
        less-room p d round.last x found.finds.0 end small,
      )

  -- a layout without a box
  pub leads-to-bare : (t : Tuple) (new : Vec Cond Global) → Lists {R = Kept} p round.conditions.items n (Found t) → FindsSolution {R = Kept} p round.conditions.items (Found t) → IsEnd p t d None
      → AreOver p d n (record { best = Bare t; conditions = new })
  leads-to-bare t new l s end = (let found = ended (Found t) l s in record { best = (round.last, (h.number, h.comes, found), end); least = is-bare p d n round.last t found end; small = tt; shows = tt })

  -- nothing
  pub leads-to-nothing : (log : Kept) (best : Best) (new : Vec Cond Global) → new.items ≡ given → Lists p round.conditions.items n (Nothing log) → FindsSolution p round.conditions.items (Nothing log)
      → Derives p round.conditions.items (λ k. k.events) (Nothing log) → best ≡ stopped round.last log → AreOver p d n (record { best = best; conditions = new })
  leads-to-nothing log best new is l s shown e =
      let over = ended (Nothing log) l s in
      let shows = subst (λ (cs : List Cond). ShowsEnd p d round.last cs log) (sym (is ∙ same)) (shows-end p d own round.last round.conditions.items log h.conditions shown) in
      subst (λ (b : Best). AreOver p d n (record { best = b; conditions = new })) (sym e) (record {
        best = stopped-best p d n h.number round.last log h.comes over;
        least = stopped-least p d n h.number round.last log h.comes over;
        small = stopped-small round.last log h.small;
        shows = stopped-shows p d round.last new.items log shows;
      })

  -- no end within the budget
  pub leads-to-budget : (new : Vec Cond Global) → Lists {R = Kept} p round.conditions.items n OutOfBudget → FindsSolution {R = Kept} p round.conditions.items OutOfBudget → AreOver p d n (record { best = Budget; conditions = new })
  leads-to-budget new l s = record { best = (round.last, (h.number, h.comes, ended OutOfBudget l s)); least = tt; small = tt; shows = tt }
