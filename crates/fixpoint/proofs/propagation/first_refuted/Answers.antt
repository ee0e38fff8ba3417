use Rattle.std.proofs.Common.{◌≡◌, ◌<◌, ◌≤◌, true, false, ℕ, List, length, slice_index, map, ap, sym, ◌∙◌, subst, inl, inr, arith, rules}
use Rattle.std.specs.List.{AllPairs}
use Rattle.std.proofs.lemmas.Bool.{cases_eq, cases_lt, not-false, not-true}
use Rattle.geo_conditions.specs.declared.cond.Cond.{Cond}
use Rattle.geo_conditions.specs.Conditions.{possible, FitsIn}
use Rattle.indexical.specs.declared.any.AnyIndexical.{AnyIndexical}
use Rattle.sweep.specs.Picks.{PicksAt}
use Rattle.sweep.proofs.PickedConditions.{picked_all, picks-map, one_pick, fits_at, mapped_picks}
use Rattle.fixpoint.proofs.Record.{refutes_picked}
use Rattle.fixpoint.proofs.propagation.first_refuted.Goals as goal

-- no later number is lower
not_lower : (picks : List ℕ) (n k : ℕ) → AllPairs (λ i j. i < j) picks → k < length picks → n ≤ k → slice_index picks k < slice_index picks n → ⊥
not_lower picks n k rising there past l = elim (cases_eq k n) [
  | inl e ↦ let same : slice_index picks k ≡ slice_index picks n = ap (slice_index picks) e in omega (arith, same, l)
  | inr ne ↦ let more : slice_index picks n < slice_index picks k = rising n k 0 (omega (arith, past, ne)) there in omega (arith, more, l)
]

pub refuted-requires : goal.refuted-requires
refuted-requires g c =
    let f = λ (x : AnyIndexical g.row.K). x.cond in
    let y = c.index-list-pick.result in
    let m = picks-map f c.args.list.now c.args.picks.now c.loop-pick.pick-index y c.requires.picks c.loop-pick-test.true in
    let fits : FitsIn y.cond c.args.s.now = subst (λ (x : AnyIndexical g.row.K). FitsIn x.cond c.args.s.now) (sym c.index-list-pick.is)
    (fits_at (map f c.args.list.now) c.args.s.now c.args.picks.now c.loop-pick.pick-index _ c.requires.fits m) in
    search rules

pub returns-then-refuted-clause-found : goal.returns-then-refuted-clause-found
returns-then-refuted-clause-found g c =
    let f = λ (x : AnyIndexical g.row.K). x.cond in
    let cs = map f c.args.list.now in
    let S = c.args.s.now in
    let y = c.index-list-pick.result in
    let m = picks-map f c.args.list.now c.args.picks.now c.loop-pick.pick-index y c.requires.picks c.loop-pick-test.true in
    let not_now : possible y.cond S ≡ false = not-true (possible y.cond S) (sym c.refuted.ensures ∙ c.if-refuted.true) in
    refutes_picked cs c.args.picks.now c.loop-pick.pick-index _ S (mapped_picks f c.args.list.now c.args.picks.now c.requires.picks) m
    (subst (λ (x : AnyIndexical g.row.K). possible x.cond S ≡ false) c.index-list-pick.is not_now)

pub loop-pick-preserved : goal.loop-pick-preserved
loop-pick-preserved g c =
    let f = λ (x : AnyIndexical g.row.K). x.cond in
    let cs = map f c.args.list.now in
    let picks = c.args.picks.now in
    let n = c.loop-pick.pick-index in
    let S = c.args.s.now in
    let y = c.index-list-pick.result in
    let now : possible y.cond S ≡ true = not-false (possible y.cond S) (sym c.refuted.ensures ∙ c.if-refuted.false) in
    let m = picks-map f c.args.list.now picks n y c.requires.picks c.loop-pick-test.true in
    λ k x h p. elim (cases_eq k n) [
      | inl e ↦
          let q : x ≡ y.cond = one_pick cs picks n x _ (subst (λ (j : ℕ). PicksAt cs picks j x) e p) m ∙ ap f (sym c.index-list-pick.is) in
          subst (λ (z : Cond). possible z S ≡ true) (sym q) now
      | inr ne ↦ c.loop-pick.invariant k x (omega (arith, h, ne)) p
    ]

pub returns-then-refuted-clause-first : goal.returns-then-refuted-clause-first
returns-then-refuted-clause-first g c = λ k x p l. elim (cases_lt k c.loop-pick.pick-index) [
  | inl before ↦ c.loop-pick.invariant k x before p
  | inr past ↦ absurd (not_lower c.args.picks.now c.loop-pick.pick-index k c.requires.rising p.0 past l)
]

pub returns-clause-found : goal.returns-clause-found
returns-clause-found g c = picked_all (λ x. possible x c.args.s.now ≡ true) _ c.args.picks.now (λ k x p. c.loop-pick.invariant k x (omega (arith, p.0, c.loop-pick-test.false)) p)

pub loop-pick-init : goal.loop-pick-init
loop-pick-init g c = λ k x h p. absurd (omega arith)

pub overflow_sub-pick : goal.overflow_sub-pick
overflow_sub-pick g c = let b = (c.requires.picks c.loop-pick.pick-index 0 c.loop-pick-test.true).0 in omega (arith, b)

pub bounds-list-pick : goal.bounds-list-pick
bounds-list-pick g c = let b = (c.requires.picks c.loop-pick.pick-index 0 c.loop-pick-test.true).1 in omega (arith, b)
