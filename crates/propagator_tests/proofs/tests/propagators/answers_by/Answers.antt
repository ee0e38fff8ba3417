use Rattle.std.proofs.Common.{◌≡◌, ℕ, ap, sym, ◌∙◌, subst, arith, length}
use Rattle.std.proofs.lemmas.Int.{ints}
use Rattle.geo_conditions.specs.Walk.{NamesEach}
use Rattle.geo_conditions.specs.Conditions.{AllFit}
use Rattle.geo_conditions.specs.Reach.{State}
use Rattle.rule_ground.specs.Start.{first_state}
use Rattle.propagator_tests.proofs.tests.propagators.answers_by.Goals as goal

pub start-requires : goal.start-requires
start-requires g c =
    let p = c.args.problem.now in
    let s : c.in_ok-first.first ≡ first_state p = c.in_ok-first.ensures.value in (
      omega arith,
      (
        omega arith,
        (
          c.requires.k,
          (
            λ o d. let e = c.in_ok-first.ensures.ends o d in ((omega (arith, ints, e), omega (arith, ints, e)), (omega (arith, ints, e), omega (arith, ints, e))),
            (
              subst (λ (S : State). NamesEach g.row.K S c.in_ok-order.order) (sym s) (subst (λ (k : ℕ). NamesEach k (first_state p) c.in_ok-order.order) c.requires.dims c.in_ok-order.ensures.names),
              (
                tt,
                (
                  ap length s ∙ c.requires.objects ∙ sym c.in_ok-state.ensures.objects,
                  subst (λ (l : _). AllFit l c.in_ok-first.first) (sym c.in_ok-state.ensures.conditions) (subst (AllFit _) (sym s) c.requires.fits),
                ),
              ),
            ),
          ),
        ),
      ),
    )
