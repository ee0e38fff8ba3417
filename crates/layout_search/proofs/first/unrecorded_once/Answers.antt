use Rattle.std.proofs.Common.{◌≡◌, ◌∙◌, List, ap, length, sym, subst, arith, Option}
use Rattle.std.specs.Prelude.{IfSome}
use Rattle.derivation.specs.declared.recorder.NoRecord.{NoRecord}
use Rattle.layout_search.specs.declared.first.Outcome.{Outcome}
use Rattle.geo_conditions.specs.declared.cond.Cond.{Cond}
use Rattle.geo_conditions.specs.Conditions.{AllFit}
use Rattle.geo_conditions.specs.Walk.{Tree}
use Rattle.rule_ground.specs.Start.{first_state}
use Rattle.layout_search.specs.FirstLayout.{FindsSolution, Lists, walk_of}
use Rattle.layout_search.proofs.Solutions.{lists-of, finds-of}
use Rattle.layout_search.proofs.first.unrecorded_once.Goals as goal

pub first_answer-requires : goal.first_answer-requires
first_answer-requires g c =
    let p = c.args.problem.now in
    let a = c.in_ok-search.search in
    let e = c.in_ok-search.ensures.walk in
    let own : a.walk.conditions ≡ c.args.conditions.items = ap (λ (W : Tree). W.conditions) e in (
      omega arith,
      (
        omega arith,
        (
          c.requires.k.1,
          (
            c.requires.dims,
            (
              e ∙ ap (walk_of p) (sym own),
              (
                subst (λ (cs : List Cond). AllFit cs (first_state p)) (sym own) c.requires.fits,
                (omega (arith, ap length own, c.requires.few), (c.in_ok-search.ensures.walked, c.in_ok-search.ensures.over)),
              ),
            ),
          ),
        ),
      ),
    )

pub returns-clause-walk : goal.returns-clause-walk
returns-clause-walk g c =
    let p = c.args.problem.now in
    let a = c.in_ok-search.search in
    lists-of p c.args.conditions.items c.args.budget a c.in_ok-search.ensures.walk c.in_ok-search.ensures.budget c.in-Some.outcome
    (subst (λ (x : Option (Outcome NoRecord)). IfSome x (Lists p a.walk.conditions a.budget)) c.in-Some.is c.in_ok-outcome.ensures.walk)

pub returns-clause-solution : goal.returns-clause-solution
returns-clause-solution g c =
    let p = c.args.problem.now in
    let a = c.in_ok-search.search in
    finds-of p c.args.conditions.items c.args.budget a c.in_ok-search.ensures.walk c.in_ok-search.ensures.budget c.in-Some.outcome
    (subst (λ (x : Option (Outcome NoRecord)). IfSome x (FindsSolution p a.walk.conditions)) c.in-Some.is c.in_ok-outcome.ensures.solution)

pub returns-clause-conditions : goal.returns-clause-conditions
returns-clause-conditions g c = c.in_ok-conditions.ensures ∙ c.into_parts-propagator.ensures.conditions ∙ c.first_answer.ensures.conditions ∙ ap (λ (W : Tree). W.conditions) c.in_ok-search.ensures.walk
