use Rattle.std.proofs.Common.{◌≡◌, ℕ, sym, ap, length, ◌∙◌, subst, arith}
use Rattle.std.proofs.lemmas.Int.{ints}
use Rattle.std.proofs.lemmas.List.{length-map}
use Rattle.std.proofs.lemmas.Option.{IfSome_then}
use Rattle.std.specs.Option.{option_copied}
use Rattle.geo_conditions.specs.Walk.{NamesEach}
use Rattle.geo_conditions.specs.Conditions.{AllFit}
use Rattle.geo_conditions.specs.Reach.{State}
use Rattle.problem_data.proofs.Hulls.{tuple_is_wide}
use Rattle.rule_ground.specs.Start.{whole_reach, first_state}
use Rattle.layout_search.proofs.start.start_search.Goals as goal

pub start-requires : goal.start-requires
start-requires g c =
    let p = c.args.problem.now in
    let s : c.in_ok-first.first ≡ first_state p = c.in_ok-first.ensures.value in
    let cs = c.in_ok-propagator.ensures.conditions in (
      omega arith,
      (
        omega arith,
        (
          c.requires.k.1,
          (
            λ o d. let e = c.in_ok-first.ensures.ends o d in ((omega (arith, ints, e), omega (arith, ints, e)), (omega (arith, ints, e), omega (arith, ints, e))),
            (
              subst (λ (S : State). NamesEach g.row.K S c.in_ok-order.order) (sym s) (subst (λ (k : ℕ). NamesEach k (first_state p) c.in_ok-order.order) c.requires.dims c.in_ok-order.ensures.names),
              (
                IfSome_then (option_copied c.args.after) c.requires.after (λ t is. (c.in_ok-first.ensures.tuples t).1 (tuple_is_wide p t c.is_said.ensures.formed is)),
                (
                  ap length s ∙ length-map p.objects whole_reach ∙ sym (ap length c.objects.ensures) ∙ sym c.in_ok-propagator.ensures.objects,
                  subst (λ (l : _). AllFit l c.in_ok-first.first) (sym cs) (subst (AllFit c.args.conditions.items) (sym s) c.requires.fits),
                ),
              ),
            ),
          ),
        ),
      ),
    )
