use Rattle.std.proofs.Common.{◌≡◌, ◌∙◌, length, sym, ap, subst, arith}
use Rattle.std.specs.List.{All}
use Rattle.geo_conditions.specs.Conditions.{FitsIn}
use Rattle.geo_conditions.specs.Reach.{State, IsState}
use Rattle.geo_conditions.specs.Walk.{NamesEach}
use Rattle.geo_state.specs.Trail.{Trail}
use Rattle.trail_search.proofs.Nexts.{no_events}
use Rattle.trail_search.proofs.search.Search.start.Goals as goal

pub invariant_of-result : goal.invariant_of-result
invariant_of-result g c =
    let q = c.begin.new.self in
    let w = c.in-Ok.walker in
    let same = c.begin.ensures.same in
    let first = same.first ∙ c.in-Ok.ensures.first in
    record {
      well = c.begin.ensures.well;
      state = subst (IsState g.row.K) (sym same.first) c.in-Ok.ensures.shape;
      count = λ e. omega (arith, c.begin.ensures.walked);
      objects = ap length first ∙ c.requires.objects;
      fits = subst (λ (S : State). All (λ d. FitsIn d S) (g.P.Propagate.conditions c.args.prop)) (sym first) c.requires.fits;
      ready = λ e. c.begin.ensures.ready (g.P.Propagate.conditions c.args.prop);
      memory = λ e. absurd (cc);
      last = λ e. absurd (cc);
      named = (c.args.order, subst (λ (S : State). NamesEach g.row.K S c.args.order) (sym first) c.requires.order, same.variables ∙ c.in-Ok.ensures.variables);
      some = λ e. absurd (cc);
      derives = λ k b s t.
          let still : q.trail ≡ w.trail = c.begin.ensures.unmoved (sym same.token ∙ t) in (
            record {
              state = ap (λ (z : Trail). z.state) still ∙ c.in-Ok.ensures.fresh.state ∙ sym same.first;
              restores = ap (λ (z : Trail). z.restores) still ∙ c.in-Ok.ensures.fresh.restores;
            },
            no_events (g.R.Recorder.list c.args.rec) c.mark-began_empty.result (c.mark-began_empty.ensures.kept k) b,
          );
    }
