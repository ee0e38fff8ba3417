use Rattle.std.proofs.Common.{◌≡◌, ◌∙◌, ap}
use Rattle.derivation.proofs.Continuing.{growth_none, growth_of_add}
use Rattle.geo_state.proofs.Numbers.{kept64}
use Rattle.trail_search.specs.Variables.{variable_of, split_of}
use Rattle.trail_search.specs.Walker.{Position}
use Rattle.trail_search.proofs.Cases.{has_later, has_no_later}
use Rattle.trail_search.proofs.Recording.{cases_added, cases_none}
use Rattle.trail_search.proofs.walker.Walker.record_split.Goals as goal

pub returns-then-has_after : goal.returns-then-has_after
returns-then-has_after g c =
    let S = c.args.self.now.trail.state in
    let x = variable_of c.args.x in
    let is : c.state.result.now ≡ S = c.state.ensures.value ∙ ap (λ (p : Position). p.trail.state) c.self.view_is in
    let k = kept64 c.args.u c.ranges.u.sfits in
    record {
      grows = growth_of_add _ c.add.result c.add.ensures.ok c.add.ensures.err c.add.ensures.refused c.add.ensures.refusals c.add.ensures.no_record;
      cases = cases_added g.R.Recorder.keeps S x c.args.u _ (g.R.Recorder.list c.args.rec.now) (g.R.Recorder.list c.add.new.self) c.add.result
          (has_later c.state.result.now S x _ c.args.u c.has_after.result c.has_after.ensures is k c.if-has_after.true) (c.split.ensures ∙ ap (split_of x) k) c.add.ensures.ok;
    }

pub returns-else-has_after : goal.returns-else-has_after
returns-else-has_after g c =
    let S = c.args.self.now.trail.state in
    let x = variable_of c.args.x in
    let is : c.state.result.now ≡ S = c.state.ensures.value ∙ ap (λ (p : Position). p.trail.state) c.self.view_is in
    record {
      grows = growth_none _ _ _;
      cases = λ q. cases_none S x c.args.u (g.R.Recorder.list c.args.rec.now) (has_no_later c.state.result.now S x _ c.args.u c.has_after.result c.has_after.ensures is (kept64 c.args.u c.ranges.u.sfits) c.if-has_after.false);
    }
