use Rattle.std.proofs.Common.{◌≡◌, ◌<◌, ◌+◌, map, inl, inr, arith}
use Rattle.std.proofs.lemmas.Bool.{cases_eq}
use Rattle.indexical.specs.declared.any.AnyIndexical.{AnyIndexical}
use Rattle.object_pruning.specs.Runs.{IsInGroup}
use Rattle.object_pruning.proofs.NearRows.{near_both, near_none, near_wider, wider_more, wider_same}
use Rattle.object_pruning.proofs.near_making.near_group.Goals as goal

pub loop-i-init : goal.loop-i-init
loop-i-init g c = record {
  wider = wider_same c.args.near.now;
  numbers = near_none (map (λ (x : AnyIndexical g.row.K). x.cond) c.args.list.now) c.args.o.0 _ c.args.near.now (λ i u p. absurd (omega (arith, p.0.0, p.1)));
}

pub loop-i-preserved : goal.loop-i-preserved
loop-i-preserved g c =
    let cs = map (λ (x : AnyIndexical g.row.K). x.cond) c.args.list.now in
    let o = c.args.o.0 in
    let group = c.args.group.now in
    let u = c.args.u in
    let k = c.loop-i.i in
    let i = c.loop-i.invariant in
    let new = c.in_ok-wider.wider in
    let more = c.in_ok-wider.ensures in
    record {
      wider = wider_more c.args.near.now c.loop-i.wider new i.wider more.wider;
      numbers = near_both cs o (λ j v. IsInGroup group j × (j < k) × (v ≡ u)) (λ j v. (j ≡ k) × (v ≡ u)) (λ j v. IsInGroup group j × (j < k + 1) × (v ≡ u)) new
          (λ j v r. elim (cases_eq j k) [ inl e ↦ inr (e, r.2) | inr ne ↦ inl (r.0, omega (arith, r.1, ne), r.2) ])
          (near_wider cs o _ c.loop-i.wider new more.wider i.numbers)
          more.number;
    }

pub returns-clause-group : goal.returns-clause-group
returns-clause-group g c = λ i u x p at. c.loop-i.invariant.numbers i u x (p.0, omega (arith, p.0.1, c.loop-i-test.false), p.1) at
