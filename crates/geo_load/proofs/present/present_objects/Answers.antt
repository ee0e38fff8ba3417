use Rattle.std.proofs.Common.{◌≡◌, ◌+◌, not, ℕ, Vec, Global, sym, subst, ap, ◌∙◌}
use Rattle.std.specs.List.{filter, range_with_len}
use Rattle.geo_load.specs.Blocks.{is_present}
use Rattle.geo_load.proofs.Presence.{kept, skipped}
use Rattle.geo_load.proofs.present.present_objects.Goals as goal
use Rattle.geo_load.proofs.present.present_objects.Goals.{then-not-is_absent+in_ok-push, else-not-is_absent}

pub loop-o-preserved : goal.loop-o-preserved
loop-o-preserved c =
    let f = is_present c.args.problem.now c.args.layout.now in
    elim c.if-not-is_absent.branch [
      | then-not-is_absent+in_ok-push w ↦
          subst (λ (v : Vec ℕ Global). v.items ≡ filter f (range_with_len 0 (c.loop-o.o + 1))) (sym w.objects-is)
          (kept f c.loop-o.o c.loop-o.objects.items w.push.new.self.items (ap not (sym c.is_absent.ensures ∙ w.if-not-is_absent.true)) c.loop-o.invariant w.in_ok-push.ensures.items)
      | else-not-is_absent w ↦
          subst (λ (v : Vec ℕ Global). v.items ≡ filter f (range_with_len 0 (c.loop-o.o + 1))) (sym w.objects-is)
          (skipped f c.loop-o.o c.loop-o.objects.items (ap not (sym c.is_absent.ensures ∙ w.if-not-is_absent.false)) c.loop-o.invariant)
    ]
