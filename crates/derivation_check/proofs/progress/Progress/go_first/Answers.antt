use Rattle.std.proofs.Common.{◌<◌, length, sym, subst}
use Rattle.derivation.specs.Valid.{first_part}
use Rattle.derivation_check.specs.Machine.{Machine}
use Rattle.derivation_check.proofs.Pushed.{pushed_last}
use Rattle.derivation_check.proofs.progress.Progress.go_first.Goals as goal

pub invariant_of-self-2 : goal.invariant_of-self-2
invariant_of-self-2 g c =
    let there = subst (λ (m : Machine). c.args.o.0 < length m.state) (sym c.self.view_is) c.requires.object in
    (pushed_last c.args.half c.self.inside.state c.keep_first.new.s c.args.o g.row.K c.self.inside.tasks.items c.push.new.self.items c.saved_of.result (first_part c.args.half) there c.requires.half c.self.invariant.0 c.saved_of.ensures c.in_ok-push.ensures.items c.keep_first.ensures, tt)
