use Rattle.std.proofs.Common.{arith}
use Rattle.fixpoint.specs.Pairs.{BelongsTo}
use Rattle.fixpoint.proofs.Paired.{IsOfRow, puts_none, puts_group, puts_groups}
use Rattle.fixpoint.proofs.pairs.put_row.Goals as goal

pub loop-k-init : goal.loop-k-init
loop-k-init c = puts_none (BelongsTo c.args.named.now c.args.o) (IsOfRow c.args.row c.args.groups.now 0) c.args.beside.now c.args.others.now.items (λ b w. absurd (omega (arith, w.1.1)))

pub loop-k-preserved : goal.loop-k-preserved
loop-k-preserved c = puts_group (BelongsTo c.args.named.now c.args.o) c.args.row c.args.groups.now c.loop-k.k _ c.args.beside.now c.loop-k.beside c.put_group.new.beside c.args.others.now.items c.loop-k.others.items c.put_group.new.others.items c.loop-k-test.true c.loop-k.invariant c.in_ok-put_group.ensures

pub returns : goal.returns
returns c = puts_groups (BelongsTo c.args.named.now c.args.o) c.args.row c.args.groups.now c.loop-k.k c.args.beside.now c.loop-k.beside c.args.others.now.items c.loop-k.others.items c.loop-k-test.false c.loop-k.invariant
