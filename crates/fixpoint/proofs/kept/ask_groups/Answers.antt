use Rattle.std.proofs.Common.{map, get_or, arith, rules, None}
use Rattle.std.proofs.lemmas.Option.{slice_get-get_or}
use Rattle.indexical.specs.declared.any.AnyIndexical.{AnyIndexical}
use Rattle.fixpoint.specs.declared.pairs.RowGroup.{RowGroup}
use Rattle.fixpoint.specs.Pairs.{IsGroupOf}
use Rattle.fixpoint.proofs.Asked.{InBelow, those_none, those_group, those_groups}
use Rattle.fixpoint.proofs.kept.ask_groups.Goals as goal

pub loop-k-init : goal.loop-k-init
loop-k-init g c = λ marks. those_none (map (λ (x : AnyIndexical g.row.K). x.cond) c.args.list.now) c.args.s.now c.args.o.0 marks (InBelow c.args.groups.now 0) c.args.kept.now (λ i p. absurd (omega (arith, p.2)))

pub ask_group-requires : goal.ask_group-requires
ask_group-requires g c =
    let bs = c.args.groups.now in
    let k = c.loop-k.k in
    let d : RowGroup = record { row = 0; group = record { other = None; other_place = 0; first = 0; last = 0 } } in
    let some : IsGroupOf (map (λ (x : AnyIndexical g.row.K). x.cond) c.args.list.now) c.args.o.0 (get_or bs k d).row (get_or bs k d).group = c.requires.groups k (get_or bs k d) (slice_get-get_or bs k d c.loop-k-test.true) in
    search rules

pub loop-k-preserved : goal.loop-k-preserved
loop-k-preserved g c = λ marks. those_group (map (λ (x : AnyIndexical g.row.K). x.cond) c.args.list.now) c.args.s.now c.args.o.0 marks c.args.groups.now c.loop-k.k _ c.args.kept.now c.loop-k.kept c.ask_group.new.kept c.loop-k-test.true (c.loop-k.invariant marks) (c.ask_group.ensures marks)

pub returns : goal.returns
returns g c = λ marks. those_groups (map (λ (x : AnyIndexical g.row.K). x.cond) c.args.list.now) c.args.s.now c.args.o.0 marks c.args.groups.now c.loop-k.k c.args.kept.now c.loop-k.kept c.loop-k-test.false (c.loop-k.invariant marks)
