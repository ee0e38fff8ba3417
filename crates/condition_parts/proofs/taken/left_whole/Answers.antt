use Rattle.std.proofs.Common.{map, arith}
use Rattle.std.proofs.lemmas.List.{length-map}
use Rattle.indexical.specs.declared.any.AnyIndexical.{AnyIndexical}
use Rattle.condition_parts.proofs.Apart.{whole_all, whole_back}
use Rattle.condition_parts.proofs.taken.left_whole.Goals as goal

pub returns-clause-apart : goal.returns-clause-apart
returns-clause-apart g c =
    let f = λ (x : AnyIndexical g.row.K). x.cond in
    whole_all (map f c.args.list.items) (record { same = c.len-count.result; others = c.new.result }) (omega (arith, c.len-count.ensures, length-map c.args.list.items f)) c.new.ensures.items

pub returns-clause-back : goal.returns-clause-back
returns-clause-back g c =
    let f = λ (x : AnyIndexical g.row.K). x.cond in
    whole_back (map f c.args.list.items) c.in_ok-wholes.wholes.items c.len-count.result c.in_ok-wholes.ensures (omega (arith, c.len-count.ensures, length-map c.args.list.items f))
