use Rattle.std.proofs.Common.{◌<◌, ◌++◌, ℕ, List, subst, ap, ◌∙◌}
use Rattle.std.specs.Prelude.{codes}
use Rattle.layout_commands.proofs.Named.{name_is, name_more}
use Rattle.layout_commands.proofs.load.named.Goals as goal

pub loop-k-preserved : goal.loop-k-preserved
loop-k-preserved c =
    let p = c.args.problem.now in
    let objects = c.args.objects.now in
    let l = subst (λ (n : ℕ). c.loop-k.k < n) c.len-k-end.ensures c.loop-k-test.true in
    let name = name_is p c.objects.result.now c.at.result.0 _ c.index-objects-at.result c.objects.ensures c.at.ensures (c.requires c.loop-k.k 0 l) c.index-objects-at.is in
    name_more p objects c.args.word.now c.loop-k.text.items c.push.new.self.items c.as_bytes.result.now c.loop-k.k l c.loop-k.invariant
    (c.as_bytes.ensures ∙ c.name.ensures ∙ name)
    (c.in_ok-push.ensures.items ∙ ap (λ (xs : List ℕ). xs ++ codes "\n") c.in_ok-extend_from_slice.ensures.items)
