use Rattle.std.proofs.Common.{◌≡◌, ◌+◌, ℕ, List, subst, sym, arith}
use Rattle.layout_drawing.specs.declared.span.Span.{Span}
use Rattle.layout_drawing.proofs.Ends.{Extents, no_extents, extents_more, extents_least}
use Rattle.layout_drawing.proofs.frame.least_box.Goals as goal

pub loop-d-init : goal.loop-d-init
loop-d-init c = subst (λ (ss : List Span). Extents c.args.blocks.now 0 ss) (sym c.new-spans.ensures.items) (no_extents c.args.blocks.now)

pub loop-d-preserved : goal.loop-d-preserved
loop-d-preserved c =
    subst (λ (ss : List Span). Extents c.args.blocks.now (c.loop-d.d + 1) ss) (sym c.in_ok-push.ensures.items)
    (extents_more c.args.blocks.now c.loop-d.d c.loop-d.spans.items c.extent.result c.loop-d.invariant c.extent.ensures)

pub returns-clause-least : goal.returns-clause-least
returns-clause-least c =
    let e : c.loop-d.d ≡ c.args.dims = omega arith in
    extents_least c.args.blocks.now c.args.dims c.loop-d.spans.items c.requires.dims (subst (λ (n : ℕ). Extents c.args.blocks.now n c.loop-d.spans.items) e c.loop-d.invariant)
