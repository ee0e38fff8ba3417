use Rattle.std.proofs.Common.{◌≡◌, ◌+◌, ◌+ℤ◌, ℕ, ℤ, List, pos, length, get_or, FitsSigned, to_z, of_z, w64, rules, sym, ap, ◌∙◌, subst, arith}
use Rattle.std.proofs.lemmas.Int.{to_z-of_z}
use Rattle.geo_base.specs.Boxes.{coordinate}
use Rattle.geo_base.specs.Tuple.{spot}
use Rattle.problem_data.specs.Problem.{BoxData}
use Rattle.layout_drawing.specs.declared.span.Span.{Span}
use Rattle.layout_drawing.proofs.Ends.{AreEnds, ends_more, ends_block}
use Rattle.layout_drawing.proofs.blocks.block_of.Goals as goal

pub loop-d-preserved : goal.loop-d-preserved
loop-d-preserved c =
    let a : BoxData = c.args.part.now in
    let origin : List ℤ = (spot c.args.layout.now c.args.o.0).origin in
    let d : ℕ = c.loop-d.d in
    let first : FitsSigned w64 c.origin.result = search rules in
    let second : FitsSigned w64 (get_or c.offsets.result.now d (pos 0)) = search rules in
    let third : FitsSigned w64 (get_or c.sizes.result.now d (pos 0)) = search rules in
    let from : to_z w64 (of_z w64 c.origin.result) ≡ coordinate origin d = to_z-of_z w64 c.origin.result first ∙ c.origin.ensures in
    let offset : to_z w64 (of_z w64 (get_or c.offsets.result.now d (pos 0))) ≡ coordinate a.offsets d =
    to_z-of_z w64 (get_or c.offsets.result.now d (pos 0)) second ∙ ap (λ (xs : List ℤ). get_or xs d (pos 0)) c.offsets.ensures in
    let size : to_z w64 (of_z w64 (get_or c.sizes.result.now d (pos 0))) ≡ coordinate a.sizes d =
    to_z-of_z w64 (get_or c.sizes.result.now d (pos 0)) third ∙ ap (λ (xs : List ℤ). get_or xs d (pos 0)) c.sizes.ensures in
    subst (λ (ss : List Span). AreEnds a origin (d + 1) ss) (sym c.in_ok-push.ensures.items)
    (ends_more a origin d c.loop-d.spans.items c.numbers_of-here.result c.loop-d.invariant
    (c.numbers_of-here.ensures.low ∙ (λ i. from i +ℤ offset i))
    (c.numbers_of-here.ensures.high ∙ (λ i. (from i +ℤ offset i) +ℤ size i)))

pub returns : goal.returns
returns c =
    let a : BoxData = c.args.part.now in
    let origin : List ℤ = (spot c.args.layout.now c.args.o.0).origin in
    let sizes = ap length c.sizes-d-end.ensures in
    let e : c.loop-d.d ≡ length origin = omega (arith, sizes, c.requires.part.sizes) in
    ends_block a origin (length origin) (record { object = c.args.o; spans = c.loop-d.spans }) (subst (λ (n : ℕ). AreEnds a origin n c.loop-d.spans.items) e c.loop-d.invariant)
