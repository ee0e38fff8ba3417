use Rattle.std.proofs.Common.{◌≡◌, ◌+◌, ◌++◌, ◌∷◌, [], ℕ, List, drop, sym, ap, ◌∙◌, append_assoc, append-nil}
use Rattle.std.specs.Prelude.{codes}
use Rattle.layout_drawing.specs.declared.span.Span.{Span}
use Rattle.layout_drawing.specs.Blocks.{highs, lows}
use Rattle.layout_drawing.specs.Drawing.{range_text, ranges}
use Rattle.layout_drawing.proofs.Pictured.{grown_once, ranges_more, ranges_done}
use Rattle.layout_drawing.proofs.picture.push_box.Goals as goal

pub loop-span-init : goal.loop-span-init
loop-span-init c =
    let all : List ℕ = ranges (lows c.args.spans.now) (highs c.args.spans.now) in
    ap (λ (xs : List ℕ). xs ++ all) c.in_ok-extend_from_slice.ensures.items ∙ append_assoc c.args.text.now.items (codes "box") all

pub loop-span-preserved : goal.loop-span-preserved
loop-span-preserved c =
    let ss : List Span = c.args.spans.now in
    let i : ℕ = c.loop-span.span-index in
    let s : Span = c.span-item.result in
    let others : List ℕ = ranges (lows (drop (i + 1) ss)) (highs (drop (i + 1) ss)) in
    ap (λ (xs : List ℕ). xs ++ others) c.in_ok-push_range.ensures ∙ append_assoc c.loop-span.text.items (range_text s.low s.high) others
    ∙ ap (λ (xs : List ℕ). c.loop-span.text.items ++ xs) (sym (ranges_more ss i s c.loop-span-test.true c.span-item.is)) ∙ c.loop-span.invariant

pub returns : goal.returns
returns c =
    let ss : List Span = c.args.spans.now in
    let i : ℕ = c.loop-span.span-index in
    let all : List ℕ = ranges (lows ss) (highs ss) in
    let whole : c.loop-span.text.items ≡ c.args.text.now.items ++ (codes "box" ++ all) =
    sym (append-nil c.loop-span.text.items) ∙ ap (λ (xs : List ℕ). c.loop-span.text.items ++ xs) (sym (ranges_done ss i c.loop-span-test.false)) ∙ c.loop-span.invariant in
    grown_once c.args.text.now.items (codes "box") all (10 ∷ []) c.loop-span.text.items c.push.new.self.items whole c.in_ok-push.ensures.items
