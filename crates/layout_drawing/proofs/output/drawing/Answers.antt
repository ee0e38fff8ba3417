use Rattle.std.proofs.Common.{◌≡◌, ◌<◌, ◌≤◌, ◌==◌, ◌++◌, ℕ, ℤ, true, List, length, sym, ap, ◌∙◌, subst, inl, inr, arith}
use Rattle.std.proofs.lemmas.Bool.{cases_lt, false≢true}
use Rattle.std.proofs.lemmas.Bool.Decides.{nat_tests}
use Rattle.problem_data.specs.Problem.{ProblemData}
use Rattle.problem_data.specs.Tuple.{Tuple}
use Rattle.layout_drawing.specs.declared.blocks.Block.{Block}
use Rattle.layout_drawing.specs.declared.span.Span.{Span}
use Rattle.layout_drawing.specs.Blocks.{highs, lows, IsOwned, Owns}
use Rattle.layout_drawing.specs.Drawing.{AreSigns, IsLeastBox, box_line, cell_count, drawn, most_cells, nothing, picture}
use Rattle.layout_drawing.specs.Painting.{IsFrame}
use Rattle.layout_drawing.proofs.Found.{signs_found}
use Rattle.layout_drawing.proofs.Framed.{cell_signs, frame_is, least_cells, no_cells, tuple_box}
use Rattle.layout_drawing.proofs.output.drawing.Goals as goal

-- how many cells there are, of spans by another name
counted : (slice ss : List Span) → slice ≡ ss → cell_count (lows slice) (highs slice) ≡ cell_count (lows ss) (highs ss)
counted slice ss e = ap (λ (xs : List Span). cell_count (lows xs) (highs xs)) e

no_blocks : (n m : ℕ) → n ≡ m → (n == 0) ≡ true → m ≡ 0
no_blocks n m e h = grind (arith, nat_tests)

pub returns-then-is_empty : goal.returns-then-is_empty
returns-then-is_empty c =
    let bs : List Block = c.in_ok-blocks.blocks.items in
    nothing (no_cells c.args.problem.now c.args.layout.now bs c.in_ok-blocks.ensures (no_blocks c.in_ok-blocks.blocks.len (length bs) c.in_ok-blocks.blocks.ok.0 (sym c.is_empty.ensures ∙ c.if-is_empty.true)))
    c.in_ok-from_slice.ensures.items

pub returns-then-not-is_small : goal.returns-then-not-is_small
returns-then-not-is_small c =
    let p : ProblemData = c.args.problem.now in
    let t : Tuple = c.args.layout.now in
    let bs : List Block = c.in_ok-blocks.blocks.items in
    let ss : List Span = c.in_ok-spans.spans.items in
    let same = counted c.as_slice-2.result.now ss c.as_slice-2.ensures.value in
    record {
      lo = lows ss;
      hi = highs ss;
      box = least_cells p t bs c.in_ok-blocks.ensures (lows ss) (highs ss) (tuple_box p t bs c.in_ok-blocks.ensures c.as_slice.result.now c.dims.result (lows ss) (highs ss) c.as_slice.ensures.value c.dims.ensures c.in_ok-spans.ensures.least);
      many = elim (cases_lt most_cells (cell_count (lows ss) (highs ss))) [
        | inl less ↦ less
        | inr few ↦ absurd (false≢true (sym c.if-not-is_small.true ∙ c.is_small.ensures.1 (subst (λ (n : ℕ). n ≤ most_cells) (sym same) few)))
      ];
    }

pub push_picture-requires : goal.push_picture-requires
push_picture-requires c =
    let p : ProblemData = c.args.problem.now in
    let t : Tuple = c.args.layout.now in
    let bs : List Block = c.in_ok-blocks.blocks.items in
    let ss : List Span = c.in_ok-spans.spans.items in
    let same = counted c.as_slice-2.result.now ss c.as_slice-2.ensures.value in
    let few : cell_count (lows ss) (highs ss) ≤ most_cells = subst (λ (n : ℕ). n ≤ most_cells) same (c.is_small.ensures.0 c.if-not-is_small.false) in
    let box : IsLeastBox p.dims (IsOwned bs) (lows ss) (highs ss) = tuple_box p t bs c.in_ok-blocks.ensures c.as_slice.result.now c.dims.result (lows ss) (highs ss) c.as_slice.ensures.value c.dims.ensures c.in_ok-spans.ensures.least in
    let frame : IsFrame bs ss = frame_is p.dims bs ss c.is_said.ensures.formed.some (c.in_ok-spans.ensures.dims ∙ c.dims.ensures) c.in_ok-blocks.ensures.dims box few in
    record { frame = subst (λ (xs : List Block). IsFrame xs c.as_slice-5.result.now) (sym c.as_slice-4.ensures.value) (subst (λ (xs : List Span). IsFrame bs xs) (sym c.as_slice-5.ensures.value) frame) }

pub returns : goal.returns
returns c =
    let p : ProblemData = c.args.problem.now in
    let t : Tuple = c.args.layout.now in
    let bs : List Block = c.in_ok-blocks.blocks.items in
    let ss : List Span = c.in_ok-spans.spans.items in
    let same = counted c.as_slice-2.result.now ss c.as_slice-2.ensures.value in
    let found = signs_found bs in
    let sign : List ℤ → ℕ = found.0 in
    let line : c.push_box.new.text.items ≡ box_line (lows c.as_slice-3.result.now) (highs c.as_slice-3.result.now) =
    c.in_ok-push_box.ensures ∙ ap (λ (xs : List ℕ). xs ++ box_line (lows c.as_slice-3.result.now) (highs c.as_slice-3.result.now)) c.new-text.ensures.items in
    drawn (lows ss) (highs ss)
    (least_cells p t bs c.in_ok-blocks.ensures (lows ss) (highs ss) (tuple_box p t bs c.in_ok-blocks.ensures c.as_slice.result.now c.dims.result (lows ss) (highs ss) c.as_slice.ensures.value c.dims.ensures c.in_ok-spans.ensures.least))
    (subst (λ (n : ℕ). n ≤ most_cells) same (c.is_small.ensures.0 c.if-not-is_small.false)) sign (cell_signs p t bs c.in_ok-blocks.ensures sign found.1)
    (c.in_ok-push_picture.ensures sign (subst (λ (xs : List Block). AreSigns (Owns xs) sign) (sym c.as_slice-4.ensures.value) found.1)
    ∙ ap (λ (xs : List ℕ). xs ++ picture sign (lows c.as_slice-5.result.now) (highs c.as_slice-5.result.now)) line
    ∙ ap (λ (xs : List Span). box_line (lows xs) (highs xs) ++ picture sign (lows c.as_slice-5.result.now) (highs c.as_slice-5.result.now)) c.as_slice-3.ensures.value
    ∙ ap (λ (xs : List Span). box_line (lows ss) (highs ss) ++ picture sign (lows xs) (highs xs)) c.as_slice-5.ensures.value)
