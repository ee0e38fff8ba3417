use Rattle.std.proofs.Common.{◌≡◌, ◌+◌, ◌++◌, ◌<◌, refl, ◌∙◌, ap, arith, string_bytes}
use Rattle.problem_generator.specs.Draws.{state_behind, draw}
use Rattle.problem_generator.specs.Made.{drawn_shapes, width, depth, height}
use Rattle.problem_generator.proofs.Steps.{no_lines, lines_next, same_shapes, state_next, width_next, depth_next, height_next}
use Rattle.problem_generator.proofs.text.write_all_shapes.Goals as goal

pub loop-number-init : goal.loop-number-init
loop-number-init c = record { text = no_lines (drawn_shapes c.args.draws.state) _; state = refl }

pub loop-number-preserved : goal.loop-number-preserved
loop-number-preserved c =
    let i = c.loop-number.number in
    let seed = c.args.draws.state in
    let positive : 0 < i = omega arith in
    let same = c.loop-number.invariant.state in
    let w : c.draw_size.result.width ≡ width seed i = c.draw_size.ensures.width ∙ ap (λ x. 1 + draw x 1 3) same ∙ width_next seed i positive in
    let d : c.draw_size.result.depth ≡ depth seed i = c.draw_size.ensures.depth ∙ ap (λ x. 1 + draw x 2 3) same ∙ depth_next seed i positive in
    let h : c.draw_size.result.height ≡ height seed i = c.draw_size.ensures.height ∙ ap (λ x. 1 + draw x 3 2) same ∙ height_next seed i positive in
    record {
      text = c.in_ok-write_shapes.ensures ∙ ap (λ t. string_bytes c.loop-number.text ++ t) (same_shapes i _ _ _ _ _ _ w d h)
          ∙ ap (λ t. t ++ drawn_shapes seed i) c.loop-number.invariant.text ∙ lines_next (drawn_shapes seed) _ i positive;
      state = c.draw_size.ensures.state ∙ ap (λ x. state_behind x 3) same ∙ state_next seed i positive;
    }
