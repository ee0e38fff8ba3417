use Rattle.std.proofs.Common.{◌≡◌, ◌++◌, ◌∷◌, [], map, ℤ, List, FitsSigned, to_z, of_z, w64, rules, sym, ap, ◌∙◌, arith}
use Rattle.std.specs.List.{range_with_len}
use Rattle.std.proofs.lemmas.Int.{to_z-of_z}
use Rattle.std.proofs.lemmas.List.FromFn.{map-range_with_len_more}
use Rattle.problem_data.specs.Places.{first_value}
use Rattle.layout_text.proofs.first.first_values.Goals as goal

pub loop-d-preserved : goal.loop-d-preserved
loop-d-preserved c =
    let f = first_value c.args.problem.now c.args.object.now in
    let fits : FitsSigned w64 c.first_value.result = search rules in
    let value : to_z w64 (of_z w64 c.first_value.result) ≡ f c.loop-d.d = to_z-of_z w64 c.first_value.result fits ∙ c.first_value.ensures in
    c.in_ok-push.ensures.items ∙ ap (λ (vs : List ℤ). vs ++ to_z w64 (of_z w64 c.first_value.result) ∷ []) c.loop-d.invariant
    ∙ ap (λ (v : ℤ). map f (range_with_len 0 c.loop-d.d) ++ v ∷ []) value
    ∙ sym (map-range_with_len_more f 0 c.loop-d.d c.loop-d.d (omega arith))
