use Rattle.std.proofs.Common.{◌≡◌, ◌==◌, ◌+◌, ◌++◌, ◌∷◌, [], ℕ, ℤ, pos, List, length, get_or, take, FitsSigned, to_z, of_z, rules, false, true, sym, ap, ◌∙◌}
use Rattle.std.specs.Fmt.{signed_decimal}
use Rattle.std.specs.Int.{w128}
use Rattle.std.specs.Prelude.{codes}
use Rattle.std.proofs.lemmas.Int.{to_z-of_z}
use Rattle.geo_chan.proofs.Pieces.{one_more, all_of_them}
use Rattle.layout_text.specs.Block.{coordinates}
use Rattle.layout_drawing.proofs.Pictured.{grown, grown_once, layer_line_is, not_none}
use Rattle.layout_drawing.proofs.picture.push_layer_line.Goals as goal

pub loop-number-init : goal.loop-number-init
loop-number-init c = c.in_ok-extend_from_slice.ensures.items

pub loop-number-preserved : goal.loop-number-preserved
loop-number-preserved c =
    let old : List ℕ = c.args.text.now.items in
    let outer : List ℤ = c.args.outer.now in
    let i : ℕ = c.loop-number.number-index in
    let x : ℤ = get_or outer i (pos 0) in
    let fits : FitsSigned w128 x = search rules in
    let more : c.push_number.new.text.items ≡ c.push.new.self.items ++ signed_decimal x = c.in_ok-push_number.ensures ∙ ap (λ (z : ℤ). c.push.new.self.items ++ signed_decimal z) (to_z-of_z w128 x fits) in
    grown old (codes "layer") (coordinates (codes " ") (take i outer)) (codes " ") (signed_decimal x) c.loop-number.text.items c.push.new.self.items c.push_number.new.text.items
    c.loop-number.invariant c.in_ok-push.ensures.items more
    ∙ ap (λ (xs : List ℕ). old ++ (codes "layer" ++ xs)) (sym (one_more (λ (z : ℤ). codes " " ++ signed_decimal z) outer i (pos 0) c.loop-number-test.true))

pub returns : goal.returns
returns c =
    let old : List ℕ = c.args.text.now.items in
    let outer : List ℤ = c.args.outer.now in
    let i : ℕ = c.loop-number.number-index in
    let all : coordinates (codes " ") (take i outer) ≡ coordinates (codes " ") outer = sym (all_of_them (λ (z : ℤ). codes " " ++ signed_decimal z) outer i c.loop-number-test.false) in
    grown_once old (codes "layer") (coordinates (codes " ") outer) (codes "\n") c.loop-number.text.items c.push-2.new.self.items
    (c.loop-number.invariant ∙ ap (λ (xs : List ℕ). old ++ (codes "layer" ++ xs)) all) c.in_ok-push-2.ensures.items
    ∙ ap (λ (xs : List ℕ). old ++ xs) (sym (layer_line_is outer (not_none outer (sym c.is_empty.ensures ∙ c.if-is_empty.false))))
