use Rattle.std.proofs.Common.{◌≡◌, ℕ, ◌∙◌, get_or, ap, sym, map, length, take, arith}
use Rattle.std.specs.List.{range_with_len}
use Rattle.std.proofs.lemmas.List.FromFn.{get_or-range_with_len, length-range_with_len}
use Rattle.std.proofs.Math.Seq.{take-length}
use Rattle.serde_json.specs.View.{view}
use Rattle.problem_text.proofs.MadeOfItems.{one_more_seen}
use Rattle.geo_json.specs.LayoutJson.{place_json}
use Rattle.geo_json.proofs.layout.places.Goals as goal

pub loop-o-preserved : goal.loop-o-preserved
loop-o-preserved c =
    let own = place_json c.args.problem.now c.args.layout.now in
    let n = length c.args.layout.now in
    let size = length-range_with_len 0 n in
    let here : get_or (range_with_len 0 n) c.loop-o.o 0 ≡ c.loop-o.o = (let g = get_or-range_with_len 0 n c.loop-o.o 0 (omega arith) in omega (arith, g)) in
    one_more_seen view own (range_with_len 0 n) c.loop-o.o 0 c.loop-o.values.items c.push.new.self.items c.in_ok-place_to_json.field-0 (omega (arith, size)) c.in_ok-push.ensures.items
    (c.in_ok-place_to_json.ensures ∙ ap own (sym here)) c.loop-o.invariant

pub returns : goal.returns
returns c =
    let own = place_json c.args.problem.now c.args.layout.now in
    let n = length c.args.layout.now in
    let size = length-range_with_len 0 n in
    let all : c.loop-o.o ≡ length (range_with_len 0 n) = omega (arith, size) in
    c.loop-o.invariant ∙ ap (λ (k : ℕ). map own (take k (range_with_len 0 n))) all ∙ ap (map own) (take-length (range_with_len 0 n))
