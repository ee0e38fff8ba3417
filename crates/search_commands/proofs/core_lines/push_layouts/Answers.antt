use Rattle.std.proofs.Common.{◌≡◌, ◌<◌, ◌++◌, ◌∙◌, ◌+◌, ℕ, List, [], length, sym, subst, ap, arith}
use Rattle.std.specs.List.{range_with_len}
use Rattle.std.specs.Prelude.{slice_index_or}
use Rattle.std.proofs.lemmas.List.{get_or_default}
use Rattle.rule_ground.proofs.Lists.{flat-more, number-more}
use Rattle.search_commands.specs.Why.{without_line}
use Rattle.search_commands.proofs.core_lines.push_layouts.Goals as goal

pub loop-k-preserved : goal.loop-k-preserved
loop-k-preserved c =
    let p = c.args.problem.now in
    let rules = c.args.rules.now in
    let layouts = c.args.layouts.now in
    let k = c.loop-k.k in
    let l : k < length layouts = subst (λ (n : ℕ). k < n) (sym c.requires.alike) c.loop-k-test.true in
    let at : c.index-layouts-k.result ≡ slice_index_or layouts k [] = c.index-layouts-k.is ∙ get_or_default layouts k c.index-layouts-k.result [] l in
    flat-more (λ i. without_line p (slice_index_or rules i 0) (slice_index_or layouts i [])) (range_with_len 0 k) (range_with_len 0 (k + 1)) k c.args.text.now.items c.loop-k.text.items _
    (number-more 0 k (k + 1) k (omega arith) (omega arith)) c.loop-k.invariant
    (c.in_ok-extend_from_slice.ensures.items ∙ ap (λ (xs : List ℕ). c.loop-k.text.items ++ xs) (c.as_slice.ensures.value ∙ c.in_ok-line.ensures ∙ ap (without_line p (slice_index_or rules k 0)) at))
