use Rattle.std.proofs.Common.{ℕ, List, ap, ◌∙◌}
use Rattle.std.specs.List.{position_or_len}
use Rattle.std.specs.Str.{bytes_eq}
use Rattle.problem_data.specs.Meaning.{position_of}
use Rattle.problem_text.proofs.MadeOfItems.{one_more}
use Rattle.problem_text.proofs.build.objects.build_positions.Goals as goal

pub loop-name-preserved : goal.loop-name-preserved
loop-name-preserved c =
    one_more (position_of c.args.met.now) c.args.names.now c.loop-name.name-index c.name-item.result c.loop-name.made.items c.push.new.self.items c.place-place.result c.loop-name-test.true c.in_ok-push.ensures.items
    (c.place-place.ensures.value ∙ ap (λ (n : List ℕ). position_or_len (bytes_eq n) c.args.met.now) c.as_bytes.ensures ∙ ap (position_of c.args.met.now) c.name-item.is) c.loop-name.invariant
