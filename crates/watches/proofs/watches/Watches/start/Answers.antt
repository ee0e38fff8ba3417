use Rattle.std.proofs.Common.{◌≡◌, ◌*◌, length, refl, arith, rules}
use Rattle.std.specs.Prelude.{replicate}
use Rattle.watches.proofs.Holding.{hold_blank}
use Rattle.watches.proofs.watches.Watches.start.Goals as goal

pub returns : goal.returns
returns c =
    let found : c.in_ok-found.found.items ≡ replicate (2 * c.max-places.result) c.new-3.result = c.in_ok-found.ensures.items_if_clones_equal (λ y k. search rules) in
    let totals : c.in_ok-totals.totals.items ≡ replicate c.max-places.result c.new-4.result = c.in_ok-totals.ensures.items_if_clones_equal (λ y k. search rules) in
    let changed : c.in_ok-changed.changed.items ≡ replicate c.args.objects 1 = c.in_ok-changed.ensures.items_if_clones_equal (λ y k. search rules) in
    let many : length c.in_ok-watched.watched.items ≡ c.args.conditions = omega (arith, c.in_ok-watched.ensures.len, c.in_ok-watched.watched.ok.0) in
    let looks : length c.in_ok-looks.looks.items ≡ c.max-places.result = omega (arith, c.in_ok-looks.ensures.len, c.in_ok-looks.looks.ok.0) in
    hold_blank c.args.conditions c.args.objects c.max-places.result c.new-3.result c.new-4.result _ many (omega arith) (omega arith) looks found totals changed refl c.new-3.ensures c.new-4.ensures
