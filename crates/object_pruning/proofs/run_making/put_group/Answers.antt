use Rattle.std.proofs.Common.{◌≡◌, ◌+◌, ◌-◌, suc, length, get_or, refl, sym, ap, ◌∙◌, subst, arith, Some}
use Rattle.std.specs.Prelude.{slice_get}
use Rattle.std.proofs.lemmas.Option.{slice_get-get_or}
use Rattle.object_pruning.specs.declared.rows.Run.{Run}
use Rattle.object_pruning.specs.Runs.{AreRunsTo}
use Rattle.object_pruning.proofs.Runs.{runs_longer, runs_push, one_run, place_asked}
use Rattle.object_pruning.proofs.run_making.put_group.Goals as goal

pub returns-then-is_alike : goal.returns-then-is_alike
returns-then-is_alike c =
    let gs = c.args.groups.now in
    let k = c.args.k in
    let runs = c.args.runs.now.items in
    let n = c.len-n.result - 1 in
    let last : suc n ≡ length runs = omega (arith, c.len-n.ensures, c.if-n-gt0.true) in
    let at : slice_get runs n ≡ Some c.index.result.now = slice_get-get_or runs n c.index.result.now (omega (arith, last)) ∙ ap (λ (r : Run). Some r) (sym c.index.ensures) in
    runs_longer gs k n runs c.index.result.now (get_or gs k _) last at c.requires.group (slice_get-get_or gs k _ c.requires.group) (c.is_alike.ensures.other c.if-is_alike.true) (c.is_alike.ensures.asks c.if-is_alike.true) c.requires.below

pub returns : goal.returns
returns c =
    let gs = c.args.groups.now in
    let k = c.args.k in
    subst (AreRunsTo gs (k + 1)) (sym c.in_ok-push.ensures.items) (runs_push gs k (k + 1) c.args.runs.now.items _ c.requires.below (one_run gs k _ (get_or gs k _) c.requires.group (slice_get-get_or gs k _ c.requires.group) refl refl refl (place_asked _)) refl)
