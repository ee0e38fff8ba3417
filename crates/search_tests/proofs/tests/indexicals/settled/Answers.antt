use Rattle.std.proofs.Common.{◌≡◌, List, length, map, ap, sym, ◌∙◌, subst, rules}
use Rattle.geo_conditions.specs.declared.cond.Cond.{Cond}
use Rattle.geo_conditions.specs.Conditions.{AllFit}
use Rattle.indexical.specs.declared.any.AnyIndexical.{AnyIndexical}
use Rattle.condition_parts.specs.Apart.{wholes_of}
use Rattle.search_tests.proofs.tests.indexicals.settled.Goals as goal

pub settle-requires : goal.settle-requires
settle-requires g c =
    let f = λ (x : AnyIndexical g.row.K). x.cond in
    let queue = c.in_ok-queue.queue in
    let S = c.args.s in
    let T = c.in_ok-t.t.state in
    let settled : AllFit (map f c.args.list.items) T = subst (AllFit (map f c.args.list.items)) (sym c.in_ok-t.ensures.state) c.requires.fits in
    let fits : AllFit (wholes_of queue.wholes.items (map f queue.parts.list.items)) T = subst (λ (cs : List Cond). AllFit cs T) (sym c.in_ok-queue.ensures.conditions) settled in
    let objects : length T ≡ length queue.parts.queued.items = ap length c.in_ok-t.ensures.state ∙ sym (c.in_ok-queue.ensures.objects ∙ c.objects.ensures.number) in
    search rules
