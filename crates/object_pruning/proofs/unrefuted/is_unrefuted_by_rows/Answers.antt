use Rattle.std.proofs.Common.{◌≡◌, map, sym, ap, ◌∙◌}
use Rattle.std.proofs.lemmas.Bool.{false≢true}
use Rattle.object_pruning.specs.InRows.{row}
use Rattle.object_pruning.specs.Kept.{placed}
use Rattle.object_pruning.proofs.Possible.{rows_possible, row_possible}
use Rattle.object_pruning.proofs.unrefuted.is_unrefuted_by_rows.Goals as goal

pub returns-then-not-is_row_possible : goal.returns-then-not-is_row_possible
returns-then-not-is_row_possible g c =
    let cs = map g.I.Indexical.cond c.args.list.now in (
      λ e. absurd (false≢true e),
      λ n. absurd (false≢true (sym c.if-not-is_row_possible.true ∙ c.is_row_possible.ensures.1 (row_possible cs c.args.s.now c.args.o.0 c.requires.fits c.requires.object c.args.picks.now c.args.rows.now c.requires.rows (placed c.args.s.now c.args.o.0 c.args.q.now) 0 c.row_at-any.result.0.now c.row_at-any.ensures.row n))),
    )

pub returns : goal.returns
returns g c =
    let cs = map g.I.Indexical.cond c.args.list.now in
    let S = c.args.s.now in
    let o = c.args.o.0 in
    let q = c.args.q.now in
    let rows = c.args.rows.now in
    let same : c.row_at-own.result.0.now ≡ row rows.rows.items q.place = c.row_at-own.ensures.row ∙ ap (row rows.rows.items) c.from-r.ensures in (
      λ e. rows_possible cs S o c.requires.fits c.requires.object c.args.picks.now rows c.requires.rows q c.row_at-any.result.0.now c.row_at-own.result.0.now c.row_at-any.ensures.row same (c.is_row_possible.ensures.0 c.if-not-is_row_possible.false) (c.is_row_possible-2.ensures.0 e),
      λ n. c.is_row_possible-2.ensures.1 (row_possible cs S o c.requires.fits c.requires.object c.args.picks.now rows c.requires.rows (placed S o q) q.place c.row_at-own.result.0.now same n),
    )
