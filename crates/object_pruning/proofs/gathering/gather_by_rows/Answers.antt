use Rattle.std.proofs.Common.{◌≡◌, List, map, subst, sym, ◌∙◌, ap, rules}
use Rattle.std.specs.Prelude.{IfSome}
use Rattle.object_pruning.specs.Near.{IsNearRow}
use Rattle.object_pruning.specs.declared.rows.Group.{Group}
use Rattle.object_pruning.specs.Gathered.{GoesOn}
use Rattle.object_pruning.specs.InRows.{HaveNumber, row}
use Rattle.object_pruning.proofs.LivePicks.{gathered_rows, some_with}
use Rattle.geo_conditions.specs.Regions.{region_of}
use Rattle.object_pruning.proofs.gathering.gather_by_rows.Goals as goal

pub returns-clause-gathered : goal.returns-clause-gathered
returns-clause-gathered g c =
    let cs = map g.I.Indexical.cond c.args.list.now in
    let S = c.args.s.now in
    let o = c.args.o.0 in
    let s = c.args.place in
    let rows = c.args.rows.now in
    let n = c.in_ok-count.count in
    let mid = c.gather_row.new.live in
    let new = c.gather_row-2.new.live in
    let a : GoesOn g.row.K cs S o s (region_of c.args.region.now) (HaveNumber (row rows.rows.items 0)) 0 c.args.live.now n mid = subst (λ (gs : List Group). GoesOn g.row.K cs S o s (region_of c.args.region.now) (HaveNumber gs) 0 c.args.live.now n mid) c.row_at-any.ensures.row c.in_ok-count.ensures.goes in
    let same : c.row_at-own.result.0.now ≡ row rows.rows.items s = c.row_at-own.ensures.row ∙ ap (row rows.rows.items) c.from-r.ensures in
    some_with c.gather_row-2.result (λ m. GoesOn g.row.K cs S o s (region_of c.args.region.now) (HaveNumber c.row_at-own.result.0.now) n mid m new) _ (λ m b. gathered_rows cs S o c.requires.fits c.requires.object c.args.picks.now rows c.requires.rows g.row.K s (region_of c.args.region.now) n m c.args.live.now mid new a (subst (λ (gs : List Group). GoesOn g.row.K cs S o s (region_of c.args.region.now) (HaveNumber gs) n mid m new) same b)) c.gather_row-2.ensures.goes

pub gather_row-requires : goal.gather_row-requires
gather_row-requires g c =
    let cs = map g.I.Indexical.cond c.args.list.now in
    let near : IfSome c.near_at-near_any.result (λ n. IsNearRow cs c.args.o.0 c.row_at-any.result.0.now n.now) = subst (λ (gs : List Group). IfSome c.near_at-near_any.result (λ n. IsNearRow cs c.args.o.0 gs n.now)) (sym c.row_at-any.ensures.row) c.near_at-near_any.ensures.near in
    search rules

pub gather_row-requires-2 : goal.gather_row-requires-2
gather_row-requires-2 g c =
    let cs = map g.I.Indexical.cond c.args.list.now in
    let near : IfSome c.near_at-near_own.result (λ n. IsNearRow cs c.args.o.0 c.row_at-own.result.0.now n.now) = subst (λ (gs : List Group). IfSome c.near_at-near_own.result (λ n. IsNearRow cs c.args.o.0 gs n.now)) (sym c.row_at-own.ensures.row) c.near_at-near_own.ensures.near in
    search rules
