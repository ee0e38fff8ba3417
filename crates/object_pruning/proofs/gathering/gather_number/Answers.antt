use Rattle.std.specs.Prelude.{slice_get}
use Rattle.std.proofs.Common.{◌≡◌, ◌-◌, ℕ, None, Some, map, subst, rules}
use Rattle.derivation.proofs.Leaves.{all_at}
use Rattle.geo_conditions.specs.Conditions.{FitsIn}
use Rattle.geo_conditions.specs.Regions.{region_of}
use Rattle.indexical.specs.declared.forbidden.ForbiddenPart.TheVariants.{Nothing, Exactly}
use Rattle.object_pruning.specs.Gathered.{IsNumberPart}
use Rattle.object_pruning.proofs.LivePicks.{at_number, goes_past, goes_put, holds_put, named_forbids}
use Rattle.object_pruning.proofs.gathering.gather_number.Goals as goal

pub forbidden_part-requires : goal.forbidden_part-requires
forbidden_part-requires g c =
    let cs = map g.I.Indexical.cond c.args.list.now in
    let x = g.I.Indexical.cond c.index-list-number.result in
    let i = c.args.number - 1 in
    let here : slice_get cs i ≡ Some x = at_number g.I.Indexical.cond c.args.list.now i c.index-list-number.result c.requires.number.1 c.index-list-number.is in
    let fits : FitsIn x c.args.s.now = all_at (λ y. FitsIn y c.args.s.now) cs i x c.requires.fits here in
    search rules

pub returns-in-Nothing-clause-goes : goal.returns-in-Nothing-clause-goes
returns-in-Nothing-clause-goes g c =
    let cs = map g.I.Indexical.cond c.args.list.now in
    goes_past g.row.K cs c.args.s.now c.args.o.0 c.args.place (region_of c.args.region.now) (λ v. v ≡ c.args.number) c.args.count c.args.live.now c.requires.room
    (λ v p x e. named_forbids g.row.K (map g.I.Indexical.cond c.args.list.now) c.args.s.now c.args.o.0 c.args.place (region_of c.args.region.now) c.args.number (g.I.Indexical.cond c.index-list-number.result) c.forbidden_part.result Nothing (at_number g.I.Indexical.cond c.args.list.now (c.args.number - 1) c.index-list-number.result c.requires.number.1 c.index-list-number.is) c.forbidden_part.ensures c.in-Nothing.is x (subst (λ (m : ℕ). slice_get cs (m - 1) ≡ Some x) p e))

pub returns-in-Exactly-clause-goes : goal.returns-in-Exactly-clause-goes
returns-in-Exactly-clause-goes g c = goes_put g.row.K (map g.I.Indexical.cond c.args.list.now) c.args.s.now c.args.o.0 c.args.place (region_of c.args.region.now) c.args.number c.args.count c.args.live.now c.put_number.new.live c.put_number.result c.put_number.ensures.goes

pub returns-in-Exactly-clause-parts : goal.returns-in-Exactly-clause-parts
returns-in-Exactly-clause-parts g c =
    let P = IsNumberPart g.row.K (map g.I.Indexical.cond c.args.list.now) c.args.s.now c.args.o.0 c.args.place (region_of c.args.region.now) in
    holds_put P c.args.number c.args.count (Some c.in-Exactly.part) (λ x e. named_forbids g.row.K (map g.I.Indexical.cond c.args.list.now) c.args.s.now c.args.o.0 c.args.place (region_of c.args.region.now) c.args.number (g.I.Indexical.cond c.index-list-number.result) c.forbidden_part.result (Exactly c.in-Exactly.part) (at_number g.I.Indexical.cond c.args.list.now (c.args.number - 1) c.index-list-number.result c.requires.number.1 c.index-list-number.is) c.forbidden_part.ensures c.in-Exactly.is x e)
    c.args.live.now c.put_number.new.live c.args.parts.now c.put_number.new.parts c.put_number.result c.requires.parts c.put_number.ensures.goes c.put_number.ensures.parts c.put_number.ensures.full

pub returns-in-Unknown-clause-goes : goal.returns-in-Unknown-clause-goes
returns-in-Unknown-clause-goes g c = goes_put g.row.K (map g.I.Indexical.cond c.args.list.now) c.args.s.now c.args.o.0 c.args.place (region_of c.args.region.now) c.args.number c.args.count c.args.live.now c.put_number-in-Unknown.new.live c.put_number-in-Unknown.result c.put_number-in-Unknown.ensures.goes

pub returns-in-Unknown-clause-parts : goal.returns-in-Unknown-clause-parts
returns-in-Unknown-clause-parts g c =
    let P = IsNumberPart g.row.K (map g.I.Indexical.cond c.args.list.now) c.args.s.now c.args.o.0 c.args.place (region_of c.args.region.now) in
    holds_put P c.args.number c.args.count None tt
    c.args.live.now c.put_number-in-Unknown.new.live c.args.parts.now c.put_number-in-Unknown.new.parts c.put_number-in-Unknown.result c.requires.parts c.put_number-in-Unknown.ensures.goes c.put_number-in-Unknown.ensures.parts c.put_number-in-Unknown.ensures.full
