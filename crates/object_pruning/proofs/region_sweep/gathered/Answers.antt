use Rattle.std.proofs.Common.{◌≡◌, ℕ, ◌-◌, List, map, length, take, ap, sym, subst, arith}
use Rattle.geo_conditions.specs.Regions.{region_of}
use Rattle.sweep.specs.Parts.{AreParts}
use Rattle.sweep.specs.Picks.{ArePicks}
use Rattle.object_pruning.proofs.LivePicks.{picks_gathered, parts_gathered}
use Rattle.object_pruning.proofs.region_sweep.gathered.Goals as goal

-- from the first one on
all_of : (n : ℕ) → n - 0 ≡ n
all_of n = omega arith

pub returns : goal.returns
returns g c =
    let cs = map g.I.Indexical.cond c.args._list.now in
    let live = c.args.live.now in
    let b = region_of c.args._region.now in
    let picks = c.args._picks.now in
    let r = c.requires in
    let same : take (c.args.count - 0) live ≡ take c.args.count live = ap (λ (m : ℕ). take m live) (all_of c.args.count) in
    record {
      those = same;
      picks = subst (ArePicks (length c.args._list.now)) (sym same) (picks_gathered g.row.K cs c.args._s.now c.args._o.0 c.args._place b picks live c.args.count r.room r.gathered (length c.args._list.now) r.picks);
      parts = subst (λ (those : List ℕ). AreParts g.row.K cs those c.args._s.now c.args._o.0 c.args._place b c.args._parts.now) (sym same)
          (parts_gathered g.row.K cs c.args._s.now c.args._o.0 c.args._place b picks live c.args.count r.room r.gathered c.args._parts.now r.parts);
    }
