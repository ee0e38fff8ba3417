use Rattle.std.proofs.Common.{◌≡◌, ◌-◌, ◌<◌, ◌≤◌, ℕ, List, length, map, get_or, arith, sym, subst, None, Some, Option}
use Rattle.std.specs.Prelude.{slice_get}
use Rattle.std.proofs.lemmas.List.{length-map}
use Rattle.std.proofs.lemmas.Option.{slice_get-get_or}
use Rattle.geo_conditions.specs.declared.object.ObjId.{ObjId}
use Rattle.object_pruning.specs.declared.rows.Group.{Group}
use Rattle.object_pruning.specs.Gathered.{IsSolePlace}
use Rattle.object_pruning.proofs.LivePicks.{group_number}
use Rattle.object_pruning.proofs.gathering.group_at.Goals as goal

-- what stands in place of a group that is not there
abbrev none : Group
none = record { other = None; other_place = 0; first = 0; last = 0 }

there : (gs : List Group) (k end : ℕ) → k < end → end ≤ length gs → slice_get gs k ≡ Some (get_or gs k none)
there gs k end h l = slice_get-get_or gs k none (omega arith)

pub returns-clause-at : goal.returns-clause-at
returns-clause-at g c = there c.args.groups.now c.args.k c.args.run.now.end c.requires.k.1 c.requires.run.within

pub returns-clause-group : goal.returns-clause-group
returns-clause-group g c = c.requires.groups c.args.k (get_or c.args.groups.now c.args.k none) (there c.args.groups.now c.args.k c.args.run.now.end c.requires.k.1 c.requires.run.within)

pub returns-clause-numbers : goal.returns-clause-numbers
returns-clause-numbers g c =
    λ i b. subst (λ (n : ℕ). (0 < i) × (i - 1 < n)) (length-map c.args.list.now g.I.Indexical.cond)
    (group_number (map g.I.Indexical.cond c.args.list.now) c.args.s.now c.args.o.0 c.requires.fits c.requires.object (get_or c.args.groups.now c.args.k none)
    (c.requires.groups c.args.k (get_or c.args.groups.now c.args.k none) (there c.args.groups.now c.args.k c.args.run.now.end c.requires.k.1 c.requires.run.within)) i b)

pub returns-clause-sole : goal.returns-clause-sole
returns-clause-sole g c =
    subst (λ (u : Option ObjId). IsSolePlace c.args.s.now u c.args.sole)
    (sym (c.requires.run.other c.args.k (get_or c.args.groups.now c.args.k none) c.requires.k.0 c.requires.k.1 (there c.args.groups.now c.args.k c.args.run.now.end c.requires.k.1 c.requires.run.within))) c.requires.sole
