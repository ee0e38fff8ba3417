use Rattle.std.proofs.Common.{◌-◌, ◌<◌, ℕ, length, map, sym, ◌∙◌, subst, rules}
use Rattle.std.proofs.lemmas.List.{length-map}
use Rattle.indexical.specs.declared.any.AnyIndexical.{AnyIndexical}
use Rattle.object_pruning.specs.InRows.{IsInGroup}
use Rattle.fixpoint.proofs.Asked.{group_within, slot_elsewhere}
use Rattle.fixpoint.proofs.kept.ask_slot.Goals as goal

pub returns-then-r-from-clause-asks : goal.returns-then-r-from-clause-asks
returns-then-r-from-clause-asks g c = λ p e.
    let y = slot_elsewhere (map (λ (x : AnyIndexical g.row.K). x.cond) c.args.list.now) c.args.s.now c.args.o.0 c.args.r c.args.group.now c.in-Some.q c.requires.fits c.requires.object c.requires.group c.if-r-ne0.true (λ z. c.if-r-from.true (z ∙ sym c.from.ensures)) p e in
    (c.in-Some.is ∙ y.0, y.1)

pub are_possible-requires : goal.are_possible-requires
are_possible-requires g c =
    let f = λ (x : AnyIndexical g.row.K). x.cond in
    let numbers : (i : ℕ) → IsInGroup c.args.group.now i → (0 < i) × (i - 1 < length c.args.list.now) = λ i b.
    subst (λ (n : ℕ). (0 < i) × (i - 1 < n)) (length-map c.args.list.now f) (group_within (map f c.args.list.now) c.args.s.now c.args.o.0 c.args.r c.args.group.now c.requires.fits c.requires.object c.requires.group i b) in
    search rules
