use Rattle.std.proofs.Common.{◌≡◌, ◌<◌, ◌++◌, ◌∷◌, [], List, length, ap, sym, ◌∙◌}
use Rattle.fixpoint.specs.declared.pairs.RowGroup.{RowGroup}
use Rattle.fixpoint.specs.Links.{row}
use Rattle.fixpoint.specs.Pairs.{BelongsTo}
use Rattle.fixpoint.proofs.Linking.{row_get}
use Rattle.fixpoint.proofs.Paired.{puts_there, puts_behind}
use Rattle.fixpoint.proofs.pairs.put_group.Goals as goal

pub returns-then-u-beside : goal.returns-then-u-beside
returns-then-u-beside c =
    let b = c.args.placed in
    let u = c.in-Some.u in
    let old = c.args.beside.now in
    let v = c.push.new.self in
    let h : u < length old = c.if-u-beside.true in
    let items : v.items ≡ row old u ++ b ∷ [] = c.in_ok-push.ensures.items ∙ ap (λ (l : List RowGroup). l ++ b ∷ []) (sym (row_get old u c.index-beside-u.result h)) in
    puts_there (BelongsTo c.args.named.now c.args.o) b u old c.args.others.now.items v c.in-Some.ensures h items

pub returns : goal.returns
returns c = puts_behind (BelongsTo c.args.named.now c.args.o) c.args.placed c.args.beside.now c.args.others.now.items c.push-2.new.self.items c.in_ok-push-2.ensures.items
