use Rattle.std.proofs.Common.{◌≡◌, ◌+◌, List, sym, subst, arith, length, ap, ◌∙◌, Vec, Global}
use Rattle.std.proofs.lemmas.List.{with_items_is}
use Rattle.std.specs.Vec.{with_items}
use Rattle.object_pruning.specs.declared.rows.Group.{Group}
use Rattle.object_pruning.specs.InRows.{row}
use Rattle.fixpoint.specs.declared.pairs.RowGroup.{RowGroup}
use Rattle.fixpoint.specs.Pairs.{BelongsTo, HasGroup, Puts}
use Rattle.fixpoint.proofs.Paired.{SortedBelow, sorts_start, sorts_more, sorts_rows}
use Rattle.fixpoint.proofs.pairs.pairs_of.Goals as goal

pub loop-r-init : goal.loop-r-init
loop-r-init c =
    let rows = c.args.rows.now in
    let start = c.in_ok-beside.beside.items in
    let belongs = BelongsTo c.args.named.now c.args.o in
    subst (λ (l : List RowGroup). SortedBelow belongs rows c.args.objects 0 start l) (sym c.new-others.ensures.items) (sorts_start belongs rows c.args.objects start c.in_ok-beside.ensures.0 c.in_ok-beside.ensures.1)

pub loop-r-preserved : goal.loop-r-preserved
loop-r-preserved c =
    let rows = c.args.rows.now in
    let n = c.args.objects in
    let belongs = BelongsTo c.args.named.now c.args.o in
    let r = c.loop-r.r in
    let old = c.loop-r.beside in
    let more = c.loop-r.others.items in
    let new = c.put_row.new.beside in
    let most = c.put_row.new.others.items in
    let value : c.deref_mut.result.now ≡ old.items = c.deref_mut.ensures.value in
    let long : length new ≡ length old.items = c.put_row.auto.beside ∙ ap length value in
    let back : (with_items old new).items ≡ new = with_items_is old new (omega (arith, long, old.ok)) in
    let put : Puts belongs (λ b. (b.row ≡ r) × HasGroup (row rows.rows.items r) b.group) old.items more new most =
    subst (λ (lists : List (Vec RowGroup Global)). Puts belongs (λ b. (b.row ≡ r) × HasGroup (row rows.rows.items r) b.group) lists more new most) value
    (subst (λ (gs : List Group). Puts belongs (λ b. (b.row ≡ r) × HasGroup gs b.group) c.deref_mut.result.now more new most) c.row.ensures c.in_ok-put_row.ensures) in
    subst (λ (lists : List (Vec RowGroup Global)). SortedBelow belongs rows n (r + 1) lists most) (sym back) (sorts_more belongs rows n r old.items new more most c.loop-r.invariant put)

pub returns : goal.returns
returns c = sorts_rows c.args.named.now c.args.o c.args.rows.now c.args.objects c.loop-r.r _ (omega (arith, c.loop-r-test.false, c.len-r-end.ensures)) c.loop-r.invariant
