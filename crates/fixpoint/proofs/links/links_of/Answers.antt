use Rattle.std.proofs.Common.{◌≡◌, ◌<◌, ◌≤◌, ◌+◌, [], ℕ, List, Bool, map, length, get_or, ap, sym, ◌∙◌, subst, arith, rules}
use Rattle.std.specs.declared.vec.Vec.{Vec}
use Rattle.std.specs.declared.alloc.Global.{Global}
use Rattle.std.proofs.lemmas.List.{length-map, get_or-map, with_items_is}
use Rattle.std.specs.Vec.{with_items}
use Rattle.smallvec.specs.SmallVec.{SmallVec}
use Rattle.geo_conditions.specs.declared.object.ObjId.{ObjId}
use Rattle.geo_conditions.specs.declared.cond.Cond.{Cond}
use Rattle.indexical.specs.Names.{names}
use Rattle.indexical.specs.declared.any.AnyIndexical.{AnyIndexical}
use Rattle.geo_conditions.specs.declared.object.TheConstants.{MAX_OBJECTS}
use Rattle.sweep.specs.Picks.{ArePicks}
use Rattle.object_pruning.specs.declared.rows.Rows.{Rows}
use Rattle.fixpoint.specs.declared.pairs.Pairs.{Pairs}
use Rattle.fixpoint.specs.Partners.{HavePartners}
use Rattle.fixpoint.specs.Pairs.{names_at}
use Rattle.fixpoint.specs.Links.{HavePairs, SortAllRows, HaveRows, NamedBy, Numbers, NumbersOf, PicksOf, names_none, put_where, row}
use Rattle.fixpoint.proofs.Linking.{LinksBelow, links_start, links_more, links_end, named_empty}
use Rattle.fixpoint.proofs.Paired.{have_pairs}
use Rattle.fixpoint.proofs.links.links_of.Goals as goal
use Rattle.fixpoint.proofs.links.links_of.Goals.{then-is_empty+in_ok-push, else-is_empty}

pub loop-i-init : goal.loop-i-init
loop-i-init g c =
    let cs = map (λ (x : AnyIndexical g.row.K). x.cond) c.args.list.now in
    let n = c.args.objects in
    let picks = c.in_ok-picks.picks.items in
    subst (LinksBelow cs n 0 c.new-named.result.items picks) (sym c.new-bare.ensures.items)
    (subst (λ (vs : List (SmallVec ObjId)). LinksBelow cs n 0 vs picks []) (sym c.new-named.ensures.items) (links_start cs n picks c.in_ok-picks.ensures.0 c.in_ok-picks.ensures.1))

pub loop-i-preserved : goal.loop-i-preserved
loop-i-preserved g c =
    let cs = map (λ (x : AnyIndexical g.row.K). x.cond) c.args.list.now in
    let n = c.args.objects in
    let i = c.loop-i.i in
    let x = c.index-list-i.result in
    let old = c.loop-i.picks.items in
    let new = c.link.new.picks in
    let v = c.in_ok-those.those in
    let l = c.loop-i.invariant in
    let at : (d : Cond) → get_or cs i d ≡ x.cond = λ d. get_or-map (λ (y : AnyIndexical g.row.K). y.cond) c.args.list.now i x d c.loop-i-test.true ∙ ap (λ (y : AnyIndexical g.row.K). y.cond) (sym c.index-list-i.is) in
    let value : c.deref_mut.result.now ≡ old = c.deref_mut.ensures.value in
    let numbers : Numbers x.cond (i + 1) old new = subst (λ (vs : List (Vec ℕ Global)). Numbers x.cond (i + 1) vs new) value c.in_ok-those.ensures.numbers in
    let named : NamedBy x.cond n v.items = subst (λ (m : ℕ). NamedBy x.cond m v.items) (ap length value ∙ l.objects) c.in_ok-those.ensures.named in
    let long : length new ≡ length old = c.link.auto.picks ∙ ap length value in
    let back = with_items_is c.loop-i.picks new (omega (arith, long, c.loop-i.picks.ok)) in
    let none : names_none n x.cond ≡ c.is_empty.result = named_empty x.cond n v.items named ∙ sym c.is_empty.ensures in
    let bare : c.if-is_empty.bare.items ≡ put_where (names_none n x.cond) (i + 1) c.loop-i.bare.items =
    elim c.if-is_empty.branch [
      | then-is_empty+in_ok-push w ↦ ap (λ (b : _). b.items) w.bare-is ∙ w.in_ok-push.ensures.items ∙ sym (ap (λ (b : Bool). put_where b (i + 1) c.loop-i.bare.items) (none ∙ w.if-is_empty.true))
      | else-is_empty w ↦ ap (λ (b : _). b.items) w.bare-is ∙ sym (ap (λ (b : Bool). put_where b (i + 1) c.loop-i.bare.items) (none ∙ w.if-is_empty.false))
    ] in
    let k = links_more cs n i c.loop-i.named.items old new c.loop-i.bare.items x.cond v l at named numbers long in
    subst (λ (b : List ℕ). LinksBelow cs n (i + 1) c.push-in-loop-i.new.self.items (with_items c.loop-i.picks new).items b) (sym bare)
    (subst (λ (vs : List (Vec ℕ Global)). LinksBelow cs n (i + 1) c.push-in-loop-i.new.self.items vs (put_where (names_none n x.cond) (i + 1) c.loop-i.bare.items)) (sym back)
    (subst (λ (vs : List (SmallVec ObjId)). LinksBelow cs n (i + 1) vs new (put_where (names_none n x.cond) (i + 1) c.loop-i.bare.items)) (sym c.in_ok-push-2.ensures.items) k))

pub all_rows-requires : goal.all_rows-requires
all_rows-requires g c =
    let those = c.deref.result.now in
    let n = length c.args.list.now in
    let l = c.loop-i.invariant in
    let e : those ≡ c.loop-i.picks.items = c.deref.ensures.value in
    let end : c.loop-i.i ≡ n = omega (arith, c.loop-i-test.false, c.loop-i.auto.i-end) in
    let objects : length those ≤ MAX_OBJECTS = omega (arith, ap length e, l.objects, c.requires.objects) in
    let within : (o : ℕ) → o < length those → ArePicks n (row those o) = λ o h.
    subst (λ (vs : List (Vec ℕ Global)). ArePicks n (row vs o)) (sym e) (subst (λ (m : ℕ). ArePicks m (row c.loop-i.picks.items o)) end (l.picks o (omega (arith, h, ap length e, l.objects))).within) in
    search rules

pub returns : goal.returns
returns g c =
    let cs = map (λ (x : AnyIndexical g.row.K). x.cond) c.args.list.now in
    let picks = c.loop-i.picks.items in
    let own = c.in_ok-rows.rows.items in
    let l = c.loop-i.invariant in
    let rows : HaveRows cs picks c.args.objects own = subst (λ (m : ℕ). HaveRows cs picks m own) l.objects (subst (λ (vs : List (Vec ℕ Global)). HaveRows cs vs (length vs) own) c.deref.ensures.value c.in_ok-rows.ensures) in
    let beside = c.in_ok-pairs.pairs.items in
    let named = c.loop-i.named.items in
    let sorted = subst (λ (ns : List (SmallVec ObjId)). SortAllRows ns own (length own) beside) c.deref-3.ensures.value (subst (λ (vs : List Rows). SortAllRows c.deref-3.result.now vs (length vs) beside) c.deref-2.ensures.value c.in_ok-pairs.ensures) in
    let end : c.loop-i.i ≡ length cs = omega (arith, c.loop-i-test.false, c.loop-i.auto.i-end, length-map c.args.list.now (λ x. x.cond)) in
    let are : (o : ℕ) → o < c.args.objects → PicksOf cs o (row picks o) = λ o h. subst (λ (m : ℕ). NumbersOf (names o) cs m (row picks o)) end (l.picks o h) in
    let by : (j : ℕ) (d : Cond) → j < length cs → NamedBy (get_or cs j d) c.args.objects (names_at named j) = λ j d h. l.named j d (omega (arith, h, end)) in
    let pairs : HavePairs cs picks c.args.objects beside = have_pairs cs picks c.args.objects named own beside are by rows sorted in
    let all : HavePartners c.deref-5.result.now c.deref-4.result.now (length c.deref-4.result.now) (length c.deref-4.result.now) c.in_ok-partners.partners.items = c.in_ok-partners.ensures in
    let long : length beside ≡ c.args.objects = pairs.objects in
    let found = c.in_ok-partners.partners.items in
    let by_named = subst (λ (ns : List (SmallVec ObjId)). HavePartners ns c.deref-4.result.now (length c.deref-4.result.now) (length c.deref-4.result.now) found) c.deref-5.ensures.value all in
    let by_pairs = subst (λ (ps : List Pairs). HavePartners named ps (length ps) (length ps) found) c.deref-4.ensures.value by_named in
    let partners = subst (λ (m : ℕ). HavePartners named beside m m found) long by_pairs in
    links_end _ c.args.objects c.loop-i.i _ end l rows pairs partners
