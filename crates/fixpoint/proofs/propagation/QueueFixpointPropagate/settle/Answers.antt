use Rattle.std.proofs.Common.{◌≡◌, ◌<◌, ℕ, Bool, true, List, map, length, ap, sym, ◌∙◌, subst, arith, rules}
use Rattle.std.proofs.lemmas.List.{with_items_is}
use Rattle.std.specs.Prelude.{IfOk}
use Rattle.std.specs.Vec.{with_items}
use Rattle.geo_conditions.specs.Conditions.{AllFit}
use Rattle.geo_state.specs.declared.propagate.Settled.{Settled}
use Rattle.geo_state.specs.Settle.{BlamesFirst, Records}
use Rattle.indexical.specs.declared.any.AnyIndexical.{AnyIndexical}
use Rattle.fixpoint.specs.Links.{AreLinks}
use Rattle.fixpoint.specs.Kept.{Slots, AllStand}
use Rattle.fixpoint.specs.Marks.{MarkRows, IsSquare}
use Rattle.fixpoint.specs.Queue.{RestFine}
use Rattle.fixpoint.proofs.Stable.{rest_of}
use Rattle.fixpoint.proofs.StableRows.{links_taken}
use Rattle.watches.specs.Watches.{Hold}
use Rattle.fixpoint.proofs.propagation.QueueFixpointPropagate.settle.Goals as goal

pub settle-requires : goal.settle-requires
settle-requires g c =
    let list = c.deref.result.now in
    let f = λ (x : AnyIndexical g.row.K). x.cond in
    let cs = map f list in
    let self = c.args.self.now in
    let S = c.args.t.now.state in
    let q = c.deref_mut.result.now in
    let same : list ≡ self.list.items = c.deref.ensures.value in
    let marks : q ≡ self.queued.items = c.deref_mut.ensures.value in
    let fits : AllFit cs S = subst (λ (l : List (AnyIndexical g.row.K)). AllFit (map f l) S) (sym same) c.requires.fits in
    let linked : AreLinks cs (length q) self.links =
    subst (λ (l : List (AnyIndexical g.row.K)). AreLinks (map f l) (length q) self.links) (sym same) (subst (λ (b : List Bool). AreLinks (map f self.list.items) (length b) self.links) (sym marks) (links_taken (map f self.list.items) (length self.queued.items) self.links self.linked)) in
    let fine : RestFine cs self.last q =
    subst (λ (l : List (AnyIndexical g.row.K)). RestFine (map f l) self.last q) (sym same) (subst (RestFine (map f self.list.items) self.last) (sym marks) (rest_of (map f self.list.items) self.last self.queued.items self.fine)) in
    let objects : length q ≡ length S = ap length marks ∙ sym c.requires.objects in
    let before : length self.last ≡ length S = self.objects.0 ∙ sym c.requires.objects in
    let kept = c.deref_mut-3.result.now in
    let points : kept ≡ self.kept.items = c.deref_mut-3.ensures.value in
    let slots : length kept ≡ length S = ap length points ∙ self.objects.1 ∙ sym c.requires.objects in
    let noted = c.deref_mut-2.result.now in
    let rows : noted ≡ self.dirty.items = c.deref_mut-2.ensures.value in
    let square : IsSquare (length q) noted = subst (λ (n : ℕ). IsSquare n noted) (sym (ap length marks)) (subst (IsSquare (length self.queued.items)) (sym rows) self.square) in
    let stand : AllStand cs self.last noted kept =
    subst (λ (l : List (AnyIndexical g.row.K)). AllStand (map f l) self.last noted kept) (sym same)
    (subst (λ (ms : MarkRows). AllStand (map f self.list.items) self.last ms kept) (sym rows) (subst (λ (vs : Slots g.row.K). AllStand (map f self.list.items) self.last self.dirty.items vs) (sym points) self.stand)) in
    let hold : Hold cs self.last self.watches = subst (λ (l : List (AnyIndexical g.row.K)). Hold (map f l) self.last self.watches) (sym same) self.watching in
    let some : 0 < g.row.K = self.dims.0 in
    search rules

pub returns-clause-record : goal.returns-clause-record
returns-clause-record g c =
    let S = c.args.t.now.state in
    let T = c.settle.new.t.state in
    let old = g.R.Recorder.list c.args.rec.now in
    let new = g.R.Recorder.list c.settle.new.rec in
    subst (λ (l : List (AnyIndexical g.row.K)). IfOk c.settle.result (λ (a : Settled). g.R.Recorder.keeps ≡ true → Records (map (λ x. x.cond) l) S a T old new)) c.deref.ensures.value c.settle.ensures.record

pub returns-clause-blame : goal.returns-clause-blame
returns-clause-blame g c =
    let S = c.args.t.now.state in
    let old = g.R.Recorder.list c.args.rec.now in
    let new = g.R.Recorder.list c.settle.new.rec in
    subst (λ (l : List (AnyIndexical g.row.K)). IfOk c.settle.result (λ (a : Settled). g.R.Recorder.keeps ≡ true → BlamesFirst (map (λ x. x.cond) l) S old new)) c.deref.ensures.value c.settle.ensures.blame

pub invariant_of-self : goal.invariant_of-self
invariant_of-self g c =
    let f = λ (x : AnyIndexical g.row.K). x.cond in
    let self = c.args.self.now in
    let cs = map f self.list.items in
    let new = c.settle.new.queued in
    let same : c.deref.result.now ≡ self.list.items = c.deref.ensures.value in
    let long : length new ≡ length self.queued.items = c.settle.auto.queued ∙ ap length c.deref_mut.ensures.value in
    let back : (with_items self.queued new).items ≡ new = with_items_is self.queued new (omega (arith, long, self.queued.ok.0)) in
    let linked : ∥ AreLinks cs (length (with_items self.queued new).items) self.links ∥₁ = subst (λ (n : ℕ). ∥ AreLinks cs n self.links ∥₁) (sym (ap length back ∙ long)) self.linked in
    let fine : RestFine cs c.settle.new.last (with_items self.queued new).items =
    subst (RestFine cs c.settle.new.last) (sym back) (subst (λ (l : List (AnyIndexical g.row.K)). RestFine (map f l) c.settle.new.last new) same c.settle.ensures.fine) in
    let slots = c.settle.new.kept in
    let rows : length slots ≡ length self.kept.items = c.settle.auto.kept ∙ ap length c.deref_mut-3.ensures.value in
    let whole : (with_items self.kept slots).items ≡ slots = with_items_is self.kept slots (omega (arith, rows, self.kept.ok)) in
    let noted = c.settle.new.dirty in
    let wide : length noted ≡ length self.dirty.items = c.settle.auto.dirty ∙ ap length c.deref_mut-2.ensures.value in
    let square_back : (with_items self.dirty noted).items ≡ noted = with_items_is self.dirty noted (omega (arith, wide, self.dirty.ok.0)) in
    let square : IsSquare (length (with_items self.queued new).items) (with_items self.dirty noted).items =
    subst (IsSquare (length (with_items self.queued new).items)) (sym square_back) (subst (λ (n : ℕ). IsSquare n noted) (sym c.settle.auto.queued ∙ sym (ap length back)) c.settle.ensures.square) in
    let stand : AllStand cs c.settle.new.last (with_items self.dirty noted).items (with_items self.kept slots).items =
    subst (λ (ms : MarkRows). AllStand cs c.settle.new.last ms (with_items self.kept slots).items) (sym square_back)
    (subst (λ (vs : Slots g.row.K). AllStand cs c.settle.new.last noted vs) (sym whole) (subst (λ (l : List (AnyIndexical g.row.K)). AllStand (map f l) c.settle.new.last noted slots) same c.settle.ensures.stand)) in
    let marks : length self.queued.items ≡ length (with_items self.queued new).items = sym (ap length back ∙ long) in
    let hold : Hold cs c.settle.new.last c.settle.new.watches = subst (λ (l : List (AnyIndexical g.row.K)). Hold (map f l) c.settle.new.last c.settle.new.watches) same c.settle.ensures.hold in
    record {
      dims = self.dims;
      linked = linked;
      objects = (c.settle.ensures.objects ∙ self.objects.0 ∙ marks, ap length whole ∙ rows ∙ self.objects.1 ∙ marks);
      fine = ∣ fine ∣₁;
      square = square;
      watching = hold;
      stand = stand;
    }
