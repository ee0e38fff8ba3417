use Rattle.std.proofs.Common.{◌≡◌, ℕ, Bool, true, false, List, map, length, get_or, ap, sym, ◌∙◌, subst, arith, rules}
use Rattle.std.specs.Prelude.{replicate}
use Rattle.std.proofs.lemmas.Bool.{false≢true}
use Rattle.std.proofs.lemmas.List.{get_or-replicate, length-map}
use Rattle.indexical.specs.declared.any.AnyIndexical.{AnyIndexical}
use Rattle.fixpoint.specs.Links.{AreLinks}
use Rattle.fixpoint.specs.Marks.{IsSquare}
use Rattle.fixpoint.specs.Queue.{RestFine}
use Rattle.fixpoint.proofs.Standing.{blank_stands}
use Rattle.fixpoint.proofs.propagation.QueueFixpoint.start.Goals as goal

pub invariant_of-result : goal.invariant_of-result
invariant_of-result g c =
    let f = λ (x : AnyIndexical g.row.K). x.cond in
    let cs = map f c.args.list.items in
    let n = c.args.objects in
    let l = c.in_ok-links.links in
    let q = c.in_ok-queued.queued in
    let last = c.in_ok-last.last in
    let all : q.items ≡ replicate n true = c.in_ok-queued.ensures.items_if_clones_equal (λ y k. search rules) in
    let long : length q.items ≡ n = omega (arith, c.in_ok-queued.ensures.len, q.ok.0) in
    let linked : AreLinks cs (length q.items) l = subst (λ (m : ℕ). AreLinks cs m l) (sym long) (subst (λ (xs : List (AnyIndexical g.row.K)). AreLinks (map f xs) n l) c.deref.ensures.value c.in_ok-links.ensures) in
    let rows_long = c.in_ok-links.ensures.rows.objects in
    let fine : RestFine cs last q.items = λ o h e. absurd (false≢true (sym e ∙ ap (λ (b : List Bool). get_or b o false) all ∙ get_or-replicate n o true false (omega (arith, h, c.in_ok-last.ensures)))) in
    record {
      dims = c.requires.k;
      linked = ∣ linked ∣₁;
      objects = (c.in_ok-last.ensures ∙ sym long, c.in_ok-kept.ensures.0 ∙ ap length c.deref-2.ensures.value ∙ rows_long ∙ sym long);
      fine = ∣ fine ∣₁;
      square = subst (λ (m : ℕ). IsSquare m c.in_ok-dirty.dirty.items) (sym long) c.in_ok-dirty.ensures;
      watching = c.in_ok-watches.ensures cs last (omega (arith, length-map c.args.list.items f, c.len.ensures, c.args.list.ok.0)) c.in_ok-last.ensures;
      stand = blank_stands cs last c.in_ok-dirty.dirty.items c.in_ok-kept.kept.items c.in_ok-kept.ensures.1;
    }
