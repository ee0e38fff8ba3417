use Rattle.std.proofs.Common.{◌≡◌, ◌≢◌, ◌<◌, ◌++◌, ◌∷◌, [], ℕ, List, length, ap, sym, ◌∙◌, arith}
use Rattle.fixpoint.specs.Links.{row}
use Rattle.fixpoint.proofs.Linking.{row_get}
use Rattle.fixpoint.proofs.Partnering.{at_none, at_there}
use Rattle.fixpoint.proofs.partners.put_at.Goals as goal

pub returns-then-u-o : goal.returns-then-u-o
returns-then-u-o c = at_none c.args.number (λ v. (v ≡ c.args.u) × (v ≢ c.args.o)) c.args.few.now (λ v p h. absurd (p.1 (p.0 ∙ c.if-u-o.true)))

pub returns-then-u-few : goal.returns-then-u-few
returns-then-u-few c =
    let u = c.args.u in
    let old = c.args.few.now in
    let v = c.push.new.self in
    let h : u < length old = c.if-u-few.true in
    let items : v.items ≡ row old u ++ c.args.number ∷ [] = c.in_ok-push.ensures.items ∙ ap (λ (l : List ℕ). l ++ c.args.number ∷ []) (sym (row_get old u c.index-few-u.result h)) in
    at_there c.args.number (λ w. (w ≡ u) × (w ≢ c.args.o)) u old v h items (λ w p. p.0)

pub returns : goal.returns
returns c = at_none c.args.number (λ v. (v ≡ c.args.u) × (v ≢ c.args.o)) c.args.few.now (λ v p h. absurd (omega (arith, h, p.0, c.if-u-few.false)))
