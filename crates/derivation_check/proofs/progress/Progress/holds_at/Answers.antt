use Rattle.std.proofs.Common.{◌≡◌, ◌∙◌, ◌||◌, ℕ, Bool, false, List, sym, ap, inl, inr}
use Rattle.geo_conditions.specs.declared.cond.Cond.{Cond}
use Rattle.geo_conditions.specs.declared.object.ObjId.{ObjId}
use Rattle.geo_conditions.specs.Reach.{State, Region, with_at}
use Rattle.derivation.specs.Covers.{refutes}
use Rattle.derivation.specs.Cuts.{is_empty}
use Rattle.derivation_check.specs.declared.progress.Owner.{Owner}
use Rattle.derivation_check.specs.declared.progress.Work.{Work}
use Rattle.derivation_check.specs.declared.progress.Work.TheVariants.{OfList}
use Rattle.derivation_check.specs.Machine.{Machine, leaf}
use Rattle.derivation_check.proofs.progress.Progress.holds_at.Goals as goal

-- a leaf of a list of covers
of_list : (cs : List Cond) (i : ℕ) (o : ObjId) (place : ℕ) (w : Work) (S : State) (b : Region) → (owner : Owner) × (next : ℕ) × (w ≡ OfList o owner next place)
    → leaf cs i w S b ≡ (is_empty b || refutes cs i (with_at S o.0 place b))
of_list cs i o place w S b e = ap (λ (x : Work). leaf cs i x S b) e.2

pub returns-else-is_empty : goal.returns-else-is_empty
returns-else-is_empty g c =
    let cs = c.args.cs.now in
    let i = c.args.i in
    let S = c.self.inside.state in
    let b = c.args.b.now in
    let some : is_empty b ≡ false = sym c.is_empty.ensures ∙ c.if-is_empty.false in
    let refuted : c.refutes_at.result ≡ (is_empty b || refutes cs i (with_at S c.in-OfDrop.o.0 c.in-OfDrop.place b)) =
    c.refutes_at.ensures ∙ ap (λ (t : Bool). t || refutes cs i (with_at S c.in-OfDrop.o.0 c.in-OfDrop.place b)) (sym some) in
    let seen = ap (λ (m : Machine). leaf cs i m.work m.state b) c.self.view_is in
    elim c.in-OfDrop.is [
      | inl e ↦ refuted ∙ sym (ap (λ (w : Work). leaf cs i w S b) e) ∙ seen
      | inr e ↦ refuted ∙ sym (of_list cs i c.in-OfDrop.o c.in-OfDrop.place c.self.inside.work S b e) ∙ seen
    ]
