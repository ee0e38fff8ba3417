-- The events of a derivation have one answer, whichever tree of nodes stands for them.
use Rattle.std.proofs.Common.{◌≡◌, ℕ, zero, suc, true, false, List, refl, sym, ap, ◌∙◌, arith, inl, inr}
use Rattle.std.proofs.lemmas.Bool.{cases_lt, false≢true}
use Rattle.geo_conditions.specs.declared.cond.Cond.{Cond}
use Rattle.geo_conditions.specs.Reach.{State}
use Rattle.derivation.specs.declared.event.Event.{Event}
use Rattle.derivation.specs.Nodes.{Node, node_events}
use Rattle.derivation.specs.Valid.{rows, Fails, Valid, FailsFirst}
use Rattle.derivation.proofs.Leaves.{all_at}
use Rattle.derivation_check.specs.declared.progress.Checked.{Checked}
use Rattle.derivation_check.specs.declared.progress.Checked.TheVariants.{Yes, No}
use Rattle.derivation_check.specs.Machine.{run, start}
use Rattle.derivation_check.specs.Judges.{Judges, answer}
use Rattle.derivation_check.proofs.Verdict.{answers}

module _ (cs : List Cond) (S : State) where
  valid_or_fails : (root : Node) (n : ℕ) → Valid cs S root → Fails cs S root n → ⊥
  valid_or_fails root zero v f = f
  valid_or_fails root (suc n) v f = false≢true (all_at (λ b. b ≡ true) (rows cs S root) n false v f)

  one_failing : (root : Node) (n m : ℕ) → FailsFirst cs S root n → FailsFirst cs S root m → n ≡ m
  one_failing root n m f g = elim (cases_lt n m) [
    | inl l ↦ absurd (g.first n l f.fails)
    | inr l ↦ elim (cases_lt m n) [
      | inl k ↦ absurd (f.first m k g.fails)
      | inr k ↦ omega (arith, l, k)
    ]
  ]

  one_judged : (root : Node) (x y : Checked) → Judges cs S root x → Judges cs S root y → x ≡ y
  one_judged root Yes Yes v w = refl
  one_judged root Yes (No n) v g = absurd (valid_or_fails root n v g.fails)
  one_judged root (No n) Yes f v = absurd (valid_or_fails root n v f.fails)
  one_judged root (No n) (No m) f g = ap No (one_failing root n m f g)

  pub one_answer : (root other : Node) (x y : Checked) → node_events root ≡ node_events other → Judges cs S root x → Judges cs S other y → x ≡ y
  one_answer root other x y same f g =
      let m = run cs (node_events root) (start S) in
      one_judged root x (answer m.failed) f (answers cs S root m refl)
      ∙ sym (one_judged other y (answer m.failed) g (answers cs S other m (ap (λ (es : List Event). run cs es (start S)) same)))
