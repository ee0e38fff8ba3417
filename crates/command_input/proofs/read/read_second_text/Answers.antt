use Rattle.std.proofs.Common.{◌≡◌, ◌∙◌, List, ℕ, length, inl, inr, sym, subst, arith, rules}
use Rattle.std.proofs.lemmas.Bool.{cases_eq}
use Rattle.geo_tokens.specs.FirstEnd.{IsFirstEnd}
use Rattle.command_input.proofs.Taking.{nothing_on, read_on}
use Rattle.command_input.proofs.read.read_second_text.Goals as goal
use Rattle.command_input.proofs.read.read_second_text.Goals.{in_default-via-in-Some+then-end-lt-MOST+else-len-eq-MOST, in_default-via-in-Some+else-end-lt-MOST, in_default-via-in_default}

pub returns-in_ok-read_up_to-in-Some-clause-texts : goal.returns-in_ok-read_up_to-in-Some-clause-texts
returns-in_ok-read_up_to-in-Some-clause-texts g c = read_on _ _ c.args.text.items c.read_up_to.new.text.items c.deref.result.now c.in-Some.end c.deref.ensures.value c.in-Some.ensures.only.1 c.in_ok-read_up_to-in-Some.ensures.text

pub returns-in_default-clause-texts : goal.returns-in_default-clause-texts
returns-in_default-clause-texts g c = nothing_on _ c.args.text.items (elim c.in_default.branch [
  | in_default-via-in-Some+then-end-lt-MOST+else-len-eq-MOST w ↦ inl (let n : w.len.result ≡ length c.args.text.items = search rules in let r = c.requires in let f = w.if-len-eq-MOST.false in elim (cases_eq (length c.args.text.items) 1048577) [ inl e ↦ absurd (f (n ∙ e)) | inr ne ↦ omega (arith, r, ne) ])
  | in_default-via-in-Some+else-end-lt-MOST w ↦ inr (inr (λ e x small.
      let is = w.in-Some.ensures.only.1 e (subst (λ (t : List ℕ). IsFirstEnd t e) (sym c.deref.ensures.value) x) in
      absurd (omega (arith, is, small, w.if-end-lt-MOST.false))))
  | in_default-via-in_default w ↦ let none : (e : ℕ) → IsFirstEnd c.deref.result.now e → ⊥ = w.in_default.ensures.only in inr (inr (λ e x small. absurd (none e (subst (λ (t : List ℕ). IsFirstEnd t e) (sym c.deref.ensures.value) x))))
])
