-- The number that the machine holds behind a whole derivation is that of the first node that fails.
use Rattle.std.proofs.Common.{◌≡◌, ℕ, zero, suc, ◌+◌, ◌<◌, Bool, true, false, List, [], ◌∷◌, refl, sym, ap, ◌∙◌, subst, arith, Option, Some, None}
use Rattle.std.specs.Prelude.{slice_get}
use Rattle.std.specs.List.{All}
use Rattle.std.proofs.lemmas.List.Elements.{All-nil, All-cons}
use Rattle.std.proofs.lemmas.Bool.{true≢false}
use Rattle.geo_conditions.specs.declared.cond.Cond.{Cond}
use Rattle.geo_conditions.specs.Reach.{State}
use Rattle.derivation.specs.Nodes.{Node, node_events}
use Rattle.derivation.specs.Valid.{rows, Fails}
use Rattle.derivation_check.specs.Machine.{Machine, HasTaken}
use Rattle.derivation_check.specs.Judges.{Judges, answer}
use Rattle.derivation_check.proofs.Runs.{notes, run_node}

abbrev Says : Option ℕ → ℕ → List Bool → Type 0
Says None k bs = All (λ b. b ≡ true) bs
Says (Some n) k bs = (j : ℕ) × (n ≡ k + suc j) × (slice_get bs j ≡ Some false) × ((i : ℕ) → i < j → slice_get bs i ≡ Some true)

notes_some : (n k : ℕ) (bs : List Bool) → notes (Some n) k bs ≡ Some n
notes_some n k [] = refl
notes_some n k (b ∷ bs) = notes_some n (k + 1) bs

says_more : (f : Option ℕ) (k : ℕ) (bs : List Bool) → Says f (k + 1) bs → Says f k (true ∷ bs)
says_more None k bs h = All-cons (λ b. b ≡ true) true bs refl h
says_more (Some n) k bs h = (suc h.0, omega (arith, h.1), h.2, λ i. elim i as (λ x. x < suc h.0 → slice_get (true ∷ bs) x ≡ Some true) [ zero ↦ λ l. refl | suc x ↦ λ l. h.3 x (omega arith) ])

pub says : (k : ℕ) (bs : List Bool) → Says (notes None k bs) k bs
says k [] = All-nil (λ b. b ≡ true)
says k (true ∷ bs) = says_more (notes None (k + 1) bs) k bs (says (k + 1) bs)
says k (false ∷ bs) = subst (λ (f : Option ℕ). Says f k (false ∷ bs)) (sym (notes_some (k + 1) (k + 1) bs)) (0, omega arith, refl, λ i l. absurd (omega arith))

judged : (cs : List Cond) (S : State) (root : Node) (f : Option ℕ) → Says f 0 (rows cs S root) → Judges cs S root (answer f)
judged cs S root None h = h
judged cs S root (Some n) h = record {
  fails = subst (Fails cs S root) (sym (let e : n ≡ suc h.0 = omega (arith, h.1) in e)) h.2;
  first = λ m. elim m as (λ x. x < n → Fails cs S root x → ⊥) [ zero ↦ λ l x. x | suc x ↦ λ l y. true≢false (let e : Some true ≡ Some false = sym (h.3 x (omega (arith, h.1))) ∙ y in cc) ];
}

-- the machine that has taken a whole derivation answers for it
pub answers : (cs : List Cond) (S : State) (root : Node) (m : Machine) → HasTaken cs S (node_events root) m → Judges cs S root (answer m.failed)
answers cs S root m h =
    let e : m.failed ≡ notes None 0 (rows cs S root) = ap (λ (x : Machine). x.failed) (h ∙ run_node cs root S [] 0 None) in
    judged cs S root m.failed (subst (λ (f : Option ℕ). Says f 0 (rows cs S root)) (sym e) (says 0 (rows cs S root)))
