-- Conditions that are refuted on a state, by their numbers.
use Rattle.std.proofs.Common.{◌≡◌, ℕ, zero, suc, ◌+◌, ◌<◌, ◌≤◌, true, false, not, arith, List, length, get_or, refl, sym, ap, ◌∙◌, subst, add-one, Option, Some, None}
use Rattle.std.specs.Prelude.{slice_get}
use Rattle.std.proofs.lemmas.Bool.{false≢true, not-true}
use Rattle.std.proofs.lemmas.List.Elements.{All-get_or}
use Rattle.std.proofs.lemmas.Option.{slice_get_read, slice_get_within, get_or_from_slice_get}
use Rattle.geo_conditions.specs.declared.cond.Cond.{Cond}
use Rattle.geo_conditions.specs.Reach.{State}
use Rattle.geo_conditions.specs.Conditions.{possible}
use Rattle.geo_conditions.specs.Supported.{NoneRefuted}
use Rattle.derivation.specs.Covers.{is_refuted, refutes}

-- a condition of the list that is refuted, by its number
pub refutes_at : (cs : List Cond) (i : ℕ) (c : Cond) (S : State) → i < length cs → c ≡ get_or cs i c → possible c S ≡ false → refutes cs (i + 1) S ≡ true
refutes_at cs i c S h e f = rw add-one (ap (λ (x : Option Cond). is_refuted x S) (slice_get_read cs (length cs) i c refl h e) ∙ ap not f)

possible_at : (cs : List Cond) (S : State) (i : ℕ) → NoneRefuted cs S → (c : Cond) → slice_get cs i ≡ Some c → possible c S ≡ true
possible_at cs S i n c e = subst (λ (x : Cond). possible x S ≡ true) (get_or_from_slice_get cs i c c e) (All-get_or (λ x. possible x S ≡ true) cs i c (slice_get_within cs i c e) n)

refuted_not : (f : Option Cond) (S : State) → ((c : Cond) → f ≡ Some c → possible c S ≡ true) → is_refuted f S ≡ true → ⊥
refuted_not None S a h = false≢true h
refuted_not (Some c) S a h = false≢true (sym (not-true (possible c S) h) ∙ a c refl)

-- where a condition is refuted, it is not so that none is
pub some_refuted : (cs : List Cond) (i : ℕ) (S : State) → refutes cs i S ≡ true → NoneRefuted cs S → ⊥
some_refuted cs zero S h n = false≢true h
some_refuted cs (suc i) S h n = refuted_not (slice_get cs i) S (possible_at cs S i n) h

within_list : (cs : List Cond) (i : ℕ) (f : Option Cond) (S : State) → slice_get cs i ≡ f → is_refuted f S ≡ true → i < length cs
within_list cs i None S e h = absurd (false≢true h)
within_list cs i (Some c) S e h = slice_get_within cs i c e

-- a condition that is refuted is one of the list
pub refutes_within : (cs : List Cond) (i : ℕ) (S : State) → refutes cs i S ≡ true → i ≤ length cs
refutes_within cs zero S h = absurd (false≢true h)
refutes_within cs (suc i) S h = let l : i < length cs = within_list cs i (slice_get cs i) S refl h in omega arith
