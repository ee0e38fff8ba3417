-- What is open to an object where one is put at a place.
use Rattle.std.proofs.Common.{◌≡◌, ℕ, ◌<◌, length, eqb, sym, ap, ◌∙◌, subst, Some, Option}
use Rattle.geo_base.specs.Boxes.{coordinate}
use Rattle.geo_conditions.specs.Reach.{State, Reach, reach, low, has, place_in, is_only, only, Put, put_on}
use Rattle.geo_conditions.proofs.Sets.{only_test, only_only}
use Rattle.geo_conditions.proofs.Points.{at_only, reach_same, reach_other}

-- the object that is put
pub reach_put : (S : State) (q : Put) (o : ℕ) → o < length S → q.object ≡ o → reach (put_on (Some q) S) o ≡ at_only q.place q.region
reach_put S q o h e = subst (λ (v : ℕ). reach (put_on (Some q) S) v ≡ at_only q.place q.region) e (reach_same S q.object q.place q.region (subst (λ (v : ℕ). v < length S) (sym e) h))

pub reach_rest : (S : State) (q : Put) (o : ℕ) → (q.object ≡ o → ⊥) → reach (put_on (Some q) S) o ≡ reach S o
reach_rest S q o ne = reach_other S q.object q.place o q.region (λ e. ne (sym e))

pub has_put : (S : State) (m : Option Put) (q : Put) (o s p : ℕ) → o < length S → m ≡ Some q → q.object ≡ o → p ≡ q.place → 0 < p → eqb p s ≡ has (put_on m S) o s
has_put S m q o s p h e k w b =
    only_test p s b ∙ ap (λ (v : ℕ). place_in (only v) s) w ∙ sym (ap (λ (r : Reach). place_in r.places s) (reach_put S q o h k)) ∙ sym (ap (λ (x : Option Put). has (put_on x S) o s) e)

pub is_only_put : (S : State) (m : Option Put) (q : Put) (o s p : ℕ) → o < length S → m ≡ Some q → q.object ≡ o → p ≡ q.place → 0 < p → eqb p s ≡ is_only (reach (put_on m S) o).places s
is_only_put S m q o s p h e k w b =
    only_test p s b ∙ ap (λ (v : ℕ). place_in (only v) s) w ∙ sym (only_only q.place s) ∙ sym (ap (λ (r : Reach). is_only r.places s) (reach_put S q o h k)) ∙ sym (ap (λ (x : Option Put). is_only (reach (put_on x S) o).places s) e)

-- the low end of an object that is not put
pub low_rest : (S : State) (m : Option Put) (q : Put) (o d : ℕ) → m ≡ Some q → (q.object ≡ o → ⊥) → low S o d ≡ low (put_on m S) o d
low_rest S m q o d e ne =
    sym (ap (λ (r : Reach). coordinate r.region.lo d) (reach_rest S q o ne)) ∙ sym (ap (λ (x : Option Put). low (put_on x S) o d) e)
