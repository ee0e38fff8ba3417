-- A rule without its macros holds exactly where the rule holds.
use Rattle.std.proofs.Common.{◌≡◌, ◌<◌, ◌≤◌, ℕ, zero, suc, List, refl, [], ◌∷◌, length, get_or, map, sym, subst, ◌∙◌, ap, arith}
use Rattle.std.specs.Prelude.{All, None}
use Rattle.std.proofs.lemmas.List.{get_or-map, get_or_default, length-map}
use Rattle.problem_data.specs.Problem as written
use Rattle.problem_data.specs.Problem.{DemandData, RuleData, ProblemData}
use Rattle.problem_data.specs.Tuple.{Tuple}
use Rattle.problem_data.specs.Cells.{IsTuple, IsWithin}
use Rattle.problem_data.specs.Layouts.{DemandHolds}
use Rattle.problem_data.specs.WellFormed.{IsDemand, IsWellFormed}
use Rattle.rule_expand.specs.declared.plain.PlainRule.{PlainRule}
use Rattle.rule_expand.specs.Rules.{PlainDemand, apart, within, plain, PlainRuleData, AsksSame, AllAskSame, expansion_fault, plain_rule_data, rules_expanded}
use Rattle.rule_ground.specs.Ground.{ground_fault}
use Rattle.rule_ground.specs.Rules.{grounded}
use Rattle.rule_ground.proofs.CalmRules.{all-calm}
use Rattle.rule_ground.proofs.Grounded.{no-fault}
use Rattle.rule_values.specs.Calm.{AreCalm, IsCalmDemand}
use Rattle.geo_meaning.specs.Judged.{IsWide, PlainHolds, RuleHolds, rule_at}

pub as-written : (p : ProblemData) (t : Tuple) (d : DemandData) (q : PlainDemand) → AsksSame p t d q → PlainHolds p t q → DemandHolds p t d
as-written p t written.apart apart e h = h
as-written p t (written.within rs) (within qs) e h = subst (λ ranges. IsWithin p ranges t) e h
as-written p t (written.plain f) (plain g) e h = sym e ∙ h
as-written p t written.apart (within qs) e h = absurd e
as-written p t written.apart (plain g) e h = absurd e
as-written p t (written.within rs) apart e h = absurd e
as-written p t (written.within rs) (plain g) e h = absurd e
as-written p t (written.plain f) apart e h = absurd e
as-written p t (written.plain f) (within qs) e h = absurd e

pub as-expanded : (p : ProblemData) (t : Tuple) (d : DemandData) (q : PlainDemand) → AsksSame p t d q → DemandHolds p t d → PlainHolds p t q
as-expanded p t written.apart apart e h = h
as-expanded p t (written.within rs) (within qs) e h = subst (λ ranges. IsWithin p ranges t) (sym e) h
as-expanded p t (written.plain f) (plain g) e h = e ∙ h
as-expanded p t written.apart (within qs) e h = absurd e
as-expanded p t written.apart (plain g) e h = absurd e
as-expanded p t (written.within rs) apart e h = absurd e
as-expanded p t (written.within rs) (plain g) e h = absurd e
as-expanded p t (written.plain f) apart e h = absurd e
as-expanded p t (written.plain f) (within qs) e h = absurd e

wide : (p : ProblemData) (t : Tuple) (d : DemandData) (q : PlainDemand) → AsksSame p t d q → IsDemand p.dims d → IsWide p q
wide p t written.apart apart e h = tt
wide p t (written.within rs) (within qs) e h = ap length e ∙ h.0
wide p t (written.plain f) (plain g) e h = tt
wide p t written.apart (within qs) e h = absurd e
wide p t written.apart (plain g) e h = tt
wide p t (written.within rs) apart e h = tt
wide p t (written.within rs) (plain g) e h = tt
wide p t (written.plain f) apart e h = tt
wide p t (written.plain f) (within qs) e h = absurd e

-- ---- by position

ask-at : (p : ProblemData) (t : Tuple) (rs : List RuleData) (qs : List PlainRuleData) (i : ℕ) (d : RuleData) (e : PlainRuleData) → AllAskSame p t rs qs → i < length qs → (i < length rs) × AsksSame p t (get_or rs i d).demand (get_or qs i e).demand
ask-at p t [] [] i d e a h = absurd (omega arith)
ask-at p t [] (q ∷ qs) i d e a h = absurd a
ask-at p t (r ∷ rs) [] i d e a h = absurd (omega arith)
ask-at p t (r ∷ rs) (q ∷ qs) zero d e a h = (omega arith, a.1)
ask-at p t (r ∷ rs) (q ∷ qs) (suc i) d e a h =
    let k = ask-at p t rs qs i d e a.2 (omega arith) in (omega (arith, k.0), k.1)

pub same-length : (p : ProblemData) (t : Tuple) (rs : List RuleData) (qs : List PlainRuleData) → AllAskSame p t rs qs → length rs ≡ length qs
same-length p t [] [] a = refl
same-length p t [] (q ∷ qs) a = absurd a
same-length p t (r ∷ rs) [] a = absurd a
same-length p t (r ∷ rs) (q ∷ qs) a = ap suc (same-length p t rs qs a.2)

-- the rule of the program at a position, and the one as it is written
pub record IsRuleAt (p : ProblemData) (t : Tuple) (k : ℕ) (q : PlainDemand) : Type 0 where
  pub inside : k < length p.rules
  pub same : AsksSame p t (rule_at p k).demand q
  pub wide : IsWide p q
  pub calm : IsCalmDemand p t q

pub rule-is : (p : ProblemData) (t : Tuple) (rules : List PlainRule) (k : ℕ) (rule : PlainRule) → IsWellFormed p → AllAskSame p t p.rules (map plain_rule_data rules) → AreCalm p t (map plain_rule_data rules) →
    k < length rules → rule ≡ get_or rules k rule → IsRuleAt p t k (plain_rule_data rule).demand
rule-is p t rules k rule w a c h e =
    let l : k < length (map plain_rule_data rules) = subst (λ n. k < n) (sym (length-map rules plain_rule_data)) h in
    let at : get_or (map plain_rule_data rules) k (plain_rule_data rule) ≡ plain_rule_data rule = get_or-map plain_rule_data rules k rule (plain_rule_data rule) h ∙ ap plain_rule_data (sym e) in
    let s = ask-at p t p.rules (map plain_rule_data rules) k (record { place = 0; name = []; demand = written.apart }) (plain_rule_data rule) a l in
    let same : AsksSame p t (rule_at p k).demand (plain_rule_data rule).demand = subst (λ (q : PlainRuleData). AsksSame p t (rule_at p k).demand q.demand) at s.1 in
    record {
      inside = s.0;
      same = same;
      wide = wide p t (rule_at p k).demand (plain_rule_data rule).demand same (w.demands k (record { place = 0; name = []; demand = written.apart }) s.0);
      calm = subst (λ (q : PlainRuleData). IsCalmDemand p t q.demand) at (c k (plain_rule_data rule) l);
    }

-- all rules are looked at
pub rules-all : (p : ProblemData) (t : Tuple) (rules : List PlainRule) (n : ℕ) → AllAskSame p t p.rules (map plain_rule_data rules) → length rules ≤ n → ((k : ℕ) → k < n → RuleHolds p t k) → All (λ r. DemandHolds p t r.demand) p.rules
rules-all p t rules n a h f = λ k d l.
    let e = same-length p t p.rules (map plain_rule_data rules) a ∙ length-map rules plain_rule_data in
    subst (λ (r : RuleData). DemandHolds p t r.demand) (get_or_default p.rules k (record { place = 0; name = []; demand = written.apart }) d l) (f k (omega arith))

-- ---- of a problem without a fault

-- the evaluation of its rules stays within 128 bits
pub calm-rules : (p : ProblemData) (t : Tuple) → IsWellFormed p → IsTuple p t → expansion_fault p ≡ None → ground_fault p ≡ None → AreCalm p t (rules_expanded p)
calm-rules p t w is x g = all-calm p t _ w is x (no-fault (grounded p) g)
