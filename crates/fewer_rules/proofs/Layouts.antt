-- A layout of a problem with some of its rules is one of it with fewer.
use Rattle.std.proofs.Common.{◌≡◌, ◌<◌, ℕ, List, length, map, get_or, sym, ap, ◌∙◌, subst}
use Rattle.std.specs.Prelude.{All}
use Rattle.std.specs.List.{Contains}
use Rattle.std.proofs.lemmas.List.{get_or-map, get_or_default, length-map}
use Rattle.geo_base.specs.Tuple.{Tuple}
use Rattle.problem_data.specs.Problem.{RuleData, ProblemData}
use Rattle.problem_data.specs.SomeRules.{no_rule, numbered, with_rules}
use Rattle.problem_data.specs.Cells.{IsTuple}
use Rattle.problem_data.specs.Layouts.{DemandHolds, IsLayout}
use Rattle.fewer_rules.proofs.Truth.{demand_to, demand_from, tuple_to, tuple_from}

-- each rule of these numbers holds on the tuple
abbrev HoldAll : ProblemData → List ℕ → Tuple → Type 0
HoldAll p keep t = All (λ n. DemandHolds p t (numbered p.rules n).demand) keep

hold_all : (p : ProblemData) (keep : List ℕ) (t : Tuple) → IsLayout (with_rules p keep) t → HoldAll p keep t
hold_all p keep t h k d l =
    let rs = map (numbered p.rules) keep in
    let m : k < length rs = subst (λ n. k < n) (sym (length-map keep (numbered p.rules))) l in
    demand_from p rs t (numbered p.rules (get_or keep k d)).demand (subst (λ (r : RuleData). DemandHolds (with_rules p keep) t r.demand) (get_or-map (numbered p.rules) keep k d no_rule l) (h.rules k no_rule m))

all_hold : (p : ProblemData) (keep : List ℕ) (t : Tuple) → IsTuple p t → HoldAll p keep t → IsLayout (with_rules p keep) t
all_hold p keep t is h = record {
  tuple = tuple_to p (map (numbered p.rules) keep) t is;
  rules = λ k d l. (
      let rs = map (numbered p.rules) keep in
      let m : k < length keep = subst (λ n. k < n) (length-map keep (numbered p.rules)) l in
      subst (λ (r : RuleData). DemandHolds (with_rules p keep) t r.demand) (sym (get_or-map (numbered p.rules) keep k 0 d m)) (demand_to p rs t (numbered p.rules (get_or keep k 0)).demand (h k 0 m)));
}

pub fewer_hold : (p : ProblemData) (keep fewer : List ℕ) → ((n : ℕ) → Contains fewer n → Contains keep n) → (t : Tuple) → IsLayout (with_rules p keep) t → IsLayout (with_rules p fewer) t
fewer_hold p keep fewer among t h =
    all_hold p fewer t (tuple_from p (map (numbered p.rules) keep) t h.tuple) (λ k d l.
    let n = get_or fewer k d in
    let c = among n (k, l, get_or_default fewer k n d l) in
    subst (λ m. DemandHolds p t (numbered p.rules m).demand) c.2 (hold_all p keep t h c.0 n c.1))
