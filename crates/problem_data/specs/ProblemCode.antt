-- Codes of the data of a problem, which its models need.
use Rattle.std.specs.Prelude.{◌≡◌, ℕ, ℤ, Bool, List, ◌⊎◌, ◌==◌, if◌then◌else◌, refl}
use Rattle.std.proofs.Common.{inl, inr}
use Rattle.std.specs.Coded.{Coded, code_by, coded×, coded⊎, coded_ℕ, coded_ℤ, coded_bool, coded_list}
use Rattle.rule_syntax.specs.Tree.{ExprTree, FormulaTree}
use Rattle.problem_data.specs.declared.tree.ParamKind.{ParamKind}
use Rattle.problem_data.specs.declared.tree.ParamKind.TheVariants as param_kinds
use Rattle.problem_data.specs.declared.tree.Side.{Side}
use Rattle.problem_data.specs.declared.tree.Side.TheVariants as sides
use Rattle.problem_data.specs.Tree.{BodyTree, means, equals}
use Rattle.problem_data.specs.TreeCode.{expr_coded, formula_coded}
use Rattle.problem_data.specs.Problem.{BoxData, ShapeData, RangeData, AttributeData, ObjectData, ParamData, MacroData, DemandData, apart, within, plain, RuleData, ProblemData}

abbrev pub box_code : Coded BoxData
box_code = code_by (List ℤ × List ℤ) (coded× (coded_list coded_ℤ) (coded_list coded_ℤ)) (λ b. (b.offsets, b.sizes)) (λ p. record { offsets = p.0; sizes = p.1 }) (λ _. refl)

abbrev pub shape_code : Coded ShapeData
shape_code = code_by (List ℕ × List BoxData) (coded× (coded_list coded_ℕ) (coded_list box_code)) (λ s. (s.name, s.boxes)) (λ p. record { name = p.0; boxes = p.1 }) (λ _. refl)

abbrev pub range_code : Coded RangeData
range_code = code_by (ℤ × ℤ) (coded× coded_ℤ coded_ℤ) (λ r. (r.low, r.high)) (λ p. record { low = p.0; high = p.1 }) (λ _. refl)

abbrev pub ranges_code : Coded (List RangeData)
ranges_code = coded_list range_code

abbrev pub attribute_code : Coded AttributeData
attribute_code = code_by (List ℕ × ℤ) (coded× (coded_list coded_ℕ) coded_ℤ) (λ a. (a.name, a.value)) (λ p. record { name = p.0; value = p.1 }) (λ _. refl)

abbrev pub object_code : Coded ObjectData
object_code =
    code_by (List ℕ × (List ℕ × (Bool × (List (List RangeData) × List AttributeData))))
    (coded× (coded_list coded_ℕ) (coded× (coded_list coded_ℕ) (coded× coded_bool (coded× (coded_list ranges_code) (coded_list attribute_code)))))
    (λ o. (o.name, (o.shapes, (o.may_be_absent, (o.pieces, o.attributes)))))
    (λ p. record { name = p.0; shapes = p.1.0; may_be_absent = p.1.1.0; pieces = p.1.1.1.0; attributes = p.1.1.1.1 }) (λ _. refl)

abbrev kind_number : ParamKind → ℕ
kind_number param_kinds.Int = 0
kind_number param_kinds.Object = 1
kind_number param_kinds.Box = 2

abbrev kind_at : ℕ → ParamKind
kind_at k = if k == 0 then param_kinds.Int else if k == 1 then param_kinds.Object else param_kinds.Box

pub kind_again : (k : ParamKind) → kind_at (kind_number k) ≡ k
kind_again param_kinds.Int = refl
kind_again param_kinds.Object = refl
kind_again param_kinds.Box = refl

abbrev pub param_code : Coded ParamData
param_code =
    code_by (List ℕ × ParamKind) (coded× (coded_list coded_ℕ) (code_by ℕ coded_ℕ kind_number kind_at kind_again))
    (λ q. (q.name, q.kind)) (λ p. record { name = p.0; kind = p.1 }) (λ _. refl)

abbrev of_body : BodyTree → FormulaTree ⊎ ExprTree
of_body (means f) = inl f
of_body (equals e) = inr e

abbrev body_of : FormulaTree ⊎ ExprTree → BodyTree
body_of (inl f) = means f
body_of (inr e) = equals e

pub body_again : (b : BodyTree) → body_of (of_body b) ≡ b
body_again (means f) = refl
body_again (equals e) = refl

abbrev pub macro_code : Coded MacroData
macro_code =
    code_by (ℕ × (List ℕ × (List ParamData × BodyTree)))
    (coded× coded_ℕ (coded× (coded_list coded_ℕ) (coded× (coded_list param_code) (code_by (FormulaTree ⊎ ExprTree) (coded⊎ formula_coded expr_coded) of_body body_of body_again))))
    (λ m. (m.place, (m.name, (m.params, m.body)))) (λ p. record { place = p.0; name = p.1.0; params = p.1.1.0; body = p.1.1.1 }) (λ _. refl)

abbrev of_demand : DemandData → ℕ ⊎ (List RangeData ⊎ FormulaTree)
of_demand apart = inl 0
of_demand (within rs) = inr (inl rs)
of_demand (plain f) = inr (inr f)

abbrev demand_of : ℕ ⊎ (List RangeData ⊎ FormulaTree) → DemandData
demand_of (inl n) = apart
demand_of (inr (inl rs)) = within rs
demand_of (inr (inr f)) = plain f

pub demand_again : (d : DemandData) → demand_of (of_demand d) ≡ d
demand_again apart = refl
demand_again (within rs) = refl
demand_again (plain f) = refl

abbrev pub rule_code : Coded RuleData
rule_code =
    code_by (ℕ × (List ℕ × DemandData))
    (coded× coded_ℕ (coded× (coded_list coded_ℕ) (code_by (ℕ ⊎ (List RangeData ⊎ FormulaTree)) (coded⊎ coded_ℕ (coded⊎ (coded_list range_code) formula_coded)) of_demand demand_of demand_again)))
    (λ r. (r.place, (r.name, r.demand))) (λ p. record { place = p.0; name = p.1.0; demand = p.1.1 }) (λ _. refl)

abbrev side_number : Side → ℕ
side_number sides.Low = 0
side_number sides.High = 1

abbrev side_at : ℕ → Side
side_at k = if k == 0 then sides.Low else sides.High

pub side_again : (s : Side) → side_at (side_number s) ≡ s
side_again sides.Low = refl
side_again sides.High = refl

abbrev pub problem_code : Coded ProblemData
problem_code =
    code_by (ℕ × (ℕ × (List ShapeData × (List ObjectData × (List MacroData × (List RuleData × (List ℕ × List Side)))))))
    (coded× coded_ℕ (coded× coded_ℕ (coded× (coded_list shape_code) (coded× (coded_list object_code) (coded× (coded_list macro_code) (coded× (coded_list rule_code)
    (coded× (coded_list coded_ℕ) (coded_list (code_by ℕ coded_ℕ side_number side_at side_again)))))))))
    (λ d. (d.version, (d.dims, (d.shapes, (d.objects, (d.macros, (d.rules, (d.order, d.sides))))))))
    (λ p. record {
      version = p.0;
      dims = p.1.0;
      shapes = p.1.1.0;
      objects = p.1.1.1.0;
      macros = p.1.1.1.1.0;
      rules = p.1.1.1.1.1.0;
      order = p.1.1.1.1.1.1.0;
      sides = p.1.1.1.1.1.1.1;
    })
    (λ _. refl)
