-- The sheet of a problem may be said.
use Rattle.std.proofs.Common.{ℕ, zero, suc, ◌-◌, ℤ, pos, negsuc, ◌<◌, List, [], ◌∷◌, ◌++◌, Bool, true, false, length, map, sym, subst, arith}
use Rattle.std.specs.List.{All}
use Rattle.std.proofs.lemmas.Int.{ints}
use Rattle.rule_print.specs.declared.rank.ExprRank.TheVariants as ranks
use Rattle.rule_print.specs.declared.rank.FormulaRank.TheVariants as kinds
use Rattle.rule_print.specs.Canonical.{name}
use Rattle.rule_print.specs.Spelled.{in_list}
use Rattle.rule_print.proofs.Respelled.{AllOf}
use Rattle.rule_print.proofs.ShownTokens.{written_append}
use Rattle.problem_data.specs.Tree.{BodyTree, means, equals}
use Rattle.problem_data.specs.Problem.{BoxData, ShapeData, RangeData, AttributeData, ObjectData, ParamData, MacroData, DemandData, apart, within, plain, RuleData, ProblemData}
use Rattle.problem_data.specs.Accepted.{IsWhollySaid, IsSaid}
use Rattle.problem_data.specs.SomeRules.{no_rule, numbered, HasNumbers, AreRules, with_rules}
use Rattle.problem_data.proofs.Accepted.{accepted_well_formed}
use Rattle.problem_text.specs.Canonical.{int_spelling, range_spelling, ranges_spelling, listed, more_listed, param_spelling, body_spelling, demand_spelling, name_at, shape_names, object_names}
use Rattle.problem_text.specs.NameTable.{absent_names}
use Rattle.problem_text.proofs.PrintingParts.{IsTextNumber, CanWriteInts, CanWriteBox, CanWriteRange, CanWritePieces, CanWriteAttribute, params_again, body_again, demand_again}
use Rattle.problem_text.proofs.PrintingStatements.{CanWriteShape, CanWriteObject, CanWriteMacro, CanWriteRule}
use Rattle.problem_text.proofs.SaysAgain.{says_of, says_written}
use Rattle.json_parts.specs.Form.{IsInt, IsWord, IsFree}
use Rattle.json_parts.specs.Values.{IsRange, AreRanges, IsAttribute, IsBox, IsShape}
use Rattle.json_parts.proofs.Words.{name_word}
use Rattle.json_sheets.specs.Sheet.{IsObjectSheet, IsRuleSheet, IsSheet}
use Rattle.geo_json.specs.SheetOf.{object_sheet_of, macro_text, rule_sheet_of, sheet_of}
use Rattle.json_round_trip.proofs.Semicolons.{AreInner, both, in_list_inner, expr_inner, formula_inner}
use Rattle.json_round_trip.proofs.Free.{shown_free, absent_word}

-- what holds of each holds of all that is made of them
made : {A B : Type 0} (P : A → Type 0) (Q : B → Type 0) (f : A → B) → ((a : A) → P a → Q (f a)) → (xs : List A) → AllOf P xs → All Q (map f xs)
made P Q f g [] h k d l = absurd (omega (arith, l))
made P Q f g (x ∷ xs) h zero d l = g x h.0
made P Q f g (x ∷ xs) h (suc k) d l = made P Q f g xs h.1 k d (omega (arith, l))

each : {A : Type 0} (P Q : A → Type 0) → ((a : A) → P a → Q a) → (xs : List A) → AllOf P xs → All Q xs
each P Q f [] h k d l = absurd (omega (arith, l))
each P Q f (x ∷ xs) h zero d l = f x h.0
each P Q f (x ∷ xs) h (suc k) d l = each P Q f xs h.1 k d (omega (arith, l))

-- ---- numbers, boxes, ranges and attributes

int_right : (z : ℤ) → IsTextNumber z → IsInt z
int_right (pos n) h = (omega (arith, ints, h), omega (arith, ints, h))
int_right (negsuc n) h = (omega (arith, ints, h), omega (arith, ints, h))

ints_right : (vs : List ℤ) → CanWriteInts vs → All IsInt vs
ints_right vs h = each IsTextNumber IsInt int_right vs h.small

box_right : (b : BoxData) → CanWriteBox b → IsBox b
box_right b h = record { offsets = ints_right b.offsets h.offsets; sizes = ints_right b.sizes h.sizes }

shape_right : (s : ShapeData) → CanWriteShape s → IsShape s
shape_right s h = record { boxes = each CanWriteBox IsBox box_right s.boxes h.boxes.each; name = name_word s.name h.name }

range_right : (r : RangeData) → CanWriteRange r → IsRange r
range_right r h = record { low = int_right r.low h.low; high = int_right r.high h.high }

pieces_right : (second : Bool) (rs : List RangeData) → CanWritePieces second rs → AreRanges rs
pieces_right true rs h = each CanWriteRange IsRange range_right rs h.each
pieces_right false [] h = absurd h
pieces_right false (r ∷ []) h = each CanWriteRange IsRange range_right (r ∷ []) (h, tt)
pieces_right false (r ∷ (s ∷ others)) h = absurd h

attribute_right : (a : AttributeData) → CanWriteAttribute a → IsAttribute a
attribute_right a h = record { name = name_word a.name h.name; value = int_right a.value h.value }

-- ---- objects

all_both : {A : Type 0} (P : A → Type 0) (xs ys : List A) → All P xs → All P ys → All P (xs ++ ys)
all_both P [] ys h g k d l = g k d l
all_both P (x ∷ xs) ys h g zero d l = h 0 d (omega arith)
all_both P (x ∷ xs) ys h g (suc k) d l = all_both P xs ys (λ j z m. h (suc j) z (omega (arith, m))) g k d (omega (arith, l))

absent_right : (b : Bool) → All IsWord (absent_names b)
absent_right true zero d l = absent_word
absent_right true (suc k) d l = absurd (omega (arith, l))
absent_right false k d l = absurd (omega (arith, l))

module _ (second : Bool) (names : List (List ℕ)) where
  object_right : (o : ObjectData) → CanWriteObject second names o → IsObjectSheet (object_sheet_of names o)
  object_right o h = record {
    attributes = each CanWriteAttribute IsAttribute attribute_right o.attributes h.attributes;
    name = name_word o.name h.name;
    ranges = each (CanWritePieces second) AreRanges (pieces_right second) o.pieces h.pieces.each;
    shapes = all_both IsWord (map (name_at names) o.shapes) (absent_names o.may_be_absent) (made _ IsWord (name_at names) (λ i g. name_word (name_at names i) g) o.shapes h.shapes.each) (absent_right o.may_be_absent);
  }

  name_there : (os : List ObjectData) → AllOf (CanWriteObject second names) os → (k : ℕ) → k < length os → IsWord (name_at (map (λ (o : ObjectData). o.name) os) k)
  name_there [] h k l = absurd (omega (arith, l))
  name_there (o ∷ os) h zero l = name_word o.name h.0.name
  name_there (o ∷ os) h (suc k) l = name_there os h.1 k (omega (arith, l))

order_right : (names : List (List ℕ)) (n : ℕ) → ((k : ℕ) → k < n → IsWord (name_at names k)) → (is : List ℕ) → All (λ i. i < n) is → All IsWord (map (name_at names) is)
order_right names n there [] h k d l = absurd (omega (arith, l))
order_right names n there (i ∷ is) h zero d l = there i (h 0 0 (omega arith))
order_right names n there (i ∷ is) h (suc k) d l = order_right names n there is (λ j z m. h (suc j) z (omega (arith, m))) k d (omega (arith, l))

-- ---- macros and rules

more_params_inner : (ps : List ParamData) → AreInner (more_listed param_spelling ps)
more_params_inner [] = tt
more_params_inner (p ∷ ps) = (tt, (tt, (tt, (tt, more_params_inner ps))))

params_inner : (ps : List ParamData) → AreInner (listed param_spelling ps)
params_inner [] = tt
params_inner (p ∷ ps) = (tt, (tt, (tt, more_params_inner ps)))

body_inner : (b : BodyTree) → AreInner (body_spelling b)
body_inner (means f) = (tt, formula_inner kinds.Equivalence f)
body_inner (equals e) = (tt, expr_inner ranks.Sum e)

int_inner : (z : ℤ) → AreInner (int_spelling z)
int_inner (pos n) = (tt, tt)
int_inner (negsuc n) = (tt, (tt, tt))

range_inner : (r : RangeData) → AreInner (range_spelling r)
range_inner r = both (int_spelling r.low) _ (int_inner r.low) (tt, int_inner r.high)

ranges_inner : (rs : List RangeData) → AreInner (ranges_spelling rs)
ranges_inner [] = tt
ranges_inner (r ∷ rs) = both (range_spelling r) (ranges_spelling rs) (range_inner r) (ranges_inner rs)

demand_inner : (d : DemandData) → AreInner (demand_spelling d)
demand_inner apart = (tt, tt)
demand_inner (within rs) = (tt, ranges_inner rs)
demand_inner (plain f) = formula_inner kinds.Equivalence f

macro_right : (m : MacroData) → CanWriteMacro m → IsFree (macro_text m)
macro_right m h =
    shown_free (name m.name ∷ (in_list (listed param_spelling m.params) ++ body_spelling m.body))
    (h.name, written_append (in_list (listed param_spelling m.params)) (body_spelling m.body) (params_again m.params h.params).good (body_again m.body h.body).good)
    (tt, both (in_list (listed param_spelling m.params)) (body_spelling m.body) (in_list_inner (listed param_spelling m.params) (params_inner m.params)) (body_inner m.body))

rule_right : (r : RuleData) → CanWriteRule r → IsRuleSheet (rule_sheet_of r)
rule_right r h = record { body = shown_free (demand_spelling r.demand) (demand_again r.demand h.demand).good (demand_inner r.demand); name = name_word r.name h.name }

-- of the rules with these numbers
rules_right : (rs : List RuleData) → AllOf CanWriteRule rs → (keep : List ℕ) → HasNumbers (length rs) keep → All IsRuleSheet (map rule_sheet_of (map (numbered rs) keep))
rules_right rs h [] there k d l = absurd (omega (arith, l))
rules_right rs h (n ∷ keep) there zero d l =
    let m = there 0 0 (omega arith) in
    each CanWriteRule (λ (r : RuleData). IsRuleSheet (rule_sheet_of r)) rule_right rs h (n - 1) no_rule (omega (arith, m.0, m.1))
rules_right rs h (n ∷ keep) there (suc k) d l = rules_right rs h keep (λ j z m. there (suc j) z (omega (arith, m))) k d (omega (arith, l))

-- ---- the sheet

with_right : (p : ProblemData) → IsWhollySaid p → (keep : List ℕ) → AreRules p keep → IsSheet (sheet_of (with_rules p keep))
with_right p s keep kept =
    let w = says_written s.text p (says_of s.text p s.accepts) in
    let well = accepted_well_formed s.text p s.accepts in
    record {
      dims = w.dims;
      version = w.version;
      macros = made CanWriteMacro IsFree macro_text macro_right p.macros w.macros;
      objects = made _ IsObjectSheet (object_sheet_of (shape_names p)) (object_right _ (shape_names p)) p.objects w.objects;
      order = order_right (object_names p) (length p.objects) (name_there _ (shape_names p) p.objects w.objects) p.order well.order;
      rules = rules_right p.rules w.rules keep kept.there;
      shapes = each CanWriteShape IsShape shape_right p.shapes w.shapes;
    }

pub sheet_right : (p : ProblemData) → IsSaid p → IsSheet (sheet_of p)
sheet_right p s = subst (λ (u : ProblemData). IsSheet (sheet_of u)) (sym s.is) (with_right s.whole s.said s.keep s.kept)
