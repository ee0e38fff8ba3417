-- The names in sight with their kinds, and the fields of objects and boxes.
use Rattle.std.specs.Prelude.{ℕ, Bool, true, false, ◌||◌, nat_lt, if◌then◌else◌, List, [], ◌∷◌, Option, Some, None, codes}
use Rattle.std.specs.Option.{option_map, option_map_or}
use Rattle.std.specs.List.{list_any}
use Rattle.std.specs.Str.{bytes_eq}
use Rattle.problem_data.specs.declared.tree.ParamKind.{ParamKind}
use Rattle.problem_data.specs.declared.tree.ParamKind.TheVariants as kinds
use Rattle.problem_data.specs.Problem.{ObjectData, ParamData, MacroData, ProblemData}
use Rattle.problem_data.specs.Value.{object_position, macro_position, dimension_of}
use Rattle.problem_data.specs.Truth.{macro_of}

-- variables and parameters in sight with their kinds, the innermost first
abbrev pub Sight : Type 0
Sight = List ParamData

abbrev pub binding : List ℕ → ParamKind → Sight → Sight
binding n k outer = record { name = n; kind = k } ∷ outer

abbrev pub kind_of_object : ProblemData → List ℕ → Option ParamKind
kind_of_object p n = option_map (λ o. kinds.Object) (object_position p n)

-- what a name stands for: the innermost in sight, else the object of that name; None where there is nothing
abbrev pub kind_of : ProblemData → Sight → List ℕ → Option ParamKind
kind_of p [] n = kind_of_object p n
kind_of p (q ∷ outer) n = if bytes_eq n q.name then Some q.kind else kind_of p outer n

abbrev pub same_kind : ParamKind → ParamKind → Bool
same_kind kinds.Int kinds.Int = true
same_kind kinds.Int kinds.Object = false
same_kind kinds.Int kinds.Box = false
same_kind kinds.Object kinds.Int = false
same_kind kinds.Object kinds.Object = true
same_kind kinds.Object kinds.Box = false
same_kind kinds.Box kinds.Int = false
same_kind kinds.Box kinds.Object = false
same_kind kinds.Box kinds.Box = true

-- the macro at this position, where its name stands before the name of the statement that calls it
abbrev pub macro_before : ProblemData → ℕ → ℕ → Option MacroData
macro_before p statement k = if nat_lt (macro_of p k).place statement then Some (macro_of p k) else None

-- the macro of this name, where its own name stands before the name of the statement that calls it
abbrev pub macro_called : ProblemData → ℕ → List ℕ → Option MacroData
macro_called p statement name = option_map_or (macro_before p statement) (macro_position p name) None

-- ---- fields

-- a letter and a digit that name one of the first k dimensions, as x1 or t2
abbrev pub names_dimension : ℕ → ℕ → List ℕ → Bool
names_dimension k letter n = option_map_or (λ d. nat_lt d k) (dimension_of letter n) false

-- some object lists an attribute of this name
abbrev pub lists_attribute : ObjectData → List ℕ → Bool
lists_attribute o n = list_any (λ a. bytes_eq n a.name) o.attributes

abbrev pub is_attribute : ProblemData → List ℕ → Bool
is_attribute p n = list_any (λ o. lists_attribute o n) p.objects

-- objects have id, sid, x1 to xk and each attribute that some object lists
abbrev pub is_object_field : ProblemData → List ℕ → Bool
is_object_field p n = bytes_eq n (codes "id") || bytes_eq n (codes "sid") || names_dimension p.dims 120 n || is_attribute p n

-- boxes have t1 to tk and l1 to lk
abbrev pub is_box_field : ProblemData → List ℕ → Bool
is_box_field p n = names_dimension p.dims 116 n || names_dimension p.dims 108 n
