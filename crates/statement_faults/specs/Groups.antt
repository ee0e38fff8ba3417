-- The faults of statements by groups of kinds.
use Rattle.std.specs.Prelude.{ℕ, List, ◌⊎◌}
use Rattle.problem_data.specs.declared.fault.Fault.{Fault}
use Rattle.problem_data.specs.Parts.{Parts}
use Rattle.problem_data.specs.Faults.{Among, VersionFault, DimsFault, ShapesFault, ObjectsFault, OrderFault, SidesFault, MacrosFault, RulesFault, shape_names, object_names}

abbrev pub HeadFault : Parts → Fault → Type 0
HeadFault p f = VersionFault p.version f ⊎ DimsFault p.version p.dims f

-- `made` are the names of the shapes
abbrev pub ObjectOrOrderFault : ℕ → List (List ℕ) → Parts → Fault → Type 0
ObjectOrOrderFault k made p f = ObjectsFault k made p.objects f ⊎ Among (OrderFault (object_names p.objects)) p.orders f

abbrev pub NamingFault : ℕ → Parts → Fault → Type 0
NamingFault k p f = ShapesFault k p.shapes f ⊎ ObjectOrOrderFault k (shape_names p.shapes) p f

abbrev pub TailFault : ℕ → Parts → Fault → Type 0
TailFault k p f = Among (SidesFault k) p.sides f ⊎ MacrosFault p.macros f ⊎ RulesFault k p.rules f
