-- Folding: conditions that are true or false on every tuple go.
use Rattle.std.specs.Prelude.{ℕ, ◌+◌, not, Bool, false, if◌then◌else◌, List, [], ◌∷◌, length, ℤ, pos, ◌-ℤ◌, int_lt}
use lib.Signed.{le_z}
use Rattle.geo_conditions.specs.Form.{Sum}
use Rattle.linear_conditions.specs.declared.verdict.Verdict.{Verdict}
use Rattle.linear_conditions.specs.declared.verdict.Verdict.TheVariants.{Holds, Fails, Open}
use Rattle.linear_conditions.specs.CondTree.{CondTree, linear, shape_is, shape_is_not, at_least, no_conds, a_cond, conds}
use Rattle.linear_conditions.specs.Sums.{has_terms}

-- the condition that is always true, and the one that never is
abbrev pub always : CondTree
always = at_least (pos 0) no_conds

abbrev pub never : CondTree
never = at_least (pos 1) no_conds

abbrev pub certain : Bool → CondTree
certain b = if b then always else never

-- a node without children
abbrev pub bare_verdict : ℤ → Verdict
bare_verdict n = if le_z n (pos 0) then Holds else Fails

-- what a folded condition says for certain
abbrev pub verdict : CondTree → Verdict
verdict (linear f) = Open
verdict (shape_is o s) = Open
verdict (shape_is_not o s) = Open
verdict (at_least n no_conds) = bare_verdict n
verdict (at_least n (a_cond c cs)) = Open

-- a form that must be at most 0; one without terms is its constant
abbrev pub fold_linear : Sum → CondTree
fold_linear f = if has_terms f then linear f else certain (le_z f.constant (pos 0))

abbrev pub count_holding : List CondTree → ℕ
count_holding [] = 0
count_holding (c ∷ cs) = (elim (verdict c) [ Holds ↦ 1 | Fails ↦ 0 | Open ↦ 0 ]) + count_holding cs

abbrev pub still_open : List CondTree → List CondTree
still_open [] = []
still_open (c ∷ cs) = elim (verdict c) [ Holds ↦ still_open cs | Fails ↦ still_open cs | Open ↦ c ∷ still_open cs ]

-- at least n of conditions that are open, where n is above 0 and they are as many: one child alone is itself
abbrev pub one_or_node : ℤ → List CondTree → CondTree
one_or_node n [] = at_least n no_conds
one_or_node n (c ∷ []) = c
one_or_node n (c ∷ (d ∷ cs)) = at_least n (conds (c ∷ (d ∷ cs)))

-- at least n of conditions that are open
abbrev pub fold_open : ℤ → List CondTree → CondTree
fold_open n cs = if le_z n (pos 0) then always else if int_lt (pos (length cs)) n then never else one_or_node n cs

-- at least n of conditions: those that hold lower n by one each
abbrev pub fold_count : ℤ → List CondTree → CondTree
fold_count n cs = fold_open (n -ℤ pos (count_holding cs)) (still_open cs)

-- all of conditions, or one of them
abbrev pub joined : Bool → List CondTree → CondTree
joined all cs = fold_count (if all then pos (length cs) else pos 1) cs

-- whether a condition decides: one that fails among all, one that holds among some
abbrev pub decides : Bool → CondTree → Bool
decides all c = elim (verdict c) [ Holds ↦ not all | Fails ↦ all | Open ↦ false ]
