-- What holds of each value that tokens spell: each object has a shape, and each of its ranges a
-- piece, of which version 1 has one alone; and there no object may be absent.
use Rattle.std.proofs.Common.{◌≡◌, ◌<◌, ℕ, zero, suc, List, [], ◌∷◌, length, Bool, true, false, ◌==◌, refl, subst, arith}
use Rattle.std.specs.Prelude.{None, Some, All}
use Rattle.std.specs.List.{filter_map}
use Rattle.std.proofs.lemmas.List.Elements.{All-cons, All-head, All-tail}
use Rattle.geo_tokens.specs.declared.token.Token.{Token}
use Rattle.geo_tokens.specs.Words.{Lang, Pure, Bind, cut, both, Either, left, right, there, not_there, UpTo, Many}
use Rattle.rule_syntax.specs.declared.tree.PlacedName.{PlacedName}
use Rattle.problem_data.specs.declared.tree.RangeText.{RangeText}
use Rattle.problem_data.specs.Tree.{ObjectTree, StatementTree, a_shape, an_object, an_order, some_sides, a_macro, a_rule, ProblemTree}
use Rattle.rule_syntax.specs.Grammar.{Named}
use Rattle.problem_data.specs.Parts.{as_object}
use Rattle.problem_data.specs.Faults.{count_of}
use Rattle.problem_data.specs.Grammar.{OneOrMore, Listed, RangeWords, ShapeList, ShapesWords, PiecesWords, is_second, ShapeWords, ObjectWords, OrderWords, SidesWords, MacroWords, RuleWords, StatementWords, ProblemWords}

-- P holds of each value that a list of the language spells
abbrev pub Yields : {A : Type 0} → Lang A → (A → Type 0) → Type 0
Yields {A} L P = (a : A) (w : List Token) → L (Some a) w → P a

bind_yields : {A B : Type 0} (L : Lang A) (M : A → Lang B) (Q : A → Type 0) (P : B → Type 0) → Yields L Q → ((a : A) → Q a → Yields (M a) P) → Yields (Bind L M) P
bind_yields L M Q P l m b w (cut e x) = absurd (cc)
bind_yields L M Q P l m b w (both a x y la mb e) = m a (l a x la) b y mb

-- the first part may spell anything
then_yields : {A B : Type 0} (L : Lang A) (M : A → Lang B) (P : B → Type 0) → ((a : A) → Yields (M a) P) → Yields (Bind L M) P
then_yields {A} L M P m = bind_yields L M (λ a. Unit {0}) P (λ a w x. tt) (λ a x. m a)

pure_yields : {A : Type 0} (a : A) (P : A → Type 0) → P a → Yields (Pure a) P
pure_yields a P p b w (e, empty) = let same : a ≡ b = (cc) in subst P same p

either_yields : {A : Type 0} (L M : Lang A) (P : A → Type 0) → Yields L P → Yields M P → Yields (Either L M) P
either_yields L M P l m a w (left x) = l a w x
either_yields L M P l m a w (right x) = m a w x

no_elements : {A : Type 0} (P : A → Type 0) → All P []
no_elements P k d h = absurd (omega arith)

up_to_yields : {A : Type 0} (L : Lang A) (P : A → Type 0) (k : ℕ) → Yields L P → Yields (UpTo L k) (All P)
up_to_yields L P zero l xs w x = pure_yields [] (All P) (no_elements P) xs w x
up_to_yields {A} L P (suc k) l xs w (there x) =
    bind_yields L (λ a. Bind (UpTo L k) (λ others. Pure (a ∷ others))) P (All P) l
    (λ a p. bind_yields (UpTo L k) (λ others. Pure (a ∷ others)) (All P) (All P) (up_to_yields L P k l) (λ others all. pure_yields (a ∷ others) (All P) (All-cons P a others p all)))
    xs w x
up_to_yields L P (suc k) l xs w (not_there e empty) = let same : [] ≡ xs = (cc) in subst (All P) same (no_elements P)

many_yields : {A : Type 0} (L : Lang A) (P : A → Type 0) → Yields L P → Yields (Many L) (All P)
many_yields L P l xs w (k, x) = up_to_yields L P k l xs w x

-- there is a piece, and in version 1 no other
abbrev pub HasPieces : Bool → List RangeText → Type 0
HasPieces second rs = (0 < length rs) × (second ≡ false → length rs ≡ 1)

-- an object has at least one shape, and each of its ranges a piece
pub record HasParts (second : Bool) (o : ObjectTree) : Type 0 where
  pub shapes : 0 < length o.shapes
  pub present : second ≡ false → o.absent ≡ None
  pub pieces : All (HasPieces second) o.pieces

abbrev pub IsFilled : Bool → StatementTree → Type 0
IsFilled second (an_object o) = HasParts second o
IsFilled second (a_shape s) = Unit {0}
IsFilled second (an_order o) = Unit {0}
IsFilled second (some_sides s) = Unit {0}
IsFilled second (a_macro m) = Unit {0}
IsFilled second (a_rule r) = Unit {0}

some_listed : {A : Type 0} (L : Lang A) → Yields (Listed L) (λ xs. 0 < length xs)
some_listed {A} L = then_yields L _ (λ (xs : List A). 0 < length xs) (λ a. then_yields _ _ (λ (xs : List A). 0 < length xs) (λ others. pure_yields (a ∷ others) (λ (xs : List A). 0 < length xs) (omega arith)))

one_or_more_yields : {A : Type 0} (L : Lang A) (P : A → Type 0) → Yields L P → Yields (OneOrMore L) (All P)
one_or_more_yields L P l = bind_yields L _ P (All P) l (λ a p. bind_yields _ _ (All P) (All P) (many_yields L P l) (λ others all. pure_yields (a ∷ others) (All P) (All-cons P a others p all)))

pieces_yields : (second : Bool) → Yields (PiecesWords second) (HasPieces second)
unfolding PiecesWords
pieces_yields false = then_yields _ _ (HasPieces false) (λ r. pure_yields (r ∷ []) (HasPieces false) (omega arith, λ e. refl))
pieces_yields true = λ rs w x. (some_listed RangeWords rs w x, λ e. absurd cc)

-- there is a shape, and in version 1 no word behind it
abbrev HasShapes : Bool → ShapeList → Type 0
HasShapes second ss = (0 < length ss.0) × (second ≡ false → ss.1 ≡ None)

shapes_yields : (text : List ℕ) (second : Bool) → Yields (ShapesWords text second) (HasShapes second)
unfolding ShapesWords
shapes_yields text false = bind_yields _ _ (λ (ss : List PlacedName). 0 < length ss) (HasShapes false) (some_listed (Named text)) (λ ss some. pure_yields (ss, None) (HasShapes false) (some, λ e. refl))
shapes_yields text true = then_yields _ _ (HasShapes true) (λ a. then_yields _ _ (HasShapes true) (λ r. pure_yields (a ∷ r.0, r.1) (HasShapes true) (omega arith, λ e. absurd cc)))

shape_yields : (text : List ℕ) (second : Bool) → Yields (ShapeWords text) (IsFilled second)
unfolding ShapeWords
shape_yields text second = then_yields _ _ (IsFilled second) (λ t. then_yields _ _ (IsFilled second) (λ a. then_yields _ _ (IsFilled second) (λ bs. then_yields _ _ (IsFilled second) (λ e. pure_yields _ (IsFilled second) tt))))

order_yields : (text : List ℕ) (second : Bool) → Yields (OrderWords text) (IsFilled second)
unfolding OrderWords
order_yields text second = then_yields _ _ (IsFilled second) (λ t. then_yields _ _ (IsFilled second) (λ ns. then_yields _ _ (IsFilled second) (λ e. pure_yields _ (IsFilled second) tt)))

sides_yields : (second : Bool) → Yields SidesWords (IsFilled second)
unfolding SidesWords
sides_yields second = then_yields _ _ (IsFilled second) (λ t. then_yields _ _ (IsFilled second) (λ ss. then_yields _ _ (IsFilled second) (λ e. pure_yields _ (IsFilled second) tt)))

macro_yields : (text : List ℕ) (n : ℕ) (second : Bool) → Yields (MacroWords text n) (IsFilled second)
unfolding MacroWords
macro_yields text n second = then_yields _ _ (IsFilled second) (λ t. then_yields _ _ (IsFilled second) (λ a. then_yields _ _ (IsFilled second) (λ ps. then_yields _ _ (IsFilled second) (λ b. then_yields _ _ (IsFilled second) (λ e. pure_yields _ (IsFilled second) tt)))))

rule_yields : (text : List ℕ) (n : ℕ) (second : Bool) → Yields (RuleWords text n) (IsFilled second)
unfolding RuleWords
rule_yields text n second = then_yields _ _ (IsFilled second) (λ t. then_yields _ _ (IsFilled second) (λ a. then_yields _ _ (IsFilled second) (λ c. then_yields _ _ (IsFilled second) (λ d. then_yields _ _ (IsFilled second) (λ e. pure_yields _ (IsFilled second) tt)))))

object_yields : (text : List ℕ) (second : Bool) → Yields (ObjectWords text second) (IsFilled second)
unfolding ObjectWords
object_yields text second =
    then_yields _ _ (IsFilled second) (λ t. then_yields _ _ (IsFilled second) (λ a. then_yields _ _ (IsFilled second) (λ u.
    bind_yields _ _ (HasShapes second) (IsFilled second) (shapes_yields text second) (λ ss has.
    then_yields _ _ (IsFilled second) (λ v. bind_yields _ _ (All (HasPieces second)) (IsFilled second) (one_or_more_yields (PiecesWords second) (HasPieces second) (pieces_yields second)) (λ ps each.
    then_yields _ _ (IsFilled second) (λ vs. then_yields _ _ (IsFilled second) (λ e. pure_yields _ (IsFilled second) (record { shapes = has.0; present = has.1; pieces = each })))))))))

statement_yields : (text : List ℕ) (n : ℕ) (second : Bool) → Yields (StatementWords text n second) (IsFilled second)
unfolding StatementWords
statement_yields text n second =
    either_yields _ _ (IsFilled second) (shape_yields text second) (either_yields _ _ (IsFilled second) (object_yields text second) (either_yields _ _ (IsFilled second) (order_yields text second)
    (either_yields _ _ (IsFilled second) (sides_yields second) (either_yields _ _ (IsFilled second) (macro_yields text n second) (rule_yields text n second)))))

-- each statement of a text of this version is filled
abbrev pub AreFilled : ProblemTree → Type 0
AreFilled p = All (IsFilled (count_of p.version.value == 2)) p.statements

pub problem_yields : (text : List ℕ) (n : ℕ) → Yields (ProblemWords text n) AreFilled
unfolding ProblemWords
problem_yields text n =
    then_yields _ _ AreFilled (λ a. then_yields _ _ AreFilled (λ v. then_yields _ _ AreFilled (λ b. then_yields _ _ AreFilled (λ d.
    bind_yields _ _ (All (IsFilled (is_second v))) AreFilled (many_yields (StatementWords text n (is_second v)) (IsFilled (is_second v)) (statement_yields text n (is_second v))) (λ ss all.
    then_yields _ _ AreFilled (λ e. pure_yields _ AreFilled all))))))

pub objects_have_parts : (second : Bool) (ss : List StatementTree) → All (IsFilled second) ss → All (HasParts second) (filter_map as_object ss)
objects_have_parts second [] all = no_elements (HasParts second)
objects_have_parts second (an_object o ∷ ss) all = All-cons (HasParts second) o (filter_map as_object ss) (All-head (IsFilled second) (an_object o) ss all) (objects_have_parts second ss (All-tail (IsFilled second) (an_object o) ss all))
objects_have_parts second (a_shape s ∷ ss) all = objects_have_parts second ss (All-tail (IsFilled second) (a_shape s) ss all)
objects_have_parts second (an_order o ∷ ss) all = objects_have_parts second ss (All-tail (IsFilled second) (an_order o) ss all)
objects_have_parts second (some_sides s ∷ ss) all = objects_have_parts second ss (All-tail (IsFilled second) (some_sides s) ss all)
objects_have_parts second (a_macro m ∷ ss) all = objects_have_parts second ss (All-tail (IsFilled second) (a_macro m) ss all)
objects_have_parts second (a_rule r ∷ ss) all = objects_have_parts second ss (All-tail (IsFilled second) (a_rule r) ss all)
