-- What a search records where it finds no layout: its events have names in the table of the
-- problem, and their lines show that there is none.
use Rattle.std.proofs.Common.{◌≡◌, ◌∙◌, ℕ, zero, suc, ◌+◌, ◌<◌, ◌≤◌, ◌^◌, Bool, true, false, if◌then◌else◌, List, [], length, refl, sym, ap, subst, arith}
use Rattle.std.specs.Prelude.{◌++◌}
use Rattle.std.specs.List.{All}
use Rattle.std.proofs.lemmas.Bool.{cases_lt, false≢true}
use Rattle.std.proofs.lemmas.List.{length-append, length-map, get_or-map, get_or_past}
use Rattle.std.proofs.Math.Logic.{⊎_elim}
use Rattle.geo_tokens.specs.Names.{NameTable}
use Rattle.geo_conditions.specs.declared.cond.Cond.{Cond}
use Rattle.geo_conditions.specs.Reach.{Reach, nowhere, place_in, has, dims}
use Rattle.derivation.specs.declared.event.Event.{Event}
use Rattle.whole_derivation.specs.Whole.{IsDerivation}
use Rattle.derivation_text.specs.Lines.{shapes_of}
use Rattle.printed_derivation.specs.Tables.{IsTableOf}
use Rattle.printed_derivation.specs.Laws.{printed}
use Rattle.printed_derivation.proofs.ReadBack.{is_printed}
use Rattle.problem_data.specs.Problem.{RangeData, ObjectData, no_object, ProblemData}
use Rattle.problem_data.specs.Pieces.{hull, hulls}
use Rattle.problem_data.specs.Places.{place_count}
use Rattle.problem_data.specs.Tuple.{object_of}
use Rattle.problem_data.specs.WellFormed.{IsWellFormed}
use Rattle.problem_text.specs.NameTable.{absent_positions, named_object, name_table}
use Rattle.rule_ground.specs.Start.{whole_reach, first_state}
use Rattle.rule_ground.proofs.Starts.{place-there, reach-at}
use Rattle.layout_search.proofs.AlikeRows.{rows-alike}
use Rattle.command_reply.specs.Accepted.{AreConditions}
use Rattle.search_commands.specs.First.{ShowsNone, SaysNone}

-- an object has as many dimensions as its problem
dimensions-of : (p : ProblemData) → IsWellFormed p → (o : ℕ) → o < length p.objects → dims (first_state p) o ≡ p.dims
dimensions-of p w o h =
    ap (λ (r : Reach). length r.region.lo) (reach-at p o h)
    ∙ length-map (hulls (object_of p o)) (λ (r : RangeData). r.low)
    ∙ length-map (object_of p o).pieces hull
    ∙ (w.objects o no_object h).dimensions

-- the table lists as many places of an object as it has
places-listed : (n : ℕ) (o : ObjectData) → length (named_object n o).1 ≡ place_count o
places-listed n o = length-append o.shapes (absent_positions o.may_be_absent n) ∙ ap (λ (k : ℕ). length o.shapes + k) (at_end o.may_be_absent)
  where
    at_end : (b : Bool) → length (absent_positions b n) ≡ (if b then 1 else 0)
    at_end true = refl
    at_end false = refl

-- a place that an object has is one of those that the table lists
shapes-of : (p : ProblemData) → IsWellFormed p → (o s : ℕ) → o < length p.objects → has (first_state p) o s ≡ true → (1 ≤ s) × (s ≤ length (shapes_of (name_table p) o))
shapes-of p w o s h e =
    let there : length (shapes_of (name_table p) o) ≡ length (named_object (length p.shapes) (object_of p o)).1 =
    ap (λ (x : List ℕ × List ℕ). length x.1) (get_or-map (named_object (length p.shapes)) p.objects o no_object ([], []) h) in
    let many : length (shapes_of (name_table p) o) ≡ place_count (object_of p o) = there ∙ places-listed (length p.shapes) (object_of p o) in
    let place = (place-there (place_count (object_of p o)) s (w.objects o no_object h).few).0 (subst (λ (r : Reach). place_in r.places s ≡ true) (reach-at p o h) e) in
    (place.0, subst (λ (k : ℕ). s ≤ k) (sym many) place.1)

no-place : (s : ℕ) → place_in [] s ≡ true → ⊥
no-place zero e = false≢true e
no-place (suc s) e = false≢true e

-- what is no object has no place
no-object : (p : ProblemData) (o s : ℕ) → length p.objects ≤ o → has (first_state p) o s ≡ true → ⊥
no-object p o s h e =
    let past : length (first_state p) ≤ o = (let m = length-map p.objects whole_reach in omega (arith, m, h)) in
    no-place s (subst (λ (r : Reach). place_in r.places s ≡ true) (get_or_past (first_state p) o nowhere past) e)

-- the names of a problem are a table of its first state
pub table-of : (p : ProblemData) → IsWellFormed p → IsTableOf (name_table p) (first_state p)
table-of p w = record {
  objects = length-map p.objects (named_object (length p.shapes)) ∙ sym (length-map p.objects whole_reach);
  dims = λ o h. dimensions-of p w o (subst (λ (m : ℕ). o < m) (length-map p.objects whole_reach) h);
  shapes = λ o s e. ⊎_elim (λ h. shapes-of p w o s h e) (λ h. absurd (no-object p o s h e)) (cases_lt o (length p.objects));
}

-- what a search records of them shows that there is no layout
pub shown : (p : ProblemData) (cs : List Cond) (es : List Event) → IsWellFormed p → IsDerivation cs (first_state p) es → length cs ≤ 10 ^ 9 → ShowsNone p cs es
shown p cs es w d few = record { root = d.root; tree = d.events; valid = d.valid; printable = is_printed (name_table p) (first_state p) cs es (table-of p w) d few }

-- conditions that stand for the same trees make the same derivations valid
pub shows-alike : (p : ProblemData) (cs ds : List Cond) (es : List Event) → AreConditions p cs → AreConditions p ds → ShowsNone p ds es → ShowsNone p cs es
shows-alike p cs ds es are is h = record {
  root = h.root;
  tree = h.tree;
  valid = subst (All (λ (met : Bool). met ≡ true)) (rows-alike ds cs (is ∙ sym are) (first_state p) h.root) h.valid;
  printable = h.printable;
}

-- what is printed of them says so
pub says : (p : ProblemData) (cs : List Cond) (names : NameTable) (es : List Event) → names ≡ name_table p → ShowsNone p cs es → SaysNone p cs (printed names es)
says p cs names es same h = record { events = es; shows = h; says = ap (λ (n : NameTable). printed n es) same }

-- the same of a text that is those lines behind no others
pub says_behind : (p : ProblemData) (cs : List Cond) (names : NameTable) (es : List Event) (own text : List ℕ) → names ≡ name_table p → ShowsNone p cs es → own ≡ [] → text ≡ own ++ printed names es → SaysNone p cs text
says_behind p cs names es own text same h none is =
    subst (SaysNone p cs) (sym (is ∙ ap (λ (t : List ℕ). t ++ printed names es) none)) (says p cs names es same h)
