use Rattle.std.proofs.Common.{◌≡◌, ◌-◌, ◌<◌, ℕ, List, [], length, get_or, sym, subst, arith}
use Rattle.std.proofs.lemmas.List.{get_or_read}
use Rattle.std.proofs.lemmas.List.Elements.{All-get_or}
use Rattle.geo_tokens.specs.Names.{NameTable, IsNameTable, IsShapeList}
use Rattle.derivation_text.specs.Lines.{shapes_of, shape_name, HasShape}
use Rattle.derivation_text.proofs.print.shape_name.Goals as goal

-- what is read of a table of names
named : (n : NameTable) (o s : ℕ) (object : List ℕ × List ℕ) (name : List ℕ) → IsNameTable n → HasShape n o s → object ≡ get_or n.objects o object
    → name ≡ get_or n.shapes (get_or object.1 (s - 1) 0) name → name ≡ shape_name n o s
named n o s object name table h e f =
    let listed : IsShapeList (length n.shapes) (shapes_of n o) = All-get_or (λ x. IsShapeList (length n.shapes) x.1) n.objects o ([], []) h.0 table.lists in
    let within : get_or (shapes_of n o) (s - 1) 0 < length n.shapes = All-get_or (λ x. x < length n.shapes) (shapes_of n o) (s - 1) 0 (omega (arith, h.1, h.2)) listed.inside in
    let own : object ≡ get_or n.objects o ([], []) = get_or_read n.objects o object h.0 e ([], []) in
    get_or_read n.shapes (get_or (shapes_of n o) (s - 1) 0) name within (subst (λ (x : List ℕ × List ℕ). name ≡ get_or n.shapes (get_or x.1 (s - 1) 0) name) own f) []

pub returns : goal.returns
returns c =
    let o = c.index-objects-o.result in
    named c.args.names.now c.args.o.0 c.args.place o c.as_bytes.result.now c.shapes-2.ensures.whole c.requires.shape
    (rw (sym c.objects.ensures.value) c.index-objects-o.is) (rw (c.as_bytes.ensures, sym c.shapes.ensures, sym c.shapes-2.ensures.value) c.index-shapes-number.is)
