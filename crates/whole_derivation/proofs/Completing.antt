-- Chains, endings and splits make whole derivations.
use Rattle.std.proofs.Common.{◌≡◌, ℕ, true, Bool, List, [], ◌∷◌, ◌++◌, length, refl, sym, ap, ◌∙◌, subst, append_assoc}
use Rattle.std.specs.List.{All}
use Rattle.std.proofs.lemmas.List.Elements.{All-cons, All-nil, All-append}
use Rattle.geo_conditions.specs.declared.cond.Cond.{Cond}
use Rattle.geo_conditions.specs.Reach.{State, reach}
use Rattle.derivation.specs.declared.event.Event.{Event}
use Rattle.derivation.specs.declared.event.Event.TheVariants.{Drop}
use Rattle.derivation.specs.declared.half.Half.{Half}
use Rattle.derivation.specs.declared.half.Half.TheVariants.{OfPlace, OfSide}
use Rattle.derivation.specs.Covers.{events_of}
use Rattle.derivation.specs.PlaceCovers.{covers_events}
use Rattle.derivation.specs.Chains.{Link, Drops, Bounds, bound_event, link_events, after, Holds, links_events, behind, EachHolds, Leads, Ending, IsGone, IsDead, ending_events, EndHolds, Closes}
use Rattle.derivation.specs.Nodes.{Split, DropNode, Bound, GoneNode, DeadNode, node_events, split_event}
use Rattle.derivation.specs.Valid.{first_part, second_part, change, row, rows}
use Rattle.whole_derivation.specs.Whole.{HalfFits, IsDerivation, Completes}
use Rattle.whole_derivation.proofs.Fitting.{no_more_first, no_more_second, fits_wider, covers_fit, number_fits}

abbrev IsMet : Bool → Type 0
IsMet b = b ≡ true

completes_link : (cs : List Cond) (S : State) (l : Link) → Holds cs S l → Completes cs S (link_events l) (after l S)
completes_link cs S (Drops o s tree) h = λ fs d. record {
  root = DropNode o s tree d.root;
  events = ap (λ (gs : List Event). Drop (record { 0 = o }) s ∷ (events_of tree ++ gs)) d.events;
  valid = All-cons IsMet _ (rows cs (after (Drops o s tree) S) d.root) h.1 d.valid;
  fits = (h.0, h.2, fits_wider S (after (Drops o s tree) S) (no_more_second (OfPlace s) S o) (length cs) d.root d.fits);
}
completes_link cs S (Bounds o side list) h = λ fs d. record {
  root = Bound o side list d.root;
  events = ap (λ (gs : List Event). bound_event o side ∷ (covers_events list ++ gs)) d.events;
  valid = All-cons IsMet _ (rows cs (after (Bounds o side list) S) d.root) h.3 d.valid;
  fits = (h.0, h.1, covers_fit cs S o _ 1 list h.3 h.4, fits_wider S (after (Bounds o side list) S) (no_more_first (OfSide side) S o) (length cs) d.root d.fits);
}

completes_links : (cs : List Cond) (S : State) (ls : List Link) → EachHolds cs S ls → Completes cs S (links_events ls) (behind ls S)
completes_links cs S [] h = λ fs d. d
completes_links cs S (l ∷ ls) h = λ fs d.
    subst (IsDerivation cs S) (sym (append_assoc (link_events l) (links_events ls) fs))
    (completes_link cs S l h.0 (links_events ls ++ fs) (completes_links cs (after l S) ls h.1 fs d))

pub completes_led : (cs : List Cond) (S T : State) (es : List Event) → Leads cs S es T → Completes cs S es T
completes_led cs S T es p = λ fs d.
    subst (λ (gs : List Event). IsDerivation cs S (gs ++ fs)) (sym p.events)
    (completes_links cs S p.links p.each_holds fs (subst (λ (U : State). IsDerivation cs U fs) p.state d))

ending_derives : (cs : List Cond) (S : State) (e : Ending) → EndHolds cs S e → IsDerivation cs S (ending_events e)
ending_derives cs S (IsGone o list) h = record {
  root = GoneNode o list;
  events = refl;
  valid = All-cons IsMet _ [] h.1 (All-nil IsMet);
  fits = (h.0, covers_fit cs S o _ 1 list h.1 h.2);
}
ending_derives cs S (IsDead i) h = record {
  root = DeadNode i;
  events = refl;
  valid = All-cons IsMet _ [] h (All-nil IsMet);
  fits = number_fits cs i S h;
}

pub closes_derives : (cs : List Cond) (S : State) (es : List Event) → Closes cs S es → IsDerivation cs S es
closes_derives cs S es p = subst (IsDerivation cs S) (sym p.events) (completes_led cs S p.state p.chain p.leads (ending_events p.ending) (ending_derives cs p.state p.ending p.holds))

pub split_derives : (cs : List Cond) (S : State) (o : ℕ) (half : Half) (es fs : List Event) → HalfFits S o half → IsDerivation cs (change (first_part half) S o) es → IsDerivation cs (change (second_part half) S o) fs
    → IsDerivation cs S (split_event o half ∷ (es ++ fs))
split_derives cs S o half es fs h a b = record {
  root = Split o half a.root b.root;
  events = ap (λ (gs : List Event). split_event o half ∷ (gs ++ fs)) a.events ∙ ap (λ (gs : List Event). split_event o half ∷ (node_events a.root ++ gs)) b.events;
  valid = All-cons IsMet true (rows cs (change (first_part half) S o) a.root ++ rows cs (change (second_part half) S o) b.root) refl
      (All-append IsMet (rows cs (change (first_part half) S o) a.root) (rows cs (change (second_part half) S o) b.root) a.valid b.valid);
  fits = (
    h,
    fits_wider S (change (first_part half) S o) (no_more_first half S o) (length cs) a.root a.fits,
    fits_wider S (change (second_part half) S o) (no_more_second half S o) (length cs) b.root b.fits,
  );
}
