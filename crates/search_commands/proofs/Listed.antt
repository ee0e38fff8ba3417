-- What `all` writes is what it replies, or a front part of that.
use Rattle.std.proofs.Common.{◌≡◌, ◌++◌, ℕ, List, refl, ap, sym, ◌∙◌, subst, append_assoc, Option, Ok, Err, None, Some}
use Rattle.std.specs.Prelude.{Bool, IfSome}
use Rattle.geo_base.specs.Tuple.{Tuple}
use Rattle.geo_chan.specs.Written.{Writes, Wrote}
use Rattle.geo_chan.specs.declared.outside.PutFault.{PutFault}
use Rattle.geo_chan.specs.declared.outside.PutFault.TheVariants.{Failed, Memory}
use Rattle.geo_chan.proofs.Appending.{err_same, err_stays, wrote_then}
use Rattle.geo_chan.specs.Causes.{PutCause}
use Rattle.geo_conditions.specs.Walk.{Tree, EndWord}
use Rattle.geo_conditions.specs.Walk as walks
use Rattle.layout_search.specs.declared.listing.Ending.{Ending}
use Rattle.layout_search.specs.FirstLayout.{walk_after}
use Rattle.layout_search.specs.Page.{IsPage, WritesPage, blocks_of, word_of}
use Rattle.problem_data.specs.Problem.{ProblemData}
use Rattle.problem_data.specs.Cells.{IsTuple}
use Rattle.command_input.specs.declared.command.Status.{Status}
use Rattle.command_reply.specs.declared.accepted.Accepted.{Accepted}
use Rattle.command_reply.specs.Accepted.{HasRead}
use Rattle.command_reply.specs.Question.{AnswersInput}
use Rattle.command_reply.specs.Reply.{IsAnswered, WritesReply}
use Rattle.search_commands.specs.All.{AllAnswer, IsFrom, ListsLayouts, SaysListing, last_line, last_status}
use Rattle.search_commands.specs.Listing.{IsListingOf, listing_says}
use Rattle.search_commands.specs.declared.all.ListingReply.{ListingReply}
use Rattle.search_commands.specs.declared.all.ListingReply.TheVariants.{Text, Listing}

-- the tuple of a token is one of the problem
pub from_tuple : (p : ProblemData) (token : Option (List ℕ)) (after : Option Tuple) → IsFrom p token after → IfSome after (IsTuple p)
from_tuple p None None h = tt
from_tuple p None (Some t) h = absurd h
from_tuple p (Some word) None h = absurd h
from_tuple p (Some word) (Some t) h = h.tuple

pub cause_of : {T U : Type 0} (f0 f1 : ℕ) (x : PutFault) → PutCause {T = T} f0 f1 (Err x) → PutCause {T = U} f0 f1 (Err x)
cause_of {T} {U} f0 f1 e h = record { later = h.later; failed = λ x. h.failed (err_same T U e Failed x); stays = err_stays T U f0 f0 f1 e refl h.stays }

module _ (p : ProblemData) (W : Tree) (most n : ℕ) (w0 w1 : Option (List ℕ)) (f0 f1 : ℕ) (q0 q1 : Bool) where
  says : (ts : List Tuple) (word : EndWord) → IsPage p W most n ts word → SaysListing p W most n (blocks_of p ts ++ last_line n word) (last_status word)
  says ts word page = record { layouts = ts; word = word; page = page; says = refl; ends = refl }

  -- the listing was cut off
  pub page_cut : (e : PutFault) → WritesPage p W most n w0 w1 f0 f1 q0 q1 (Err e) → WritesReply (SaysListing p W most n) w0 w1 f0 f1 q0 q1 (Err e)
  page_cut e h =
      let (ts, word, page, (front, back, is, bytes)) = h.bytes in
      record {
        bytes = (blocks_of p ts ++ last_line n word, last_status word, says ts word page, (front, back ++ last_line n word, ap (λ u. u ++ last_line n word) is ∙ append_assoc front back (last_line n word), bytes));
        cause = cause_of {T = Ending} {U = Status} f0 f1 e h.cause;
        quiet = λ q. ((h.quiet q).0, λ m. (h.quiet q).1 (err_same Ending Status e Memory m));
      }

  module _ (w2 : Option (List ℕ)) (f2 : ℕ) (q2 : Bool) (e : Ending) (h : WritesPage p W most n w0 w1 f0 f1 q0 q1 (Ok e)) where
    wrote : Wrote w0 w1 f0 f1 q0 q1 (blocks_of p h.bytes.0)
    wrote = record { bytes = h.bytes.2; same = h.cause.stays; quiet = λ q. (h.quiet q).0 }

    -- the line behind it was written
    pub line_written : {T : Type 0} (u : T) (status : Status) → status ≡ last_status (word_of e) → Writes w1 w2 f1 f2 q1 q2 (Ok u) (last_line n (word_of e)) → WritesReply (SaysListing p W most n) w0 w2 f0 f2 q0 q2 (Ok status)
    line_written {T} u status is k =
        let all = wrote_then w0 w1 w2 f0 f1 f2 q0 q1 q2 (Ok u) (blocks_of p h.bytes.0) (last_line n (word_of e)) (blocks_of p h.bytes.0 ++ last_line n (word_of e)) wrote k refl in
        record {
          bytes = (blocks_of p h.bytes.0 ++ last_line n (word_of e), subst (SaysListing p W most n (blocks_of p h.bytes.0 ++ last_line n (word_of e))) (sym is) (says h.bytes.0 (word_of e) h.bytes.1), all.bytes);
          cause = record { later = all.cause.later; failed = λ x. absurd (cc (x)); stays = all.cause.stays };
          quiet = λ q. ((all.quiet q).0, λ x. absurd (cc (x)));
        }

    -- the line behind it was cut off
    pub line_cut : {T : Type 0} (x : PutFault) → Writes {T = T} w1 w2 f1 f2 q1 q2 (Err x) (last_line n (word_of e)) → WritesReply (SaysListing p W most n) w0 w2 f0 f2 q0 q2 (Err x)
    line_cut {T} x k =
        let all = wrote_then {T = T} w0 w1 w2 f0 f1 f2 q0 q1 q2 (Err x) (blocks_of p h.bytes.0) (last_line n (word_of e)) (blocks_of p h.bytes.0 ++ last_line n (word_of e)) wrote k refl in
        record {
          bytes = (blocks_of p h.bytes.0 ++ last_line n (word_of e), last_status (word_of e), says h.bytes.0 (word_of e) h.bytes.1, all.bytes);
          cause = cause_of {T = T} {U = Status} f0 f2 x all.cause;
          quiet = λ q. ((all.quiet q).0, λ m. absurd ((all.quiet q).1 (err_same T Status x Memory m)));
        }

-- ---- what is listed is an answer

module _ (a : Accepted) (token : Option (List ℕ)) (after : Option Tuple) (most n : ℕ) (input : List ℕ) (read : HasRead input a) (from : IsFrom a.problem token after) where
  lists : (text : List ℕ) (status : Status) → SaysListing a.problem (walk_after a.problem a.conditions.items after) most n text status → ListsLayouts most n token input text status
  lists text status s = record {
    problem = a.problem;
    conditions = a.conditions.items;
    after = after;
    layouts = s.layouts;
    word = s.word;
    accepted = read.accepted;
    are = read.are;
    from = from;
    page = s.page;
    says = s.says;
    ends = s.ends;
  }

  ended : (word : EndWord) (text : List ℕ) (status : Status) → status ≡ last_status word → ListsLayouts most n token input text status → AllAnswer most n token input text status × IsAnswered status
  ended walks.More text status e l = subst (λ (s : Status). AllAnswer most n token input text s × IsAnswered s) (sym e) (subst (ListsLayouts most n token input text) e l, tt)
  ended walks.End text status e l = subst (λ (s : Status). AllAnswer most n token input text s × IsAnswered s) (sym e) (subst (ListsLayouts most n token input text) e l, tt)
  ended walks.OutOfBudget text status e l = subst (λ (s : Status). AllAnswer most n token input text s × IsAnswered s) (sym e) (subst (ListsLayouts most n token input text) e l, tt)

  pub listing_answers : (r : ListingReply) → IsListingOf a after most n r → AnswersInput (AllAnswer most n token) input (listing_says r)
  listing_answers (Text t) h = absurd h
  listing_answers (Listing l) (p, cs, t, m, b) = λ text status s.
      let x : SaysListing a.problem (walk_after a.problem a.conditions.items after) most n text status =
      subst (λ (k : ℕ). SaysListing a.problem (walk_after a.problem a.conditions.items after) most k text status) b
      (subst (λ (k : ℕ). SaysListing a.problem (walk_after a.problem a.conditions.items after) k l.budget text status) m
      (subst (λ (o : Option Tuple). SaysListing a.problem (walk_after a.problem a.conditions.items o) l.most l.budget text status) t
      (subst (λ (ds : _). SaysListing a.problem (walk_after a.problem ds l.after) l.most l.budget text status) cs
      (subst (λ (q : ProblemData). SaysListing q (walk_after q l.conditions.items l.after) l.most l.budget text status) p s))))
      in
      ended x.word text status x.ends (lists text status x)
