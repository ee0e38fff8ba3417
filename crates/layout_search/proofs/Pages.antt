-- What was written of a listing.
use Rattle.std.proofs.Common.{ℕ, List, [], ◌∷◌, ◌++◌, Option, Ok, Err, Bool, refl, arith}
use Rattle.std.proofs.lemmas.Grind.{flat_map-append}
use Rattle.geo_base.specs.Tuple.{Tuple}
use Rattle.geo_chan.specs.Written.{Writes, Wrote}
use Rattle.geo_chan.specs.declared.outside.PutFault.{PutFault}
use Rattle.geo_chan.specs.declared.outside.PutFault.TheVariants.{Memory}
use Rattle.geo_chan.proofs.Appending.{appends_none, wants_nothing, wrote_all, wrote_err}
use Rattle.geo_conditions.specs.Walk.{Tree, EndWord}
use Rattle.layout_text.specs.Block.{block_of}
use Rattle.problem_data.specs.Problem.{ProblemData}
use Rattle.layout_search.specs.declared.listing.Ending.{Ending}
use Rattle.layout_search.specs.Page.{IsPage, WritesPage, blocks_of, word_of}

-- a listing that wants memory before its first block
pub page-unbegun : (p : ProblemData) (W : Tree) (most n : ℕ) (w : Option (List ℕ)) (f : ℕ) (q : Bool) (ts : List Tuple) (word : EndWord) → IsPage p W most n ts word → WritesPage p W most n w w f f q q (Err Memory)
page-unbegun p W most n w f q ts word page = record {
  bytes = (ts, word, page, ([], blocks_of p ts, refl, appends_none w));
  cause = record { later = omega arith; failed = λ failed. absurd (cc (failed)); stays = refl };
  quiet = λ h. (h, λ _. refl);
}

module _ (p : ProblemData) (W : Tree) (most n : ℕ) (w0 w1 : Option (List ℕ)) (f0 f1 : ℕ) (q0 q1 : Bool) (ts : List Tuple) (wrote : Wrote w0 w1 f0 f1 q0 q1 (blocks_of p ts)) where
  -- the whole listing
  pub page-written : (e : Ending) → IsPage p W most n ts (word_of e) → WritesPage p W most n w0 w1 f0 f1 q0 q1 (Ok e)
  page-written e page =
      let all = wrote_all w0 w1 f0 f1 q0 q1 e (blocks_of p ts) (blocks_of p ts) wrote refl in
      record { bytes = (ts, page, wrote.bytes); cause = all.cause; quiet = wants_nothing q0 q1 w0 w1 (Ok e) all.quiet }

  -- a listing that is cut off in a block
  pub page-cut : {T : Type 0} (w2 : Option (List ℕ)) (f2 : ℕ) (q2 : Bool) (e : PutFault) (t : Tuple) (rest : List Tuple) (word : EndWord) → Writes {T = T} w1 w2 f1 f2 q1 q2 (Err e) (block_of p t) → IsPage p W most n (ts ++ t ∷ rest) word
      → WritesPage p W most n w0 w2 f0 f2 q0 q2 (Err e)
  page-cut {T} w2 f2 q2 e t rest word cut page =
      let h = wrote_err {T = T} {U = Ending} w0 w1 w2 f0 f1 f2 q0 q1 q2 e (blocks_of p ts) (block_of p t) (blocks_of p rest) (blocks_of p (ts ++ t ∷ rest)) wrote cut (flat_map-append (block_of p) ts (t ∷ rest)) in
      record { bytes = (ts ++ t ∷ rest, word, page, h.bytes); cause = h.cause; quiet = wants_nothing q0 q2 w0 w2 (Err e) h.quiet }
