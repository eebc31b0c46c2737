-- One event, once its step has begun: the outputs where memory ran out in it, or while the CDRs that waited at its end were handed over.
use Rattle.std.proofs.Common.{ℕ, Bool, List, ◌++◌, refl}
use Rattle.mmtel_directory.specs.declared.directories.Directory.{Directory}
use Rattle.mmtel_environment.specs.declared.events.Offer.{Offer}
use Rattle.mmtel_run_definitions.specs.Events.{ParsedEvent}
use Rattle.mmtel_run_definitions.specs.ShortRuns.{IsShort}
use Rattle.mmtel_run_definitions.specs.Transitions.{RunState, after_event, after_parsed_event, with_next_step}
use Rattle.mmtel_server.specs.Follows.{AddsOfferPrefix, Follows, NumbersNeverFall}
use Rattle.mmtel_server.specs.Representation.{RepresentsWithOffers}
use Rattle.mmtel_server.specs.declared.servers.Server.{Server}
use Rattle.mmtel_server.proofs.Grows.{begins, cut_of, ends, grows_on, met_grows, prefix_of, prefix_on, short_of}
use Rattle.mmtel_server.proofs.Runs.{clocked_did, event_after_step_begun}

module _ (law : NumbersNeverFall) (old mid : Server) (out : List Offer) (at : ℕ) (begin : Follows old out mid out (λ d token. with_next_step)) (x : Directory → ParsedEvent) (took : Bool) where
  module _ (d : Directory) (token : List ℕ) (before : List Offer) (w : RunState) (did : RepresentsWithOffers d token before old out w) (short : IsShort (after_event d token at (x d) took w)) where
    abbrev there : RunState
    there = record (with_next_step w) { clock = at }

    abbrev done : RunState
    done = after_parsed_event d token at (x d) there

    clocked : RepresentsWithOffers d token before (record mid { clock = at }) out there
    clocked =
        clocked_did d token before out mid at (with_next_step w)
        (begin d token before w did (short_of (with_next_step w) (after_event d token at (x d) took w) (event_after_step_begun law d token at (x d) took w) short))

    few : IsShort done
    few = short_of done (after_event d token at (x d) took w) (ends law d token at took done) short

  -- memory ran out in it
  pub broke_meeting : (now : List Offer) → AddsOfferPrefix (record mid { clock = at }) out now (λ d token. after_parsed_event d token at (x d)) → AddsOfferPrefix old out now (λ d token. after_event d token at (x d) took)
  broke_meeting now breaks d token before w did short =
      let left : RunState = done d token before w did short in
      let all : RunState = after_event d token at (x d) took w in
      let cut = breaks d token before (there d token before w did short) (clocked d token before w did short) (few d token before w did short) in
      (cut.0, prefix_on now (before ++ left.offers) (before ++ all.offers) cut.1 (prefix_of before (before ++ left.offers) left all (ends law d token at took left) refl))

  -- memory ran out while the CDRs that waited were handed over
  pub broke_handing : (t : Server) (now : List Offer) → Follows (record mid { clock = at }) out t now (λ d token. after_parsed_event d token at (x d)) →
      AddsOfferPrefix old out now (λ d token. after_event d token at (x d) took)
  broke_handing t now follows d token before w did short =
      let from : RunState = there d token before w did short in
      let left : RunState = done d token before w did short in
      let has = follows d token before from (clocked d token before w did short) (few d token before w did short) in
      let first = begins w in
      cut_of before out now w left (after_event d token at (x d) took w)
      (grows_on w from left (record { acts = first.acts; steps = first.steps; drawn = first.drawn; front = first.front }) (met_grows law d token at (x d) from))
      (ends law d token at took left) did.offers has.offers
