use Rattle.mmtel_server.specs.Theorems.{OffersAreOfRun}
use Rattle.mmtel_server.proofs.theorems.servers_offer_what_runs_give.Goals as goal

gives : OffersAreOfRun
gives directory token loaded recorded server out went = record { fuel = went.fuel; enough = went.enough; exact = went.represents.offers }

pub returns : goal.returns
returns c = record {
  exact = gives;
  noninterference = λ directory token loaded recorded server out went. c.runs_keep_noninterference.ensures.offers directory token loaded recorded out (gives directory token loaded recorded server out went);
}
