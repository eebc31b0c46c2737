use Rattle.std.proofs.Common.{rules, ◌≡◌, ◌++◌, [], ◌∷◌, ap, append_assoc, length}
use Rattle.mmtel_http.specs.Requests.{request_of}
use Rattle.mmtel_environment.specs.declared.events.Offer.TheVariants as offer
use Rattle.mmtel_web_service.specs.KeeperCalls.{keeper_call_in}
use Rattle.mmtel_server.proofs.Keeping.{same_if_not_called}
use Rattle.mmtel_server.proofs.Replaced.{put_behind}
use Rattle.mmtel_server.proofs.servers.Server.respond_to_web.Goals as goal

pub returns-in_err-reserve_reply-clause-aborted : goal.returns-in_err-reserve_reply-clause-aborted
returns-in_err-reserve_reply-clause-aborted g c =
    same_if_not_called c.from_residual.result (keeper_call_in c.args.self.now.directory.names (request_of c.args.bytes.now)) (g.K.Keeper.contents c.args.keeper.now)
    (g.K.Keeper.calls c.args.keeper.now) (g.K.Keeper.faults c.args.keeper.now)

pub returns-in-Ok-clause-done : goal.returns-in-Ok-clause-done
returns-in-Ok-clause-done g c =
    let added : c.put_reply.new.out ≡ c.args.out.now ++ offer.Web c.ms-in-Ok.result c.in-Ok.field-0.reply ∷ [] =
    put_behind c.args.out.now c.reserve_reply.new.out c.put_reply.new.out (offer.Web c.ms.result []) (offer.Web c.ms-in-Ok.result c.in-Ok.field-0.reply)
    (length c.items-position.result.now) c.in_ok-reserve_reply.ensures.done (ap length c.items-position.ensures) c.put_reply.ensures
    in λ directory token before state did short. record {
      represents = record {
        same_directory = did.represents.same_directory;
        tokens = did.represents.tokens;
        transactions = did.represents.transactions;
        clock = did.represents.clock;
        steps = did.represents.steps;
        texts = search (rules, did.represents.same_directory, did.represents.texts);
        registered = c.in-Ok.ensures.registered state.registrations did.represents.registered;
        calls = did.represents.calls;
        rooms = did.represents.rooms;
        boxes = did.represents.boxes;
        pending_timers = did.represents.pending_timers;
        waiting = did.represents.waiting;
        no_call_rows = did.represents.no_call_rows;
        no_conference_rows = did.represents.no_conference_rows;
        unfailed = did.represents.unfailed;
      };
      offers = search (rules, added, did.offers, did.represents.same_directory, did.represents.texts, append_assoc before state.offers);
    }
