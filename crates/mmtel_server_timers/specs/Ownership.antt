-- The owner of a request of the server, as a value of the definitions of a run.
use Rattle.mmtel_run_definitions.specs.Ownership.{OfCalls, OfConferences, OfSubscriptions, Owner}
use Rattle.mmtel_server_timers.specs.declared.ownership.Owner as declared
use Rattle.mmtel_server_timers.specs.declared.ownership.Owner.TheVariants as whose

abbrev pub owner_in : declared.Owner → Owner
owner_in whose.Calls = OfCalls
owner_in whose.Subscriptions = OfSubscriptions
owner_in whose.Conferences = OfConferences
