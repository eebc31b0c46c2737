-- What is known of a link over the network: how many of its calls for input and for output have failed so far.
use Rattle.std.specs.Prelude.{ℕ}
use Rattle.mmtel_sockets.specs.declared.links.NetLink.{NetLink}

abbrev pub net_arrival_faults : NetLink → ℕ
net_arrival_faults link = link.arrival_faults

abbrev pub net_delivery_faults : NetLink → ℕ
net_delivery_faults link = link.delivery_faults
