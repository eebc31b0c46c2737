use Rattle.std.proofs.Common.{◌≡◌, take}
use Rattle.mmtel_script.specs.Listing.{listing_of}
use Rattle.mmtel_script.proofs.listings.listing.Given as goal

abbrev pub invariant-loop-offer : goal.invariant-loop-offer
invariant-loop-offer l = l.out ≡ listing_of (take l.offer-index l.offers)
