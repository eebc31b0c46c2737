-- How web connections are read, between the calls that pass outputs to a link.
use Rattle.std.proofs.Common.{◌≡◌, ◌+◌, ◌-◌, ℕ, zero, suc, List, [], ◌∷◌, ◌++◌, drop, length, refl, sym, ap, ◌∙◌, subst, append-nil, append_assoc, Option, Some, None, arith, inl, inr}
use Rattle.std.specs.Prelude.{◌⊎◌}
use Rattle.std.specs.Option.{option_map}
use Rattle.mmtel_delivery.specs.Delivery.{IsBoundStill, LostNoMore, RoseBy, losses_if_exposed, losses_in, new_losses}
use Rattle.mmtel_link.specs.LinkStates.{LinkCalls, LinkInput, LinkOutput}
use Rattle.mmtel_environment.specs.Counts.{Rose}
use Rattle.mmtel_environment.specs.declared.events.Event.{Event}
use Rattle.mmtel_environment.specs.declared.events.Event.TheVariants as event
use Rattle.mmtel_types.specs.declared.addrs.Addr.{Addr}
use Rattle.mmtel_server.specs.DriveEffects.{AddsOne, EachRead, IsCalledTimes, IsCalledWithin, IsRead, ReadEach, ReceivesMore, StaysOrRises, after_calls, events_to_come}
use Rattle.mmtel_server.proofs.Received.{rise_then, to_come_then}
use Rattle.mmtel_serve.specs.ServeEffects.{EachReadBut, IsReadBut, ReadsBetween, ReadsButLast}

-- ---- a count that rose by so much

rises_then : (j k a b c : ℕ) → RoseBy j a b → RoseBy k b c → RoseBy (j + k) a c
rises_then j k a b c one other = omega (arith, one, other)

loses_then : (unread x y z a b c : ℕ) → RoseBy (unread + (y - x)) a b → RoseBy (z - y) b c → RoseBy (unread + (z - x)) a c
loses_then unread x y z a b c one other = omega (arith, one, other)

reads_on : (j k lost a b c : ℕ) → RoseBy (j + lost) a b → RoseBy k b c → RoseBy ((j + k) + lost) a c
reads_on j k lost a b c one other = omega (arith, one, other)

stays_on : (much a b c : ℕ) → RoseBy much a b → StaysOrRises b c → RoseBy much a c
stays_on much a b c one (inl same) = omega (arith, one, same)
stays_on much a b c one (inr rose) = omega (arith, one, rose)

-- ---- the reads of web connections

-- no further event
none_but : (es : List Event) → EachReadBut 0 es []
none_but [] = refl
none_but (e ∷ es) = refl

pub reads_nothing : (input : Option LinkInput) (given : Option LinkOutput) (giving : ℕ) → ReadsBetween input input given given giving giving
reads_nothing None given giving = tt
reads_nothing (Some input) given giving = record { reads = []; unread = 0; parts = sym (append-nil input.reads); each = none_but (events_to_come input); rose = omega arith }

-- one that was read to the end of its request, unless a read failed
one_but : (a b count : ℕ) (e : Event) → IsRead a b count e → (unread : ℕ) × IsReadBut unread count e × RoseBy unread a b
one_but a b count (event.Datagram from at bytes) is = (0, refl, omega (arith, is))
one_but a b count (event.Web at bytes) is = elim is.1 [
  | inl out ↦ let same = out.1 in (0, (is.0, inl (out.0, refl)), omega (arith, same))
  | inr rose ↦ (1, (is.0, inr refl), omega (arith, rose))
]
one_but a b count (event.Quiet at) is = (0, refl, omega (arith, is))

-- the same for each
each_but : (a b : ℕ) (es : List Event) (reads : List ℕ) → EachRead a b es reads → (unread : ℕ) × EachReadBut unread es reads × RoseBy unread a b
each_but a b [] [] each = (0, refl, omega (arith, each))
each_but a b (e ∷ es) [] each = (0, refl, omega (arith, each))
each_but a b [] (n ∷ reads) each = absurd each
each_but a b (e ∷ es) (n ∷ reads) each =
    let one = one_but a each.0 n e each.1 in
    let others = each_but each.0 b es reads each.2 in
    (one.0 + others.0, (one.0, others.0, refl, (one.1, others.1)), rises_then one.0 others.0 a each.0 b one.2 others.2)

-- and then these
but_then : (j k : ℕ) (es : List Event) (reads more : List ℕ) → EachReadBut j es reads → EachReadBut k (drop (length reads) es) more → EachReadBut (j + k) es (reads ++ more)
but_then j k [] [] more first second = subst (λ (n : ℕ). EachReadBut n [] more) (omega (arith, first)) second
but_then j k (e ∷ es) [] more first second = subst (λ (n : ℕ). EachReadBut n (e ∷ es) more) (omega (arith, first)) second
but_then j k [] (n ∷ reads) more first second = absurd first
but_then j k (e ∷ es) (n ∷ reads) more first second =
    let all = first.2 in
    (first.0, first.1 + k, omega (arith, all), (first.3.0, but_then first.1 k es reads more first.3.1 second))

-- and then outputs may have been lost
pub reads_lost : (input later : Option LinkInput) (given between now : Option LinkOutput) (a b c : ℕ) → ReadsBetween input later given between a b → RoseBy (new_losses between now) b c
    → ReadsBetween input later given now a c
reads_lost None later given between now a b c first lost = tt
reads_lost (Some input) None given between now a b c first lost = absurd first
reads_lost (Some input) (Some later) given between now a b c first lost = record {
  reads = first.reads;
  unread = first.unread;
  parts = first.parts;
  each = first.each;
  rose = loses_then first.unread (losses_if_exposed given) (losses_if_exposed between) (losses_if_exposed now) a b c first.rose lost;
}

pub reads_then : (input mid later : Option LinkInput) (given now : Option LinkOutput) (a b c : ℕ) (xs : List Event) → ReceivesMore input mid xs → ReadsBetween input mid given now a b → ReadEach mid later b c
    → ReadsBetween input later given now a c
reads_then None mid later given now a b c xs h first second = tt
reads_then (Some input) None later given now a b c xs h first second = absurd first
reads_then (Some input) (Some mid) None given now a b c xs h first second = absurd second
reads_then (Some input) (Some mid) (Some later) given now a b c xs h first second =
    let there : EachRead b c (drop (length first.reads) (events_to_come input)) second.0 =
    subst (λ (es : List Event). EachRead b c es second.0) (to_come_then input mid first.reads h.0 first.parts) second.2 in
    let these = each_but b c (drop (length first.reads) (events_to_come input)) second.0 there in
    record {
      reads = first.reads ++ second.0;
      unread = first.unread + these.0;
      parts = second.1 ∙ (ap (λ (l : List ℕ). l ++ second.0) first.parts ∙ append_assoc input.reads first.reads second.0);
      each = but_then first.unread these.0 (events_to_come input) first.reads second.0 first.each these.1;
      rose = reads_on first.unread these.0 (new_losses given now) a b c first.rose these.2;
    }

-- the last of them was not read to its end
pub reads_lost_last : (input mid later : Option LinkInput) (given now : Option LinkOutput) (a b c : ℕ) → ReadsBetween input mid given now a b → AddsOne mid later → StaysOrRises b c
    → ReadsButLast input later given now a c
reads_lost_last None mid later given now a b c first second stands = tt
reads_lost_last (Some input) None later given now a b c first second stands = absurd first
reads_lost_last (Some input) (Some mid) None given now a b c first second stands = absurd second
reads_lost_last (Some input) (Some mid) (Some later) given now a b c first second stands = record {
  reads = first.reads;
  last = second.0;
  unread = first.unread;
  parts = second.2 ∙ (ap (λ (l : List ℕ). l ++ second.0) first.parts ∙ append_assoc input.reads first.reads second.0);
  one = second.1;
  each = first.each;
  rose = stays_on (first.unread + new_losses given now) a b c first.rose stands;
}

pub reads_all_last : (input later : Option LinkInput) (given now : Option LinkOutput) (a b : ℕ) → ReadsBetween input later given now a b → ReadsButLast input later given now a b
reads_all_last None later given now a b first = tt
reads_all_last (Some input) None given now a b first = absurd first
reads_all_last (Some input) (Some later) given now a b first = record {
  reads = first.reads;
  last = [];
  unread = first.unread;
  parts = first.parts ∙ ap (λ (l : List ℕ). input.reads ++ l) (sym (append-nil first.reads));
  one = omega arith;
  each = first.each;
  rose = first.rose;
}

-- ---- what was lost

-- a count that is unchanged or rose, by what was lost
pub stays_of : (given now : Option LinkOutput) (a b : ℕ) → (LostNoMore given now × (b ≡ a)) ⊎ Rose a b → StaysOrRises a b
stays_of given now a b (inl both) = inl both.1
stays_of given now a b (inr rose) = inr rose

rise_of : (a b c : ℕ) → Rose a b → StaysOrRises b c → Rose a c
rise_of a b c rose (inl same) = subst (λ (n : ℕ). Rose a n) (sym same) rose
rise_of a b c rose (inr more) = omega (arith, rose, more)

rise_after : (a b c : ℕ) → StaysOrRises a b → Rose b c → Rose a c
rise_after a b c (inl same) rose = subst (λ (n : ℕ). Rose n c) same rose
rise_after a b c (inr first) rose = omega (arith, first, rose)

-- nothing was lost but where the count rose: nothing was passed as an event was read, and then this was
pub lost_then : (given between before now : Option LinkOutput) (a b c d : ℕ) → LostNoMore given between ⊎ Rose a b → StaysOrRises a b → before ≡ between → StaysOrRises b c
    → (LostNoMore before now × (d ≡ c)) ⊎ Rose c d → LostNoMore given now ⊎ Rose a d
lost_then given between before now a b c d (inl none) stands same reads (inl more) = inl (more.0 ∙ (ap (λ (g : Option LinkOutput). option_map losses_in g) same ∙ none))
lost_then given between before now a b c d (inl none) stands same reads (inr more) = inr (rise_after a c d (rise_then a b c stands reads) more)
lost_then given between before now a b c d (inr rose) stands same reads more = inr (rise_of a b d rose (rise_then b c d reads (stays_of before now c d more)))

pub lost_still : (given between now : Option LinkOutput) (a b c : ℕ) → LostNoMore given between ⊎ Rose a b → now ≡ between → StaysOrRises b c → LostNoMore given now ⊎ Rose a c
lost_still given between now a b c (inl none) same reads = inl (ap (λ (g : Option LinkOutput). option_map losses_in g) same ∙ none)
lost_still given between now a b c (inr rose) same reads = inr (rise_of a b c rose reads)

-- ---- where the link is bound

bound_times : (count : ℕ) (calls : LinkCalls) → (after_calls count calls).bound ≡ calls.bound
bound_times zero calls = refl
bound_times (suc count) calls = bound_times count calls

-- no call that received an event binds it
bound_after_call : (calls later : Option LinkCalls) (count : ℕ) → IsCalledTimes calls later count → IsBoundStill calls later
bound_after_call None later count made = ap (λ (o : Option LinkCalls). option_map (λ (c : LinkCalls). c.bound) o) made
bound_after_call (Some calls) later count made =
    ap (λ (o : Option LinkCalls). option_map (λ (c : LinkCalls). c.bound) o) made ∙ ap (λ (b : Option (Addr × Addr)). Some b) (bound_times count calls)

pub bound_within : (calls later : Option LinkCalls) (most : ℕ) → IsCalledWithin calls later most → IsBoundStill calls later
bound_within calls later most within = bound_after_call calls later within.0 within.2
