-- The peer of a transaction is the one with which it was opened.
use Rattle.std.proofs.Common.{◌≡◌, ℕ, ◌<◌, List, [], ◌∷◌, ◌++◌, length, refl, inl, inr, sym, ap, ◌∙◌, arith}
use Rattle.std.specs.Prelude.{Option, Some, None, option_map}
use Rattle.std.proofs.lemmas.Option.{none-some, same_Some}
use Rattle.mmtel_types.specs.declared.numbers.Peer.{Peer}
use Rattle.mmtel_transaction.specs.declared.entries.Entry.{Entry}
use Rattle.mmtel_transaction.specs.declared.message_class.MessageClass.TheVariants as part
use Rattle.mmtel_transaction.specs.Operations.{TransactionOp, DidAsk, DidHear, live, send_count, openings, step_of}
use Rattle.mmtel_transaction.specs.Changes.{new_client_entry, new_server_entry}
use Rattle.mmtel_transaction.specs.Heads.{head_of}
use Rattle.mmtel_message.specs.Texts.{message_text}
use Rattle.mmtel_transaction.specs.Results.{by_key, peer_of}
use Rattle.mmtel_transaction.specs.OnePeer.{KeepsPeers, NewPeers, RequestPeers}
use Rattle.mmtel_transaction.proofs.Lists.{keeps_change}
use Rattle.mmtel_transaction.proofs.Having.{at_key, has_more_back, has_new, of_key}
use Rattle.mmtel_transaction.proofs.Ends.{more_opened, news_key}

abbrev of_peer : Option Entry → Option Peer
of_peer o = option_map (λ (e : Entry). e.peer) o

found : (o : Option Entry) (q : Peer) → of_peer o ≡ Some q → (e : Entry) × (o ≡ Some e) × (e.peer ≡ q)
found None q r = absurd (none-some q r)
found (Some e) q r = (e, refl, same_Some e.peer q r)

pub new_peer : NewPeers
new_peer h p m now =
    let e : Entry = new_server_entry (step_of h) (length (openings h)) p (head_of m) now in
    ap of_peer (at_key (DidHear p m now part.Fresh ∷ h) e (has_new (DidHear p m now part.Fresh) h e (inl refl)))

pub request_peer : RequestPeers
request_peer h p m now =
    let e : Entry = new_client_entry (step_of h) (send_count h) (length (openings h)) p (head_of m) (message_text m) now in
    ap of_peer (at_key (DidAsk p m now ∷ h) e (has_new (DidAsk p m now) h e (inl refl)))

keeps_one : (c : TransactionOp) (h : List TransactionOp) (key : ℕ) (q : Peer) → key < length (openings h) → peer_of key (live (c ∷ h)) ≡ Some q → peer_of key (live h) ≡ Some q
keeps_one c h key q less r =
    let w = found (by_key key (live (c ∷ h))) q r in
    let e : Entry = w.0 in
    let v = of_key (c ∷ h) key e w.1 in
    elim (has_more_back c h e v.0) [
      | inl a ↦
          let x : Entry = a.0 in
          let k = keeps_change (step_of h) (send_count h) c x in
          let same : x.key ≡ key = sym k.key ∙ (ap (λ (y : Entry). y.key) (sym a.2) ∙ v.1) in
          let peer : x.peer ≡ q = sym k.peer ∙ (ap (λ (y : Entry). y.peer) (sym a.2) ∙ w.2) in
          ap (λ (j : ℕ). peer_of j (live h)) (sym same) ∙ (ap of_peer (at_key h x a.1) ∙ ap (λ (p : Peer). Some p) peer)
      | inr b ↦ absurd (omega (arith, less, v.1, news_key (step_of h) (send_count h) (length (openings h)) c e b))
    ]

pub keeps_peer : KeepsPeers
keeps_peer h [] key q less r = r
keeps_peer h (c ∷ g) key q less r = keeps_peer h g key q less (keeps_one c (g ++ h) key q (omega (arith, less, more_opened h g)) r)
