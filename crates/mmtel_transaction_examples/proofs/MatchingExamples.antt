-- They compute, once the heads are substituted.
use Rattle.std.proofs.Common.{◌≡◌, [], ◌∷◌, refl}
use Rattle.std.specs.Prelude.{Some, None}
use Rattle.mmtel_transaction.specs.Results.{hear_result, tkey}
use Rattle.mmtel_transaction.specs.Matching.{matching_key}
use Rattle.mmtel_transaction.specs.Operations.{DidAsk}
use Rattle.mmtel_transaction.specs.declared.words.Heard.TheVariants as heard
use Rattle.mmtel_transaction_examples.specs.CallMessages.{Messages, after_acceptance, after_busy, peer, received_invite, sent_invite}
use Rattle.mmtel_transaction_examples.specs.MatchingExamples.{RequestsMatch, ResponsesMatch}
use Rattle.mmtel_transaction_examples.proofs.CallPlain.{plain_busy, plain_success}

requests_cancel : (c : Messages) → matching_key (received_invite c) c.cancel ≡ Some (tkey 0)
requests_cancel c = rw (c.of_cancel, c.of_invite) refl

requests_cancel_says : (c : Messages) → hear_result (received_invite c) (peer 1) c.cancel ≡ Some (heard.Cancel (tkey 1) (Some (tkey 0)) c.cancel)
requests_cancel_says c = rw (c.of_cancel, c.of_invite, c.of_cancel) refl

requests_lone_cancel : (c : Messages) → matching_key [] c.cancel ≡ None
requests_lone_cancel c = rw c.of_cancel refl

requests_early_ack : (c : Messages) → matching_key (received_invite c) c.ack ≡ None
requests_early_ack c = rw (c.of_ack, c.of_invite) refl

requests_ack : (c : Messages) → matching_key (after_busy c) c.ack ≡ Some (tkey 0)
requests_ack c = rw (plain_busy c, c.of_ack, c.of_invite, c.of_busy) refl

requests_ack_says : (c : Messages) → hear_result (after_busy c) (peer 1) c.ack ≡ Some (heard.Acked (tkey 0))
requests_ack_says c = rw (plain_busy c, c.of_ack, c.of_invite, c.of_busy) refl

requests_ack_2xx : (c : Messages) → matching_key (after_acceptance c) c.ack ≡ None
requests_ack_2xx c = rw (plain_success c, c.of_ack, c.of_invite, c.of_success) refl

requests_ack_2xx_says : (c : Messages) → hear_result (after_acceptance c) (peer 1) c.ack ≡ Some (heard.AckOf2xx c.ack)
requests_ack_2xx_says c = rw (plain_success c, c.of_ack, c.of_invite, c.of_success) refl

requests_bye : (c : Messages) → matching_key (after_acceptance c) c.bye ≡ None
requests_bye c = rw (plain_success c, c.of_bye, c.of_invite, c.of_success) refl

requests_bye_says : (c : Messages) → hear_result (after_acceptance c) (peer 1) c.bye ≡ Some (heard.Fresh (tkey 1) c.bye)
requests_bye_says c = rw (plain_success c, c.of_bye, c.of_invite, c.of_success, c.of_bye) refl

pub requests : RequestsMatch
requests = record {
  cancel = requests_cancel;
  cancel_result = requests_cancel_says;
  lone_cancel = requests_lone_cancel;
  early_ack = requests_early_ack;
  ack = requests_ack;
  ack_result = requests_ack_says;
  ack_2xx = requests_ack_2xx;
  ack_2xx_result = requests_ack_2xx_says;
  bye = requests_bye;
  bye_result = requests_bye_says;
}

responses_answer : (c : Messages) → matching_key (sent_invite c) c.busy ≡ Some (tkey 0)
responses_answer c = rw (c.of_busy, c.of_invite) refl

responses_second : (c : Messages) → matching_key (DidAsk (peer 2) c.options 0 ∷ sent_invite c) c.options_success ≡ Some (tkey 1)
responses_second c = rw (c.of_options_success, c.of_invite, c.of_options) refl

responses_other_branch : (c : Messages) → matching_key (sent_invite c) c.options_success ≡ None
responses_other_branch c = rw (c.of_options_success, c.of_invite) refl

responses_not_heard : (c : Messages) → matching_key (received_invite c) c.busy ≡ None
responses_not_heard c = rw c.of_busy refl

responses_stray : (c : Messages) → hear_result (received_invite c) (peer 2) c.busy ≡ Some heard.Stray
responses_stray c = rw c.of_busy refl

pub responses : ResponsesMatch
responses = record { response = responses_answer; second = responses_second; other_branch = responses_other_branch; not_received = responses_not_heard; stray = responses_stray }
