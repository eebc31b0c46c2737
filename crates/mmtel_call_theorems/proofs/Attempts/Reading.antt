-- How what is sent is read: the branch of a request of the server, and the marks of more than one list.
use Rattle.std.proofs.Common.{◌≡◌, ℕ, true, false, List, [], ◌∷◌, ◌++◌, length, Some, refl, ap, sym, ◌∙◌, append_assoc, arith, nat_lt, codes, length-append}
use Rattle.std.proofs.lemmas.Bool.{eq-eqb, le-ltb}
use Rattle.std.proofs.lemmas.List.{append-nil}
use Rattle.std.proofs.lemmas.Slice.Eq.{bytes_eq-Decides}
use Rattle.std.proofs.Math.Seq.{take-append_seam, drop-append_seam}
use Rattle.std.specs.Option.{unwrap_or}
use Rattle.std.specs.Prelude.{if◌then◌else◌}
use Rattle.std.specs.Str.{bytes_eq}
use Rattle.mmtel_output.specs.Outputs.{with_emit}
use Rattle.mmtel_output.specs.declared.outputs.StepOutput.{StepOutput}
use Rattle.mmtel_leg.specs.Remotes.{field}
use Rattle.mmtel_leg.specs.Requests.{RequestPartsView, request_numbered}
use Rattle.mmtel_leg.specs.declared.dialogues.Dialogue.{Dialogue}
use Rattle.mmtel_message.specs.Addresses.{addr_text, via_text}
use Rattle.mmtel_message.specs.Message.{line}
use Rattle.mmtel_base.specs.Scanning.{after_text}
use Rattle.mmtel_transaction.specs.declared.words.DueWord.{DueWord}
use Rattle.mmtel_transaction.specs.declared.words.Emit.{Emit}
use Rattle.mmtel_transaction.specs.declared.words.Emit.TheVariants as emit
use Rattle.mmtel_types.specs.declared.addrs.Addr.{Addr}
use Rattle.mmtel_types.specs.declared.numbers.CallNo.{CallNo}
use Rattle.mmtel_call_theorems.specs.Attempts.Observed.{AttemptEvent, branch_of, event_of, event_of_deadline, events_of}

-- ---- the branch

-- a text in front, and what follows it
text_behind : (front rest : List ℕ) → after_text front (front ++ rest) ≡ Some rest
text_behind front rest =
    let fits : nat_lt (length (front ++ rest)) (length front) ≡ false = le-ltb (length (front ++ rest)) (length front) (omega (arith, length-append front rest)) in
    let same : bytes_eq front front ≡ true = (bytes_eq-Decides front front).1 refl in
    rw (fits, take-append_seam front rest, same, drop-append_seam front rest) refl

via_parts : (sip : Addr) (branch : List ℕ) → via_text sip branch ≡ via_text sip [] ++ branch
via_parts sip branch = ap (λ l. codes "SIP/2.0/UDP " ++ l) (sym (append_assoc (addr_text sip) (codes ";branch=z9hG4bK") branch))

first_via : (d : Dialogue) (number : ℕ) (method : List ℕ) (given : RequestPartsView) → field (codes "Via") (request_numbered d number method given).lines ≡ via_text given.sip given.branch
unfolding field line
first_via d number method given = refl

pub branch_read : (d : Dialogue) (number : ℕ) (method : List ℕ) (given : RequestPartsView) → branch_of given.sip (request_numbered d number method given) ≡ given.branch
branch_read d number method given =
    ap (λ v. unwrap_or (after_text (via_text given.sip []) v) []) (first_via d number method given ∙ via_parts given.sip given.branch)
    ∙ ap (λ o. unwrap_or o []) (text_behind (via_text given.sip []) given.branch)

-- ---- what a step adds to what is sent

pub record Adds (sip : Addr) (own : CallNo) (before after : StepOutput) (marks : List AttemptEvent) : Type 0 where
  pub new : List Emit
  pub out : after.out ≡ before.out ++ new
  pub seen : events_of sip own new ≡ marks

events_append : (sip : Addr) (own : CallNo) (xs ys : List Emit) → events_of sip own (xs ++ ys) ≡ events_of sip own xs ++ events_of sip own ys
events_append sip own [] ys = refl
events_append sip own (e ∷ xs) ys = ap (λ l. event_of sip own e ++ l) (events_append sip own xs ys) ∙ sym (append_assoc (event_of sip own e) (events_of sip own xs) (events_of sip own ys))

pub adds_nothing : (sip : Addr) (own : CallNo) (output : StepOutput) → Adds sip own output output []
adds_nothing sip own output = record { new = []; out = sym (append-nil output.out); seen = refl }

-- one more
pub adds_emit : (sip : Addr) (own : CallNo) (before output : StepOutput) (e : Emit) (marks more : List AttemptEvent) → event_of sip own e ≡ more → Adds sip own before output marks →
    Adds sip own before (with_emit e output) (marks ++ more)
adds_emit sip own before output e marks more is had = record {
  new = had.new ++ e ∷ [];
  out = ap (λ l. l ++ e ∷ []) had.out ∙ append_assoc before.out had.new (e ∷ []);
  seen = events_append sip own had.new (e ∷ []) ∙ ap (λ l. l ++ (event_of sip own e ++ [])) had.seen ∙ ap (λ l. marks ++ l) (append-nil (event_of sip own e) ∙ is);
}

-- that is no mark
pub adds_quiet : (sip : Addr) (own : CallNo) (before output : StepOutput) (e : Emit) (marks : List AttemptEvent) → event_of sip own e ≡ [] → Adds sip own before output marks →
    Adds sip own before (with_emit e output) marks
adds_quiet sip own before output e marks is had =
    let more = adds_emit sip own before output e marks [] is had in
    record { new = more.new; out = more.out; seen = more.seen ∙ append-nil marks }

-- a deadline of the call itself
pub own_deadline : (sip : Addr) (own : CallNo) (what : DueWord) (at : ℕ) → event_of sip own (emit.Arm own what at) ≡ event_of_deadline what at
own_deadline sip own what at = ap (λ b. if b then event_of_deadline what at else []) (eq-eqb own.0 own.0 refl)
