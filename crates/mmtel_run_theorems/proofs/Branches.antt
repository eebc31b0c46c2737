-- The branch of an INVITE, PRACK or UPDATE that the server sent is read back as it was written, and a response has the branch of its request (RFC 3261 §8.1.1.7, §17.1.3).
use Rattle.std.proofs.Common.{◌≡◌, ◌∙◌, ◌^◌, ◌<◌, ◌-◌, Bool, true, false, inl, inr, ℕ, List, [], ◌∷◌, ◌++◌, Ok, Option, Some, None, ap, arith, codes, decimal, drop, length, refl, subst, sym, take, nat_lt}
use Rattle.std.specs.Prelude.{◌⊎◌, if◌then◌else◌}
use Rattle.std.specs.Option.{unwrap_or}
use Rattle.std.specs.Str.{bytes_eq}
use Rattle.std.proofs.lemmas.Bool.{cases_Bool}
use Rattle.std.proofs.lemmas.Bool.Decides.{nat_tests}
use Rattle.std.proofs.lemmas.List.{append_cancel_left, length-append, take-append-drop}
use Rattle.std.proofs.lemmas.Slice.Eq.{bytes_eq-Decides}
use Rattle.mmtel_compose.specs.ReceivedMessages.{MessageView}
use Rattle.mmtel_output.specs.ResponseMatching.{awaited_request_branch, behind, branch_in, first_via, is_awaited_cseq, is_awaited_method, is_awaited_response, via_branch}
use Rattle.mmtel_call_theorems.specs.Branches.SentRequests.{IsAwaited, IsNotAwaited, IsRequest}
use Rattle.mmtel_leg.specs.Readings.{via_of}
use Rattle.mmtel_leg.specs.Requests.{RequestPartsView}
use Rattle.mmtel_leg.proofs.FiveTheorems.{via_read}
use Rattle.mmtel_lex.specs.Grammar.{IsToken}
use Rattle.mmtel_lex.specs.declared.values.NameAddr.{NameAddr}
use Rattle.mmtel_message.specs.Addresses.{addr_text, via_text}
use Rattle.mmtel_message.specs.Faults.{is_request}
use Rattle.mmtel_message.specs.Fields.{call_in, cseq_at, five_at, parties_in, via_at, via_in}
use Rattle.mmtel_message.specs.Message.{Line, Message, first_value, is_line, line, line_texts}
use Rattle.mmtel_message.specs.Guarantees.{IsOnly}
use Rattle.mmtel_message.specs.Reads.{read_result}
use Rattle.mmtel_message.specs.Vias.{IsSource}
use Rattle.mmtel_message.specs.declared.fields.CSeq.{CSeq}
use Rattle.mmtel_message.specs.declared.fields.Five.{Five}
use Rattle.mmtel_message.specs.declared.fields.Via.{Via}
use Rattle.mmtel_message.specs.declared.messages.Start.{Start}
use Rattle.mmtel_message.specs.declared.messages.Start.TheVariants.{Request, Status}
use Rattle.mmtel_base.specs.Chain.{◌>>=◌}
use Rattle.mmtel_base.specs.Classes.{IsAll, in_class}
use Rattle.mmtel_base.specs.Numbers.{next_number, token_text}
use Rattle.mmtel_base.specs.Scanning.{after_text}
use Rattle.mmtel_base.specs.declared.classes.Class.TheVariants.{Digit, Token}
use Rattle.mmtel_base.proofs.Numerals.{decimal_writes}
use Rattle.mmtel_base.proofs.Runs.{wider}
use Rattle.mmtel_base.proofs.Trims.{all_append}
use Rattle.mmtel_transaction.specs.Heads.{head_of, head_with, param_text}
use Rattle.mmtel_transaction.specs.Theorems.{TokensDiffer}
use Rattle.mmtel_trust.specs.ParsedMessage.{ParsedMessage, parsed_message}
use Rattle.mmtel_types.specs.declared.addrs.Addr.{Addr}
use Rattle.mmtel_run_theorems.proofs.RoleBounds.{true_false}

pub text_same : (s t : List ℕ) → bytes_eq s t ≡ true → s ≡ t
text_same s t e = (bytes_eq-Decides s t).0 e

text_self : (s : List ℕ) → bytes_eq s s ≡ true
text_self s = (bytes_eq-Decides s s).1 refl

-- ---- tokens

digit_token : (b : ℕ) → in_class Digit b ≡ true → in_class Token b ≡ true
unfolding in_class
digit_token b e = grind (arith, nat_tests)

dash_token : IsAll Token (45 ∷ [])
unfolding in_class
dash_token = refl

-- each token that is drawn of one is one
pub drawn_token : (text : List ℕ) (n : ℕ) → n < 2 ^ 60 → IsToken text → IsToken (token_text text n)
drawn_token text n less is =
    let digits : IsAll Token (decimal n) = wider Digit Token digit_token (decimal n) (decimal_writes n (omega (arith, less))).digits.each in
    record {
      filled = omega (arith, is.filled, length-append text (45 ∷ decimal n));
      each = all_append Token text (45 ∷ decimal n) is.each (all_append Token (45 ∷ []) (decimal n) dash_token digits);
    }

next_of : (n : ℕ) → 0 < n → n < 2 ^ 60 → next_number (n - 1) ≡ n
next_of n filled less = omega (arith, filled, less)

-- tokens are drawn once
pub numbers_same : TokensDiffer → (text : List ℕ) (m n : ℕ) → 0 < m → 0 < n → m < 2 ^ 60 → n < 2 ^ 60 → token_text text m ≡ token_text text n → m ≡ n
numbers_same differ text m n up high less small same =
    let before : m - 1 ≡ n - 1 = differ text (m - 1) (n - 1) (omega (arith, less)) (omega (arith, small))
    (ap (token_text text) (next_of m up less) ∙ (same ∙ ap (token_text text) (sym (next_of n high small)))) in
    omega (arith, before, up, high)

-- ---- Via is read

-- the Via of the five fields is that
five_by : (v : Option Via) (p : Option (NameAddr × NameAddr)) (c : Option (List ℕ × CSeq)) (five : Five) →
    (v >>= λ (via : Via). p >>= λ (x : NameAddr × NameAddr). c >>= λ (y : List ℕ × CSeq). Some (record { via = via; from = x.0; to = x.1; call_id = y.0; cseq = y.1 })) ≡ Some five → v ≡ Some five.via
five_by None p c five e = let n : None ≡ Some five = e in absurd cc
five_by (Some v) None c five e = let n : None ≡ Some five = e in absurd cc
five_by (Some v) (Some x) None five e = let n : None ≡ Some five = e in absurd cc
five_by (Some v) (Some x) (Some y) five e = ap (λ (o : Option Five). via_of_five o) e
  where
    via_of_five : Option Five → Option Via
    via_of_five None = None
    via_of_five (Some f) = Some f.via

five_via : (ls : List Line) (five : Five) → five_at ls ≡ Some five → via_in ls ≡ Some five.via
unfolding five_at
five_via ls five e = five_by (via_in ls) (parties_in ls) (call_in ls) five e

-- ---- the branch of a message in its head

abbrev pub cookie : List ℕ
cookie = codes "z9hG4bK"

some_same : (A : Type 0) (x y : A) → Some x ≡ Some y → x ≡ y
some_same A x y e = cc

-- of a request that the server sent it is that one, or nothing is read of it
branch_by : (o : Option Five) (m : Message Start) (sip : Addr) (branch : List ℕ) → five_at m.lines ≡ o → via_in m.lines ≡ Some (via_of sip branch) →
    ((head_with m.start o).branch ≡ []) ⊎ ((head_with m.start o).branch ≡ cookie ++ branch)
branch_by None m sip branch e via = inl refl
branch_by (Some five) m sip branch e via =
    let same : five.via ≡ via_of sip branch = some_same Via five.via (via_of sip branch) (sym (five_via m.lines five e) ∙ via) in
    inr (ap (λ (v : Via). param_text (codes "branch") v.params) same ∙ refl)

pub awaited_branch : (m : Message Start) (sip : Addr) (branch : List ℕ) → IsSource sip → 0 < sip.port → IsToken branch → IsAwaited sip branch m → ((head_of m).branch ≡ []) ⊎ ((head_of m).branch ≡ cookie ++ branch)
unfolding head_of
awaited_branch m sip branch is low token awaited =
    let r : IsRequest awaited.method sip branch m = awaited.request in
    let g : RequestPartsView = r.parts in
    let read : via_in m.lines ≡ Some (via_of sip branch) =
    ap (λ (n : Message Start). via_in n.lines) r.is
    ∙ (via_read r.dialogue r.number awaited.method g (subst IsSource (sym r.from_there) is) (subst (λ (a : Addr). 0 < a.port) (sym r.from_there) low) (subst IsToken (sym r.has_it) token)
    ∙ (ap (λ (a : Addr). Some (via_of a g.branch)) r.from_there ∙ ap (λ (b : List ℕ). Some (via_of sip b)) r.has_it)) in
    branch_by (five_at m.lines) m sip branch refl read

-- one request has one branch
abbrev first_text : List Line → List ℕ
first_text [] = []
first_text (l ∷ ls) = l.1

text_of : (sip : Addr) (branch : List ℕ) (m : Message Start) → IsAwaited sip branch m → first_text m.lines ≡ via_text sip branch
unfolding line
text_of sip branch m awaited =
    let r : IsRequest awaited.method sip branch m = awaited.request in
    ap (λ (n : Message Start). first_text n.lines) r.is ∙ (ap (λ (a : Addr). via_text a r.parts.branch) r.from_there ∙ ap (via_text sip) r.has_it)

pub branch_once : (sip : Addr) (one other : List ℕ) (m : Message Start) → IsAwaited sip one m → IsAwaited sip other m → one ≡ other
branch_once sip one other m is too =
    let same : via_text sip one ≡ via_text sip other = sym (text_of sip one m is) ∙ text_of sip other m too in
    append_cancel_left (codes ";branch=z9hG4bK") one other
    (append_cancel_left (addr_text sip) (codes ";branch=z9hG4bK" ++ one) (codes ";branch=z9hG4bK" ++ other)
    (append_cancel_left (codes "SIP/2.0/UDP ") (addr_text sip ++ (codes ";branch=z9hG4bK" ++ one)) (addr_text sip ++ (codes ";branch=z9hG4bK" ++ other)) same))

pub not_both : (sip : Addr) (branch : List ℕ) (m : Message Start) → IsNotAwaited m → IsAwaited sip branch m → ⊥
not_both sip branch m none awaited =
    let same : (head_with m.start None).method ≡ awaited.method = ap (λ (n : Message Start). (head_with n.start None).method) awaited.request.is in
    true_false (sym (ap is_awaited_method same ∙ awaited.awaited) ∙ none None)

-- ---- to which request a response belongs

-- of a message that was read
pub record WasRead (m : MessageView) : Type 0 where
  pub bytes : List ℕ
  pub trusted : Bool
  pub message : Message Start
  pub read : read_result bytes ≡ Ok message
  pub is : m.parsed ≡ parsed_message trusted message

first_of_texts : (name : List ℕ) (ls : List Line) → first_via (line_texts name ls) ≡ (first_value name ls >>= λ v. via_at v)
first_of_texts name [] = refl
first_of_texts name (l ∷ ls) = elim (cases_Bool (is_line name l)) [
  | inl y ↦ rw y refl
  | inr n ↦ rw n (first_of_texts name ls)
]

text_takes : (front s rest : List ℕ) → after_text front s ≡ Some rest → s ≡ front ++ rest
text_takes front s rest e = elim (cases_Bool (nat_lt (length s) (length front))) [
  | inl y ↦ let none : None ≡ Some rest = sym (ap (λ (b : Bool). if b then None else if bytes_eq (take (length front) s) front then Some (drop (length front) s) else None) y) ∙ e in absurd cc
  | inr n ↦
      let then_is = sym (ap (λ (b : Bool). if b then None else if bytes_eq (take (length front) s) front then Some (drop (length front) s) else None) n) ∙ e in
      elim (cases_Bool (bytes_eq (take (length front) s) front)) [
        | inl z ↦
            let rest_is : drop (length front) s ≡ rest = some_same (List ℕ) (drop (length front) s) rest (sym (ap (λ (b : Bool). if b then Some (drop (length front) s) else None) z) ∙ then_is) in
            sym (take-append-drop (length front) s) ∙ (ap (λ (x : List ℕ). x ++ drop (length front) s) (text_same (take (length front) s) front z) ∙ ap (λ (x : List ℕ). front ++ x) rest_is)
        | inr z ↦ let none : None ≡ Some rest = sym (ap (λ (b : Bool). if b then Some (drop (length front) s) else None) z) ∙ then_is in absurd cc
      ]
]

behind_is : (o : Option (List ℕ)) (branch : List ℕ) → behind o ≡ Some branch → unwrap_or o [] ≡ cookie ++ branch
behind_is None branch e = let n : None ≡ Some branch = e in absurd cc
behind_is (Some b) branch e = text_takes cookie b branch e

module _ (fives : (b : List ℕ) (m : Message Start) → read_result b ≡ Ok m → (five : Five) × (five_at m.lines ≡ Some five))
    (vias : (b : List ℕ) (m : Message Start) (five : Five) → read_result b ≡ Ok m → five_at m.lines ≡ Some five → (v : List ℕ) × (first_value (codes "Via") m.lines ≡ Some v) × (via_at v ≡ Some five.via))
    (cseqs : (ls : List Line) (five : Five) → five_at ls ≡ Some five → (v : List ℕ) × IsOnly (codes "CSeq") ls v × (cseq_at v ≡ Some five.cseq)) where
  answered_by : (trusted : Bool) (n : Message Start) (five : Five) (v c : List ℕ) → five_at n.lines ≡ Some five → first_value (codes "Via") n.lines ≡ Some v → via_at v ≡ Some five.via
      → first_value (codes "CSeq") n.lines ≡ Some c → cseq_at c ≡ Some five.cseq → (branch : List ℕ) →
      (if is_awaited_response (parsed_message trusted n).cseq then branch_in (parsed_message trusted n).vias else None) ≡ Some branch
      → (param_text (codes "branch") five.via.params ≡ cookie ++ branch) × (is_awaited_method five.cseq.method ≡ true)
  answered_by trusted n five v c is value via number cseq branch e =
      let awaited : is_awaited_response (first_value (codes "CSeq") n.lines) ≡ is_awaited_method five.cseq.method = ap is_awaited_response number ∙ ap is_awaited_cseq cseq in
      let first : first_via (line_texts (codes "Via") n.lines) ≡ Some five.via = first_of_texts (codes "Via") n.lines ∙ (ap (λ (o : Option (List ℕ)). o >>= λ x. via_at x) value ∙ via) in
      elim (cases_Bool (is_awaited_method five.cseq.method)) [
        | inl y ↦
            let taken : branch_in (line_texts (codes "Via") n.lines) ≡ Some branch = sym (ap (λ (b : Bool). if b then branch_in (line_texts (codes "Via") n.lines) else None) (awaited ∙ y)) ∙ e in
            (behind_is (via_branch five.via) branch (sym (ap (λ (o : Option Via). behind (o >>= via_branch)) first) ∙ taken), y)
        | inr n2 ↦ let none : None ≡ Some branch = sym (ap (λ (b : Bool). if b then branch_in (line_texts (codes "Via") n.lines) else None) (awaited ∙ n2)) ∙ e in absurd cc
      ]

  pub answers : (m : MessageView) (branch : List ℕ) → (is : WasRead m) → awaited_request_branch m ≡ Some branch → is_request is.message.start ≡ false
      → ((head_of is.message).branch ≡ cookie ++ branch) × (is_awaited_method (head_of is.message).method ≡ true)
  unfolding awaited_request_branch head_of
  answers m branch is answered response =
      let n : Message Start = is.message in
      let five = fives is.bytes n is.read in
      let via = vias is.bytes n five.0 is.read five.1 in
      let cseq = cseqs n.lines five.0 five.1 in
      let both = answered_by is.trusted n five.0 via.0 cseq.0 five.1 via.1 via.2 cseq.1.first cseq.2 branch
      (sym (ap (λ (h : ParsedMessage). if is_awaited_response h.cseq then branch_in h.vias else None) is.is) ∙ answered) in (
        ap (λ (o : Option Five). (head_with n.start o).branch) five.1 ∙ both.0,
        ap (λ (o : Option Five). is_awaited_method (head_with n.start o).method) five.1 ∙ by_start n.start five.0 response both.1,
      )
    where
      by_start : (start : Start) (five : Five) → is_request start ≡ false → is_awaited_method five.cseq.method ≡ true → is_awaited_method (head_with start (Some five)).method ≡ true
      by_start (Request method uri) five r e = absurd (true_false r)
      by_start (Status code phrase) five r e = e
