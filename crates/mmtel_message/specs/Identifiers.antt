-- What a message's five fields say of its transaction and its dialog (RFC 3261 §12, §17.1.3, §17.2.3): branch and sent-by of the first Via, the tags, Call-ID, and CSeq.
use Rattle.std.specs.Prelude.{Option, Some, ℕ, List, [], codes}
use Rattle.std.specs.Option.{option_map, unwrap_or}
use Rattle.mmtel_base.specs.Chain.{◌>>=◌}
use Rattle.mmtel_lex.specs.Params.{param_value}
use Rattle.mmtel_lex.specs.declared.values.Param.{Param}
use Rattle.mmtel_message.specs.Fields.{cseq_at, five_at, via_at}
use Rattle.mmtel_message.specs.Message.{Line, first_value}
use Rattle.mmtel_message.specs.declared.fields.Five.{Five}

pub record Identifiers : Type 0 where
  pub branch : List ℕ
  pub sent_by : List ℕ
  pub from_tag : List ℕ
  pub to_tag : List ℕ
  pub call_id : List ℕ
  pub number : ℕ
  pub method : List ℕ

-- the value of a parameter; an absent tag or branch is empty (§12.1.1)
abbrev pub param_text : List ℕ → List Param → List ℕ
param_text name params = unwrap_or (param_value name params) []

abbrev pub identifiers_of : Five → Identifiers
identifiers_of five = record {
  branch = param_text (codes "branch") five.via.params;
  sent_by = five.via.sent_by;
  from_tag = param_text (codes "tag") five.from.params;
  to_tag = param_text (codes "tag") five.to.params;
  call_id = five.call_id;
  number = five.cseq.number;
  method = five.cseq.method;
}

-- the identifiers of a message with these lines; none where one of the five fields cannot be read
abbrev pub identifiers_in : List Line → Option Identifiers
identifiers_in ls = option_map identifiers_of (five_at ls)

-- the branch of the first Via line, where that is one Via value that has a branch (§17.1.3)
abbrev pub first_branch : List Line → Option (List ℕ)
first_branch ls = (first_value (codes "Via") ls >>= λ v. via_at v) >>= λ via. param_value (codes "branch") via.params

-- the method of the first CSeq line, where that can be read
abbrev pub first_method : List Line → Option (List ℕ)
first_method ls = (first_value (codes "CSeq") ls >>= λ v. cseq_at v) >>= λ cseq. Some cseq.method

-- ---- words of private functions

-- the branch of one Via value, where it has one
abbrev pub branch_of_via : List ℕ → Option (List ℕ)
branch_of_via v = via_at v >>= λ via. param_value (codes "branch") via.params
