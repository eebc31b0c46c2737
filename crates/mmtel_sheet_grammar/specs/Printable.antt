-- Which sheets a record can express: the types, texts, ranges, limits and partner keys of the grammar, and each part only where the grammar lists its key.
use Rattle.std.specs.Prelude.{◌≡◌, ◌≤◌, ◌<◌, ◌+◌, ℕ, ℤ, pos, ◌≤ℤ◌, int_lt, List, [], Bool, true, None, Ok, length, IfSome, IsUtf8}
use Rattle.std.specs.List.{AllByRecursion}
use Rattle.mmtel_lex.specs.Grammar.{uri_text}
use Rattle.mmtel_lex.specs.Reading.{uri_of}
use Rattle.mmtel_lex.specs.declared.values.Uri.{Uri}
use Rattle.mmtel_sheet_grammar.specs.Elements.{is_target, is_domain, is_token_text, has_day, is_offset}
use Rattle.mmtel_sheet_grammar.specs.Keys.{is_diversion, is_barring, applies_to_callers, is_outgoing}
use Rattle.mmtel_sheet_grammar.specs.Moments.{first_moment}
use Rattle.mmtel_sheet_grammar.specs.declared.keys.Service.{Service}
use Rattle.mmtel_sheet_grammar.specs.declared.keys.Service.TheVariants as service
use Rattle.mmtel_sheet_values.specs.declared.values.Action.{Action}
use Rattle.mmtel_sheet_values.specs.declared.values.Action.TheVariants.{Forward, Allow}
use Rattle.mmtel_sheet_values.specs.declared.values.BarPart.{BarPart}
use Rattle.mmtel_sheet_values.specs.declared.values.Condition.{Condition}
use Rattle.mmtel_sheet_values.specs.declared.values.DiversionPart.{DiversionPart}
use Rattle.mmtel_sheet_values.specs.declared.values.Rule.{Rule}
use Rattle.mmtel_sheet_values.specs.declared.values.Sheet.{Sheet}
use Rattle.mmtel_sheet_values.specs.declared.values.Weekly.{Weekly}
use Rattle.mmtel_sheet_values.specs.declared.values.Who.{Who}
use Rattle.mmtel_sheet_values.specs.declared.values.Window.{Window}

-- a URI that reads back from its text
pub record IsUriOfText (u : Uri) : Type 0 where
  pub text : IsUtf8 (uri_text u)
  pub reads_back : uri_of (uri_text u) ≡ Ok u

-- a sip URI, or tel:+ and digits, of at most 256 bytes
pub record IsTarget (u : Uri) : Type 0 where
  pub uri : IsUriOfText u
  pub kind : is_target u ≡ true
  pub short : length (uri_text u) ≤ 256

-- the identities that are meant and those that are excepted, which are present with a domain alone, are at most 64 together
pub record IsWho (w : Who) : Type 0 where
  pub one : AllByRecursion IsUriOfText w.one
  pub many : IfSome w.many (λ domain. is_domain domain ≡ true)
  pub except : AllByRecursion IsUriOfText w.except
  pub partner : w.many ≡ None → w.except ≡ []
  pub few : length w.one + length w.except ≤ 64

-- the last moment that a timestamp writes: 9999-12-30T22:00:00.999Z
abbrev pub last_moment : ℤ
last_moment = pos 253_402_207_200_999

-- a moment from the year 1 on that a timestamp writes
abbrev pub IsMoment : ℤ → Type 0
IsMoment m = (first_moment ≤ℤ m) × (m ≤ℤ last_moment)

-- a window that ends after its start
pub record IsWindow (w : Window) : Type 0 where
  pub from : IsMoment w.from
  pub until : IsMoment w.until
  pub order : int_lt w.from w.until ≡ true

-- some hours of one day of the week or more, by a clock that is at most 14 hours ahead of UTC or behind it
pub record IsWeekly (w : Weekly) : Type 0 where
  pub whole : length w.days ≡ 7
  pub days : has_day w.days ≡ true
  pub order : w.from < w.until
  pub within : w.until ≤ 1_440
  pub offset : is_offset w.offset ≡ true

-- the condition that a rule of the service can have
pub record IsCondition (s : Service) (c : Condition) : Type 0 where
  pub identity : IfSome c.identity IsWho
  pub anonymous : c.anonymous ≡ true → applies_to_callers s ≡ true
  pub window : IfSome c.window IsWindow
  pub media : IfSome c.media (λ tokens. AllByRecursion (λ t. is_token_text t ≡ true) tokens)
  pub event : IfSome c.event (λ e. is_diversion s ≡ true)
  pub diverted : c.diverted ≡ true → applies_to_callers s ≡ true
  pub abroad : c.abroad ≡ true → is_outgoing s ≡ true
  pub weekly : IfSome c.weekly IsWeekly

-- the action that a rule of the service can have
abbrev pub IsAction : Service → Action → Type 0
IsAction s (Forward f) = (is_diversion s ≡ true) × IsTarget f.target
IsAction s (Allow b) = is_barring s ≡ true

pub record IsRule (s : Service) (r : Rule) : Type 0 where
  pub condition : IsCondition s r.condition
  pub action : IsAction s r.action

-- the rules of a service
pub record AreRules (s : Service) (rules : List Rule) : Type 0 where
  pub each : AllByRecursion (IsRule s) rules
  pub few : length rules ≤ 64

pub record IsDiversion (p : DiversionPart) : Type 0 where
  pub rules : AreRules service.Diversion p.rules
  pub least : 5 ≤ p.no_reply
  pub most : p.no_reply ≤ 180
  pub bound : IfSome p.bound (λ n. n ≤ 16)

-- only incoming barring rejects anonymous callers
abbrev pub CanReject : Service → Bool → Type 0
CanReject service.Diversion b = b ≡ true → ⊥
CanReject service.Incoming b = Unit {0}
CanReject service.Outgoing b = b ≡ true → ⊥

pub record IsBar (s : Service) (p : BarPart) : Type 0 where
  pub rules : AreRules s p.rules
  pub rejection : CanReject s p.reject_anonymous

-- the number of calls that a user may have at the same time
abbrev pub IsWaiting : ℕ → Type 0
IsWaiting calls = (2 ≤ calls) × (calls ≤ 8)

-- a sheet that a record can express
pub record IsPrintable (s : Sheet) : Type 0 where
  pub diversion : IfSome s.diversion IsDiversion
  pub incoming : IfSome s.incoming (IsBar service.Incoming)
  pub outgoing : IfSome s.outgoing (IsBar service.Outgoing)
  pub waiting : IfSome s.waiting IsWaiting
