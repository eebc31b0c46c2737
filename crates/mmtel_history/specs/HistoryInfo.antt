-- The list of History-Info entries: how a value is read and written; what a diversion, a mark and masking do to the list (RFC 7044 §5, §9 and §10.1; RFC 3323 §4.2); and
-- what a 181 shows of it and what counts against the bound on diversions (TS 24.604 §4.5.2.6).
use Rattle.std.specs.Prelude.{◌≡◌, ◌≤◌, ℕ, zero, suc, Bool, true, false, ◌||◌, ◌+◌, ◌-◌, if◌then◌else◌, nat_lt, List, [], ◌∷◌, ◌++◌, length, take, map, position, slice_get}
use Rattle.std.specs.Prelude.{Option, Some, None, is_some, is_none, option_to_list, Result, Ok, Err, codes, count_by}
use Rattle.std.specs.List.{flat_map}
use Rattle.std.specs.Option.{option_map_or, unwrap_or}
use Rattle.std.specs.Str.{str_eq_ignore_ascii_case}
use Rattle.mmtel_base.specs.Chain.{◌>>=◌}
use Rattle.mmtel_base.specs.Classes.{IsOneOrMore}
use Rattle.mmtel_base.specs.declared.classes.Class.TheVariants.{UriByte}
use Rattle.mmtel_lex.specs.Grammar.{params_text, AreParams}
use Rattle.mmtel_lex.specs.Params.{param_value}
use Rattle.mmtel_lex.specs.Reading.{name_addr_of}
use Rattle.mmtel_lex.specs.declared.values.Param.{Param}
use Rattle.mmtel_lex.specs.declared.values.NameAddr.{NameAddr}
use Rattle.mmtel_message.specs.Entries.{is_dotted, is_indexed}
use Rattle.mmtel_history.specs.EntryUri.{cause_of, is_marked, marked_uri, with_cause}
use Rattle.mmtel_history.specs.declared.entries.Entry.{Entry}
use Rattle.mmtel_history.specs.declared.faults.HistoryFault.{HistoryFault}
use Rattle.mmtel_history.specs.declared.faults.HistoryFault.TheVariants as faults

-- ---- a value

-- a parameter of this name, without case
abbrev pub is_index : Param → Bool
is_index p = str_eq_ignore_ascii_case p.name (codes "index")

-- the value of the first index, or nothing
abbrev pub index_of : List Param → List ℕ
index_of ps = unwrap_or (param_value (codes "index") ps) []

-- the parameters except the first index
abbrev pub without_index : List Param → List Param
without_index [] = []
without_index (p ∷ ps) = if is_index p then ps else p ∷ without_index ps

-- the entry of a URI, an index and further parameters
abbrev pub entry_with : List ℕ → List ℕ → List ℕ → Entry
entry_with uri index rest = record { uri = uri; index = index; cause = cause_of uri; hidden = is_marked uri; rest = rest }

-- the entry of a name-addr, where its first index has dotted numbers
abbrev pub entry_in : NameAddr → Option Entry
entry_in n = if is_indexed (Some n) then Some (entry_with n.uri (index_of n.params) (params_text (without_index n.params))) else None

-- the entry that a value writes: a name-addr with an index (RFC 7044 §5)
unfoldable pub entry_of : List ℕ → Option Entry
entry_of value = name_addr_of value >>= entry_in

-- the URI of an entry as it is written: with its mark where it is hidden
unfoldable pub written_uri : Entry → List ℕ
written_uri e = if e.hidden then marked_uri e.uri else e.uri

-- the value of an entry
unfoldable pub entry_text : Entry → List ℕ
entry_text e = 60 ∷ (written_uri e ++ (codes ">;index=" ++ (e.index ++ e.rest)))

-- ---- values

abbrev pub is_unreadable : List ℕ → Bool
is_unreadable value = is_none (entry_of value)

abbrev pub entries_of : List (List ℕ) → List Entry
entries_of values = flat_map (λ v. option_to_list (entry_of v)) values

abbrev pub entries_result_from : Option ℕ → List (List ℕ) → Result (List Entry) ℕ
entries_result_from (Some place) values = Err place
entries_result_from None values = if nat_lt 32 (length values) then Err 32 else Ok (entries_of values)

-- the entries of at most 32 values; or the place of the first unreadable one among the first 32, else 32
unfoldable pub entries_result : List (List ℕ) → Result (List Entry) ℕ
entries_result values = entries_result_from (position is_unreadable (take 32 values)) values

abbrev pub IsRefused : HistoryFault → Result (List Entry) ℕ → Type 0
IsRefused (faults.Malformed at) read = read ≡ Err at
IsRefused faults.NoMemory read = Unit {0}

-- what was returned is what reading gives, unless memory ran out
abbrev pub IsEntriesResult : Result (List Entry) HistoryFault → Result (List Entry) ℕ → Type 0
IsEntriesResult (Ok entries) read = read ≡ Ok entries
IsEntriesResult (Err e) read = IsRefused e read

-- ---- the list after a mark, after a diversion, and masked

abbrev pub hidden_entry : Entry → Entry
hidden_entry e = record e { hidden = true }

-- the entry at the place is hidden
abbrev pub list_marked_at : ℕ → List Entry → List Entry
list_marked_at n [] = []
list_marked_at zero (e ∷ es) = hidden_entry e ∷ es
list_marked_at (suc n) (e ∷ es) = e ∷ list_marked_at n es

-- a list that is not empty, or one with the first URI as its first entry
abbrev pub with_first_entry : List ℕ → List Entry → List Entry
with_first_entry from [] = entry_with from (codes "1") [] ∷ []
with_first_entry from (e ∷ es) = e ∷ es

abbrev pub last_index : List Entry → List ℕ
last_index h = option_map_or (λ e. e.index) (slice_get h (length h - 1)) []

abbrev pub list_hidden_if : Bool → ℕ → List Entry → List Entry
list_hidden_if true place h = list_marked_at place h
list_hidden_if false place h = h

-- the entry of a new target, below the entry of this index
abbrev pub target_entry : List ℕ → List ℕ → ℕ → Entry
target_entry index target cause =
    record { uri = with_cause cause target; index = index ++ codes ".1"; cause = Some cause; hidden = is_marked (with_cause cause target); rest = [] }

abbrev pub with_target : List Entry → List ℕ → ℕ → Bool → List Entry
with_target h target cause hide_last = list_hidden_if hide_last (length h - 1) h ++ target_entry (last_index h) target cause ∷ []

-- History after one more diversion
unfoldable pub list_after_diversion : List Entry → List ℕ → List ℕ → ℕ → Bool → List Entry
list_after_diversion h from target cause hide_last = with_target (with_first_entry from h) target cause hide_last

-- the list as the 181 about its last diversion shows it: the diverting entry, which is the last but one, and the target's, the last, are also hidden where requested; in a
-- list of one entry both are that one (TS 24.604 §4.5.2.6)
abbrev pub history_for_caller : Bool → Bool → List Entry → List Entry
history_for_caller hide_diverting hide_target h = list_hidden_if hide_target (length h - 1) (list_hidden_if hide_diverting (length h - 2) h)

-- ---- counts

-- the entries with a cause
abbrev pub diversions_in : List Entry → ℕ
diversions_in h = count_by (λ e. is_some e.cause) h

-- the diversions of a call so far, as they count against the bound: those that the received list shows, and those that were made since
abbrev pub diversions_so_far : List Entry → ℕ → ℕ
diversions_so_far received made = diversions_in received + made

-- ---- masks

-- the anonymous URI, which replaces a URI that is not shown (RFC 3323 §4.1.1.3)
abbrev pub anonymous : List ℕ
anonymous = codes "sip:anonymous@anonymous.invalid"

abbrev pub masked_uri : Option ℕ → List ℕ
masked_uri None = anonymous
masked_uri (Some cause) = with_cause cause anonymous

abbrev pub masked_entry : Bool → Entry → Entry
masked_entry all e = if all || e.hidden then record e { uri = masked_uri e.cause; hidden = false } else e

-- each hidden entry, or each, without its URI
abbrev pub masked_list : Bool → List Entry → List Entry
masked_list all h = map (masked_entry all) h

-- ---- words of the theorems

-- bytes that may occur between the brackets of a name-addr
abbrev pub IsUriText : List ℕ → Type 0
IsUriText uri = IsOneOrMore UriByte uri

-- an entry as values write them: each of its parts can be read, and its cause and its mark are those of its URI
pub record IsReadable (e : Entry) : Type 0 where
  pub uri : IsUriText e.uri
  pub index : is_dotted false e.index ≡ true
  pub cause : e.cause ≡ cause_of e.uri
  pub mark : is_marked e.uri ≡ true → e.hidden ≡ true
  pub rest : (ps : List Param) × (e.rest ≡ params_text ps) × AreParams ps

abbrev pub AreReadable : List Entry → Type 0
AreReadable [] = Unit {0}
AreReadable (e ∷ es) = IsReadable e × AreReadable es

-- a URI to which a call may be diverted by a cause: it can be written in an entry, and the cause has three digits
pub record IsTarget (target : List ℕ) (cause : ℕ) : Type 0 where
  pub uri : IsUriText target
  pub low : 100 ≤ cause
  pub high : cause ≤ 699

-- the entry with its URI as it is written
abbrev pub written_entry : Entry → Entry
written_entry e = record e { uri = written_uri e }

-- an entry apart from its mark
abbrev pub unmarked_entry : Entry → Entry
unmarked_entry e = record e { hidden = false }

-- an entry that is also hidden if the flag says so
abbrev pub hidden_entry_if : Bool → Entry → Entry
hidden_entry_if hide e = record e { hidden = hide || e.hidden }

-- an entry apart from its URI and its mark, where it is hidden or all are
abbrev pub seen_entry : Bool → Entry → Entry
seen_entry all e = if all || e.hidden then record e { uri = []; hidden = true } else e

abbrev pub is_empty : List Entry → Bool
is_empty [] = true
is_empty (e ∷ es) = false

-- a diversion that is made: to this target, by this cause, with the entry before it hidden or not
pub record Diversion : Type 0 where
  pub target : List ℕ
  pub cause : ℕ
  pub hide_last : Bool

-- History after these diversions, the first one first
abbrev pub list_after_diversions : List Entry → List ℕ → List Diversion → List Entry
list_after_diversions h from [] = h
list_after_diversions h from (d ∷ ds) = list_after_diversions (list_after_diversion h from d.target d.cause d.hide_last) from ds
