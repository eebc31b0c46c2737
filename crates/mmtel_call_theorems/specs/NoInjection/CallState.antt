-- What a call keeps and gets as input, of clean texts alone: dialogs, entries of History-Info, and the content of messages.
use Rattle.std.specs.Prelude.{◌≡◌, true, ◌&&◌, ℕ, Bool, List}
use Rattle.std.specs.List.{list_all}
use Rattle.mmtel_history.specs.declared.entries.Entry.{Entry}
use Rattle.mmtel_leg.specs.Releases.{released_leg}
use Rattle.mmtel_leg.specs.Requests.{RequestPartsView}
use Rattle.mmtel_leg.specs.declared.dialogues.Dialogue.{Dialogue}
use Rattle.mmtel_leg.specs.declared.legs.Released.{Released}
use Rattle.mmtel_message.specs.Headers.{is_value_byte}
use Rattle.mmtel_message.specs.Responses.{Reply}
use Rattle.mmtel_call_theorems.specs.NoInjection.Messages.{HasNoInjection, HaveNoInjection, LinesHaveNoInjection}

-- ---- entries of History-Info

abbrev pub entry_has_no_injection : Entry → Bool
entry_has_no_injection e = list_all is_value_byte e.uri && (list_all is_value_byte e.index && list_all is_value_byte e.rest)

abbrev pub EntriesHaveNoInjection : List Entry → Type 0
EntriesHaveNoInjection h = list_all entry_has_no_injection h ≡ true

-- ---- dialogs

-- the values of a dialog that are in its requests
pub record PartsHaveNoInjection (call_id local remote remote_tag target : List ℕ) (routes : List (List ℕ)) : Type 0 where
  pub call_id_in : HasNoInjection call_id
  pub local_in : HasNoInjection local
  pub remote_in : HasNoInjection remote
  pub tag_in : HasNoInjection remote_tag
  pub target_in : HasNoInjection target
  pub routes_in : HaveNoInjection routes

abbrev pub DialogueHasNoInjection : Dialogue → Type 0
DialogueHasNoInjection d = PartsHaveNoInjection d.call_id d.local d.remote d.remote_tag d.target d.routes

-- the same for a leg that is detached from a call, with the server's tag in it
pub record LegHasNoInjection (leg : Released) : Type 0 where
  pub dialog : DialogueHasNoInjection (released_leg leg).dialogue
  pub tag : HasNoInjection (released_leg leg).dialogue.local_tag

-- ---- the content of messages

-- of a request, beside its dialog
pub record RequestPartsHaveNoInjection (given : RequestPartsView) : Type 0 where
  pub branch_in : HasNoInjection given.branch
  pub shown_in : LinesHaveNoInjection given.shown

-- of a response, beside the header fields of its request
pub record ReplyHasNoInjection (r : Reply) : Type 0 where
  pub phrase_in : HasNoInjection r.phrase
  pub tag_in : HasNoInjection r.tag
  pub contact_in : HasNoInjection r.contact
  pub passed_in : LinesHaveNoInjection r.passed
  pub named_in : LinesHaveNoInjection r.named
