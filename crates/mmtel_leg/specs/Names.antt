-- The identifiers of a dialog (RFC 3261 §12).
use Rattle.std.specs.Prelude.{ℕ, ◌&&◌, Bool, List}
use Rattle.std.specs.Str.{bytes_eq}
use Rattle.mmtel_leg.specs.declared.dialogues.Dialogue.{Dialogue}

-- the identifiers of a dialog: its Call-ID, the server's tag, and that of the other side
pub record DialogName : Type 0 where
  pub call_id : List ℕ
  pub local : List ℕ
  pub remote : List ℕ

-- the dialog has this Call-ID, this tag of the server and this tag of the other side
abbrev pub has_name : (call_id local remote : List ℕ) → Dialogue → Bool
has_name call_id local remote d = bytes_eq d.call_id call_id && (bytes_eq d.local_tag local && bytes_eq d.remote_tag remote)
