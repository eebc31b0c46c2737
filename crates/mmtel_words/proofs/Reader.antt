-- The words after a command, read from the left: which value each option gets, and which each place (positional argument).
use Rattle.std.proofs.Common.{cond, List, [], ◌∷◌, Some, None, Option}
use Rattle.std.specs.Str.{bytes_eq}
use Rattle.clap.specs.Words.{Text}
use Rattle.clap.specs.Lexer.{long_of, short_of}
use Rattle.mmtel_words.specs.CommandLine.{is_among}

-- the kind of a word
pub data Form : Type 0 where
  mark : Form
  joined : (name value : Text) → Form
  apart : (name : Text) → Form
  place : Form
  bad : Form

-- how the next word is read: options are allowed, the value of this one is expected, or it is positional
pub data Mode : Type 0 where
  reading : Mode
  wanting : (name : Text) → Mode
  trailing : Mode

abbrev pub by_long : List Text → Option (Text × Option Text) → Option Text → Form
by_long names (Some (name, Some v)) sh = cond (is_among names name) (joined name v) bad
by_long names (Some (name, None)) sh = cond (is_among names name) (apart name) bad
by_long names None (Some flags) = bad
by_long names None None = place

abbrev pub form_of : List Text → Text → Form
form_of names x = cond (bytes_eq x (45 ∷ 45 ∷ [])) mark (by_long names (long_of x) (short_of x))

-- a value, and the name of its option or place
abbrev pub Entry : Type 0
Entry = Text × Text

abbrev pub and_entry : Entry → Option (List Entry) → Option (List Entry)
and_entry e None = None
and_entry e (Some es) = Some (e ∷ es)

-- a positional word takes the first of the remaining places
abbrev pub at_place : List Text → Text → (List Text → Option (List Entry)) → Option (List Entry)
at_place [] x f = None
at_place (id ∷ left) x f = and_entry (id, x) (f left)

abbrev pub by_form : Form → Option (List Entry) → (Text → Text → Option (List Entry)) → (Text → Option (List Entry)) → Option (List Entry) → Option (List Entry)
by_form mark tr val want pl = tr
by_form (joined name value) tr val want pl = val name value
by_form (apart name) tr val want pl = want name
by_form place tr val want pl = pl
by_form bad tr val want pl = None

abbrev pub read : List Text → List Text → List Text → Mode → Option (List Entry)
read names [] left (wanting name) = None
read names [] left reading = Some []
read names [] left trailing = Some []
read names (x ∷ xs) left trailing = at_place left x (λ l. read names xs l trailing)
read names (x ∷ xs) left reading =
    by_form (form_of names x) (read names xs left trailing) (λ n v. and_entry (n, v) (read names xs left reading)) (λ n. read names xs left (wanting n)) (at_place left x (λ l. read names xs l reading))
read names (x ∷ xs) left (wanting name) = by_form (form_of names x) None (λ _ _. None) (λ _. None) (and_entry (name, x) (read names xs left reading))
