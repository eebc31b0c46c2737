-- How a directory is built line by line. The contracts of public functions use Directory instead.
use Rattle.std.specs.Prelude.{ℕ, Bool, true, false, nat_lt, not, is_none, ◌&&◌, ◌+◌, ◌++◌, if◌then◌else◌, List, [], ◌∷◌, Option, Some, None, unwrap_or, Result, Ok, Err, ◌≡◌}
use Rattle.mmtel_base.specs.Chain.{◌>>=◌}
use Rattle.mmtel_trust.specs.Peers.{Peers, has_number, has_addr, has_name, with_peer, with_route}
use Rattle.mmtel_types.specs.declared.addrs.Addr.{Addr}
use Rattle.mmtel_directory.specs.declared.config_lines.Extension.TheVariants as extension
use Rattle.mmtel_directory.specs.declared.config_lines.Line.{Line}
use Rattle.mmtel_directory.specs.declared.config_lines.Line.TheVariants as line
use Rattle.mmtel_directory.specs.declared.directories.Directory.{Directory}
use Rattle.mmtel_directory.specs.declared.directories.DirectoryFault.{DirectoryFault}
use Rattle.mmtel_directory.specs.declared.directories.DirectoryFault.TheVariants.{BadLine, NoMemory}
use Rattle.mmtel_directory.specs.declared.drafts.Draft.{Draft}
use Rattle.mmtel_directory.specs.Directory.{line_of, entries_of, is_account, are_new, default_web, default_bound, default_mixer, default_store}
use Rattle.mmtel_directory.specs.Lines.{and_then}

abbrev pub empty_draft : Draft
empty_draft = record {
  sip = None;
  web = None;
  home = None;
  peers = record { known = []; routes = [] };
  routes = 0;
  accounts = [];
  account_lines = 0;
  operator = None;
  factory = None;
  bound = None;
  country = None;
  reliable = false;
  timer = false;
  mwi = false;
  mixer = None;
  store = None;
}

-- whether the draft accepts the line
abbrev pub accepts : Draft → Line → Bool
accepts draft line.Comment = true
accepts draft (line.Sip addr) = is_none draft.sip
accepts draft (line.Web addr) = is_none draft.web
accepts draft (line.Home name) = is_none draft.home
accepts draft (line.Peer peer) = not (has_number peer.peer draft.peers.known) && not (has_addr peer.addr draft.peers.known)
accepts draft (line.Route route) = nat_lt draft.routes 4096 && not (has_name route.name draft.peers.routes) && has_number route.peer draft.peers.known
accepts draft (line.Account account uris) = nat_lt draft.account_lines 10000 && not (is_account draft.accounts account) && are_new draft.accounts (entries_of account uris)
accepts draft (line.Operator uri) = is_none draft.operator
accepts draft (line.Factory uri) = is_none draft.factory
accepts draft (line.Bound n) = is_none draft.bound
accepts draft (line.Country digits) = is_none draft.country
accepts draft (line.Extension extension.Reliable) = not draft.reliable
accepts draft (line.Extension extension.Timer) = not draft.timer
accepts draft (line.Extension extension.Mwi) = not draft.mwi
accepts draft (line.Mixer mixer) = is_none draft.mixer
accepts draft (line.Store name) = is_none draft.store

-- the draft with the content of the line
abbrev pub with_line : Draft → Line → Draft
with_line draft line.Comment = draft
with_line draft (line.Sip addr) = record draft { sip = Some addr }
with_line draft (line.Web addr) = record draft { web = Some addr }
with_line draft (line.Home name) = record draft { home = Some name }
with_line draft (line.Peer peer) = record draft { peers = with_peer peer.peer peer.addr peer.trusted draft.peers }
with_line draft (line.Route route) = record draft { peers = with_route route.name route.peer draft.peers; routes = draft.routes + 1 }
with_line draft (line.Account account uris) = record draft { accounts = draft.accounts ++ entries_of account uris; account_lines = draft.account_lines + 1 }
with_line draft (line.Operator uri) = record draft { operator = Some uri }
with_line draft (line.Factory uri) = record draft { factory = Some uri }
with_line draft (line.Bound n) = record draft { bound = Some n }
with_line draft (line.Country digits) = record draft { country = Some digits }
with_line draft (line.Extension extension.Reliable) = record draft { reliable = true }
with_line draft (line.Extension extension.Timer) = record draft { timer = true }
with_line draft (line.Extension extension.Mwi) = record draft { mwi = true }
with_line draft (line.Mixer mixer) = record draft { mixer = Some mixer }
with_line draft (line.Store name) = record draft { store = Some name }

-- the draft after the line, where the line breaks no rule
unfoldable pub step : Draft → List ℕ → Option Draft
step draft text = do
  line ← line_of text
  if accepts draft line then Some (with_line draft line) else None

-- the directory of a draft, of a server with this address and this home domain
abbrev pub directory_in : Addr → List ℕ → Draft → Directory
directory_in sip home draft = record {
  sip = sip;
  web = unwrap_or draft.web default_web;
  home = home;
  peers = draft.peers;
  names = record { accounts = draft.accounts; operator = draft.operator; mwi = draft.mwi };
  factory = draft.factory;
  bound = unwrap_or draft.bound default_bound;
  country = draft.country;
  reliable = draft.reliable;
  timer = draft.timer;
  mixer = unwrap_or draft.mixer default_mixer;
  store = unwrap_or draft.store default_store;
}

abbrev pub directory_of_parts : ℕ → Option Addr → Option (List ℕ) → Draft → Result Directory ℕ
directory_of_parts last None home draft = Err last
directory_of_parts last (Some sip) None draft = Err last
directory_of_parts last (Some sip) (Some home) draft = Ok (directory_in sip home draft)

-- the directory of a whole draft
abbrev pub directory_of_draft : ℕ → Draft → Result Directory ℕ
directory_of_draft last draft = directory_of_parts last draft.sip draft.home draft

-- the directory of a draft and of the remaining lines
abbrev pub directory_of_lines : ℕ → Draft → List (List ℕ) → Result Directory ℕ
directory_of_lines number draft [] = directory_of_draft number draft
directory_of_lines number draft (text ∷ texts) = and_then number (step draft text) (λ next. directory_of_lines (number + 1) next texts)

-- the result of a line: this draft, or the line's number where there is none
abbrev pub Steps : Result (Unit {0}) DirectoryFault → ℕ → Option Draft → Draft → Type 0
Steps (Ok done) number due after = due ≡ Some after
Steps (Err (BadLine n)) number due after = (due ≡ None) × (n ≡ number)
Steps (Err NoMemory) number due after = Unit {0}

-- the result of lines: a draft that gives what they and the draft before give, where the last of them has the number before this one; or the number of the first line that is not
-- accepted
abbrev pub Reads : Result ℕ DirectoryFault → Draft → List (List ℕ) → Draft → Type 0
Reads (Ok last) before texts after = directory_of_lines 1 before texts ≡ directory_of_draft last after
Reads (Err (BadLine n)) before texts after = directory_of_lines 1 before texts ≡ Err n
Reads (Err NoMemory) before texts after = Unit {0}

-- the result of adding a value: it is there where the test allows it, and else the line's number is returned
abbrev pub Adds : {A : Type 0} → Result (Unit {0}) DirectoryFault → ℕ → Bool → A → A → Type 0
Adds (Ok done) number due next after = (due ≡ true) × (after ≡ next)
Adds (Err (BadLine n)) number due next after = (due ≡ false) × (n ≡ number)
Adds (Err NoMemory) number due next after = Unit {0}
