-- Configurations: a format of this project's own. A text of lines, each of one kind, whose words are separated by one space.
use Rattle.std.specs.Prelude.{ℕ, Bool, true, false, nat_lt, nat_le, not, ◌&&◌, ◌||◌, ◌==◌, ◌+◌, if◌then◌else◌, ◌≡◌}
use Rattle.std.specs.Prelude.{List, [], ◌∷◌, ◌++◌, length, map, codes, Option, Some, None, unwrap_or, Result, Ok, Err}
use Rattle.std.specs.List.{flat_map, list_all, list_any}
use Rattle.std.specs.Str.{bytes_eq}
use Rattle.mmtel_base.specs.Chain.{◌>>=◌}
use Rattle.mmtel_base.specs.Classes.{in_class}
use Rattle.mmtel_base.specs.Numbers.{plain_number}
use Rattle.mmtel_base.specs.Scanning.{split_once_at}
use Rattle.mmtel_base.specs.declared.classes.Class.TheVariants.{Digit, Host}
use Rattle.mmtel_lex.specs.Reading.{Refusal, uri_of}
use Rattle.mmtel_lex.specs.declared.values.Uri.{Uri}
use Rattle.mmtel_sdp.specs.declared.values.Mixer.{Mixer}
use Rattle.mmtel_types.specs.declared.addrs.Addr.{Addr}
use Rattle.mmtel_types.specs.declared.numbers.Account.{Account}
use Rattle.mmtel_types.specs.declared.numbers.Peer.{Peer}
use Rattle.mmtel_trust.specs.Accounts.{has_identity}
use Rattle.mmtel_trust.specs.declared.accounts.AccountIdentity.{AccountIdentity}
use Rattle.mmtel_trust.specs.declared.known_peers.KnownPeer.{KnownPeer}
use Rattle.mmtel_trust.specs.declared.known_peers.Route.{Route}
use Rattle.mmtel_trust.specs.Peers.{Peers, has_number, has_addr, has_name, is_prefix}
use Rattle.mmtel_directory.specs.declared.directories.Directory.{Directory}
use Rattle.mmtel_directory.specs.declared.directories.DirectoryFault.{DirectoryFault}
use Rattle.mmtel_directory.specs.declared.directories.DirectoryFault.TheVariants.{BadLine, NoMemory}
use Rattle.mmtel_directory.specs.declared.config_lines.LineKind.{LineKind}
use Rattle.mmtel_directory.specs.declared.config_lines.LineKind.TheVariants as kind
use Rattle.mmtel_directory.specs.declared.config_lines.Extension.{Extension}
use Rattle.mmtel_directory.specs.declared.config_lines.Extension.TheVariants as extension
use Rattle.mmtel_directory.specs.declared.config_lines.Line.{Line}
use Rattle.mmtel_directory.specs.declared.config_lines.Line.TheVariants as line
use Rattle.mmtel_directory.specs.Lines.{lines_of, words_of, is_comment, number_from, lines_by}

-- ---- addresses

-- `a.b.c.d`, each of 0 to 255
abbrev pub ip_of : List ℕ → Option (List ℕ)
ip_of s = do
  a ← split_once_at 46 s
  b ← split_once_at 46 a.1
  c ← split_once_at 46 b.1
  first ← plain_number 255 a.0
  second ← plain_number 255 b.0
  third ← plain_number 255 c.0
  fourth ← plain_number 255 c.1
  Some (first ∷ second ∷ third ∷ fourth ∷ [])

-- `a.b.c.d:port`, the port of 1 to 65535
abbrev pub addr_of : List ℕ → Option Addr
addr_of s = do
  x ← split_once_at 58 s
  ip ← ip_of x.0
  port ← number_from 1 65535 x.1
  Some (record { ip = ip; port = port })

-- ---- the kinds of lines, by their first word

abbrev pub kind_of : List ℕ → Option LineKind
kind_of word =
    if bytes_eq word (codes "sip") then Some kind.Sip
    else if bytes_eq word (codes "web") then Some kind.Web
    else if bytes_eq word (codes "home") then Some kind.Home
    else if bytes_eq word (codes "peer") then Some kind.Peer
    else if bytes_eq word (codes "route") then Some kind.Route
    else if bytes_eq word (codes "account") then Some kind.Account
    else if bytes_eq word (codes "operator") then Some kind.Operator
    else if bytes_eq word (codes "factory") then Some kind.Factory
    else if bytes_eq word (codes "bound") then Some kind.Bound
    else if bytes_eq word (codes "country") then Some kind.Country
    else if bytes_eq word (codes "extension") then Some kind.Extension
    else if bytes_eq word (codes "mixer") then Some kind.Mixer
    else if bytes_eq word (codes "store") then Some kind.Store
    else None

-- ---- the forms of lines, by what follows their first word

-- a host: letters, digits, `-` and `.`, 1 to 255 of them
abbrev pub is_host : List ℕ → Bool
is_host s = nat_le 1 (length s) && nat_le (length s) 255 && list_all (in_class Host) s

-- the name of a route: a host, `+` and the first digits of numbers, or `*`
abbrev pub is_route_name : List ℕ → Bool
is_route_name s = is_host s || is_prefix s || bytes_eq s (codes "*")

abbrev pub trust_of : List ℕ → Option Bool
trust_of word = if bytes_eq word (codes "trusted") then Some true else if bytes_eq word (codes "untrusted") then Some false else None

-- the number of a peer: 1 to 1024
abbrev pub peer_of : List ℕ → Option Peer
peer_of s = do
  n ← number_from 1 1024 s
  Some (record { 0 = n })

-- the number of an account: 1 to 4294967295
abbrev pub account_number : List ℕ → Option Account
account_number s = do
  n ← number_from 1 4294967295 s
  Some (record { 0 = n })

-- the URI that was read
abbrev pub readable : Result Uri Refusal → Option Uri
readable (Ok uri) = Some uri
readable (Err refusal) = None

-- the URIs that the words are
abbrev pub uris_of : List (List ℕ) → Option (List Uri)
uris_of [] = Some []
uris_of (word ∷ words) = do
  uri ← readable (uri_of word)
  more ← uris_of words
  Some (uri ∷ more)

-- the identities of an account: 1 to 8 words, each a URI
abbrev pub identities_of : List ℕ → Option (List Uri)
identities_of s = do
  uris ← uris_of (words_of s)
  if nat_le (length uris) 8 then Some uris else None

-- a name of one byte or more, without spaces
abbrev pub is_one_word : List ℕ → Bool
is_one_word s = list_all (λ b. not (b == 32)) s

abbrev pub is_store_name : List ℕ → Bool
is_store_name s = nat_le 1 (length s) && is_one_word s

-- `sip ADDR`
abbrev pub sip_line : List ℕ → Option Line
sip_line s = do
  addr ← addr_of s
  Some (line.Sip addr)

-- `web ADDR`
abbrev pub web_line : List ℕ → Option Line
web_line s = do
  addr ← addr_of s
  Some (line.Web addr)

-- `home HOST`
abbrev pub home_line : List ℕ → Option Line
home_line s = if is_host s then Some (line.Home s) else None

-- `peer N ADDR trusted` or `peer N ADDR untrusted`
abbrev pub peer_line : List ℕ → Option Line
peer_line s = do
  n ← split_once_at 32 s
  a ← split_once_at 32 n.1
  peer ← peer_of n.0
  addr ← addr_of a.0
  trusted ← trust_of a.1
  Some (line.Peer (record { peer = peer; addr = addr; trusted = trusted }))

-- `route HOST N`, `route +DIGITS N` or `route * N`
abbrev pub route_words : List ℕ → Option (List ℕ × Peer)
route_words s = do
  n ← split_once_at 32 s
  peer ← peer_of n.1
  if is_route_name n.0 then Some (n.0, peer) else None

abbrev pub route_line : List ℕ → Option Line
route_line s = do
  words ← route_words s
  Some (line.Route (record { name = words.0; peer = words.1 }))

-- `account N` and its identities
abbrev pub account_words : List ℕ → Option (Account × List ℕ)
account_words s = do
  n ← split_once_at 32 s
  account ← account_number n.0
  Some (account, n.1)

abbrev pub account_line : List ℕ → Option Line
account_line s = do
  words ← account_words s
  uris ← identities_of words.1
  Some (line.Account words.0 uris)

-- `operator URI`
abbrev pub operator_line : List ℕ → Option Line
operator_line s = do
  uri ← readable (uri_of s)
  Some (line.Operator uri)

-- `factory URI`
abbrev pub factory_line : List ℕ → Option Line
factory_line s = do
  uri ← readable (uri_of s)
  Some (line.Factory uri)

-- `bound N`, 0 to 16
abbrev pub bound_line : List ℕ → Option Line
bound_line s = do
  n ← plain_number 16 s
  Some (line.Bound n)

-- one to three digits
abbrev pub is_country : List ℕ → Bool
is_country s = nat_le 1 (length s) && (nat_le (length s) 3 && list_all (in_class Digit) s)

-- `country DIGITS`
abbrev pub country_line : List ℕ → Option Line
country_line s = if is_country s then Some (line.Country s) else None

-- the extensions that may be switched on
abbrev pub extension_of : List ℕ → Option Extension
extension_of word =
    if bytes_eq word (codes "100rel") then Some extension.Reliable
    else if bytes_eq word (codes "timer") then Some extension.Timer
    else if bytes_eq word (codes "mwi") then Some extension.Mwi
    else None

-- `extension WORD`
abbrev pub extension_line : List ℕ → Option Line
extension_line s = do
  which ← extension_of s
  Some (line.Extension which)

-- `mixer IP PORT`
abbrev pub mixer_line : List ℕ → Option Line
mixer_line s = do
  x ← split_once_at 32 s
  ip ← ip_of x.0
  port ← number_from 1 65535 x.1
  Some (line.Mixer (record { ip = ip; port = port }))

-- `store NAME`
abbrev pub store_line : List ℕ → Option Line
store_line s = if is_store_name s then Some (line.Store s) else None

-- a line of this kind, by what follows its first word
abbrev pub line_of_kind : LineKind → List ℕ → Option Line
line_of_kind kind.Sip s = sip_line s
line_of_kind kind.Web s = web_line s
line_of_kind kind.Home s = home_line s
line_of_kind kind.Peer s = peer_line s
line_of_kind kind.Route s = route_line s
line_of_kind kind.Account s = account_line s
line_of_kind kind.Operator s = operator_line s
line_of_kind kind.Factory s = factory_line s
line_of_kind kind.Bound s = bound_line s
line_of_kind kind.Country s = country_line s
line_of_kind kind.Extension s = extension_line s
line_of_kind kind.Mixer s = mixer_line s
line_of_kind kind.Store s = store_line s

-- the kind of a line of two words or more, and what follows the first
abbrev pub kind_and_rest : List ℕ → Option (LineKind × List ℕ)
kind_and_rest s = do
  words ← split_once_at 32 s
  kind ← kind_of words.0
  Some (kind, words.1)

abbrev pub line_of_words : List ℕ → Option Line
line_of_words s = do
  x ← kind_and_rest s
  line_of_kind x.0 x.1

-- the content of a line, where it is of a form of the grammar
unfoldable pub line_of : List ℕ → Option Line
line_of s = if is_comment s then Some line.Comment else line_of_words s

-- ---- the values of each kind in lines

abbrev pub sip_in : Line → List Addr
sip_in (line.Sip addr) = addr ∷ []
sip_in _ = []

abbrev pub web_in : Line → List Addr
web_in (line.Web addr) = addr ∷ []
web_in _ = []

abbrev pub home_in : Line → List (List ℕ)
home_in (line.Home name) = name ∷ []
home_in _ = []

abbrev pub peer_in : Line → List KnownPeer
peer_in (line.Peer peer) = peer ∷ []
peer_in _ = []

abbrev pub route_in : Line → List Route
route_in (line.Route route) = route ∷ []
route_in _ = []

abbrev pub account_in : Line → List Account
account_in (line.Account account uris) = account ∷ []
account_in _ = []

-- the identities of an account, with its number
abbrev pub entries_of : Account → List Uri → List AccountIdentity
entries_of account uris = map (λ uri. record { account = account; uri = uri }) uris

abbrev pub identities_in : Line → List AccountIdentity
identities_in (line.Account account uris) = entries_of account uris
identities_in _ = []

abbrev pub operator_in : Line → List Uri
operator_in (line.Operator uri) = uri ∷ []
operator_in _ = []

abbrev pub factory_in : Line → List Uri
factory_in (line.Factory uri) = uri ∷ []
factory_in _ = []

abbrev pub bound_in : Line → List ℕ
bound_in (line.Bound n) = n ∷ []
bound_in _ = []

abbrev pub country_in : Line → List (List ℕ)
country_in (line.Country digits) = digits ∷ []
country_in _ = []

abbrev pub reliable_in : Line → List Extension
reliable_in (line.Extension extension.Reliable) = extension.Reliable ∷ []
reliable_in _ = []

abbrev pub timer_in : Line → List Extension
timer_in (line.Extension extension.Timer) = extension.Timer ∷ []
timer_in _ = []

abbrev pub mwi_in : Line → List Extension
mwi_in (line.Extension extension.Mwi) = extension.Mwi ∷ []
mwi_in _ = []

abbrev pub mixer_in : Line → List Mixer
mixer_in (line.Mixer mixer) = mixer ∷ []
mixer_in _ = []

abbrev pub store_in : Line → List (List ℕ)
store_in (line.Store name) = name ∷ []
store_in _ = []

-- the peers and routes that lines name, in their order
abbrev pub table_of : List Line → Peers
table_of lines = record { known = flat_map peer_in lines; routes = flat_map route_in lines }

-- ---- which line may follow which

-- no line sets it yet
abbrev pub is_unset : {A : Type 0} → (Line → List A) → List Line → Bool
is_unset part lines = length (flat_map part lines) == 0

-- a line sets it
abbrev pub is_set : {A : Type 0} → (Line → List A) → List Line → Bool
is_set part lines = not (is_unset part lines)

-- there is such an account: it has an identity
abbrev pub is_account : List AccountIdentity → Account → Bool
is_account identities account = list_any (λ identity. identity.account.0 == account.0) identities

-- each of the further identities is the same as none before it
abbrev pub are_new : List AccountIdentity → List AccountIdentity → Bool
are_new identities [] = true
are_new identities (one ∷ more) = not (has_identity one.uri identities) && are_new (identities ++ one ∷ []) more

-- whether a line may follow directly after these: a peer of a new number and a new address; a route of a new name to a peer that is named above, with at most 4,096 routes; an
-- account of a new number and of identities that no other line has, with at most 10,000 accounts; each extension once, and each other kind
abbrev pub may_follow : List Line → Line → Bool
may_follow lines line.Comment = true
may_follow lines (line.Sip addr) = is_unset sip_in lines
may_follow lines (line.Web addr) = is_unset web_in lines
may_follow lines (line.Home name) = is_unset home_in lines
may_follow lines (line.Peer peer) = not (has_number peer.peer (flat_map peer_in lines)) && not (has_addr peer.addr (flat_map peer_in lines))
may_follow lines (line.Route route) =
    nat_lt (length (flat_map route_in lines)) 4096 && not (has_name route.name (flat_map route_in lines)) && has_number route.peer (flat_map peer_in lines)
may_follow lines (line.Account account uris) =
    nat_lt (length (flat_map account_in lines)) 10000 && not (is_account (flat_map identities_in lines) account) && are_new (flat_map identities_in lines) (entries_of account uris)
may_follow lines (line.Operator uri) = is_unset operator_in lines
may_follow lines (line.Factory uri) = is_unset factory_in lines
may_follow lines (line.Bound n) = is_unset bound_in lines
may_follow lines (line.Country digits) = is_unset country_in lines
may_follow lines (line.Extension extension.Reliable) = is_unset reliable_in lines
may_follow lines (line.Extension extension.Timer) = is_unset timer_in lines
may_follow lines (line.Extension extension.Mwi) = is_unset mwi_in lines
may_follow lines (line.Mixer mixer) = is_unset mixer_in lines
may_follow lines (line.Store name) = is_unset store_in lines

-- the content of the next line, where it breaks no rule
abbrev pub next_config_line : List Line → List ℕ → Option Line
next_config_line lines text = do
  line ← line_of text
  if may_follow lines line then Some line else None

-- ---- configurations

-- the defaults
abbrev pub default_web : Addr
default_web = record { ip = 127 ∷ 0 ∷ 0 ∷ 1 ∷ []; port = 8080 }

abbrev pub default_bound : ℕ
default_bound = 5

abbrev pub default_mixer : Mixer
default_mixer = record { ip = 127 ∷ 0 ∷ 0 ∷ 1 ∷ []; port = 40000 }

abbrev pub default_store : List ℕ
default_store = codes ":memory:"

abbrev pub first_of : {A : Type 0} → List A → Option A
first_of [] = None
first_of (x ∷ xs) = Some x

-- the value that the lines set, where one does
abbrev pub first_value : {A : Type 0} → (Line → List A) → List Line → Option A
first_value part lines = first_of (flat_map part lines)

-- the directory of a server with this address and this home domain
abbrev pub directory_with : Addr → List ℕ → List Line → Directory
directory_with sip home lines = record {
  sip = sip;
  web = unwrap_or (first_value web_in lines) default_web;
  home = home;
  peers = table_of lines;
  names = record { accounts = flat_map identities_in lines; operator = first_value operator_in lines; mwi = is_set mwi_in lines };
  factory = first_value factory_in lines;
  bound = unwrap_or (first_value bound_in lines) default_bound;
  country = first_value country_in lines;
  reliable = is_set reliable_in lines;
  timer = is_set timer_in lines;
  mixer = unwrap_or (first_value mixer_in lines) default_mixer;
  store = unwrap_or (first_value store_in lines) default_store;
}

abbrev pub directory_by : ℕ → Option Addr → Option (List ℕ) → List Line → Result Directory ℕ
directory_by last None home lines = Err last
directory_by last (Some sip) None lines = Err last
directory_by last (Some sip) (Some home) lines = Ok (directory_with sip home lines)

-- the directory of lines with this content, `last` being the number after that of the last: `sip` and `home` are required
abbrev pub directory_from : ℕ → Result (List Line) ℕ → Result Directory ℕ
directory_from last (Ok lines) = directory_by last (first_value sip_in lines) (first_value home_in lines) lines
directory_from last (Err number) = Err number

-- the directory of a text, or the number, from 1, of the first line that breaks the grammar: one past the last where a required line is absent
unfoldable pub directory_of : List ℕ → Result Directory ℕ
directory_of text = directory_from (length (lines_of text) + 1) (lines_by next_config_line 1 [] (lines_of text))

-- ---- words of contracts

-- this result, unless memory ran out
abbrev pub ReadsDirectory : Result Directory DirectoryFault → Result Directory ℕ → Type 0
ReadsDirectory (Ok directory) due = due ≡ Ok directory
ReadsDirectory (Err (BadLine number)) due = due ≡ Err number
ReadsDirectory (Err NoMemory) due = Unit {0}
