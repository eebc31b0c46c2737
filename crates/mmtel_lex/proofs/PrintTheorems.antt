-- The text of a URI spells it, and so does that of a name-addr.
use Rattle.std.proofs.Common.{◌≡◌, ◌⊎◌, ◌==◌, not, true, false, inl, inr, sym, subst, append_assoc, ℕ, List, [], ◌∷◌, ◌++◌, Option, Some, None, Result, Ok, Err, refl, arith}
use Rattle.std.specs.Prelude.{IfOk, codes, decimal}
use Rattle.std.proofs.lemmas.Bool.Decides.{nat_tests}
use Rattle.mmtel_base.specs.Classes.{in_class}
use Rattle.mmtel_base.specs.Classes.{IsAll, IsOneOrMore, Stops}
use Rattle.mmtel_lex.specs.Grammar.{IsPort, IsSip, IsTel, IsUri, IsSchemeName, port_text, user_text, uri_text, params_text, headers_text, AreParams, IsQuoted, IsWords, IsAngled, IsNameAddr, name_addr_text}
use Rattle.mmtel_base.specs.Scanning.{IsFree}
use Rattle.mmtel_base.proofs.Numerals.{decimal_writes}
use Rattle.mmtel_base.proofs.Runs.{and_true, class_free, wider}
use Rattle.mmtel_base.proofs.Trims.{all_append}
use Rattle.mmtel_base.specs.declared.classes.Class.{Class}
use Rattle.std.specs.List.{list_all}
use Rattle.std.proofs.lemmas.List.Folds.{list_all-append}
use Rattle.mmtel_base.specs.declared.classes.Class.TheVariants.{Digit, Blank, UriByte, BareByte}
use Rattle.mmtel_base.specs.declared.texts.Text.{Text}
use Rattle.mmtel_base.specs.declared.memory.NoMemory.{NoMemory}
use Rattle.mmtel_lex.specs.declared.values.NameAddr.{NameAddr}
use Rattle.mmtel_lex.specs.declared.values.Param.{Param}
use Rattle.mmtel_lex.specs.declared.values.Uri.{Uri}
use Rattle.mmtel_lex.specs.declared.values.Uri.TheVariants.{Sip, Tel}

port_by : (text : List ℕ) (p : Option ℕ) → IsPort text p → IsPort (port_text p) p
port_by text None is = refl
port_by text (Some n) is =
    (decimal n, refl, record { writes = decimal_writes n (omega (arith, is.2.high)); low = is.2.low; high = is.2.high })

free_parts : (a b : List ℕ) → IsFree 64 (a ++ b) → IsFree 64 a × IsFree 64 b
free_parts a b free = and_true (list_all (λ x. not (x == 64)) a) (list_all (λ x. not (x == 64)) b) (rw list_all-append at free)

free_both : (a b : List ℕ) → IsFree 64 a → IsFree 64 b → IsFree 64 (a ++ b)
free_both a b x y = rw (list_all-append, x, y) refl

port_free : (text : List ℕ) (p : Option ℕ) → IsPort text p → IsFree 64 (port_text p)
unfolding in_class port_by
port_free text None is = refl
port_free text (Some n) is = class_free Digit 64 refl (decimal n) (port_by text (Some n) is).2.writes.digits.each

-- the port may be spelled otherwise
lone_by : (host text : List ℕ) (p : Option ℕ) (r : List ℕ) → IsPort text p → IsFree 64 (host ++ (text ++ r)) → IsFree 64 (host ++ (port_text p ++ r))
lone_by host text p r is free =
    let outer = free_parts host (text ++ r) free in
    let inner = free_parts text r outer.1 in
    free_both host (port_text p ++ r) outer.0 (free_both (port_text p) r (port_free text p is) inner.1)

digit_visible : (b : ℕ) → in_class Digit b ≡ true → in_class UriByte b ≡ true
unfolding in_class
digit_visible b e = grind (arith, nat_tests)

port_visible : (text : List ℕ) (p : Option ℕ) → IsPort text p → IsAll UriByte (port_text p)
unfolding in_class port_by
port_visible text None is = refl
port_visible text (Some n) is = wider Digit UriByte digit_visible (decimal n) (port_by text (Some n) is).2.writes.digits.each

pub all_parts : (k : Class) (a b : List ℕ) → IsAll k (a ++ b) → IsAll k a × IsAll k b
all_parts k a b all = and_true (list_all (in_class k) a) (list_all (in_class k) b) (rw list_all-append at all)

-- the port may be spelled otherwise
sip_visible : (user : Option (List ℕ)) (host text : List ℕ) (p : Option ℕ) (r : List ℕ) → IsPort text p → IsAll UriByte (user_text user ++ (host ++ (text ++ r))) →
    IsAll UriByte (user_text user ++ (host ++ (port_text p ++ r)))
sip_visible user host text p r is all =
    let front = all_parts UriByte (user_text user) (host ++ (text ++ r)) all in
    let outer = all_parts UriByte host (text ++ r) front.1 in
    let inner = all_parts UriByte text r outer.1 in
    all_append UriByte (user_text user) (host ++ (port_text p ++ r)) front.0 (all_append UriByte host (port_text p ++ r) outer.0 (all_append UriByte (port_text p) r (port_visible text p is) inner.1))

sip_name : IsSchemeName (codes "sip")
unfolding in_class
sip_name = (refl, refl)

tel_name : IsSchemeName (codes "tel")
unfolding in_class
tel_name = (refl, refl)

pub printed_again : (s : List ℕ) (u : Uri) → IsUri s u → IsUri (uri_text u) u
printed_again s (Sip user host port params headers) is =
    let had : IsSip is.rest user host port params headers = is.rest_in in
    record {
      name = codes "sip";
      rest = _;
      begins = record { whole = refl; name_in = sip_name };
      named = refl;
      rest_in = record {
        bytes_in = sip_visible user host had.port_text port (params_text params ++ headers_text headers) had.port_in (rw had.whole at had.bytes_in);
        port_text = port_text port;
        whole = refl;
        user_in = had.user_in;
        lone = lone_by host had.port_text port (params_text params ++ headers_text headers) had.port_in had.lone;
        host_in = had.host_in;
        host_fits = had.host_fits;
        port_in = port_by had.port_text port had.port_in;
        params_in = had.params_in;
        headers_in = had.headers_in;
      };
    }
printed_again s (Tel number params) is =
    let had : IsTel is.rest number params = is.rest_in in
    record {
      name = codes "tel";
      rest = _;
      begins = record { whole = refl; name_in = tel_name };
      named = refl;
      rest_in = record { bytes_in = rw had.whole at had.bytes_in; whole = refl; number_in = had.number_in; params_in = had.params_in };
    }

pub reads_back : (r : Result Text NoMemory) (u : Uri) → IfOk r (λ t. t ≡ uri_text u) → (s : List ℕ) → IsUri s u → IfOk r (λ t. IsUri t u)
reads_back (Ok t) u e s is = rw e (printed_again s u is)
reads_back (Err f) u e s is = tt

-- ---- name-addrs

bare_uri : (b : ℕ) → in_class BareByte b ≡ true → in_class UriByte b ≡ true
unfolding in_class
bare_uri b e = grind (arith, nat_tests)

angle_stops : in_class Blank 60 ≡ false
unfolding in_class
angle_stops = refl

blank_is : IsAll Blank (32 ∷ [])
unfolding in_class
blank_is = refl

front_stops : (d r : List ℕ) → Stops Blank (d ++ r) → Stops Blank d
front_stops [] r stops = tt
front_stops (b ∷ d) r stops = stops

angle_ref : (d uri : List ℕ) (ps : List Param) → IsWords d ⊎ IsQuoted d → Stops Blank d → IsOneOrMore UriByte uri → AreParams ps
    → IsAngled (name_addr_text (record { display = d; uri = uri; params = ps })) (record { display = d; uri = uri; params = ps })
angle_ref [] uri ps is stops uri_in are = record { gap = []; whole = refl; starts = angle_stops; display_in = is; gap_in = refl; uri_in = uri_in; params_in = are }
angle_ref (b ∷ d) uri ps is stops uri_in are = record {
  gap = 32 ∷ [];
  whole = append_assoc (b ∷ d) (32 ∷ []) (60 ∷ (uri ++ 62 ∷ params_text ps));
  starts = stops;
  display_in = is;
  gap_in = blank_is;
  uri_in = uri_in;
  params_in = are;
}

no_words : IsWords []
no_words = record { each = refl; ends = tt }

pub name_addr_printed : (s : List ℕ) (n : NameAddr) → IsNameAddr s n → IsNameAddr (name_addr_text n) n
name_addr_printed s n (inl is) =
    let stops : Stops Blank n.display = front_stops n.display (is.gap ++ (60 ∷ (n.uri ++ 62 ∷ params_text n.params))) (rw is.whole at is.starts) in
    inl (angle_ref n.display n.uri n.params is.display_in stops is.uri_in is.params_in)
name_addr_printed s n (inr is) =
    let uri_in : IsOneOrMore UriByte n.uri = record { filled = is.uri_in.filled; each = wider BareByte UriByte bare_uri n.uri is.uri_in.each } in
    let none : IsWords n.display ⊎ IsQuoted n.display = inl (subst (λ (d : List ℕ). IsWords d) (sym is.no_display) no_words) in
    let stops : Stops Blank n.display = subst (λ (d : List ℕ). Stops Blank d) (sym is.no_display) tt in
    inl (angle_ref n.display n.uri n.params none stops uri_in is.params_in)

pub name_addr_reads_back : (r : Result Text NoMemory) (n : NameAddr) → IfOk r (λ t. t ≡ name_addr_text n) → (s : List ℕ) → IsNameAddr s n → IfOk r (λ t. IsNameAddr t n)
name_addr_reads_back (Ok t) n e s is = rw e (name_addr_printed s n is)
name_addr_reads_back (Err f) n e s is = tt
