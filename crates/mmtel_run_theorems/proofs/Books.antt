-- The ledger of the participants of a run: each meter that begins is a participant's, and is closed once, or runs.
use Rattle.std.proofs.Common.{◌≡◌, ℕ, ◌+◌, Bool, true, List, [], ◌∷◌, ◌++◌, Option, Some, None, refl, sym, ap, ◌∙◌, subst, arith, cond, append-nil, append_assoc, IfSome}
use Rattle.std.specs.Prelude.{count_by, option_to_list}
use Rattle.std.proofs.lemmas.List.{append_cancel_left}
use Rattle.std.proofs.lemmas.List.Sums.{sum_by-append}
use Rattle.mmtel_call_theorems.specs.NoInjection.Emits.{Each}
use Rattle.mmtel_charging.specs.Meters.{MeterView}
use Rattle.mmtel_charging.specs.declared.rows.Row.{Row}
use Rattle.mmtel_focus.specs.Operations.{JoinRequest, TableOp, Opens, Joins, Adopts, Notifies, Receives, Leaves, Closes, Drops, effects_after, step_on_open, table_after}
use Rattle.mmtel_focus.specs.Joining.{after_join}
use Rattle.mmtel_focus.specs.ConferenceConfig.{ConferenceConfigView}
use Rattle.mmtel_focus.specs.Table.{Table}
use Rattle.mmtel_focus_theorems.specs.Charging.{BookEntry, Follows, IsCharged, IsDropped, IsStarted, IsUncharged, OperationsAreCharged, among, rows_of_closed, running_meters}
use Rattle.mmtel_run_definitions.specs.ChargingRows.{rows_of_departed}
use Rattle.mmtel_focus_theorems.specs.Participants.{moment_of}
use Rattle.mmtel_run_theorems.specs.ChargingRecords.{DatedEntry, IsBookAt, IsBookOf, RunsOn, closed_in, dated_entries, is_participant, is_participant_row, started_in}
use Rattle.mmtel_run_theorems.proofs.OperationsOfEvents.{IsOfRun}
use Rattle.mmtel_run_theorems.proofs.RowsByPart.{each_behind, each_first, each_last}

-- ---- a ledger, and one more operation

follows-on : (at : ℕ) (before : List MeterView) (entries : List BookEntry) (after : List MeterView) (rows : List Row) → Follows at before entries after rows → RunsOn before (dated_entries at entries) after rows
follows-on at before [] after rows f = f
follows-on at before (e ∷ entries) after rows f =
    let (later, is, was, begun, rest) = f in (later, is, was, begun, follows-on at (among e.front e.started e.back) entries after later rest)

runs-behind : (before : List MeterView) (one : List DatedEntry) (mid : List MeterView) (rows : List Row) (two : List DatedEntry) (after : List MeterView) (more : List Row) →
    RunsOn before one mid rows → RunsOn mid two after more → RunsOn before (one ++ two) after (rows ++ more)
runs-behind before [] mid rows two after more f g =
    subst (λ (rows : List Row). RunsOn before two after (rows ++ more)) (sym f.1) (subst (λ (mid : List MeterView). RunsOn mid two after more) f.0 g)
runs-behind before (x ∷ one) mid rows two after more f g =
    let (later, is, was, begun, rest) = f in (
      later ++ more,
      ap (λ (rows : List Row). rows ++ more) is ∙ append_assoc (rows_of_closed x.at x.entry.closed) later more,
      was,
      begun,
      runs-behind (among x.entry.front x.entry.started x.entry.back) one mid later two after more rest g,
    )

-- ---- the ledger of the operations

pub record Kept (config : ConferenceConfigView) (ops : List TableOp) : Type 0 where
  pub book : List DatedEntry
  pub runs : RunsOn [] book (running_meters (table_after config ops).live) (rows_of_departed config ops)
  pub of_operations : IsBookOf config ops book

-- these CDRs were filed, after those before
same-rows : (before rows brought : List Row) → before ++ brought ≡ before ++ rows → rows ≡ brought
same-rows before rows brought e = sym (append_cancel_left before brought rows e)

charged-more : (config : ConferenceConfigView) (op : TableOp) (older : List TableOp) (at : ℕ) → moment_of op ≡ Some at → IsCharged at (table_after config older) (table_after config (op ∷ older)) →
    (table_after config (op ∷ older)).rows ≡ (table_after config older).rows ++ (effects_after config older op).output.rows → Kept config older → Kept config (op ∷ older)
charged-more config op older at moment c is k =
    let same : c.rows ≡ (effects_after config older op).output.rows = same-rows (table_after config older).rows c.rows (effects_after config older op).output.rows (sym is ∙ c.filed) in
    record {
      book = k.book ++ dated_entries at c.booked.entries;
      runs =
          runs-behind [] k.book (running_meters (table_after config older).live) (rows_of_departed config older) (dated_entries at c.booked.entries)
          (running_meters (table_after config (op ∷ older)).live) (effects_after config older op).output.rows k.runs
          (subst (λ (rows : List Row). RunsOn (running_meters (table_after config older).live) (dated_entries at c.booked.entries) (running_meters (table_after config (op ∷ older)).live) rows) same
          (follows-on at (running_meters (table_after config older).live) c.booked.entries (running_meters (table_after config (op ∷ older)).live) c.rows c.booked.follows));
      of_operations = (
        k.book,
        dated_entries at c.booked.entries,
        refl,
        k.of_operations,
        subst (λ (o : Option ℕ). IsBookAt o (running_meters (table_after config older).live) (running_meters (table_after config (op ∷ older)).live) (effects_after config older op).output.rows
            (dated_entries at c.booked.entries)) (sym moment) (
              c.booked.entries,
              refl,
              subst (λ (rows : List Row). Follows at (running_meters (table_after config older).live) c.booked.entries (running_meters (table_after config (op ∷ older)).live) rows) same c.booked.follows,
            ),
      );
    }

-- nothing was filed, and the same meters run
uncharged-more : (config : ConferenceConfigView) (op : TableOp) (older : List TableOp) → moment_of op ≡ None →
    running_meters (table_after config (op ∷ older)).live ≡ running_meters (table_after config older).live → (effects_after config older op).output.rows ≡ [] →
    Kept config older → Kept config (op ∷ older)
uncharged-more config op older moment runs none k = record {
  book = k.book;
  runs =
      subst (λ (meters : List MeterView). RunsOn [] k.book meters (rows_of_departed config older ++ (effects_after config older op).output.rows)) (sym runs)
      (subst (RunsOn [] k.book (running_meters (table_after config older).live)) (sym (ap (λ (rows : List Row). rows_of_departed config older ++ rows) none ∙ append-nil (rows_of_departed config older))) k.runs);
  of_operations = (
    k.book,
    [],
    sym (append-nil k.book),
    k.of_operations,
    subst (λ (o : Option ℕ). IsBookAt o (running_meters (table_after config older).live) (running_meters (table_after config (op ∷ older)).live) (effects_after config older op).output.rows [])
        (sym moment) (refl, runs, none),
  );
}

-- whoever opens a conference leaves none
opens-none : (config : ConferenceConfigView) (c : JoinRequest) (table : Table) → (step_on_open config c table).effects.output.rows ≡ []
unfolding after_join
opens-none config c table = refl

more-kept : OperationsAreCharged → (config : ConferenceConfigView) (op : TableOp) (older : List TableOp) → IsOfRun op → Kept config older → Kept config (op ∷ older)
more-kept law config (Opens coming) older of k =
    charged-more config (Opens coming) older coming.at refl (law config older (Opens coming))
    (sym (ap (λ (rows : List Row). (table_after config older).rows ++ rows) (opens-none config coming (table_after config older)) ∙ append-nil (table_after config older).rows)) k
more-kept law config (Joins room coming) older of k = charged-more config (Joins room coming) older coming.at refl (law config older (Joins room coming)) refl k
more-kept law config (Adopts room adoption) older of k = charged-more config (Adopts room adoption) older adoption.at refl (law config older (Adopts room adoption)) refl k
more-kept law config (Notifies room seat code tokens) older of k =
    let u : IsUncharged (table_after config older) (table_after config (Notifies room seat code tokens ∷ older)) = law config older (Notifies room seat code tokens) in
    let brought : List Row = (effects_after config older (Notifies room seat code tokens)).output.rows in
    uncharged-more config (Notifies room seat code tokens) older refl u.runs_on (append_cancel_left (table_after config older).rows brought [] (u.filed ∙ sym (append-nil (table_after config older).rows))) k
more-kept law config (Receives received) older of k = charged-more config (Receives received) older received.at refl (law config older (Receives received)) refl k
more-kept law config (Leaves room seat) older of k = absurd of
more-kept law config (Closes room) older of k = absurd of
more-kept law config (Drops count) older of k =
    let dropped : IsDropped count (table_after config older) (table_after config (Drops count ∷ older)) = law config older (Drops count) in
    uncharged-more config (Drops count) older refl dropped.runs_on refl k

pub kept : OperationsAreCharged → (config : ConferenceConfigView) (ops : List TableOp) → Each IsOfRun ops → Kept config ops
kept law config [] of = record { book = []; runs = (refl, refl); of_operations = refl }
kept law config (op ∷ older) of = more-kept law config op older of.0 (kept law config older of.1)

-- ---- whose its meters and CDRs are

abbrev IsPlace : MeterView → Type 0
IsPlace meter = is_participant meter.kind ≡ true

abbrev ArePlaces : List MeterView → Type 0
ArePlaces meters = Each IsPlace meters

abbrev pub IsParticipantRow : Row → Type 0
IsParticipantRow row = is_participant_row row ≡ true

abbrev pub AreOfParticipants : List Row → Type 0
AreOfParticipants rows = Each IsParticipantRow rows

begun-places : (at : ℕ) (o : Option MeterView) → IfSome o (IsStarted at) → ArePlaces (option_to_list o)
begun-places at None h = tt
begun-places at (Some meter) h = (ap is_participant h.kind, tt)

closed-seats : (at : ℕ) (o : Option MeterView) → ArePlaces (option_to_list o) → AreOfParticipants (rows_of_closed at o)
closed-seats at None h = tt
closed-seats at (Some meter) h = h

pub of_seats : (before : List MeterView) (book : List DatedEntry) (after : List MeterView) (rows : List Row) → ArePlaces before → RunsOn before book after rows → AreOfParticipants rows
of_seats before [] after rows h f = subst AreOfParticipants (sym f.1) tt
of_seats before (x ∷ book) after rows h f =
    let (later, is, was, begun, rest) = f in
    let front : List MeterView = x.entry.front in
    let back : List MeterView = x.entry.back in
    let closed : List MeterView = option_to_list x.entry.closed in
    let all : ArePlaces (front ++ (closed ++ back)) = subst ArePlaces was h in
    let behind : ArePlaces (closed ++ back) = each_last IsPlace front (closed ++ back) all in
    let next : ArePlaces (among front x.entry.started back) =
    each_behind IsPlace front (option_to_list x.entry.started ++ back) (each_first IsPlace front (closed ++ back) all)
    (each_behind IsPlace (option_to_list x.entry.started) back (begun-places x.at x.entry.started begun) (each_last IsPlace closed back behind)) in
    subst AreOfParticipants (sym is)
    (each_behind IsParticipantRow (rows_of_closed x.at x.entry.closed) later (closed-seats x.at x.entry.closed (each_first IsPlace closed back behind))
    (of_seats (among front x.entry.started back) book after later next rest))

-- ---- each once

count-behind : (p : MeterView → Bool) (xs ys : List MeterView) → count_by p (xs ++ ys) ≡ count_by p xs + count_by p ys
count-behind p xs ys = sum_by-append (λ (meter : MeterView). cond (p meter) 1 0) xs ys

each_once : (p : MeterView → Bool) (before : List MeterView) (book : List DatedEntry) (after : List MeterView) (rows : List Row) → RunsOn before book after rows →
    count_by p before + count_by p (started_in book) ≡ count_by p (closed_in book) + count_by p after
each_once p before [] after rows f = let same : count_by p after ≡ count_by p before = ap (count_by p) f.0 in omega (arith, same)
each_once p before (x ∷ book) after rows f =
    let (later, is, was, begun, rest) = f in
    let front : List MeterView = x.entry.front in
    let back : List MeterView = x.entry.back in
    let closed : List MeterView = option_to_list x.entry.closed in
    let begins : List MeterView = option_to_list x.entry.started in
    omega (
      arith,
      ap (count_by p) was,
      count-behind p front (closed ++ back),
      count-behind p closed back,
      count-behind p front (begins ++ back),
      count-behind p begins back,
      count-behind p begins (started_in book),
      count-behind p closed (closed_in book),
      each_once p (among front x.entry.started back) book after later rest,
    )

-- beginning with none
pub all_once : (p : MeterView → Bool) (book : List DatedEntry) (after : List MeterView) (rows : List Row) → RunsOn [] book after rows → count_by p (started_in book) ≡ count_by p (closed_in book) + count_by p after
all_once p book after rows f = omega (arith, each_once p [] book after rows f)
