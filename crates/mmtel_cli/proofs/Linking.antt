-- The link, where serving does not reach it, and the count of its arrival faults.
use Rattle.std.proofs.Common.{◌≡◌, ℕ, List, ap, inl, inr, Option, Some, None}
use Rattle.mmtel_words.specs.CommandLine.{Command, Serve, Replay, Check, Charges, Workload}
use Rattle.mmtel_cli.proofs.StatusTheorems.{four_rose}
use Rattle.mmtel_cli.specs.Commands.{AsksFor, IsServe}
use Rattle.mmtel_reports.specs.WriteEffects.{WriteEffect, WritesReport}
use Rattle.mmtel_cli.specs.ReportsDue.{CountsLinkFaults, CountsLinkFaultsBy, SparesLink, UnboundBy}
use Rattle.mmtel_cli.specs.CommandResults.{Ports, Prepares}
use Rattle.mmtel_cli.specs.Environment.{Environment}
use Rattle.mmtel_cli.specs.Runs.{CountsAtStatus4, ProgramRun}
use Rattle.mmtel_cli.specs.Serving.{IsUnbound}
use Rattle.mmtel_server.specs.States.{LinkState}
use Rattle.mmtel_reports.specs.declared.reports.Report.{Report}
use Rattle.mmtel_reports.specs.declared.reports.Report.TheVariants.{Usage, BadLine, Link, File, Keeper, Memory, Listing, ValidRecord, Served, InvalidRecord}

module _ (written : WriteEffect) where
  abbrev EndsSo : Report → Type 0
  EndsSo outcome = WritesReport outcome written

  -- ---- where it is unchanged

  early_spared : {L : Type 0} (outcome : Report) (near away : L) → SparesLink outcome near away → EndsSo outcome → (written.status ≡ 0 → ⊥) → (written.status ≡ 4 → ⊥) → (written.status ≡ 8 → ⊥) →
      away ≡ near
  early_spared Usage near away spares ends zero four eight = spares
  early_spared (BadLine line) near away spares ends zero four eight = spares
  early_spared Link near away spares ends zero four eight = absurd (four ends.0)
  early_spared File near away spares ends zero four eight = spares
  early_spared Keeper near away spares ends zero four eight = spares
  early_spared Memory near away spares ends zero four eight = absurd (eight ends.0)
  early_spared (Listing text) near away spares ends zero four eight = spares
  early_spared ValidRecord near away spares ends zero four eight = spares
  early_spared Served near away spares ends zero four eight = absurd (zero ends.0)
  early_spared (InvalidRecord line) near away spares ends zero four eight = spares

  early_by : {L : Type 0} (command : Option Command) (outcome : Report) (near away : L) → UnboundBy command outcome near away → EndsSo outcome
      → (written.status ≡ 0 → ⊥) → (written.status ≡ 4 → ⊥) → (written.status ≡ 8 → ⊥) → away ≡ near
  early_by None outcome near away unbound ends zero four eight = unbound
  early_by (Some (Serve config token turns)) outcome near away unbound ends zero four eight = early_spared outcome near away unbound ends zero four eight
  early_by (Some (Replay asked)) outcome near away unbound ends zero four eight = unbound
  early_by (Some (Check records)) outcome near away unbound ends zero four eight = unbound
  early_by (Some (Charges config)) outcome near away unbound ends zero four eight = unbound
  early_by (Some (Workload calls salt)) outcome near away unbound ends zero four eight = unbound

  -- ---- its count of arrival faults

  counted : (outcome : Report) (taking taken : ℕ) → CountsLinkFaults outcome taking taken → EndsSo outcome → (written.status ≡ 4 → ⊥) → taken ≡ taking
  counted Usage taking taken counts ends four = counts
  counted (BadLine line) taking taken counts ends four = counts
  counted Link taking taken counts ends four = absurd (four ends.0)
  counted File taking taken counts ends four = counts
  counted Keeper taking taken counts ends four = counts
  counted Memory taking taken counts ends four = counts
  counted (Listing text) taking taken counts ends four = counts
  counted ValidRecord taking taken counts ends four = counts
  counted Served taking taken counts ends four = counts
  counted (InvalidRecord line) taking taken counts ends four = counts

  counted_by : (command : Option Command) (outcome : Report) (taking taken : ℕ) → CountsLinkFaultsBy command outcome taking taken → EndsSo outcome → (written.status ≡ 4 → ⊥) → taken ≡ taking
  counted_by None outcome taking taken counts ends four = counts
  counted_by (Some (Serve config token turns)) outcome taking taken counts ends four = counted outcome taking taken counts ends four
  counted_by (Some (Replay asked)) outcome taking taken counts ends four = counts
  counted_by (Some (Check records)) outcome taking taken counts ends four = counts
  counted_by (Some (Charges config)) outcome taking taken counts ends four = counts
  counted_by (Some (Workload calls salt)) outcome taking taken counts ends four = counts

-- for another command than `serve`, and for none
other_by : {L : Type 0} (words : List (List ℕ)) (command : Option Command) (outcome : Report) (near away : L) → AsksFor words command → UnboundBy command outcome near away
    → ((config token : List ℕ) (turns : ℕ) → IsServe config token turns words → ⊥) → away ≡ near
other_by words None outcome near away asks unbound never = unbound
other_by words (Some (Serve config token turns)) outcome near away asks unbound never = absurd (never config token turns asks.spelled)
other_by words (Some (Replay asked)) outcome near away asks unbound never = unbound
other_by words (Some (Check records)) outcome near away asks unbound never = unbound
other_by words (Some (Charges config)) outcome near away asks unbound never = unbound
other_by words (Some (Workload calls salt)) outcome near away asks unbound never = unbound

module _ {L K : Type 0} (old new : Environment) (words : List (List ℕ)) (outcome : Report) (before now : Ports L K) (written : WriteEffect) where
  pub is_unbound : Prepares words old new before now outcome → WritesReport outcome written → IsUnbound words written.status before.link now.link
  is_unbound (inl p) ends = record {
    other_command = other_by words p.command outcome before.link now.link p.command_read p.unbound;
    early = early_by written p.command outcome before.link now.link p.unbound ends;
  }
  is_unbound (inr out) ends = record { other_command = λ never. out.unbound; early = λ zero. λ four. λ eight. out.unbound }

  pub counts_at_four : Prepares words old new before now outcome → WritesReport outcome written → ProgramRun before.files old new words written
      → CountsAtStatus4 written.status old.link.arrival_faults new.link.arrival_faults
  counts_at_four (inl p) ends ran = record {
    rose = four_rose before.files old new words written ran;
    kept = counted_by written p.command outcome old.link.arrival_faults new.link.arrival_faults p.arrival_faults ends;
  }
  counts_at_four (inr out) ends ran = record {
    rose = four_rose before.files old new words written ran;
    kept = λ four. ap (λ (l : LinkState). l.arrival_faults) out.same_link;
  }
