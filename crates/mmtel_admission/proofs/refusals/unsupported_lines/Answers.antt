use Rattle.std.proofs.Common.{◌≡◌, ℕ, ◌+◌, ◌<◌, Bool, true, false, cond, List, [], ◌∷◌, ◌++◌, map, filter, take, get_or, length, refl, sym, ap, ◌∙◌, append-nil}
use Rattle.std.proofs.lemmas.List.{map-append}
use Rattle.std.proofs.lemmas.List.Elements.{filter_more}
use Rattle.mmtel_directory.specs.declared.directories.Directory.{Directory}
use Rattle.mmtel_message.specs.Message as Message
use Rattle.mmtel_message.specs.Message.{Line}
use Rattle.mmtel_run_definitions.specs.OwnResponses.{is_unsupported, unsupported_line}
use Rattle.mmtel_admission.proofs.refusals.unsupported_lines.Goals.{then-is_unsupported+in_ok-add_bytes, else-is_unsupported}
use Rattle.mmtel_admission.proofs.refusals.unsupported_lines.Goals as goal

-- the header fields for a prefix of the options
abbrev lines_for : Directory → List (List ℕ) → List Line
lines_for d options = map unsupported_line (filter (λ option. is_unsupported d option) options)

-- one more option
more : (d : Directory) (options : List (List ℕ)) (i : ℕ) (x : List ℕ) (unsupported : Bool) → i < length options → x ≡ get_or options i x → unsupported ≡ is_unsupported d x →
    lines_for d (take i options) ++ cond unsupported (unsupported_line x ∷ []) [] ≡ lines_for d (take (i + 1) options)
more d options i x true within is said = sym (ap (λ (l : List (List ℕ)). map unsupported_line l) (filter_more (λ option. is_unsupported d option) options i x within ∙ rw (sym is, sym said) refl)
    ∙ map-append unsupported_line (filter (λ option. is_unsupported d option) (take i options)) (x ∷ []))
more d options i x false within is said =
    sym (ap (λ (l : List (List ℕ)). map unsupported_line l) (filter_more (λ option. is_unsupported d option) options i x within ∙ rw (sym is, sym said) (append-nil _)) ∙ sym (append-nil _))

pub loop-option-preserved : goal.loop-option-preserved
unfolding Message.line
loop-option-preserved c =
    let d : Directory = c.args.directory.now in
    let next : (unsupported : Bool) → unsupported ≡ is_unsupported d c.bytes.result.now → lines_for d (take c.loop-option.option-index c.items-option-items.result.now)
    ++ cond unsupported (unsupported_line c.option-item.result ∷ []) [] ≡ lines_for d (take (c.loop-option.option-index + 1) c.items-option-items.result.now) =
    λ unsupported said. more d c.items-option-items.result.now c.loop-option.option-index c.option-item.result unsupported c.loop-option-test.true c.option-item.is (rw c.bytes.ensures at said) in
    elim c.if-is_unsupported.branch [
      | then-is_unsupported+in_ok-add_bytes w ↦ w.lines-is ∙ w.in_ok-add_bytes.ensures.added ∙ rw (c.loop-option.invariant, w.bytes-then-is_unsupported.ensures) (next true w.if-is_unsupported.ensures)
      | else-is_unsupported w ↦ w.lines-is ∙ c.loop-option.invariant ∙ sym (append-nil _) ∙ next false w.if-is_unsupported.ensures
    ]
