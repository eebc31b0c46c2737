-- The configuration of a workload is of the grammar of configurations.
use Rattle.std.proofs.Common.{◌≡◌, Bool, true, false, ℕ, refl, sym, ◌∙◌, Result, Ok, Err}
use Rattle.mmtel_directory.specs.Directory.{directory_of, line_of}
use Rattle.mmtel_directory.specs.Lines.{words_of}
use Rattle.mmtel_directory.specs.declared.directories.Directory.{Directory}
use Rattle.mmtel_lex.specs.Percent.{percent_decoded_text}
use Rattle.mmtel_lex.specs.Reading.{all_params_at, headers_at, headers_of, host_at, number_at, param_at, params_at, params_of, port_at, port_number, scheme_of, sip_of, tel_of}
use Rattle.mmtel_lex.specs.Reading.{text_at, token_at, uri_of, user_at, value_at}
use Rattle.mmtel_lex.specs.SameIdentity.{is_same_identity}
use Rattle.mmtel_lex.specs.UriParts.{host_part, user_part}
use Rattle.mmtel_base.specs.Classes.{in_class}
use Rattle.mmtel_base.specs.Numbers.{number_of, value_up_to}
use Rattle.mmtel_base.specs.Scanning.{after_run, closing_quote_from, leading_run, split_once_at, without_trailing}
use Rattle.mmtel_cli.specs.Workloads.{work_config}

abbrev is_okay : Result Directory ℕ → Bool
is_okay (Ok directory) = true
is_okay (Err line) = false

-- it computes
work_reads : is_okay (directory_of work_config) ≡ true
unfolding directory_of line_of words_of all_params_at headers_at headers_of host_at number_at param_at params_at params_of port_at port_number scheme_of sip_of tel_of text_at token_at uri_of user_at
    value_at is_same_identity percent_decoded_text user_part host_part leading_run after_run split_once_at closing_quote_from without_trailing value_up_to number_of in_class
work_reads = refl

okay_as : (read : Result Directory ℕ) → is_okay read ≡ true → (directory : Directory) × (read ≡ Ok directory)
okay_as (Ok directory) okay = (directory, refl)
okay_as (Err line) okay = absurd cc

pub work_directory : (directory : Directory) × (directory_of work_config ≡ Ok directory)
work_directory = okay_as (directory_of work_config) work_reads

-- so none of its lines is bad
pub no_bad_line : (line : ℕ) → directory_of work_config ≡ Err line → ⊥
no_bad_line line bad = let okay = work_directory.1 in let wrong : Ok work_directory.0 ≡ Err line = sym okay ∙ bad in cc
