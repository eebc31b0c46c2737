-- The results of the functions that read the words of one command, from what `clap` found.
use Rattle.std.proofs.Common.{◌≡◌, ◌∙◌, ℕ, ◌≤◌, true, false, refl, sym, ap, codes, List, [], ◌∷◌, Some, None, Option, arith}
use Rattle.std.specs.Prelude.{Result, Ok, Err, decimal}
use Rattle.std.proofs.lemmas.Bool.{false≢true}
use Rattle.std.specs.Str.{bytes_eq}
use Rattle.clap.specs.Words.{App, Text, fault_of, first_of, matches_of, is_simple, is_simple_and_free, HasMatchesOf}
use Rattle.clap.specs.Simple.{built}
use Rattle.clap.specs.Faults.{is_free_app}
use Rattle.clap.specs.declared.parser.matches.ArgMatches.{ArgMatches}
use Rattle.clap.proofs.OnLiterals.{clap_on_literals}
use Rattle.mmtel_base.proofs.Runs.{and_true}
use Rattle.mmtel_words.specs.CommandLine.{ReplayArgs, Command, Serve, Replay, Check, Charges, Workload, EachText, IsCommand, is_token}
use Rattle.mmtel_words.specs.Reads.{SpellsNone, ReadsCommand, IsOneFile, MatchesIn, IsText, IsToken, IsNumber, value_of}
use Rattle.mmtel_words.specs.Rules.{serve_app, replay_app, file_app, workload_app}
use Rattle.mmtel_words.specs.declared.faults.WordsFault.{WordsFault}
use Rattle.mmtel_words.specs.declared.faults.WordsFault.TheVariants.{Words, NoMemory}
use Rattle.mmtel_words.proofs.Lines.{Line, token_plain, number_plain, serve_options, replay_options, workload_options, serve_line, replay_line}
use Rattle.mmtel_words.proofs.Lines.{file_line, workload_line, serve_spelled, replay_spelled, file_spelled, workload_spelled, name_of, none_else}

-- the commands are simple
pub serve_simple : is_simple_and_free serve_app ≡ true
unfolding clap_on_literals
serve_simple = refl

pub replay_simple : is_simple_and_free replay_app ≡ true
unfolding clap_on_literals
replay_simple = refl

pub file_simple : (name : Text) → is_simple_and_free (file_app name) ≡ true
unfolding clap_on_literals
file_simple name = refl

pub workload_simple : is_simple_and_free workload_app ≡ true
unfolding clap_on_literals
workload_simple = refl

pub found_ok : (a : App) (ws : List Text) (m : ArgMatches) → is_simple_and_free a ≡ true → fault_of a ws ≡ [] → HasMatchesOf a ws m → MatchesIn a ws (Ok m)
found_ok a ws m simple fault has = (fault, (has (and_true (is_simple a) (is_free_app (built a)) simple).0).0)

missing : (o : Option Text) (t : Text) → o ≡ None → o ≡ Some t → ⊥
missing o t e f = let h : None ≡ Some t = sym e ∙ f in cc

wrong_token : (o : Option Text) (t : Text) → ((text : Text) → o ≡ Some text → is_token text ≡ false) → o ≡ Some t → is_token t ≡ true → ⊥
wrong_token o t h e is = false≢true (sym (h t e) ∙ is)

module _ (a : App) (ws : List Text) (m : ArgMatches) (f : MatchesIn a ws (Ok m)) where
  -- what is found are the arguments of the words
  at : (name : Text) (o : Option Text) → value_of m name ≡ o → first_of name (matches_of a ws) ≡ o
  at name o e = ap (first_of name) (sym f.1) ∙ e

  here : (name t : Text) → first_of name (matches_of a ws) ≡ Some t → value_of m name ≡ Some t
  here name t e = ap (first_of name) f.1 ∙ e

-- ---- serve

serve_none : (ws : List Text) → EachText (codes "serve" ∷ ws)
    → ((config token : Text) (turns : ℕ) → is_token token ≡ true → 1 ≤ turns → turns ≤ 1000000000 → Line serve_app (serve_options token (decimal turns)) (codes "config" ∷ []) (config ∷ []) ws → ⊥) →
    SpellsNone (codes "serve" ∷ ws)
serve_none ws texts h = none_else (codes "serve") ws by
  where
    by : (c : Command) → bytes_eq (codes "serve") (name_of c) ≡ true → IsCommand c (codes "serve" ∷ ws) → ⊥
    by (Serve config token turns) e s = h config token turns s.0 s.1 s.2 (serve_line config token (decimal turns) ws texts.1 s.3)
    by (Replay asked) e s = absurd (false≢true e)
    by (Check records) e s = absurd (false≢true e)
    by (Charges config) e s = absurd (false≢true e)
    by (Workload calls salt) e s = absurd (false≢true e)

pub serve_unfound : (ws : List Text) → EachText (codes "serve" ∷ ws) → (r : WordsFault) → MatchesIn serve_app ws (Err r) → ReadsCommand (codes "serve" ∷ ws) (Err r)
serve_unfound ws texts NoMemory h = tt
serve_unfound ws texts Words h = serve_none ws texts (λ config token turns is least most l. h l.fault)

pub serve_no_token : (ws : List Text) → EachText (codes "serve" ∷ ws) → (m : ArgMatches) → MatchesIn serve_app ws (Ok m) → (r : WordsFault) → IsToken (value_of m (codes "token")) (Err r) →
    ReadsCommand (codes "serve" ∷ ws) (Err r)
serve_no_token ws texts m f NoMemory h = tt
serve_no_token ws texts m f Words h = serve_none ws texts (λ config token turns is least most l. wrong_token (value_of m (codes "token")) token h (here serve_app ws m f (codes "token") token l.firsts.0) is)

pub serve_no_turns : (ws : List Text) → EachText (codes "serve" ∷ ws) → (m : ArgMatches) → MatchesIn serve_app ws (Ok m) → (r : WordsFault) →
    IsNumber (value_of m (codes "turns")) 1 1000000000 (Err r) → ReadsCommand (codes "serve" ∷ ws) (Err r)
serve_no_turns ws texts m f NoMemory h = tt
serve_no_turns ws texts m f Words h = serve_none ws texts (λ config token turns is least most l. h turns least most (here serve_app ws m f (codes "turns") (decimal turns) l.firsts.1.0))

pub serve_no_config : (ws : List Text) → EachText (codes "serve" ∷ ws) → (m : ArgMatches) → MatchesIn serve_app ws (Ok m) → (r : WordsFault) → IsText (value_of m (codes "config")) (Err r) →
    ReadsCommand (codes "serve" ∷ ws) (Err r)
serve_no_config ws texts m f NoMemory h = tt
serve_no_config ws texts m f Words h = serve_none ws texts (λ config token turns is least most l. missing (value_of m (codes "config")) config h (here serve_app ws m f (codes "config") config l.places.0))

pub serve_read_as : (ws : List Text) → EachText (codes "serve" ∷ ws) → (m : ArgMatches) → MatchesIn serve_app ws (Ok m) → (config token : Text) (turns : ℕ)
    → IsToken (value_of m (codes "token")) (Ok token) → IsNumber (value_of m (codes "turns")) 1 1000000000 (Ok turns) → IsText (value_of m (codes "config")) (Ok config) →
    IsCommand (Serve config token turns) (codes "serve" ∷ ws)
serve_read_as ws texts m f config token turns t n c =
    let most : turns ≤ 1000000000 = n.2 in (
      t.1,
      n.1,
      n.2,
      serve_spelled config token (decimal turns) ws texts
          (record {
            fault = f.0;
            firsts = (at serve_app ws m f (codes "token") (Some token) t.0, (at serve_app ws m f (codes "turns") (Some (decimal turns)) n.0, tt));
            places = (at serve_app ws m f (codes "config") (Some config) c, tt);
          }) (token_plain token t.1, (number_plain turns (omega arith), tt)),
    )

-- ---- replay

replay_none : (ws : List Text) → EachText (codes "replay" ∷ ws)
    → ((asked : ReplayArgs) → is_token asked.token ≡ true → Line replay_app (replay_options asked.token) (codes "config" ∷ codes "script" ∷ []) (asked.config ∷ asked.script ∷ []) ws → ⊥) →
    SpellsNone (codes "replay" ∷ ws)
replay_none ws texts h = none_else (codes "replay") ws by
  where
    by : (c : Command) → bytes_eq (codes "replay") (name_of c) ≡ true → IsCommand c (codes "replay" ∷ ws) → ⊥
    by (Replay asked) e s = h asked s.0 (replay_line asked.config asked.script asked.token ws texts.1 s.1)
    by (Serve config token turns) e s = absurd (false≢true e)
    by (Check records) e s = absurd (false≢true e)
    by (Charges config) e s = absurd (false≢true e)
    by (Workload calls salt) e s = absurd (false≢true e)

pub replay_unfound : (ws : List Text) → EachText (codes "replay" ∷ ws) → (r : WordsFault) → MatchesIn replay_app ws (Err r) → ReadsCommand (codes "replay" ∷ ws) (Err r)
replay_unfound ws texts NoMemory h = tt
replay_unfound ws texts Words h = replay_none ws texts (λ asked is l. h l.fault)

pub replay_no_token : (ws : List Text) → EachText (codes "replay" ∷ ws) → (m : ArgMatches) → MatchesIn replay_app ws (Ok m) → (r : WordsFault) → IsToken (value_of m (codes "token")) (Err r) →
    ReadsCommand (codes "replay" ∷ ws) (Err r)
replay_no_token ws texts m f NoMemory h = tt
replay_no_token ws texts m f Words h = replay_none ws texts (λ asked is l. wrong_token (value_of m (codes "token")) asked.token h (here replay_app ws m f (codes "token") asked.token l.firsts.0) is)

pub replay_no_config : (ws : List Text) → EachText (codes "replay" ∷ ws) → (m : ArgMatches) → MatchesIn replay_app ws (Ok m) → (r : WordsFault) → IsText (value_of m (codes "config")) (Err r) →
    ReadsCommand (codes "replay" ∷ ws) (Err r)
replay_no_config ws texts m f NoMemory h = tt
replay_no_config ws texts m f Words h = replay_none ws texts (λ asked is l. missing (value_of m (codes "config")) asked.config h (here replay_app ws m f (codes "config") asked.config l.places.0))

pub replay_no_script : (ws : List Text) → EachText (codes "replay" ∷ ws) → (m : ArgMatches) → MatchesIn replay_app ws (Ok m) → (r : WordsFault) → IsText (value_of m (codes "script")) (Err r) →
    ReadsCommand (codes "replay" ∷ ws) (Err r)
replay_no_script ws texts m f NoMemory h = tt
replay_no_script ws texts m f Words h = replay_none ws texts (λ asked is l. missing (value_of m (codes "script")) asked.script h (here replay_app ws m f (codes "script") asked.script l.places.1.0))

pub replay_read_as : (ws : List Text) → EachText (codes "replay" ∷ ws) → (m : ArgMatches) → MatchesIn replay_app ws (Ok m) → (config script token : Text)
    → IsToken (value_of m (codes "token")) (Ok token) → IsText (value_of m (codes "config")) (Ok config) → IsText (value_of m (codes "script")) (Ok script)
    → IsCommand (Replay (record { config = config; script = script; token = token })) (codes "replay" ∷ ws)
replay_read_as ws texts m f config script token t c z = (
  t.1,
  replay_spelled config script token ws texts
      (record {
        fault = f.0;
        firsts = (at replay_app ws m f (codes "token") (Some token) t.0, tt);
        places = (at replay_app ws m f (codes "config") (Some config) c, (at replay_app ws m f (codes "script") (Some script) z, tt));
      }) (token_plain token t.1, tt),
)

-- ---- commands of one positional word

pub file_unfound : (name : Text) (ws : List Text) → EachText (name ∷ ws) → (r : WordsFault) → MatchesIn (file_app name) ws (Err r) → IsOneFile name ws (Err r)
file_unfound name ws texts NoMemory h = tt
file_unfound name ws texts Words h = λ text s. h (file_line name text ws texts.1 s).fault

pub file_no_text : (name : Text) (ws : List Text) → EachText (name ∷ ws) → (m : ArgMatches) → MatchesIn (file_app name) ws (Ok m) → (r : WordsFault) →
    IsText (value_of m (codes "file")) (Err r) → IsOneFile name ws (Err r)
file_no_text name ws texts m f NoMemory h = tt
file_no_text name ws texts m f Words h = λ text s. missing (value_of m (codes "file")) text h (here (file_app name) ws m f (codes "file") text (file_line name text ws texts.1 s).places.0)

pub file_read_as : (name : Text) (ws : List Text) → EachText (name ∷ ws) → (m : ArgMatches) → MatchesIn (file_app name) ws (Ok m) → (text : Text) → IsText (value_of m (codes "file")) (Ok text) →
    IsOneFile name ws (Ok text)
file_read_as name ws texts m f text c = file_spelled name text ws texts (record { fault = f.0; firsts = tt; places = (at (file_app name) ws m f (codes "file") (Some text) c, tt) })

pub file_is : (name : Text) (ws : List Text) → EachText (name ∷ ws) → (m : ArgMatches) → MatchesIn (file_app name) ws (Ok m) → (r : Result Text WordsFault) → IsText (value_of m (codes "file")) r → IsOneFile name ws r
file_is name ws texts m f (Ok text) h = file_read_as name ws texts m f text h
file_is name ws texts m f (Err r) h = file_no_text name ws texts m f r h

pub check_refused : (ws : List Text) (r : WordsFault) → IsOneFile (codes "check") ws (Err r) → ReadsCommand (codes "check" ∷ ws) (Err r)
check_refused ws NoMemory h = tt
check_refused ws Words h = none_else (codes "check") ws by
  where
    by : (c : Command) → bytes_eq (codes "check") (name_of c) ≡ true → IsCommand c (codes "check" ∷ ws) → ⊥
    by (Check records) e s = h records s
    by (Serve config token turns) e s = absurd (false≢true e)
    by (Replay asked) e s = absurd (false≢true e)
    by (Charges config) e s = absurd (false≢true e)
    by (Workload calls salt) e s = absurd (false≢true e)

pub charges_refused : (ws : List Text) (r : WordsFault) → IsOneFile (codes "charges") ws (Err r) → ReadsCommand (codes "charges" ∷ ws) (Err r)
charges_refused ws NoMemory h = tt
charges_refused ws Words h = none_else (codes "charges") ws by
  where
    by : (c : Command) → bytes_eq (codes "charges") (name_of c) ≡ true → IsCommand c (codes "charges" ∷ ws) → ⊥
    by (Charges config) e s = h config s
    by (Serve config token turns) e s = absurd (false≢true e)
    by (Replay asked) e s = absurd (false≢true e)
    by (Check records) e s = absurd (false≢true e)
    by (Workload calls salt) e s = absurd (false≢true e)

-- ---- workload

workload_none : (ws : List Text) → EachText (codes "workload" ∷ ws)
    → ((calls salt : ℕ) → 1 ≤ calls → calls ≤ 10000 → salt ≤ 4294967295 → Line workload_app (workload_options (decimal calls) (decimal salt)) [] [] ws → ⊥) → SpellsNone (codes "workload" ∷ ws)
workload_none ws texts h = none_else (codes "workload") ws by
  where
    by : (c : Command) → bytes_eq (codes "workload") (name_of c) ≡ true → IsCommand c (codes "workload" ∷ ws) → ⊥
    by (Workload calls salt) e s = h calls salt s.0 s.1 s.2 (workload_line (decimal calls) (decimal salt) ws texts.1 s.3)
    by (Serve config token turns) e s = absurd (false≢true e)
    by (Replay asked) e s = absurd (false≢true e)
    by (Check records) e s = absurd (false≢true e)
    by (Charges config) e s = absurd (false≢true e)

pub workload_unfound : (ws : List Text) → EachText (codes "workload" ∷ ws) → (r : WordsFault) → MatchesIn workload_app ws (Err r) → ReadsCommand (codes "workload" ∷ ws) (Err r)
workload_unfound ws texts NoMemory h = tt
workload_unfound ws texts Words h = workload_none ws texts (λ calls salt least most greatest l. h l.fault)

pub workload_no_calls : (ws : List Text) → EachText (codes "workload" ∷ ws) → (m : ArgMatches) → MatchesIn workload_app ws (Ok m) → (r : WordsFault) →
    IsNumber (value_of m (codes "calls")) 1 10000 (Err r) → ReadsCommand (codes "workload" ∷ ws) (Err r)
workload_no_calls ws texts m f NoMemory h = tt
workload_no_calls ws texts m f Words h = workload_none ws texts (λ calls salt least most greatest l. h calls least most (here workload_app ws m f (codes "calls") (decimal calls) l.firsts.0))

pub workload_no_salt : (ws : List Text) → EachText (codes "workload" ∷ ws) → (m : ArgMatches) → MatchesIn workload_app ws (Ok m) → (r : WordsFault) →
    IsNumber (value_of m (codes "salt")) 0 4294967295 (Err r) → ReadsCommand (codes "workload" ∷ ws) (Err r)
workload_no_salt ws texts m f NoMemory h = tt
workload_no_salt ws texts m f Words h = workload_none ws texts (λ calls salt least most greatest l. h salt (omega arith) greatest (here workload_app ws m f (codes "salt") (decimal salt) l.firsts.1.0))

pub workload_read_as : (ws : List Text) → EachText (codes "workload" ∷ ws) → (m : ArgMatches) → MatchesIn workload_app ws (Ok m) → (calls salt : ℕ)
    → IsNumber (value_of m (codes "calls")) 1 10000 (Ok calls) → IsNumber (value_of m (codes "salt")) 0 4294967295 (Ok salt) → IsCommand (Workload calls salt) (codes "workload" ∷ ws)
workload_read_as ws texts m f calls salt n s =
    let most : calls ≤ 10000 = n.2 in
    let greatest : salt ≤ 4294967295 = s.2 in (
      n.1,
      n.2,
      s.2,
      workload_spelled (decimal calls) (decimal salt) ws texts
          (record { fault = f.0; firsts = (at workload_app ws m f (codes "calls") (Some (decimal calls)) n.0, (at workload_app ws m f (codes "salt") (Some (decimal salt)) s.0, tt)); places = tt })
          (number_plain calls (omega arith), (number_plain salt (omega arith), tt)),
    )

-- ---- any other first word

pub no_such : (name : Text) (ws : List Text) → bytes_eq name (codes "serve") ≡ false → bytes_eq name (codes "replay") ≡ false → bytes_eq name (codes "check") ≡ false →
    bytes_eq name (codes "charges") ≡ false → bytes_eq name (codes "workload") ≡ false → SpellsNone (name ∷ ws)
no_such name ws a b c d e = none_else name ws by
  where
    by : (k : Command) → bytes_eq name (name_of k) ≡ true → IsCommand k (name ∷ ws) → ⊥
    by (Serve config token turns) is s = false≢true (sym a ∙ is)
    by (Replay asked) is s = false≢true (sym b ∙ is)
    by (Check records) is s = false≢true (sym c ∙ is)
    by (Charges config) is s = false≢true (sym d ∙ is)
    by (Workload calls salt) is s = false≢true (sym e ∙ is)
