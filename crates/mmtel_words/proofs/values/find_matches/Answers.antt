use Rattle.std.proofs.Common.{map}
use Rattle.clap.specs.Words.{app_of}
use Rattle.mmtel_words.proofs.ReadTheorems.{found_ok}
use Rattle.mmtel_words.proofs.values.find_matches.Goals as goal

pub returns-in-Ok : goal.returns-in-Ok
returns-in-Ok c = found_ok (app_of c.args.command) (map (λ w. w.now) c.args.words.now) c.in-Ok.matches c.requires (c.in-Ok.ensures.kinds c.requires) c.in-Ok.ensures.matches
