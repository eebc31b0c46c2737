use Rattle.mmtel_journal.proofs.writing.put_row.Goals as goal

pub returns-clause-fits : goal.returns-clause-fits
returns-clause-fits c = record {
  account = c.put_part.ensures.account;
  call = c.put_part.ensures.call;
  began = c.put_moment.ensures.fits;
  answered = c.put_answered.ensures.fits;
  ended = c.put_moment-2.ensures.fits;
  holds = c.put_holds.ensures.fits;
  cause = c.put_cause.ensures.fits;
}
