-- `show::run::put_event_texts` meets its contract.
-- Assumes nothing.
use Rattle.numeral.specs.Ascii.{ascii}
use Rattle.wording.proofs.Each.{put_one, put_then}
use Rattle.page.specs.Run.{event_texts}
use Rattle.show.proofs.run.put_event_texts.Goals as goal

pub returns-in-Some : goal.returns-in-Some
unfolding ascii event_texts
returns-in-Some c = rw (c.in-Ok.is, c.in-Some.is) c.put_place.ensures

pub returns-in-None : goal.returns-in-None
unfolding ascii event_texts
returns-in-None c = rw (c.in-Ok.is, c.in-None.is) (put_one c.put_text.ensures)

pub returns-in-Err : goal.returns-in-Err
unfolding ascii event_texts
returns-in-Err c = rw c.in-Err.is (put_one c.put_text-in-Err.ensures)
