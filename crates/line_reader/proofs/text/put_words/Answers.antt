-- `line_reader::text::put_words` meets its contract.
-- Assumes nothing.
use mathlib.Core.Path.{sym}
use lib.Seq.{length-take-le}
use Rattle.line_reader.proofs.text.put_words.Goals as goal

pub slice_bounds-put_spaced-end : goal.slice_bounds-put_spaced-end
slice_bounds-put_spaced-end c = sym (length-take-le _ c.args.line.now c.content_length-n.ensures.1)

pub returns : goal.returns
returns c = rw (← c.content_length-n.ensures.0) c.put_spaced.ensures
