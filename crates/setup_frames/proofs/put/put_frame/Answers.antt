-- `setup_frames::put::put_frame` meets its contract.
use native.Mathlib.Numerals.{add-one}
use mathlib.Core.Path.{ap, ◌∙◌}
use lib.ListN.{length, length-set}
use lib.Seq.{length-sets}
use Rattle.setup_frames.proofs.put.put_frame.Goals as goal

pub shape_of-bytes : goal.shape_of-bytes
shape_of-bytes c =
    ap length c.put_words.ensures ∙ simp (length-sets, length-set)

pub returns : goal.returns
returns c = rw (add-one c.args.at) at c.put_words.ensures
