-- `text_code::compare::fits` meets its contract. The invariant: the bytes before this one fit.
use mathlib.Core.Path.{◌≡◌}
use lib.ListN.{length, drop}
use Rattle.text.specs.Text.{fits}
use Rattle.text_code.proofs.compare.fits.Given as goal

abbrev pub invariant-loop-w : goal.invariant-loop-w
invariant-loop-w l = fits (drop (length l.yielded) l.wanted) (drop (length l.yielded) l.word) ≡ fits l.wanted l.word
