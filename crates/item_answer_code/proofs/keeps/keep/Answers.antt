-- `item_answer_code::keeps::keep` meets its contract. Assumes nothing.
use Rattle.item_line.specs.OwnRead.{as_keep}
use Rattle.item_answer_code.proofs.keeps.keep.Goals as goal

pub probe-requires : goal.probe-requires
probe-requires c = (c.requires.1, c.requires.3)

pub record-requires : goal.record-requires
record-requires c = (c.requires.0, c.requires.1, c.requires.2)

pub returns-in-Probe : goal.returns-in-Probe
unfolding as_keep
returns-in-Probe c = rw c.in-Probe.is (λ fs. c.probe.ensures fs _)

pub returns-in-Differences : goal.returns-in-Differences
unfolding as_keep
returns-in-Differences c = rw c.in-Differences.is (λ fs. c.record.ensures fs _)
