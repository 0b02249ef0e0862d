-- `setup_frames::put::put_words` meets its contract.
use Prim.Native.Nat.{◌+◌, ◌*◌}
use native.Mathlib.Omega.{arith}
use mathlib.Core.Path.{◌∙◌}
use lib.ListN.{length-set}
use Rattle.setup_frames.proofs.Loops.{put-two, words-on, words-done}
use Rattle.setup_frames.proofs.put.put_words.Goals as goal

pub loop-k-preserved : goal.loop-k-preserved
loop-k-preserved c =
    let start = c.args in
    let head = c.loop-k in
    rw (put-two (start.at + 2 * head.k) head.bytes (omega arith) (c.copy_from_slice.ensures.after ∙ c.to_be_bytes.ensures)) (
      simp length-set head.invariant.0,
      words-on start.s head.bytes start.bytes.now start.i start.n start.at head.k c.loop-k-test.true head.invariant.1,
    )

pub returns : goal.returns
returns c =
    let start = c.args in
    let head = c.loop-k in
    words-done start.s head.bytes start.bytes.now start.i start.n start.at head.k (omega arith) head.invariant.1
