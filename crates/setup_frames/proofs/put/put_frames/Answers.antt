-- `setup_frames::put::put_frames` meets its contract.
use native.Mathlib.Omega.{arith}
use mathlib.Core.Path.{sym, ◌∙◌}
use borrow.Author.Rules.{rules}
use Rattle.setup_frames.proofs.Loops.{put-begins, put-passes, put-room, put_on, put-counts, put-bytes, put-lengths}
use Rattle.setup_frames.proofs.put.put_frames.Goals.{then-starts, else-starts}
use Rattle.setup_frames.proofs.put.put_frames.Goals as goal

pub loop-i-init : goal.loop-i-init
loop-i-init c =
    let start = c.args in
    put-begins start.s start.bytes.now start.lengths.now

pub put_frame-requires : goal.put_frame-requires
put_frame-requires c =
    let t = sym c.starts.ensures ∙ c.if-starts.true in
    let room = put-room c.loop-i.invariant c.loop-i-test.true t c.run_length-words.ensures.0 in
    (c.run_length-words.ensures.1, omega arith)

pub overflow_cast-lengths : goal.overflow_cast-lengths
overflow_cast-lengths c =
    let t = sym c.starts.ensures ∙ c.if-starts.true in
    let room = put-room c.loop-i.invariant c.loop-i-test.true t c.run_length-words.ensures.0 in
    search rules

pub offset_bounds-lengths-n : goal.offset_bounds-lengths-n
offset_bounds-lengths-n c =
    let t = sym c.starts.ensures ∙ c.if-starts.true in
    let room = put-room c.loop-i.invariant c.loop-i-test.true t c.run_length-words.ensures.0 in
    search rules

pub bounds-lengths-n : goal.bounds-lengths-n
bounds-lengths-n c =
    let t = sym c.starts.ensures ∙ c.if-starts.true in
    let room = put-room c.loop-i.invariant c.loop-i-test.true t c.run_length-words.ensures.0 in
    omega arith

pub overflow_add-at-then-starts : goal.overflow_add-at-then-starts
overflow_add-at-then-starts c =
    let t = sym c.starts.ensures ∙ c.if-starts.true in
    let room = put-room c.loop-i.invariant c.loop-i-test.true t c.run_length-words.ensures.0 in
    search rules

pub overflow_add-n : goal.overflow_add-n
overflow_add-n c =
    let t = sym c.starts.ensures ∙ c.if-starts.true in
    let room = put-room c.loop-i.invariant c.loop-i-test.true t c.run_length-words.ensures.0 in
    search rules

pub loop-i-preserved : goal.loop-i-preserved
loop-i-preserved c =
    elim c.if-starts.branch [
      | then-starts w ↦
          rw (w.bytes-is, w.lengths-is, w.at-is, w.n-is, w.put_frame.ensures)
          (put_on c.loop-i.invariant c.loop-i-test.true (sym c.starts.ensures ∙ w.if-starts.true) w.run_length-words.ensures.0)
      | else-starts w ↦
          rw (w.bytes-is, w.lengths-is, w.at-is, w.n-is)
          (put-passes c.loop-i.invariant c.loop-i-test.true (sym c.starts.ensures ∙ w.if-starts.false))
    ]

pub shape_of-bytes : goal.shape_of-bytes
shape_of-bytes c = c.loop-i.invariant.bytes-kept

pub shape_of-lengths : goal.shape_of-lengths
shape_of-lengths c = c.loop-i.invariant.lengths-kept

pub returns : goal.returns
returns c =
    let put = c.loop-i.invariant in
    let all = c.loop-i-test.false in
    let pre = c.requires in
    ((put-counts put all).0, (put-counts put all).1, put-bytes put all pre.0, put-lengths put all pre.1)
