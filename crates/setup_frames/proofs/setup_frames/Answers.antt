-- `setup_frames::setup_frames` meets its contract.
use native.Mathlib.Omega.{arith}
use mathlib.Core.Logic.{inl, inr}
use mathlib.Core.Path.{sym, ◌∙◌}
use lib.ListN.{length, get_or}
use mir.Syntax.{w16}
use mir.Val.{Fits}
use borrow.Author.Rules.{rules}
use Rattle.setup_frames.proofs.Outcome.{unsound-refused, short-refused, room-accepted, nothing_written, frames-written}
use Rattle.setup_frames.proofs.Words.{Words}
use Rattle.setup_frames.proofs.Brought.{refusal-sends-none, buffers-bring}
use Rattle.setup_frames.proofs.setup_frames.Goals as goal
use Rattle.refusal.specs.declared.Refusal.{Refusal}
use Rattle.setup_frames.specs.declared.put.Counts.{Counts}
use Rattle.std.specs.Prelude.{Result, Ok, Err}

pub returns-then-bytes-lt-MOST_BYTES : goal.returns-then-bytes-lt-MOST_BYTES
returns-then-bytes-lt-MOST_BYTES c =
    let m = c.args.m in
    let b = c.args.bytes.now in
    let l = c.args.lengths.now in
    let s = sym c.is_sound.ensures ∙ c.if-is_sound.true in
    (nothing_written m b l Refusal.ShortBuffer (short-refused m (length b) (length l) s (inl (omega arith))), refusal-sends-none Refusal.ShortBuffer)

pub returns-then-lengths-lt-MOST_FRAMES : goal.returns-then-lengths-lt-MOST_FRAMES
returns-then-lengths-lt-MOST_FRAMES c =
    let m = c.args.m in
    let b = c.args.bytes.now in
    let l = c.args.lengths.now in
    let s = sym c.is_sound.ensures ∙ c.if-is_sound.true in
    (nothing_written m b l Refusal.ShortBuffer (short-refused m (length b) (length l) s (inr (omega arith))), refusal-sends-none Refusal.ShortBuffer)

pub returns-then-is_sound : goal.returns-then-is_sound
returns-then-is_sound c =
    let m = c.args.m in
    let b = c.args.bytes.now in
    let l = c.args.lengths.now in
    let s = sym c.is_sound.ensures ∙ c.if-is_sound.true in
    let v = room-accepted m (length b) (length l) s (omega arith) (omega arith) in
    let typed = c.well_formed.0 in
    let words : Words m.setup = record { sixteen = search (rules, typed); below = λ i h. let f : Fits w16 (get_or m.setup i 0) = search (rules, typed) in f.fits } in
    let w = frames-written m b l _ _ _ _ v c.put_frames.ensures in
    (w, λ e. buffers-bring m b l _ _ _ w e words)

pub returns : goal.returns
returns c =
    let m = c.args.m in
    let b = c.args.bytes.now in
    let l = c.args.lengths.now in
    let s = sym c.is_sound.ensures ∙ c.if-is_sound.false in
    (nothing_written m b l Refusal.NotSound (unsound-refused m (length b) (length l) s), refusal-sends-none Refusal.NotSound)
