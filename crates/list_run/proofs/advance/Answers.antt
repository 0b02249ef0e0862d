-- `list_run::advance` meets its contract.
use native.Mathlib.Omega.{arith}
use mathlib.Core.Path.{sym, ◌∙◌}
use Rattle.list_run.proofs.Laws.{frame-fits, flight-fits, temperature-fits, fits-parts, tick_is, stretch-is, flight-is, temperature-is, frame_step, other_step, unsound-step, moved-step, moved-quietly, entry-tick, near_of}
use Rattle.list_run.proofs.advance.Goals as goal

pub frame_call-requires : goal.frame_call-requires
frame_call-requires c =
    let s = c in
    let room = c.requires.1 in
    let (a, b) = frame-fits c.args.e _ _ _ c.if-e-eq-TRANSACTION.true (fits-parts _ _ _ _ _ _ room.enough).1 in
    (sym c.requires.0 ∙ c.if-sound.true, near_of _ _ _ _ _ _ c.requires.1 (omega (arith, c.well_formed)) (omega (arith, c.well_formed)) (omega (arith, c.well_formed)), omega (arith, room.in_frames), omega (arith, room.in_output))

pub returns-then-e-eq-TRANSACTION : goal.returns-then-e-eq-TRANSACTION
returns-then-e-eq-TRANSACTION c =
    let s = c in
    let g = c.args in
    moved-step g.calls.now g.frames.now g.hits.now _ _ g.e c.requires.2 c.requires.3 c.requires.1
    (let k = c.frame_call.ensures in
    frame_step g.frames.now g.hits.now g.e record { progress = g.p; output = g.out.now; flash = g.flash.now; answers = g.answers.now } _ _ _ _ c.if-e-eq-TRANSACTION.true k.0 k.1 k.2)

pub quiet_ahead-n-requires : goal.quiet_ahead-n-requires
quiet_ahead-n-requires c =
    let s = c in
    let room = c.requires.1 in
    let some = c.if-q-gt0.true in
    let five = (fits-parts _ _ _ _ _ _ room.enough).0 in
    (omega arith, c.requires.2, omega (arith, room.in_answers), entry-tick _ _ _ c.requires.3 c.if-e-eq-TICK.true)

pub quiet-requires : goal.quiet-requires
quiet-requires c = let a = c.quiet_ahead-n.ensures in (rw c.quiet_for-q.ensures at a.1, a.3)

pub returns-then-q-gt0 : goal.returns-then-q-gt0
returns-then-q-gt0 c =
    let s = c in
    let g = c.args in
    let room = c.requires.1 in
    let a = c.quiet_ahead-n.ensures in
    let k = c.quiet.ensures in
    moved-quietly g.calls.now g.frames.now g.hits.now record { progress = g.p; output = g.out.now; flash = g.flash.now; answers = g.answers.now }
    (sym c.requires.0 ∙ c.if-sound.true) _ _ _ a.0 (rw c.quiet_for-q.ensures at a.1) a.2 a.3 a.4
    room.in_frames room.in_hits room.in_output k.0 k.1

pub tick_call-requires : goal.tick_call-requires
tick_call-requires c = let s = c in (sym c.requires.0 ∙ c.if-sound.true, near_of _ _ _ _ _ _ c.requires.1 (omega (arith, c.well_formed)) (omega (arith, c.well_formed)) (omega (arith, c.well_formed)))

pub returns-then-e-eq-TICK : goal.returns-then-e-eq-TICK
returns-then-e-eq-TICK c =
    let s = c in
    let g = c.args in
    moved-step g.calls.now g.frames.now g.hits.now _ _ g.e c.requires.2 c.requires.3 c.requires.1
    (other_step g.frames.now g.hits.now g.e _ record { progress = g.p; output = g.out.now; flash = g.flash.now; answers = g.answers.now } _ _ c.if-e-eq-TRANSACTION.false (tick_is g.e g.p.place g.frames.now g.hits.now g.out.now g.flash.now c.if-e-eq-TICK.true) c.tick_call.ensures)

pub stretch_call-requires : goal.stretch_call-requires
stretch_call-requires c = let s = c in (sym c.requires.0 ∙ c.if-sound.true, near_of _ _ _ _ _ _ c.requires.1 (omega (arith, c.well_formed)) (omega (arith, c.well_formed)) (omega (arith, c.well_formed)))

pub returns-then-e-eq-STRETCH : goal.returns-then-e-eq-STRETCH
returns-then-e-eq-STRETCH c =
    let s = c in
    let g = c.args in
    moved-step g.calls.now g.frames.now g.hits.now _ _ g.e c.requires.2 c.requires.3 c.requires.1
    (other_step g.frames.now g.hits.now g.e _ record { progress = g.p; output = g.out.now; flash = g.flash.now; answers = g.answers.now } _ _ c.if-e-eq-TRANSACTION.false (stretch-is g.e g.p.place g.frames.now g.hits.now g.out.now g.flash.now c.if-e-eq-STRETCH.true) c.stretch_call.ensures)

pub flight_call-requires : goal.flight_call-requires
flight_call-requires c =
    let s = c in
    let room = c.requires.1 in
    let (a, b) = flight-fits c.args.e _ _ _ c.if-e-eq-FLIGHT.true (fits-parts _ _ _ _ _ _ room.enough).1 in
    (sym c.requires.0 ∙ c.if-sound.true, near_of _ _ _ _ _ _ c.requires.1 (omega (arith, c.well_formed)) (omega (arith, c.well_formed)) (omega (arith, c.well_formed)), omega (arith, room.in_hits))

pub returns-then-e-eq-FLIGHT : goal.returns-then-e-eq-FLIGHT
returns-then-e-eq-FLIGHT c =
    let s = c in
    let g = c.args in
    moved-step g.calls.now g.frames.now g.hits.now _ _ g.e c.requires.2 c.requires.3 c.requires.1
    (other_step g.frames.now g.hits.now g.e _ record { progress = g.p; output = g.out.now; flash = g.flash.now; answers = g.answers.now } _ _ c.if-e-eq-TRANSACTION.false (flight-is g.e g.p.place g.frames.now g.hits.now g.out.now g.flash.now c.if-e-eq-FLIGHT.true) c.flight_call.ensures)

pub temperature_call-requires : goal.temperature_call-requires
temperature_call-requires c =
    let s = c in
    let room = c.requires.1 in
    let a = temperature-fits c.args.e _ _ _ c.if-e-eq-TRANSACTION.false c.if-e-eq-TICK.false c.if-e-eq-STRETCH.false c.if-e-eq-FLIGHT.false (fits-parts _ _ _ _ _ _ room.enough).1 in
    (sym c.requires.0 ∙ c.if-sound.true, near_of _ _ _ _ _ _ c.requires.1 (omega (arith, c.well_formed)) (omega (arith, c.well_formed)) (omega (arith, c.well_formed)), omega (arith, room.in_hits))

pub returns-then-sound : goal.returns-then-sound
returns-then-sound c =
    let s = c in
    let g = c.args in
    moved-step g.calls.now g.frames.now g.hits.now _ _ g.e c.requires.2 c.requires.3 c.requires.1
    (other_step g.frames.now g.hits.now g.e _ record { progress = g.p; output = g.out.now; flash = g.flash.now; answers = g.answers.now } _ _ c.if-e-eq-TRANSACTION.false (temperature-is g.e g.p.place g.frames.now g.hits.now g.out.now g.flash.now c.if-e-eq-TRANSACTION.false c.if-e-eq-TICK.false c.if-e-eq-STRETCH.false c.if-e-eq-FLIGHT.false) c.temperature_call.ensures)

pub unsound_call-requires : goal.unsound_call-requires
unsound_call-requires c = let s = c in near_of _ _ _ _ _ _ c.requires.1 (omega (arith, c.well_formed)) (omega (arith, c.well_formed)) (omega (arith, c.well_formed))

pub returns : goal.returns
returns c =
    let s = c in
    let g = c.args in
    moved-step g.calls.now g.frames.now g.hits.now _ _ g.e c.requires.2 c.requires.3 c.requires.1
    (let k = c.unsound_call.ensures in
    unsound-step g.frames.now g.hits.now g.e record { progress = g.p; output = g.out.now; flash = g.flash.now; answers = g.answers.now } _ _ (sym c.requires.0 ∙ c.if-sound.false) k.0 k.1)
