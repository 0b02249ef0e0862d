-- `item_answer_code::calls::put_first` meets its contract. Assumes nothing.
use mathlib.Core.Path.{refl}
use Rattle.item_line.specs.OwnRead.{as_call}
use Rattle.item_answer.specs.Answer.{call_result, bus_told, set_told, transaction_told, transacted, delivery_told}
use Rattle.item_chip_code.specs.OwnAnswered.{stretch_line}
use Rattle.item_answer_code.specs.OwnFirst.{told_in, call_told}
use Rattle.item_answer_code.proofs.Firsts.{chip-first, stretch-ready, stretch-recorded, stretch-probes, tick-runs, at-runs}
use Rattle.item_answer_code.proofs.calls.put_first.Goals as goal

pub bus-requires : goal.bus-requires
bus-requires c = (c.requires.sound, (rw c.in-Bus.is at c.requires.bound))

pub set-requires : goal.set-requires
set-requires c = (c.requires.sound, (rw c.in-Set.is at c.requires.bound))

pub stretch-requires : goal.stretch-requires
stretch-requires c = (c.requires.sound, stretch-ready c.args.numbers.now _ c.args.c (rw c.in-Stretch.is at c.requires))

pub flight-requires : goal.flight-requires
flight-requires c = c.requires.sound

pub temperature-requires : goal.temperature-requires
temperature-requires c = c.requires.sound

pub frames-requires : goal.frames-requires
frames-requires c = (c.requires.sound, c.requires.few)

pub degrees-requires : goal.degrees-requires
degrees-requires c = c.requires.few

pub listing-requires : goal.listing-requires
listing-requires c = c.requires.few

pub quietest-requires : goal.quietest-requires
quietest-requires c = c.requires.few

pub returns-in-Bus : goal.returns-in-Bus
unfolding call_told call_result told_in as_call bus_told transaction_told transacted
returns-in-Bus c = rw c.in-Bus.is (chip-first c.bus.ensures c.requires.few (λ i. refl) (λ i. refl) refl)

pub returns-in-Set : goal.returns-in-Set
unfolding call_told call_result told_in as_call set_told transaction_told transacted
returns-in-Set c = rw c.in-Set.is (chip-first c.set.ensures c.requires.few (λ i. refl) (λ i. refl) refl)

pub returns-in-Tick : goal.returns-in-Tick
returns-in-Tick c = tick-runs c.args.said c.args.numbers.now c.in-Tick.in-Tick-own.keys3 c.requires.ticks

pub returns-in-At : goal.returns-in-At
returns-in-At c = at-runs c.args.said c.args.numbers.now c.in-At.in-At-own.keys4 c.requires.ticks

pub returns-in-Stretch : goal.returns-in-Stretch
unfolding call_told call_result told_in as_call stretch_line
returns-in-Stretch c = rw c.in-Stretch.is (chip-first (c.stretch.ensures.any _) c.requires.few (λ i. stretch-recorded _ i) (λ i. stretch-probes _ i) refl)

pub returns-in-Flight : goal.returns-in-Flight
unfolding call_told call_result told_in as_call delivery_told
returns-in-Flight c = rw c.in-Flight.is (chip-first (c.flight.ensures.any _) c.requires.few (λ i. refl) (λ i. refl) refl)

pub returns-in-Temperature : goal.returns-in-Temperature
unfolding call_told call_result told_in as_call delivery_told
returns-in-Temperature c = rw c.in-Temperature.is (chip-first (c.temperature.ensures.any _) c.requires.few (λ i. refl) (λ i. refl) refl)

pub returns-in-Frames : goal.returns-in-Frames
unfolding call_told call_result told_in as_call
returns-in-Frames c = rw c.in-Frames.is (c.frames.ensures _ _ _)

pub returns-in-Degrees : goal.returns-in-Degrees
unfolding call_told call_result told_in as_call
returns-in-Degrees c = rw c.in-Degrees.is (c.degrees.ensures _ _)

pub returns-in-Listing : goal.returns-in-Listing
unfolding call_told call_result told_in as_call
returns-in-Listing c = rw c.in-Listing.is (c.listing.ensures _ _)

pub returns-in-Quietest : goal.returns-in-Quietest
unfolding call_told call_result told_in as_call
returns-in-Quietest c = rw c.in-Quietest.is (c.quietest.ensures _ _)
