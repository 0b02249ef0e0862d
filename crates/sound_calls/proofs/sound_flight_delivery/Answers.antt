-- `sound_calls::sound_flight_delivery` meets its contract.
use borrow.Author.Rules.{rules}
use Rattle.unit.proofs.Tests.{tests}
use Rattle.device.proofs.Sound.{fits-ready}
use Rattle.device.proofs.Replies.{reply-flight}
use Rattle.sound_calls.proofs.sound_flight_delivery.Goals as goal

pub returns-then-not-is_awaited : goal.returns-then-not-is_awaited
returns-then-not-is_awaited c = search (rules, tests, reply-flight c.args.m c.requires c.args.up.now c.args.down.now)

pub returns-then-flight_miscounted : goal.returns-then-flight_miscounted
returns-then-flight_miscounted c = search (rules, tests, reply-flight c.args.m c.requires c.args.up.now c.args.down.now)

pub returns-else-flight_miscounted : goal.returns-else-flight_miscounted
returns-else-flight_miscounted c = search (rules, tests, reply-flight c.args.m c.requires c.args.up.now c.args.down.now)

pub flight_reply-requires : goal.flight_reply-requires
flight_reply-requires c =
    let start = c.args in
    fits-ready start.m start.up.now start.down.now c.requires
    (rw (← c.hit_count.ensures, ← c.flight_miscounted.ensures) c.if-flight_miscounted.false)
