-- `delivery::flight_reply` meets its contract.
use borrow.Author.Rules.{rules}
use Rattle.unit.proofs.Tests.{tests}
use Rattle.device.proofs.Sound.{good-hits, flight-ready}
use Rattle.device.specs.Parts.{flight_reply}
use Rattle.device.specs.Reply.{accepted_answer, accepted_model, any_late}
use Rattle.delivery.proofs.flight_reply.Goals as goal

pub returns-then-any_from : goal.returns-then-any_from
unfolding flight_reply accepted_answer accepted_model any_late
returns-then-any_from c = search (rules, tests)

pub returns : goal.returns
unfolding flight_reply accepted_answer accepted_model any_late
returns c = search (rules, tests)

pub failed_flight_model-requires : goal.failed_flight_model-requires
failed_flight_model-requires c = flight-ready c.args.m _ _ c.requires

pub good_flight_model-requires : goal.good_flight_model-requires
unfolding any_late
good_flight_model-requires c =
    let m = c.args.m in
    let u = c.args.up.now in
    let d = c.args.down.now in
    let (up, down) = good-hits m u d c.requires (search (rules, tests)) in (
      rw (c.six_words.ensures, c.hit_count-hits.ensures) up,
      rw (c.six_words-2.ensures, c.hit_count-hits.ensures) down,
      flight-ready m u d c.requires,
    )
