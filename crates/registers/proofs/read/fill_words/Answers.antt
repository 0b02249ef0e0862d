-- `registers::read::fill_words` meets its contract.
use native.Mathlib.Omega.{arith}
use mathlib.Core.Path.{refl, ◌∙◌}
use borrow.Author.Rules.{rules}
use Rattle.device.specs.Registers.{fill_words}
use Rattle.registers.proofs.Parts.{calendar-part, setup-part, flight-part, temperature-part, last-part}
use Rattle.registers.proofs.read.fill_words.Goals as goal

pub returns : goal.returns
unfolding fill_words
returns c =
    let m = c.args.m in
    let o = c.args.out.now in
    let calendar = c.fill_part.ensures m (λ i w lo hi p. (search rules) ∙ calendar-part m _ (omega arith)) in
    let setup = c.fill_part-2.ensures m (λ i w lo hi p. (search rules) ∙ setup-part m _ _ refl (omega arith) (omega arith)) in
    let flight = c.fill_part-3.ensures m (λ i w lo hi p. (search rules) ∙ flight-part m _ _ refl (omega arith) (omega arith)) in
    let temperature = c.fill_part-4.ensures m (λ i w lo hi p. (search rules) ∙ temperature-part m _ _ refl (omega arith) (omega arith)) in
    let last = c.fill_part-5.ensures m (λ i w lo hi p. (search rules) ∙ last-part m _ _ refl (omega arith)) in
    last.each o (temperature.each o (flight.each o (setup.each o (calendar.each o refl))))
