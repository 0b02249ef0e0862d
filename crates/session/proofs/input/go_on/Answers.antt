-- `session::input::go_on` meets its contract.
-- Assumes nothing.
use Prim.Native.Nat.{ℕ, ◌-◌}
use mathlib.Core.List.{List}
use mathlib.Core.Path.{◌≡◌, ap, subst}
use native.Mathlib.Omega.{arith}
use borrow.Author.Rules.{rules}
use Rattle.session.specs.Input.{to_answer, number_of, ReadOn}
use Rattle.session.specs.declared.input.InputState.TheVariants.{More}
use Rattle.session.proofs.InputLaws.{line_known, held-is, more-is, went_line, went-over, went-read}
use Rattle.session.proofs.input.go_on.Goals as goal

pub returns-then-has_line : goal.returns-then-has_line
returns-then-has_line g c = (went_line _ _ (line_known c.args.part.now (c.args.input.end - c.args.left) c.args.input.end c.first_bytes.ensures c.bytes_from.ensures c.has_line.ensures c.if-has_line.true), c.requires.1)

pub returns-then-ne : goal.returns-then-ne
returns-then-ne g c =
    let other : ¬ (c.args.input.state ≡ More) = search rules in
    (rw c.over.ensures (went-over _ _ (line_known c.args.part.now (c.args.input.end - c.args.left) c.args.input.end c.first_bytes.ensures c.bytes_from.ensures c.has_line.ensures c.if-has_line.false) (λ e. other (more-is _ e))), omega arith)

pub returns : goal.returns
returns g c =
    let more : c.args.input.state ≡ More = search rules in
    let held = held-is c.args.part.now c.hold-held.new.bytes (c.args.input.end - c.args.left) c.args.input.end c.hold-held.result (omega arith) c.requires.1 c.hold-held.ensures.0 c.hold-held.ensures.1 in
    (went-read _ _ _ _ (line_known c.args.part.now (c.args.input.end - c.args.left) c.args.input.end c.first_bytes.ensures c.bytes_from.ensures c.has_line.ensures c.if-has_line.false) (ap number_of more) (subst (λ (h : List ℕ). ReadOn h (number_of c.read_more.result.state) (to_answer c.read_more.result.from c.read_more.result.end c.read_more.new.part)) held c.read_more.ensures.0), c.read_more.ensures.1)
