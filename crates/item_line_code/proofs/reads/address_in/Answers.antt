-- `item_line_code::reads::address_in` meets its contract. Assumes nothing.
use Rattle.std.proofs.lemmas.Result.{err_from_is_err_and}
use mathlib.Core.Path.{sym, ◌∙◌}
use Rattle.text.specs.OwnPart.{part}
use Rattle.item_line.specs.OwnRead.{as_fault}
use Rattle.item_line_code.specs.OwnReads.{address_line, WithinRest}
use Rattle.item_line_code.proofs.ReadLaws.{address-none, address-wrong, address-low, address-high, address-fits, wrong-of}
use Rattle.item_line_code.proofs.reads.address_in.Goals as goal

pub returns-then-end-start : goal.returns-then-end-start
unfolding address_line WithinRest as_fault part
returns-then-end-start c = record { addressed_read = λ line. address-none _ _ line (c.next_in-word.ensures.none c.if-end-start.true); within = tt }

pub returns-then-a-low : goal.returns-then-a-low
unfolding address_line WithinRest as_fault part
returns-then-a-low c = record { addressed_read = λ line. address-low _ _ line (c.next_in-word.ensures.some c.if-end-start.false) (sym c.read_hex.ensures ∙ c.in_ok-a.ensures.ok_part) c.if-a-low.true; within = tt }

pub returns-then-high-a : goal.returns-then-high-a
unfolding address_line WithinRest as_fault part
returns-then-high-a c = record { addressed_read = λ line. address-high _ _ line (c.next_in-word.ensures.some c.if-end-start.false) (sym c.read_hex.ensures ∙ c.in_ok-a.ensures.ok_part) c.if-a-low.false c.if-high-a.true; within = tt }

pub returns-in_err-a : goal.returns-in_err-a
unfolding address_line WithinRest as_fault part
returns-in_err-a c =
    let p = err_from_is_err_and c.from_residual.result c.from_residual.ensures.1 in rw (p.1, p.2, wrong-of _ _ _ c.in_err-a.ensures.value)
    (record { addressed_read = λ line. address-wrong _ _ line (c.next_in-word.ensures.some c.if-end-start.false) (sym c.read_hex.ensures ∙ c.in_err-a.ensures.ok_part); within = tt })

pub returns : goal.returns
unfolding address_line WithinRest as_fault part
returns c = record {
  addressed_read = λ line. address-fits _ _ line (c.next_in-word.ensures.some c.if-end-start.false) (sym c.read_hex.ensures ∙ c.in_ok-a.ensures.ok_part) c.if-a-low.false c.if-high-a.false;
  within = record { ordered = c.next_in-word.ensures.high; high = c.requires.high; short = c.requires.short };
}
