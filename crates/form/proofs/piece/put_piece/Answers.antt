-- `form::piece::put_piece` meets its contract.
-- Assumes nothing.
use Rattle.std.proofs.Common.{◌≡◌, arith}
use borrow.Author.Tests.{ne_eqb}
use Rattle.form.specs.Form.{piece_texts}
use Rattle.wording.proofs.Each.{put_one}
use Rattle.form.proofs.piece.put_piece.Goals as goal

pub returns-in-35 : goal.returns-in-35
unfolding piece_texts
returns-in-35 c = rw (← c.byte.ensures, c.in-35.is) (put_one c.put_decimal.ensures)

pub returns-in-36 : goal.returns-in-36
unfolding piece_texts
returns-in-36 c = rw (← c.byte.ensures, c.in-36.is) c.put_register.ensures

pub returns-in-64 : goal.returns-in-64
unfolding piece_texts
returns-in-64 c = rw (← c.byte.ensures, c.in-64.is) c.put_register-in-64.ensures

pub returns-in-37 : goal.returns-in-37
unfolding piece_texts
returns-in-37 c = rw (← c.byte.ensures, c.in-37.is) (put_one c.put_hex.ensures)

pub returns-in-38 : goal.returns-in-38
unfolding piece_texts
returns-in-38 c = rw (← c.byte.ensures, c.in-38.is) (rw c.bytes_from.ensures at c.put_plural.ensures)

pub returns-in-63 : goal.returns-in-63
unfolding piece_texts
returns-in-63 c = rw (← c.byte.ensures, c.in-63.is) (rw (c.bytes_from-in-63.ensures, c.digit.ensures) at c.put_where.ensures)

pub returns-in-60 : goal.returns-in-60
unfolding piece_texts
returns-in-60 c = rw (← c.byte.ensures, c.in-60.is) (rw c.pair_of.ensures at c.put_pair.ensures)

pub returns-in-61 : goal.returns-in-61
unfolding piece_texts
returns-in-61 c = rw (← c.byte.ensures, c.in-61.is) (rw c.pair_of-in-61.ensures at c.put_result.ensures)

pub returns-in-62 : goal.returns-in-62
unfolding piece_texts
returns-in-62 c = rw (← c.byte.ensures, c.in-62.is) (rw c.pair_of-in-62.ensures at c.put_port.ensures)

pub returns-in_default : goal.returns-in_default
unfolding piece_texts
returns-in_default c =
    let b = c.byte.result in
    let n35 : ¬ (b ≡ 35) = omega arith in
    let n36 : ¬ (b ≡ 36) = omega arith in
    let n37 : ¬ (b ≡ 37) = omega arith in
    let n38 : ¬ (b ≡ 38) = omega arith in
    let n63 : ¬ (b ≡ 63) = omega arith in
    let n64 : ¬ (b ≡ 64) = omega arith in
    let n60 : ¬ (b ≡ 60) = omega arith in
    let n61 : ¬ (b ≡ 61) = omega arith in
    let n62 : ¬ (b ≡ 62) = omega arith in
    rw (← c.byte.ensures, ne_eqb b 35 n35, ne_eqb b 36 n36, ne_eqb b 37 n37, ne_eqb b 38 n38, ne_eqb b 63 n63, ne_eqb b 64 n64, ne_eqb b 60 n60, ne_eqb b 61 n61, ne_eqb b 62 n62)
    (put_one c.put_text.ensures)
