-- `listing::lines::put_lines` meets its contract. The invariant: the lines of the first i differences are put.
-- Assumes nothing.
use Prim.Native.Nat.{◌≤◌}
use mathlib.Core.Path.{refl, sym, ◌∙◌}
use native.Mathlib.Omega.{arith}
use lib.IntN.{pos, nat_abs}
use lib.ListN.{length, get_or}
use Rattle.numeral.proofs.PlaceLaws.{overwrite-nil}
use Rattle.listing.specs.Listing.{line_length, lines}
use Rattle.listing.proofs.Signed.{magnitude-most, same}
use Rattle.listing.proofs.Capture.{captures-fit}
use Rattle.listing.proofs.Sequence.{no_lines, next-length, next-bytes, room_for, length-is}
use Rattle.listing.proofs.lines.put_lines.Goals as goal

pub loop-i-init : goal.loop-i-init
unfolding lines
loop-i-init c = let d = c.args.digits in (refl, omega arith, omega (arith, no_lines d c.args.first), sym (overwrite-nil c.args.out.now 0))

pub overflow_cast-capture : goal.overflow_cast-capture
overflow_cast-capture c =
    let args = c.args in
    record { fits = omega (arith, captures-fit args.digits args.first (length args.differences.now) c.requires.digits_bound c.requires.differences_value c.loop-i.i c.loop-i-test.true) }

pub overflow_add-capture : goal.overflow_add-capture
overflow_add-capture c =
    let args = c.args in
    record { fits = captures-fit args.digits args.first (length args.differences.now) c.requires.digits_bound c.requires.differences_value c.loop-i.i c.loop-i-test.true }

pub loop-i-preserved : goal.loop-i-preserved
loop-i-preserved c =
    let args = c.args in
    let loop = c.loop-i in
    let d = args.digits in
    let ds = args.differences.now in
    let less = c.loop-i-test.true in
    let fits = c.put_line-arg-in-loop-i-1.given in
    let x = get_or ds loop.i (pos 0) in
    let few : nat_abs x ≤ 2147483648 = magnitude-most x (record { sfits = fits }) in
    let room = room_for (line_length d) loop.i (length ds) (length args.out.now) less c.requires.digits_in_bounds in (
      c.put_line.auto.out ∙ loop.invariant.0,
      omega (arith, length-is d),
      next-length d args.first ds loop.i less few loop.invariant.2,
      next-bytes d args.first ds loop.i less few loop.invariant.2 args.out.now room loop.invariant.3 loop.invariant.1 (same x (record { sfits = fits })) c.put_line.ensures,
    )
