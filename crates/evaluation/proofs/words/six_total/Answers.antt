-- `evaluation::words::six_total` meets its contract.
use Rattle.std.proofs.Common.{ℕ, ◌≡◌, ◌<◌, get_or, arith}
use Rattle.hit.specs.Words.{six_total}
use borrow.Author.Rules.{rules}
use Rattle.evaluation.proofs.words.six_total.Goals as goal

pub returns : goal.returns
unfolding six_total
returns c =
    let hit : (i : ℕ) → i < 6 → get_or c.map.result i 0 ≡ get_or c.args.hits i 0 = λ i h. (let call = c.map.ensures.items.at i 0 0 h in search rules) in
    omega (arith, hit 0 (omega arith), hit 1 (omega arith), hit 2 (omega arith), hit 3 (omega arith), hit 4 (omega arith), hit 5 (omega arith))
