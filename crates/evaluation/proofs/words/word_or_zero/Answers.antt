-- `evaluation::words::word_or_zero` meets its contract.
use Prim.Native.Nat.{ℕ}
use mathlib.Core.Path.{◌≡◌, refl, ◌∙◌}
use mathlib.Core.List.{List}
use native.Mathlib.Omega.{arith}
use lib.ListN.{length, get_or, get_or-eq_default}
use borrow.Author.Rules.{rules}
use Rattle.unit.proofs.Cases.{by-ltb}
use Rattle.hit.specs.Words.{word_or_zero}
use Rattle.evaluation.proofs.words.word_or_zero.Goals as goal

-- past its end a list reads 0
padded : (words : List ℕ) (i : ℕ) → get_or words i 0 ≡ word_or_zero words i
unfolding word_or_zero
padded words i =
    by-ltb i (length words) (λ h t. rw t refl) (λ h t. rw t (get_or-eq_default words 0 (omega arith)))

pub returns : goal.returns
returns c =
    let read : c.unwrap_or.result ≡ get_or c.args.words.now c.args.i 0 = search rules in
    read ∙ padded _ _
