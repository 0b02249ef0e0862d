-- What holds of every page of a text, and the counts of its last line as sums over its lines. Assumes nothing.
use Prim.Native.Nat.{ℕ, ◌+◌, ◌≤◌, ◌<◌, min}
use mathlib.Core.Path.{◌≡◌, refl, ◌∙◌}
use mathlib.Core.Bool.{Bool, true, false}
use mathlib.Core.List.{List, [], ◌∷◌}
use native.Mathlib.Omega.{arith}
use lib.ListN.{length, get_or, set, replicate, length-replicate, get_or-replicate}
use lib.Seq.{get_or-set_other}
use Rattle.device.specs.Model.{is_sound}
use Rattle.line_buffer.specs.Lines.{text_lines, each_line}
use Rattle.session.specs.Ends.{counts_begun}
use Rattle.replay_text.specs.Replay.{Page, content_page, page_line, first_page, last_page}
use Rattle.replay_text.specs.LastLine.{counts_of, over_lines}
use Rattle.replay_text.proofs.Numbers.{reading-alike}
use Rattle.replay_text.proofs.Sound.{sound-line, sound-first}
use Rattle.replay_text.proofs.Gains.{most, in_line, line-gains}

-- ---- every page

-- There are 22 counts, none of the last line's is above the largest number, a line's numbers have 512 places, and the model is sound.
pub record InOrder (p : Page) : Type 0 where
  pub long : length (counts_of p) ≡ 22
  pub low : (k : ℕ) → 2 < k → k < 9 → get_or (counts_of p) k 0 ≤ most
  pub numbers : length p.numbers ≡ 512
  pub sound : is_sound p.replay.state.model ≡ true

-- A line adds to each of these counts.
pub line-adds-to : (k : ℕ) → 2 < k → k < 9 → (line : List ℕ) (p : Page) → InOrder p
    → (length (counts_of (page_line line p)) ≡ 22) × (get_or (counts_of (page_line line p)) k 0 ≡ min (get_or (counts_of p) k 0 + in_line k line p) most)
line-adds-to k some low line p o = line-gains k some low line p o.long (o.low k some low) (omega (arith, o.numbers))

pub order-line : (line : List ℕ) (p : Page) → InOrder p → InOrder (page_line line p)
unfolding page_line content_page
order-line line p o = record {
  long = (line-adds-to 3 (omega arith) (omega arith) line p o).0;
  low = λ k some low. omega (arith, (line-adds-to k some low line p o).1);
  numbers = (reading-alike p.numbers p.numbers refl line).kept ∙ o.numbers;
  sound = sound-line line p o.sound;
}

pub order-lines : (ls : List (List ℕ)) (p : Page) → InOrder p → InOrder (each_line page_line ls p)
unfolding each_line
order-lines [] p o = o
order-lines (l ∷ ls) p o = order-lines ls (page_line l p) (order-line l p o)

module _ (path : List ℕ) where
  first-long : (check : Bool) → length (counts_of (first_page path check)) ≡ 22
  unfolding first_page counts_begun
  first-long true = refl
  first-long false = refl

  -- They are 0 before the first line.
  pub first-zero : (check : Bool) (k : ℕ) → 2 < k → k < 9 → get_or (counts_of (first_page path check)) k 0 ≡ 0
  unfolding first_page counts_begun
  first-zero check k some low = go check
    where
      plain : (end : ℕ) → get_or (set (replicate 22 0) 16 end) k 0 ≡ 0
      plain end = get_or-set_other (replicate 22 0) 16 k end 0 (λ e. omega (arith, low, e)) ∙ get_or-replicate {A = ℕ} 22 k 0 0 (omega (arith, low))

      go : (t : Bool) → get_or (counts_begun (replicate 5120 0) path t (replicate 22 0)) k 0 ≡ 0
      go true = get_or-set_other (set (replicate 22 0) 16 _) 14 k 1 0 (λ e. omega (arith, low, e)) ∙ plain _
      go false = plain _

  pub order-first : (check : Bool) → InOrder (first_page path check)
  unfolding first_page
  order-first check = record {
    long = first-long check;
    low = λ k some low. omega (arith, first-zero check k some low);
    numbers = length-replicate {A = ℕ} 512 0;
    sound = sound-first path check;
  }

-- ---- sums over the lines of a text

lines-add-to : (k : ℕ) → 2 < k → k < 9 → (ls : List (List ℕ)) (p : Page) → InOrder p
    → get_or (counts_of (each_line page_line ls p)) k 0 ≡ min (get_or (counts_of p) k 0 + over_lines (in_line k) ls p) most
unfolding each_line over_lines
lines-add-to k some low [] p o = omega (arith, o.low k some low)
lines-add-to k some low (l ∷ ls) p o =
    lines-add-to k some low ls (page_line l p) (order-line l p o) ∙ omega (arith, (line-adds-to k some low l p o).1)

-- What is the same for each line has the same sum: so many lines at most, and what holds of the pages before them.
pub over-same : (bound : ℕ) (Holds : ℕ → Page → Type 0) (f g : List ℕ → Page → ℕ)
    → ((m : ℕ) (line : List ℕ) (p : Page) → m < bound → Holds m p → (f line p ≡ g line p) × Holds (m + 1) (page_line line p))
    → (ls : List (List ℕ)) (n : ℕ) (p : Page) → n + length ls ≤ bound → Holds n p → over_lines f ls p ≡ over_lines g ls p
unfolding over_lines
over-same bound Holds f g each [] n p few here = refl
over-same bound Holds f g each (l ∷ ls) n p few here =
    let one = each n l p (omega (arith, few)) here in
    rw (one.0, over-same bound Holds f g each ls (n + 1) (page_line l p) (omega (arith, few)) one.1)

-- A count of the last line is the sum of what each line counts.
module _ (k : ℕ) (some : 2 < k) (low : k < 9) (each : List ℕ → Page → ℕ) where
  pub sum_is : (path : List ℕ) (check : Bool) (text : List ℕ) → over_lines (in_line k) (text_lines text) (first_page path check) ≡ over_lines each (text_lines text) (first_page path check)
      → get_or (counts_of (last_page path check text)) k 0 ≡ min (over_lines each (text_lines text) (first_page path check)) most
  unfolding last_page
  sum_is path check text same =
      lines-add-to k some low (text_lines text) (first_page path check) (order-first path check)
      ∙ omega (arith, first-zero path check k some low, same)

  pub text-counts : ((line : List ℕ) (p : Page) → InOrder p → in_line k line p ≡ each line p) → (path : List ℕ) (check : Bool) (text : List ℕ)
      → get_or (counts_of (last_page path check text)) k 0 ≡ min (over_lines each (text_lines text) (first_page path check)) most
  text-counts exact path check text =
      sum_is path check text
      (over-same (length (text_lines text)) (λ m p. InOrder p) (in_line k) each (λ m line p before o. (exact line p o, order-line line p o))
      (text_lines text) 0 (first_page path check) (omega arith) (order-first path check))
