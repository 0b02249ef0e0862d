-- How long a summary is at most, and that it has room. Assumes nothing.
use Prim.Native.Nat.{ℕ, zero, suc, ◌+◌, ◌-◌, ◌/◌, ◌≤◌, ◌<◌}
use mathlib.Core.Bool.{Bool, true, false, cond}
use mathlib.Core.List.{List, [], ◌∷◌, ◌++◌}
use mathlib.Core.Path.{◌≡◌, refl, ap, ◌∙◌}
use native.Mathlib.Nat.{zero-add}
use native.Mathlib.Omega.{arith}
use lib.Dec.{eqb, ltb}
use lib.ListN.{length, take, drop, length-append, length-take}
use lib.Seq.{take-append_seam}
use Rattle.numeral.specs.Place.{overwrite, joined}
use Rattle.numeral.specs.Print.{width_from, decimal_width, decimal}
use Rattle.numeral.proofs.PlaceLaws.{put-each}
use Rattle.numeral.proofs.PrintLaws.{length-decimal}
use Rattle.numeral.specs.Ascii.{ascii}
use Rattle.wording.specs.Text.{PutEach}
use Rattle.collection.specs.declared.Group.{Group}
use Rattle.collection.specs.declared.Tally.{Tally}
use Rattle.collection.specs.Group.{Members}
use Rattle.collection.specs.Tally.{Collection, tally_of}
use Rattle.collection.specs.Summary.{heading_texts, head_texts, expectations_differ, unannounced_refusals, bad_lines, cannot_be_read, no_expectation, more_texts, group_texts, groups_texts, first_counts, last_counts, summary_texts}

-- ---- sizes

unfoldable size : List (List ℕ) → ℕ
size [] = 0
size (t ∷ ts) = length t + size ts

size-joined : (ts : List (List ℕ)) → length (joined ts) ≡ size ts
unfolding joined size
size-joined [] = refl
size-joined (t ∷ ts) = length-append t (joined ts) ∙ ap (λ (n : ℕ). length t + n) (size-joined ts)

size-append : (ts us : List (List ℕ)) → size (ts ++ us) ≡ size ts + size us
unfolding size
size-append [] us = omega arith
size-append (t ∷ ts) us = rw (size-append ts us) (omega arith)

cond-size : (b : Bool) (ts us : List (List ℕ)) (n : ℕ) → size ts ≤ n → size us ≤ n → size (cond b ts us) ≤ n
cond-size true ts us n h k = h
cond-size false ts us n h k = k

one_digit_more : (b : Bool) (n k : ℕ) → n ≤ k → cond b 1 (suc n) ≤ suc k
one_digit_more true n k h = omega arith
one_digit_more false n k h = omega arith

width-bound : (k v : ℕ) → width_from k v ≤ suc k
unfolding width_from
width-bound zero v = omega arith
width-bound (suc k) v = one_digit_more (ltb v 10) (width_from k (v / 10)) (suc k) (width-bound k (v / 10))

decimal-most : (v : ℕ) → length (decimal v) ≤ 20
unfolding decimal_width
decimal-most v = rw (length-decimal v) (width-bound 19 v)

-- ---- the parts of a summary

head-size : (n : ℕ) → size (head_texts n) ≤ 33
unfolding size head_texts ascii
head-size n = omega (arith, decimal-most n)

more-size : (g : Group) → size (more_texts g) ≤ 32
unfolding size more_texts ascii
more-size g = cond-size (ltb g.named g.count) _ _ 32 (omega (arith, decimal-most (g.count - g.named))) (omega arith)

group-size : (what : List ℕ) (m : Members) → length what ≤ 20 → length m.names ≤ 65536 → size (group_texts what m) ≤ 65611
unfolding size group_texts ascii
group-size what m short few =
    cond-size (eqb m.group.count 0) _ _ 65611 (omega arith)
    (omega (arith, decimal-most m.group.count, length-take m.group.used m.names, more-size m.group))

first-size : (t : Tally) → size (first_counts t) ≤ 123
unfolding size first_counts ascii
first-size t =
    omega (arith, decimal-most t.files, decimal-most t.agree, decimal-most t.differ.count, decimal-most t.unannounced.count)

last-size : (t : Tally) → size (last_counts t) ≤ 105
unfolding size last_counts ascii
last-size t = omega (arith, decimal-most t.bad.count, decimal-most t.unread.count, decimal-most t.plain.count)

-- Five buffers of this many bytes have the names.
pub record Few (c : Collection) : Type 0 where
  pub differ : length c.differ.names ≤ 65536
  pub unannounced : length c.unannounced.names ≤ 65536
  pub bad : length c.bad.names ≤ 65536
  pub unread : length c.unread.names ≤ 65536
  pub plain : length c.plain.names ≤ 65536

groups-size : (c : Collection) → Few c → size (groups_texts c) ≤ 328055
unfolding groups_texts ascii
groups-size c few =
    rw (size-append, size-append, size-append, size-append)
    (omega (
      arith,
      group-size expectations_differ c.differ (omega arith) few.differ,
      group-size unannounced_refusals c.unannounced (omega arith) few.unannounced,
      group-size bad_lines c.bad (omega arith) few.bad,
      group-size cannot_be_read c.unread (omega arith) few.unread,
      group-size no_expectation c.plain (omega arith) few.plain,
    ))

-- The names in their buffers, and less than a thousand bytes beside them.
pub summary-long : (c : Collection) → Few c → length (joined (summary_texts c)) ≤ 328316
unfolding summary_texts
summary-long c few =
    rw (size-joined, size-append, size-append, size-append)
    (omega (arith, head-size c.files, groups-size c few, first-size (tally_of c), last-size (tally_of c)))

-- ---- what is put at the front of a buffer

front : (l bs : List ℕ) → take (0 + length bs) (overwrite l 0 bs) ≡ bs
unfolding overwrite
front l bs = rw zero-add (take-append_seam bs (drop (length bs) l))

put_whole : {l l' : List ℕ} {ts : List (List ℕ)} {r : ℕ} → length (joined ts) ≤ length l → PutEach l 0 ts r l' → take r l' ≡ joined ts
put_whole {l} {l'} {ts} {r} room put = rw (put.next, put.bytes, put-each ts l 0 (omega arith)) (front l (joined ts))

-- A buffer of 331,776 bytes has room for every summary: its first bytes are the summary, and none of it is left out.
pub summary-whole : (c : Collection) → Few c → {l l' : List ℕ} {r : ℕ} → 331776 ≤ length l → PutEach l 0 (summary_texts c) r l'
    → take r l' ≡ joined (summary_texts c)
summary-whole c few room put = put_whole (omega (arith, summary-long c few)) put

heading-size : (name : List ℕ) → size (heading_texts name) ≡ length name + 7
unfolding size heading_texts ascii
heading-size name = omega arith

-- A heading has seven bytes beside the name.
pub heading-whole : (name : List ℕ) {l l' : List ℕ} {r : ℕ} → length name + 7 ≤ length l → PutEach l 0 (heading_texts name) r l'
    → take r l' ≡ joined (heading_texts name)
heading-whole name room put = put_whole (omega (arith, size-joined (heading_texts name), heading-size name)) put
