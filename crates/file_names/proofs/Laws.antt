-- Lines and names, byte by byte and piece by piece. Assumes nothing.
use Prim.Native.Nat.{ℕ, ◌+◌, ◌≤◌, ◌<◌}
use mathlib.Core.Bool.{Bool, true, false, cond, true≢false}
use mathlib.Core.List.{List, [], ◌∷◌, ◌++◌, append-nil, append_assoc}
use mathlib.Core.Path.{◌≡◌, refl, sym, ap, ◌∙◌}
use native.Mathlib.Omega.{arith}
use lib.Dec.{eqb, ltb}
use native.Mathlib.Numerals.{add-one}
use lib.ListN.{length, get_or, take, drop, set, length-set}
use lib.Seq.{take-nil, drop-cons, length-take-le}
use borrow.Author.Tests.{ne_eqb, eqb-true, eqb-false, ltb-false, ltb-true}
use Rattle.file_names.specs.Held.{Held, held_bytes, held_count}
use Rattle.file_names.proofs.HeldLaws.{held_more}
use Rattle.line_buffer.specs.Lines.{has_line, line_of, behind_line, with_first, lines_in, rest_in, last_line, text_lines, whole_text}
use Rattle.line_buffer.proofs.Pieces.{none_first, no_lines, all_rest, rest-none, none_both, line_first, lines_cut, rest-cut}
use Rattle.file_names.specs.Names.{named, names_in, names_of, ended_names, Passed, Begun, Sought, ends_name}

-- ---- names

named-then : (l : List ℕ) (a b : List (List ℕ)) → named l (a ++ b) ≡ named l a ++ b
unfolding named
named-then [] a b = refl
named-then (c ∷ cs) a b = refl

pub names-then : (room : ℕ) (a b : List (List ℕ)) → names_in room (a ++ b) ≡ names_in room a ++ names_in room b
unfolding names_in
names-then room [] b = refl
names-then room (l ∷ ls) b = rw (names-then room ls b) (named-then (take room l) (names_in room ls) (names_in room b))

one-named : (room : ℕ) (l : List ℕ) → names_in room (l ∷ []) ≡ named (take room l) []
unfolding names_in
one-named room l = refl

named_some : (l : List ℕ) → 0 < length l → named l [] ≡ l ∷ []
unfolding named
named_some [] some = absurd (omega arith)
named_some (c ∷ cs) some = refl

named_none : (l : List ℕ) → length l ≤ 0 → named l [] ≡ []
unfolding named
named_none [] none = refl
named_none (c ∷ cs) none = absurd (omega arith)

last-named : (room : ℕ) (l : List ℕ) → names_in room (last_line l) ≡ named (take room l) []
unfolding names_in last_line named
last-named room [] = rw (take-nil {A = ℕ} room)
last-named room (c ∷ cs) = refl

-- A text without a line feed is one name; the names of any other are that of its first line, and those of what is behind it.
pub only-named : (room : ℕ) (text : List ℕ) → has_line text ≡ false → names_of room text ≡ named (take room text) []
unfolding names_of text_lines
only-named room text none = rw (no_lines text none, all_rest text none) (last-named room text)

pub first-named : (room : ℕ) (text : List ℕ) → has_line text ≡ true
    → names_of room text ≡ named (take room (line_of text)) (names_of room (behind_line text))
unfolding names_of names_in text_lines
first-named room text some = let first = line_first text some in rw (first.0, first.1)

-- ---- one byte more

-- A line feed ends the line that is begun.
feed-ends : (x : List ℕ) → has_line x ≡ false → (lines_in (x ++ (10 ∷ [])) ≡ x ∷ []) × (rest_in (x ++ (10 ∷ [])) ≡ []) × (has_line (x ++ (10 ∷ [])) ≡ true)
unfolding lines_in with_first rest_in has_line
feed-ends [] none = (refl, refl, refl)
feed-ends (c ∷ cs) none =
    let so = none_first c cs none in
    let later = feed-ends cs so.1 in
    (rw (so.0, later.0), rw (so.0, later.2) later.1, rw so.0 later.2)

pub feed-names : (room : ℕ) (x : List ℕ) → (ended_names room (x ++ (10 ∷ [])) ≡ ended_names room x ++ named (take room (rest_in x)) []) × (rest_in (x ++ (10 ∷ [])) ≡ [])
unfolding ended_names
feed-names room x =
    let ends = feed-ends (rest_in x) (rest-none x) in
    (rw (lines_cut x (10 ∷ []), ends.0, names-then room (lines_in x) (rest_in x ∷ []), one-named room (rest_in x)), rest-cut x (10 ∷ []) ∙ ends.1)

-- Another byte goes to the line that is begun.
no-feed : (b : ℕ) → ¬ (b ≡ 10) → has_line (b ∷ []) ≡ false
unfolding has_line
no-feed b other = rw (ne_eqb b 10 other)

pub byte-names : (room : ℕ) (x : List ℕ) (b : ℕ) → ¬ (b ≡ 10)
    → (ended_names room (x ++ (b ∷ [])) ≡ ended_names room x) × (rest_in (x ++ (b ∷ [])) ≡ rest_in x ++ (b ∷ []))
unfolding ended_names
byte-names room x b other =
    let none = none_both (rest_in x) (b ∷ []) (rest-none x) (no-feed b other) in
    (rw (lines_cut x (b ∷ []), no_lines (rest_in x ++ (b ∷ [])) none, append-nil (lines_in x)), rest-cut x (b ∷ []) ∙ all_rest (rest_in x ++ (b ∷ [])) none)

-- ---- what is used of a list, more and more

module _ {room : ℕ} {start left : List ℕ} {pieces names : List (List ℕ)} where
  used-more : {x next : List ℕ} {b : ℕ} (p : Passed room start left pieces names x (b ∷ next))
      → left ++ whole_text pieces ≡ (p.used ++ (b ∷ [])) ++ next
  used-more {next = next} {b} p = p.all ∙ sym (append_assoc p.used (b ∷ []) next)

  pub passed-byte : {x next : List ℕ} {b : ℕ} → Passed room start left pieces names x (b ∷ next) → ¬ (b ≡ 10)
      → Passed room start left pieces names (x ++ (b ∷ [])) next
  passed-byte {b = b} p other =
      let more = byte-names room (start ++ p.used) b other in
      record {
        used = p.used ++ (b ∷ []);
        all = used-more p;
        ended = rw (← append_assoc start p.used (b ∷ []), more.0) p.ended;
        rest = rw (← append_assoc start p.used (b ∷ []), more.1, p.rest);
      }

  pub passed-feed : {x next : List ℕ} → Passed room start left pieces names x (10 ∷ next)
      → Passed room start left pieces (names ++ named (take room x) []) [] next
  passed-feed p =
      let more = feed-names room (start ++ p.used) in
      record {
        used = p.used ++ (10 ∷ []);
        all = used-more p;
        ended = rw (← append_assoc start p.used (10 ∷ []), more.0, p.ended, p.rest);
        rest = rw (← append_assoc start p.used (10 ∷ [])) more.1;
      }

-- nothing was used
pub passed_none : (room : ℕ) (start left : List ℕ) → has_line start ≡ false → Passed room start left [] [] start left
unfolding whole_text ended_names names_in
passed_none room start left none = record {
  used = [];
  all = append-nil left;
  ended = rw (append-nil start, no_lines start none);
  rest = rw (append-nil start) (all_rest start none);
}

whole-then : (a b : List (List ℕ)) → whole_text (a ++ b) ≡ whole_text a ++ whole_text b
unfolding whole_text
whole-then [] b = refl
whole-then (p ∷ ps) b = rw (whole-then ps b) (sym (append_assoc p (whole_text ps) (whole_text b)))

-- First so much is read and used, and then so much.
pub passed_then : {room : ℕ} {start left : List ℕ} {pieces names : List (List ℕ)} {start' left' : List ℕ} {pieces' names' : List (List ℕ)}
    {start'' left'' : List ℕ} → Passed room start left pieces names start' left' → Passed room start' left' pieces' names' start'' left''
    → Passed room start left (pieces ++ pieces') (names ++ names') start'' left''
unfolding ended_names
passed_then {room} {start} {left} {pieces} {left' = left'} {pieces'} {left'' = left''} p q =
    let both = start ++ p.used in
    let lines : lines_in (start ++ (p.used ++ q.used)) ≡ lines_in both ++ lines_in (rest_in both ++ q.used)
    = ap lines_in (sym (append_assoc start p.used q.used)) ∙ lines_cut both q.used in
    let rests : rest_in (start ++ (p.used ++ q.used)) ≡ rest_in (rest_in both ++ q.used)
    = ap rest_in (sym (append_assoc start p.used q.used)) ∙ rest-cut both q.used in
    record {
      used = p.used ++ q.used;
      all = ap (λ (l : List ℕ). left ++ l) (whole-then pieces pieces') ∙ sym (append_assoc left (whole_text pieces) (whole_text pieces')) ∙ ap (λ (l : List ℕ). l ++ whole_text pieces') p.all ∙ append_assoc p.used left' (whole_text pieces') ∙ ap (λ (l : List ℕ). p.used ++ l) q.all ∙ sym (append_assoc p.used q.used left'');
      ended = rw (lines, names-then room (lines_in both) (lines_in (rest_in both ++ q.used)), p.ended, p.rest, q.ended);
      rest = rw (rests, p.rest) q.rest;
    }

-- A piece is read where all bytes are used.
pub passed-piece : {room : ℕ} {start left : List ℕ} {pieces names : List (List ℕ)} {start' : List ℕ} → Passed room start left pieces names start' []
    → (piece : List ℕ) → Passed room start left (pieces ++ (piece ∷ [])) names start' piece
unfolding whole_text
passed-piece {left = left} {pieces} p piece = record {
  used = p.used;
  all = ap (λ (l : List ℕ). left ++ l) (whole-then pieces (piece ∷ [])) ∙ sym (append_assoc left (whole_text pieces) (piece ++ [])) ∙ ap (λ (l : List ℕ). l ++ (piece ++ [])) p.all ∙ append_assoc p.used [] (piece ++ []) ∙ ap (λ (l : List ℕ). p.used ++ l) (append-nil piece);
  ended = p.ended;
  rest = p.rest;
}

-- ---- a whole list

-- All bytes are used: these are the names of the lines that have ended, and with what is left of the last line those of the whole text.
all-used : {room : ℕ} {pieces names : List (List ℕ)} {last : List ℕ} (p : Passed room [] [] pieces names last []) → p.used ≡ whole_text pieces
all-used p = sym (p.all ∙ append-nil p.used)

pub passed-ended : {room : ℕ} {pieces names : List (List ℕ)} {last : List ℕ} → Passed room [] [] pieces names last []
    → ended_names room (whole_text pieces) ≡ names
passed-ended p = rw (← all-used p) p.ended

pub passed-whole : {room : ℕ} {pieces names : List (List ℕ)} {last : List ℕ} → Passed room [] [] pieces names last []
    → names_of room (whole_text pieces) ≡ names ++ named (take room last) []
unfolding names_of text_lines ended_names
passed-whole {room} {pieces} p =
    let text = whole_text pieces in
    let left : rest_in text ≡ rest_in p.used = rw (← all-used p) in
    rw (names-then room (lines_in text) (last_line (rest_in text)), passed-ended p, left, p.rest, last-named room _)

-- ---- a name, byte by byte

-- What a buffer holds is as long as it is counted.
held-long : {path : List ℕ} {n : ℕ} {start : List ℕ} → Held path n start → length (take n path) ≡ n
held-long {path} {n} h = length-take-le n path (omega (arith, h.count))

held_same : (l : List ℕ) (n b : ℕ) → length (held_bytes l n b) ≡ length l
unfolding held_bytes
held_same l n b = go (ltb n (length l))
  where
    go : (t : Bool) → length (cond t (set l n b) l) ≡ length l
    go true = length-set l n b
    go false = refl

pub seek-first : {path : List ℕ} {n : ℕ} {start : List ℕ} (bytes : List ℕ) → Begun path n start → Sought start bytes bytes path n
seek-first {path} {n} {start} bytes b = record { start' = start; passed = passed_none (length path) start bytes b.line; begun = b }

pub none-held : {path : List ℕ} {n : ℕ} {start : List ℕ} → Begun path n start → n ≤ 0 → named (take (length path) start) [] ≡ []
none-held b none = rw (← b.held.bytes) (named_none _ (omega (arith, held-long b.held)))

pub some-held : {path : List ℕ} {n : ℕ} {start : List ℕ} → Begun path n start → 0 < n
    → named (take (length path) start) [] ≡ take n path ∷ []
some-held b some = rw (← b.held.bytes) (named_some _ (omega (arith, held-long b.held)))

-- No line is begun.
pub begun-none : (path : List ℕ) → Begun path 0 []
unfolding has_line
begun-none path = record { held = record { count = omega arith; bytes = sym (take-nil {A = ℕ} (length path)) }; line = refl }

module _ {start bytes path : List ℕ} {n b : ℕ} {left : List ℕ} (s : Sought start bytes (b ∷ left) path n) where
  seek-byte : ¬ (b ≡ 10) → Sought start bytes left (held_bytes path n b) (held_count path n)
  seek-byte other =
      let same = held_same path n b in
      let more = held_more path n s.start' b s.begun.held in
      record {
        start' = s.start' ++ (b ∷ []);
        passed = rw same (passed-byte s.passed other);
        begun = record {
          held = record { count = rw same more.0; bytes = rw same more.1 };
          line = none_both s.start' (b ∷ []) s.begun.line (no-feed b other);
        };
      }

  at-feed : b ≡ 10 → Passed (length path) start bytes [] (named (take (length path) s.start') []) [] left
  at-feed feed = passed-feed (rw feed at s.passed)

  seek-feed : b ≡ 10 → n ≤ 0 → Sought start bytes left path n
  seek-feed feed none =
      let zero : n ≡ 0 = omega arith in
      record { start' = []; passed = rw (none-held s.begun none) at (at-feed feed); begun = rw zero (begun-none path) }

  seek-named : ends_name b n ≡ true → Passed (length path) start bytes [] (take n path ∷ []) [] left
  unfolding ends_name
  seek-named = go (eqb b 10) refl
    where
      go : (t : Bool) → eqb b 10 ≡ t → cond t (ltb 0 n) false ≡ true → Passed (length path) start bytes [] (take n path ∷ []) [] left
      go true e ends = rw (some-held s.begun (ltb-true 0 n ends)) at (at-feed (eqb-true b 10 e))
      go false e ends = absurd (true≢false (sym ends))

  seek-past : ends_name b n ≡ false → Sought start bytes left (cond (eqb b 10) path (held_bytes path n b)) (cond (eqb b 10) n (held_count path n))
  unfolding ends_name
  seek-past = go (eqb b 10) refl
    where
      go : (t : Bool) → eqb b 10 ≡ t → cond t (ltb 0 n) false ≡ false
          → Sought start bytes left (cond t path (held_bytes path n b)) (cond t n (held_count path n))
      go true e on = seek-feed (eqb-true b 10 e) (ltb-false 0 n on)
      go false e on = seek-byte (eqb-false b 10 e)

-- The same at a place of the bytes.
module _ {start bytes path : List ℕ} {n : ℕ} (part : List ℕ) (i : ℕ) (less : i < length part) (s : Sought start bytes (drop i part) path n) where
  here : Sought start bytes (get_or part i 0 ∷ drop (i + 1) part) path n
  here = rw (add-one i) (rw (drop-cons part i 0 less) at s)

  pub seek-on : {path' : List ℕ} {n' : ℕ} → ends_name (get_or part i 0) n ≡ false → n' ≡ cond (eqb (get_or part i 0) 10) n (held_count path n)
      → path' ≡ cond (eqb (get_or part i 0) 10) path (held_bytes path n (get_or part i 0)) → Sought start bytes (drop (i + 1) part) path' n'
  seek-on on count held = rw (count, held) (seek-past here on)

  pub seek-name : ends_name (get_or part i 0) n ≡ true → Passed (length path) start bytes [] (take n path ∷ []) [] (drop (i + 1) part)
  seek-name ends = seek-named here ends
