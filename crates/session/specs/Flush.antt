-- What is written between two turns of a replay, and what is read there. Assumes nothing.
--
-- The counts by their places: 0 where the answers end, 13 up to where they were written before the line ended, 14 not 0 in a check, 20
-- where the line's own answer starts, 21 the ticks of a line that is under way.
use Rattle.std.specs.Prelude.{ℕ, ◌+◌, min, Bool, false, cond, List, [], ◌∷◌, ◌++◌, eqb, ltb, get_or, set, take, drop}
use Rattle.item_state.specs.Log.{Log}

-- ---- answers are written

-- Whether the answer of a line under way has grown past 16,384 bytes. In a check none does: what is kept of it is short.
unfoldable pub is_long : List ℕ → Bool
is_long counts =
    cond (eqb (get_or counts 14 0) 0) (ltb (min (get_or counts 20 0 + 16384) 18446744073709551615) (get_or counts 0 0)) false

-- Up to where answers are written: all of them; while a line is under way none, unless its own answer has grown long.
unfoldable pub written_to : List ℕ → ℕ
written_to counts =
    cond (eqb (get_or counts 21 0) 0) (get_or counts 0 0) (cond (is_long counts) (get_or counts 0 0) (get_or counts 13 0))

-- the bytes that are written then
unfoldable pub written_now : Log → List ℕ
written_now l = drop (get_or l.counts 13 0) (take (written_to l.counts) l.answers)

-- Of a long answer the first 2,048 bytes stay in the buffer, more than a line can expect.
unfoldable pub kept_to : List ℕ → ℕ
kept_to counts = min (get_or counts 20 0 + 2048) 18446744073709551615

-- The counts behind that: the buffer is empty, or holds the start of a long answer, which is written.
unfoldable pub after_writing : List ℕ → List ℕ
after_writing counts =
    cond (eqb (get_or counts 21 0) 0) (set (set counts 0 0) 13 0)
    (cond (is_long counts) (set (set counts 0 (kept_to counts)) 13 (kept_to counts)) counts)

-- ---- the input ends

-- "the last one may lack it": bytes that are left at the input's end get a line feed.
unfoldable pub line_ending : List ℕ → List ℕ
line_ending [] = []
line_ending (c ∷ cs) = (c ∷ cs) ++ (10 ∷ [])
