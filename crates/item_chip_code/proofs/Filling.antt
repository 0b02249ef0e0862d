-- Buffers of registers' words, filled one after the other. Assumes nothing.
use Prim.Native.Nat.{ℕ, suc, ◌+◌, ◌-◌, ◌*◌, ◌≤◌, ◌<◌}
use mathlib.Core.List.{List, [], ◌∷◌, ◌++◌, append-nil, append_assoc}
use mathlib.Core.Path.{◌≡◌, ◌∙◌}
use native.Mathlib.Numerals.{add-one}
use native.Mathlib.Omega.{arith}
use lib.ListN.{length, get_or, set, take, drop, drop_of_length-le}
use lib.Seq.{drop-cons, take_all, take-suc-set}
use Rattle.device.specs.declared.Model.{Model}
use Rattle.device.specs.Registers.{register_word}
use Rattle.item_answer.specs.Words.{words_of, registers}

-- A word more stands there.
fill_on : (ws : List ℕ) (i v : ℕ) (rest : List ℕ) {all : List ℕ} → i < length ws → take i ws ++ (v ∷ rest) ≡ all → take (i + 1) (set ws i v) ++ rest ≡ all
fill_on ws i v rest less e = rw (add-one i, take-suc-set ws i v less) (append_assoc (take i ws) (v ∷ []) rest ∙ e)

-- All stand there.
fill_end : (ws : List ℕ) (i : ℕ) {rest all : List ℕ} → length ws ≤ i → rest ≡ [] → take i ws ++ rest ≡ all → ws ≡ all
fill_end ws i {rest} {all} full none e = rw (none, take_all i ws full, append-nil) at e

-- The words of bytes.
words-turn : (bytes : List ℕ) (i : ℕ) → 2 * i + 1 < length bytes
    → words_of (drop (2 * i) bytes) ≡ (get_or bytes (2 * i) 0 * 256 + get_or bytes (2 * i + 1) 0) ∷ words_of (drop (2 * (i + 1)) bytes)
unfolding words_of
words-turn bytes i less =
    let odd : 2 * i + 1 ≡ suc (2 * i) = omega arith in
    let even : 2 * (i + 1) ≡ suc (suc (2 * i)) = omega arith in
    rw (odd, even, drop-cons bytes (2 * i) 0 (omega arith), drop-cons bytes (suc (2 * i)) 0 (omega arith))

pub fill-words-on : (bytes ws : List ℕ) (i : ℕ) {v : ℕ} {all : List ℕ} → i < length ws → length bytes ≡ 2 * length ws
    → v ≡ get_or bytes (2 * i) 0 * 256 + get_or bytes (2 * i + 1) 0 → take i ws ++ words_of (drop (2 * i) bytes) ≡ all
    → take (i + 1) (set ws i v) ++ words_of (drop (2 * (i + 1)) bytes) ≡ all
fill-words-on bytes ws i {v} {all} less long is e =
    let turn : words_of (drop (2 * i) bytes) ≡ v ∷ words_of (drop (2 * (i + 1)) bytes) = rw is (words-turn bytes i (omega arith)) in
    fill_on ws i v (words_of (drop (2 * (i + 1)) bytes)) less (rw turn at e)

pub fill-words-end : (bytes ws : List ℕ) (i : ℕ) {all : List ℕ} → length ws ≤ i → length bytes ≡ 2 * length ws
    → take i ws ++ words_of (drop (2 * i) bytes) ≡ all → ws ≡ all
unfolding words_of
fill-words-end bytes ws i full long e =
    let short : length bytes ≤ 2 * i = omega arith in fill_end ws i full (rw (drop_of_length-le bytes short)) e

-- The words of registers.
pub fill-registers-start : (m : Model) (a n : ℕ) → registers m (a + 0) (n - 0) ≡ registers m a n
fill-registers-start m a n = let first : a + 0 ≡ a = omega arith in let all : n - 0 ≡ n = omega arith in rw (first, all)

pub fill-registers-on : (m : Model) (a n : ℕ) (ws : List ℕ) (i : ℕ) {v : ℕ} {all : List ℕ} → i < length ws → length ws ≡ n
    → v ≡ register_word m (a + i) → take i ws ++ registers m (a + i) (n - i) ≡ all
    → take (i + 1) (set ws i v) ++ registers m (a + (i + 1)) (n - (i + 1)) ≡ all
unfolding registers
fill-registers-on m a n ws i {v} {all} less long is e =
    let left : n - i ≡ suc (n - (i + 1)) = omega arith in
    let next : a + i + 1 ≡ a + (i + 1) = omega arith in
    let turn : registers m (a + i) (n - i) ≡ v ∷ registers m (a + (i + 1)) (n - (i + 1)) = rw (is, left, next) in
    fill_on ws i v (registers m (a + (i + 1)) (n - (i + 1))) less (rw turn at e)

pub fill-registers-end : (m : Model) (a n : ℕ) (ws : List ℕ) (i : ℕ) {all : List ℕ} → length ws ≤ i → length ws ≡ n
    → take i ws ++ registers m (a + i) (n - i) ≡ all → ws ≡ all
unfolding registers
fill-registers-end m a n ws i full long e = let none : n - i ≡ 0 = omega arith in fill_end ws i full (rw none) e
