-- How large the numbers of a line are, and how many of them there are. Assumes nothing.
use Rattle.std.specs.Prelude.{ℕ, ◌+◌, ◌≤◌, ◌<◌, List, [], ◌∷◌, ◌≡◌, ℤ, nat_abs, length}
use Rattle.listing.specs.declared.Width.{Width}
use Rattle.text.specs.Text.{Text, spaced}
use Rattle.item_line.specs.Line.{Fault, Output, Call, Ask, Keep, Expected, Wanted, Line}

-- Each number of a list is below n.
pub data Below (n : ℕ) : List ℕ → Type 0 where
  none : Below n []
  more : {x : ℕ} {xs : List ℕ} → x < n → Below n xs → Below n (x ∷ xs)

-- Each word of a list has four bytes.
pub data Fours : List Wanted → Type 0 where
  none : Fours []
  more : {w : Wanted} {ws : List Wanted} → length w ≡ 4 → Fours ws → Fours (w ∷ ws)

-- Each difference of a list has 32 bits.
pub data Quanta : List ℤ → Type 0 where
  none : Quanta []
  more : {d : ℤ} {ds : List ℤ} → nat_abs d ≤ 2147483648 → Quanta ds → Quanta (d ∷ ds)

pub data OutputBound : Output → Type 0 where
  by_frame : OutputBound Output.by_frame
  out_of : {n : ℕ} → n ≤ 200 → OutputBound (Output.out_of n)

pub data CallBound : Call → Type 0 where
  bus : {o : Output} {bytes : List ℕ} → OutputBound o → Below 256 bytes → length bytes ≤ 200 → CallBound (Call.bus o bytes)
  set : {a : ℕ} {ws : List ℕ} → 0x30 ≤ a → a ≤ 0x43 → Below 65536 ws → 1 ≤ length ws → length ws ≤ 99 → CallBound (Call.set a ws)
  tick : {n : ℕ} → n < 4294967296 → CallBound (Call.tick n)
  at : {n : ℕ} → n < 4294967296 → CallBound (Call.at n)
  stretch : {n : ℕ} → n < 4294967296 → CallBound (Call.stretch n)
  flight : {up down : List ℕ} → length up ≤ 16 → length down ≤ 16 → Below 4294967296 up → Below 4294967296 down → CallBound (Call.flight up down)
  temperature : {ws : List ℕ} → length ws ≤ 16 → Below 4294967296 ws → CallBound (Call.temperature ws)
  frames : CallBound Call.frames
  degrees : {a b : ℕ} → a < 4294967296 → b < 4294967296 → CallBound (Call.degrees a b)
  listing : {w : Width} {first : ℕ} → first < 4294967296 → CallBound (Call.listing w first)
  quietest : {n : ℕ} → n < 4294967296 → CallBound (Call.quietest n)

pub data KeepBound : Keep → Type 0 where
  probe : {ns : List ℕ} → 1 ≤ length ns → length ns ≤ 500 → Below 4294967296 ns → KeepBound (Keep.probe ns)
  differences : {ds : List ℤ} → length ds ≤ 500 → Quanta ds → KeepBound (Keep.differences ds)

-- What is expected is at most as long, put together, as a line.
pub data ExpectedBound : Expected → Type 0 where
  unmarked : ExpectedBound Expected.unmarked
  marked : {xs : List Text} → length (spaced xs) ≤ 1000 → ExpectedBound (Expected.marked xs)

pub data LineBound : Line → Type 0 where
  silent : LineBound Line.silent
  bad : {f : Fault} → LineBound (Line.bad f)
  item : {name : List Text} → length (spaced name) ≤ 1000 → LineBound (Line.item name)
  show : LineBound Line.show
  expect : {a : ℕ} {ws : List Wanted} → 0xB0 ≤ a → a + length ws ≤ 256 → 1 ≤ length ws → Fours ws → LineBound (Line.expect a ws)
  read : {a : ℕ} {ws : List Wanted} → 0xB0 ≤ a → a + length ws ≤ 256 → 1 ≤ length ws → Fours ws → LineBound (Line.read a ws)
  call : {c : Call} {x : Expected} → CallBound c → ExpectedBound x → LineBound (Line.call c x)
  ask : {a : Ask} {x : Expected} → ExpectedBound x → LineBound (Line.ask a x)
  keep : {k : Keep} {x : Expected} → KeepBound k → ExpectedBound x → LineBound (Line.keep k x)
