-- A difference as a word of 32 bits and as a number with a sign. Assumes nothing.
use Rattle.std.specs.Prelude.{ℕ, ◌+◌, ◌-◌, ◌*◌, ◌%◌, ◌<◌, ◌≡◌, refl, ltb, ℤ, pos, negsuc}
use Rattle.unit.specs.Choice.{pick}

-- Two registers of 16 bits, the high one first.
unfoldable pub joined_word : ℕ → ℕ → ℕ
joined_word high low = high % 65536 * 65536 + low % 65536

-- The number of a two's complement word: from 2,147,483,648 on it is 4,294,967,296 less.
unfoldable pub signed_of : ℕ → ℤ
signed_of w = pick (ltb w 2147483648) (pos w) (negsuc (4294967295 - w))

-- FFFE1432h is -125,902, FFFFFFFFh is -1, and 80000000h the least.
a-difference : signed_of 4294841394 ≡ negsuc 125901
unfolding signed_of
a-difference = refl

minus_one : signed_of 4294967295 ≡ negsuc 0
unfolding signed_of
minus_one = refl

least : signed_of 2147483648 ≡ negsuc 2147483647
unfolding signed_of
least = refl

most : signed_of 2147483647 ≡ pos 2147483647
unfolding signed_of
most = refl
