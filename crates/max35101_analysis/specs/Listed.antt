-- What a listing of a given count of digits adds to those of `listing`.
use Rattle.std.specs.Prelude.{ℕ, List, eqb, ℤ}
use Rattle.unit.specs.Choice.{pick}
use Rattle.layout.specs.Code.{code_in, filled}
use Rattle.listing.specs.declared.Width.TheVariants.{Two, Eight}
use Rattle.listing.specs.Listing.{capture_digits, listing, number_out, value_out}

-- A listing's capture numbers have as many digits as a `Width` gives them; number 22 for another count.
unfoldable pub listed_number : ℕ → List ℤ → ℕ → List ℕ → ℕ
listed_number digits differences first out =
    pick (eqb digits (capture_digits Two)) (code_in (number_out (listing (capture_digits Two) differences first out)))
    (pick (eqb digits (capture_digits Eight)) (code_in (number_out (listing (capture_digits Eight) differences first out))) 22)

unfoldable pub listed_out : ℕ → List ℤ → ℕ → List ℕ → List ℕ
listed_out digits differences first out =
    pick (eqb digits (capture_digits Two)) (listing (capture_digits Two) differences first out).bytes (pick (eqb digits (capture_digits Eight)) (listing (capture_digits Eight) differences first out).bytes out)

unfoldable pub listed_sizes : ℕ → List ℤ → ℕ → List ℕ → List ℕ → List ℕ
listed_sizes digits differences first out sizes =
    pick (eqb digits (capture_digits Two)) (filled sizes (value_out (listing (capture_digits Two) differences first out)))
    (pick (eqb digits (capture_digits Eight)) (filled sizes (value_out (listing (capture_digits Eight) differences first out))) sizes)
