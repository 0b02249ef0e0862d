-- What a call states of its answer.
use Rattle.std.specs.Prelude.{ℕ, List, ◌≡◌}

-- The answer `r` says what `a` says: by the number of a refusal, none where there is none, and by its values, as the definitions for its
-- type give them for each case; and it is `a`.
pub record Says {A : Type 0} (number values : A → List ℕ) (r a : A) : Type 0 where
  pub numbered : number r ≡ number a
  pub valued : values r ≡ values a
  pub same : r ≡ a
