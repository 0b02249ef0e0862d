-- Laws of the four words of a temperature measurement: what a port reads, none of them open or short, and all of them open.
use Prim.Native.Nat.{ℕ, zero, suc, ◌+◌, ◌≤◌, ◌<◌}
use native.Mathlib.Omega.{arith}
use mathlib.Core.Path.{◌≡◌, refl}
use mathlib.Core.Bool.{false}
use mathlib.Core.List.{List, [], ◌∷◌}
use lib.ListN.{length, get_or}
use borrow.Author.Tests.{lt-leb, le-leb, lt-ltb, le-ltb}
use Rattle.unit.specs.declared.Quanta.{Quanta}
use Rattle.hit.specs.Limit.{open_from, short_below, any_from, any_below, any_fault}
use Rattle.hit.specs.Words.{word_or_zero, four_words, port_pair, port_pairs, failed_ports, no_quanta, plus_each}
use Rattle.hit.specs.Mean.{All}
use Rattle.unit.proofs.Joined.{neither}
use Rattle.hit.proofs.Sum.{all-below, all_above}

pub open-below : (cycle : ℕ) → cycle < 4 → (open_from cycle).0 < 2147483648
unfolding open_from
open-below cycle h = omega arith

-- a port's pair by its word
module _ (limit : Quanta) (w : ℕ) where
  pub port-open : limit.0 ≤ w → port_pair limit w ≡ 0xFFFFFFFF
  unfolding port_pair
  port-open h = rw (le-leb limit.0 w h)

  pub port-short : w < limit.0 → w < short_below.0 → port_pair limit w ≡ 0
  unfolding port_pair
  port-short h l = rw (lt-leb limit.0 w h, lt-ltb w short_below.0 l)

  pub port-whole : w < limit.0 → short_below.0 ≤ w → port_pair limit w ≡ w
  unfolding port_pair
  port-whole h l = rw (lt-leb limit.0 w h, le-ltb w short_below.0 l)

-- what is known of the four words of a good measurement
pub record Good (limit : Quanta) (ws : List ℕ) : Type 0 where
  pub first : word_or_zero ws 0 < 2147483648
  pub second : word_or_zero ws 1 < 2147483648
  pub third : word_or_zero ws 2 < 2147483648
  pub fourth : word_or_zero ws 3 < 2147483648
  pub each : All (λ w. w < 2147483648) ws
  pub whole : four_words ws ≡ ws
  pub kept : port_pairs limit (four_words ws) ≡ four_words ws

pub good-ports :
    (cycle : ℕ) →
    cycle < 4 →
    (ws : List ℕ) →
    length ws ≡ 4 →
    any_fault (open_from cycle) ws ≡ false →
    Good (open_from cycle) ws
unfolding word_or_zero four_words port_pairs any_fault
good-ports cycle h [] l e = absurd (omega arith)
good-ports cycle h (a ∷ []) l e = absurd (omega arith)
good-ports cycle h (a ∷ b ∷ []) l e = absurd (omega arith)
good-ports cycle h (a ∷ b ∷ c ∷ []) l e = absurd (omega arith)
good-ports cycle h (a ∷ b ∷ c ∷ d ∷ []) l e =
    let limit : Quanta = open_from cycle in
    let n = neither (any_from limit (a ∷ b ∷ c ∷ d ∷ [])) (any_below short_below (a ∷ b ∷ c ∷ d ∷ [])) e in
    let f : All (λ w. w < limit.0) (a ∷ b ∷ c ∷ d ∷ []) = all-below limit (a ∷ b ∷ c ∷ d ∷ []) n.0 in
    let g : All (λ w. short_below.0 ≤ w) (a ∷ b ∷ c ∷ d ∷ []) = all_above short_below (a ∷ b ∷ c ∷ d ∷ []) n.1 in
    let m : limit.0 < 2147483648 = open-below cycle h in
    record {
      first = omega arith;
      second = omega arith;
      third = omega arith;
      fourth = omega arith;
      each = omega arith;
      whole = refl;
      kept =
          rw (
            port-whole limit a f.0 g.0,
            port-whole limit b f.1.0 g.1.0,
            port-whole limit c f.1.1.0 g.1.1.0,
            port-whole limit d f.1.1.1.0 g.1.1.1.0,
          );
    }
good-ports cycle h (a ∷ b ∷ c ∷ d ∷ f ∷ ws) l e = absurd (omega arith)

-- "fails .. as if all its words were .. open"
pub all-open :
    (limit : Quanta) (ws : List ℕ) →
    limit.0 ≤ get_or ws 0 0 →
    limit.0 ≤ get_or ws 1 0 →
    limit.0 ≤ get_or ws 2 0 →
    limit.0 ≤ get_or ws 3 0 →
    port_pairs limit ws ≡ failed_ports
unfolding port_pairs failed_ports
all-open limit ws h i j k =
    rw (port-open limit _ h, port-open limit _ i, port-open limit _ j, port-open limit _ k)

-- "or of the good words of each port": each port's word is added to its own sum
pub sums_apart :
    (sums : List Quanta) (w : List ℕ) (i : ℕ) →
    i < 4 →
    (get_or (plus_each sums w) i no_quanta).0 ≡ (get_or sums i no_quanta).0 + get_or w i 0
unfolding plus_each
sums_apart sums w zero h = refl
sums_apart sums w (suc zero) h = refl
sums_apart sums w (suc (suc zero)) h = refl
sums_apart sums w (suc (suc (suc zero))) h = refl
sums_apart sums w (suc (suc (suc (suc i)))) h = absurd (omega arith)
