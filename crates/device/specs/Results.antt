-- What a good and a failed measurement leave in the results of its kind.
use Rattle.std.specs.Prelude.{ℕ, true, List}
use Rattle.device.specs.Base.{pick, Quanta, average, filled, failed_pairs, plus, plus_each, difference_word, biased}
use Rattle.device.specs.Base.{Schedule, Flight, Temperature}
use Rattle.device.specs.Event.{to_settle, settle}

-- "for a difference TOF_DIFF = AVGUP − AVGDN"
unfoldable pub good_difference : Flight → Quanta → Quanta → ℕ
good_difference f up down =
    pick f.up (pick f.down (difference_word up down) f.difference) f.difference

-- "the averages become the sums of the good differences .. ÷ count"; of an event alone. The sum has 2^31 added to each difference,
-- which `difference_mean` takes off again.
unfoldable pub good_sum : Flight → Quanta → Quanta → Quanta
good_sum f up down = pick (to_settle f.schedule) (plus f.sum (biased up down).0) f.sum

-- "No word late: HIT pairs 1 to H hold the words, later HIT pairs 0, AVG the sum ÷ H rounded down"
unfoldable pub good_flight : Flight → ℕ → List ℕ → List ℕ → Flight
good_flight f hits ups downs =
    record {
      schedule = settle f.schedule true;
      up = f.up;
      down = f.down;
      sum = good_sum f (average ups hits) (average downs hits);
      ups = pick f.up (filled ups (average ups hits)) f.ups;
      downs = pick f.down (filled downs (average downs hits)) f.downs;
      difference = good_difference f (average ups hits) (average downs hits);
    }

unfoldable pub good_sums : Temperature → List ℕ → List Quanta
good_sums t w = pick (to_settle t.schedule) (plus_each t.sums w) t.sums

-- "the measurement fails, every HIT and AVG of the measured directions and, for a difference, TOF_DIFF become FFFFh"
unfoldable pub failed_difference : Flight → ℕ
failed_difference f = pick f.up (pick f.down 0xFFFFFFFF f.difference) f.difference

unfoldable pub failed_flight : Flight → Schedule → Flight
failed_flight f k =
    record {
      schedule = k;
      up = f.up;
      down = f.down;
      sum = f.sum;
      ups = pick f.up failed_pairs f.ups;
      downs = pick f.down failed_pairs f.downs;
      difference = failed_difference f;
    }
