-- Worthless machines that the first demand shuts out: 01, "Models that would be worthless". The second demand shuts out
-- "every read zero" and "a tick that moves nothing" too; here the first does, since what it asks of an accepted call leaves one machine.
use Rattle.std.specs.Prelude.{ℕ, Bool, true, false, map, ◌≡◌}
use Rattle.device.specs.Base.{pick, is_command, is_write, is_read}
use Rattle.device.specs.declared.Model.{Model}
use Rattle.refusal.specs.declared.Refusal.{Refusal}
use Rattle.device.specs.Call.{Call, opcode, on_frame, on_delivery, on_time}
use Rattle.device.specs.Reply.{refuse, reply, number_in, values_in, buffer_of, output, memory_of, memory}
use Rattle.demands.specs.FirstDemand.{Machine, FirstDemand}

-- refuses so the calls that the test names, and does with the others as the definitions say
abbrev pub giving : Refusal → (Call → Bool) → Machine
giving r test =
    record {
      reply = λ m c. pick (test c) (refuse r m) (reply m c);
      output = λ m c. pick (test c) (buffer_of c) (output m c);
      memory = λ m c. pick (test c) (memory_of c) (memory m c);
    }

abbrev pub frames : Call → Bool
frames c = on_frame c (λ f o x. true)

abbrev pub commands : Call → Bool
commands c = on_frame c (λ f o x. is_command (opcode f))

abbrev pub writes : Call → Bool
writes c = on_frame c (λ f o x. is_write (opcode f))

abbrev pub deliveries : Call → Bool
deliveries c = on_delivery c false (λ u d. true) (λ w. true)

-- "a tick that moves nothing": it answers, and leaves the model
abbrev pub still : Machine
still =
    record {
      reply = λ m c. on_time c (reply m c) (record { answer = (reply m c).answer; model = m }) (λ n. reply m c);
      output = output;
      memory = memory;
    }

-- "every read zero"
abbrev pub zeroed : Machine
zeroed =
    record {
      reply = reply;
      output = λ m c. pick (on_frame c (λ f o x. is_read (opcode f))) (map (λ (b : ℕ). 0) (output m c)) (output m c);
      memory = memory;
    }

-- A machine answers and leaves what the definitions say.
pub record Same (M : Machine) (m : Model) (c : Call) : Type 0 where
  pub number : number_in (M.reply m c).answer ≡ number_in (reply m c).answer
  pub values : values_in (M.reply m c).answer ≡ values_in (reply m c).answer
  pub model : (M.reply m c).model ≡ (reply m c).model
  pub output : M.output m c ≡ output m c
  pub memory : M.memory m c ≡ memory m c

pub record WorthlessClaim : Type 0 where
  -- whatever meets the first demand does with every call on every model as the definitions say
  pub one : (M : Machine) → FirstDemand M → (m : Model) (c : Call) → Same M m c
  -- "number 2 to every frame"; so for 8 or 9 to every command and 7 to every write
  pub two : ¬ FirstDemand (giving Refusal.Opcode frames)
  pub eight : ¬ FirstDemand (giving Refusal.NotInitialised commands)
  pub nine : ¬ FirstDemand (giving Refusal.SetUp commands)
  pub seven : ¬ FirstDemand (giving Refusal.Calendar writes)
  -- "says not awaited right after a start"
  pub ten : ¬ FirstDemand (giving Refusal.NotAwaited deliveries)
  pub still : ¬ FirstDemand still
  pub zeroed : ¬ FirstDemand zeroed
