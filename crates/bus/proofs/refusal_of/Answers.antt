-- `bus::refusal_of` meets its contract.
use Rattle.device.specs.Parts.{refusal_of}
use Rattle.frame.specs.contracts.Decoded.{the_type}
use Rattle.frame.specs.declared.Decoded.{Decoded}
use Rattle.frame.specs.declared.Decoded.TheVariants.{Command, Read, Write, Flash, Refused}
use types.Run.{OneOf, miss}
use denote.Enum.Declared.{tag_of}
use mathlib.Core.List.{[], ◌∷◌}
use mathlib.Core.Path.{◌≡◌, refl}
use borrow.Enum.Refused.{opened}
use Rattle.bus.proofs.refusal_of.Goals as goal
use Rattle.refusal.specs.declared.Refusal.{Refusal}

not-a-refusal : (d : Decoded) → OneOf (0 ∷ 1 ∷ 2 ∷ 3 ∷ []) (tag_of the_type d) → Refusal.Opcode ≡ refusal_of d
unfolding refusal_of
not-a-refusal (Command op) h = refl
not-a-refusal (Read op n) h = refl
not-a-refusal (Write op n) h = refl
not-a-refusal (Flash op) h = refl
not-a-refusal (Refused r) h = absurd (miss (0 ∷ 1 ∷ 2 ∷ 3 ∷ []) 4 tt h)

pub returns-in-Refused : goal.returns-in-Refused
unfolding refusal_of
returns-in-Refused c = simp c.in-Refused.is

pub returns-in_default : goal.returns-in_default
returns-in_default c = not-a-refusal c.args.d (opened c.in_default.in_default-own.keys2)
