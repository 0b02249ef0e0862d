-- `thermometer::degrees_over` meets its contract.
use mathlib.Core.Path.{sym, ap, ◌∙◌}
use mathlib.Core.Logic.{inl, inr, ⊎_elim}
use native.Mathlib.Omega.{arith}
use Rattle.std.specs.Prelude.{Ok, Err}
use Rattle.refusal.specs.declared.Refusal.{Refusal}
use Rattle.refusal.specs.Number.{number, number_told, value_told}
use Rattle.thermometer.specs.Degrees.{thousandths}
use Rattle.thermometer.proofs.Refusal.{off-refused, on-answered}
use Rattle.thermometer.proofs.degrees_over.Goals as goal

pub returns-then-probe-eq-FAILED : goal.returns-then-probe-eq-FAILED
returns-then-probe-eq-FAILED c =
    let at = c.args in
    sym (off-refused at.table.now at.probe at.reference (inl c.if-probe-eq-FAILED.true))

pub returns-then-reference-eq-FAILED : goal.returns-then-reference-eq-FAILED
returns-then-reference-eq-FAILED c =
    let at = c.args in
    sym (off-refused at.table.now at.probe at.reference (inr (inl c.if-reference-eq-FAILED.true)))

pub returns-then-reference-eq0 : goal.returns-then-reference-eq0
returns-then-reference-eq0 c =
    let at = c.args in
    sym (off-refused at.table.now at.probe at.reference (inr (inr (inl c.if-reference-eq0.true))))

pub returns-then-r-from : goal.returns-then-r-from
returns-then-r-from c =
    let at = c.args in
    sym (off-refused at.table.now at.probe at.reference (inr (inr (inr (inl (omega arith))))))

pub returns-then-from-r : goal.returns-then-from-r
returns-then-from-r c =
    let at = c.args in
    sym (off-refused at.table.now at.probe at.reference (inr (inr (inr (inr (omega arith))))))

pub returns : goal.returns
returns c =
    let zero = c in
    let at = c.args in
    let milliohms = c.resistance-r in
    ap Ok
    (c.thousandths.ensures ∙ ap (thousandths at.table.now) milliohms.ensures) ∙
    sym
    (on-answered at.table.now at.probe at.reference
    (⊎_elim c.if-probe-eq-FAILED.false
    (⊎_elim c.if-reference-eq-FAILED.false
    (⊎_elim c.if-reference-eq0.false (⊎_elim (λ l. omega arith) (λ l. omega arith))))))
