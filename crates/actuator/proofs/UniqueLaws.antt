-- No second answer fits `drive`: from what an answer tells, the answer can be read back.
use mathlib.Core.Path.{◌≡◌, sym, ◌∙◌, ap}
use Rattle.table.specs.declared.Table.{Table}
use Rattle.state.specs.declared.State.{State}
use Rattle.scheduler.proofs.UniqueLaws.{told_injective}
use Rattle.frame.specs.Mode.{Mode}
use Rattle.actuator.specs.Drive.{Brought, Drove, driven, drove_of}
use Rattle.actuator.specs.declared.Actuator.{Actuator}
use Rattle.actuator.specs.declared.Driven.{Driven}

pub drive_unique : (t : Table) (mode : Mode) (b : Brought) (s : State) (a : Actuator) (r q : Driven) → drove_of r ≡ driven t mode b s a → drove_of q ≡ driven t mode b s a → r ≡ q
drive_unique t mode b s a r q e f =
    let g : drove_of r ≡ drove_of q = e ∙ sym f in
    let o : r.outcome ≡ q.outcome = told_injective _ _ (ap (λ (x : Drove). x.told) g) in
    let n : r.state ≡ q.state = ap (λ (x : Drove). x.state) g in
    let m : r.actuator ≡ q.actuator = ap (λ (x : Drove). x.actuator) g in
    λ k. record { outcome = o k; state = n k; actuator = m k }
