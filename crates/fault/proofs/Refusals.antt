-- What a call that refused leaves, and what one that did not refuse had not to refuse.
use Rattle.std.proofs.Common.{◌≡◌, ℕ, Some, None, Ok, Err, Option, refl, arith}
use Rattle.fault.specs.declared.Fault.{Fault}
use Rattle.fault.specs.Faults.{refused_or, unless}

-- an answer means that nothing was refused
pub none_refused : {A : Type 0} (o : Option Fault) (value answer : A) → refused_or o value ≡ Ok answer → o ≡ None
none_refused None value answer e = refl
none_refused (Some f) value answer e = let z : ◌≡◌ {A = ℕ} 0 1 = cc in absurd (omega arith)

-- a refusal is the fault that there was
pub fault_refused : {A : Type 0} (o : Option Fault) (value : A) (fault : Fault) → refused_or o value ≡ Err fault → o ≡ Some fault
fault_refused None value fault e = let z : ◌≡◌ {A = ℕ} 0 1 = cc in absurd (omega arith)
fault_refused (Some f) value fault e = cc
