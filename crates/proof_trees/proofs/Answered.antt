-- What is said of answers and counts.
use Rattle.std.proofs.Common.{◌≡◌, ◌-◌, ℕ, zero, suc, Result, Ok, Err, arith, refl}
use Rattle.std.specs.Prelude.{OnOk}

pub on_ok_map : {T E : Type 0} (r : Result T E) (P Q : Type 0) → (P → Q) → OnOk r P → OnOk r Q
on_ok_map (Ok x) P Q f h = f h
on_ok_map (Err e) P Q f h = tt

pub nonzero : (n : ℕ) → (n ≡ 0 → ⊥) → n ≡ suc (n - 1)
nonzero zero h = absurd (h refl)
nonzero (suc n) h = omega arith
