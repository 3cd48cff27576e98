-- How the measure of a walk falls: the budget that is left times a number above the weight of each right side, and what is left to do.
use Rattle.std.proofs.Common.{◌≡◌, ℕ, zero, suc, ◌+◌, ◌-◌, ◌*◌, ◌<◌, ◌≤◌, List, [], ◌∷◌, Some, None, ap, arith}
use Rattle.std.specs.Prelude.{slice_get}
use Rattle.std.proofs.Math.Nat.{mul-le-mul_right, suc-mul}
use Rattle.term_core.specs.Measure.{weight}
use Rattle.spec_core.specs.declared.records.Rule.{Rule}
use Rattle.normalization.specs.Room.{room}

-- a budget of which more is spent
pub less_left : (b n m r : ℕ) → n ≤ m → (b - m) * r ≤ (b - n) * r
less_left b n m r h =
    let k : b - m ≤ b - n = omega arith in
    mul-le-mul_right r k

-- one use makes room for what is below r
pub use_falls : (b n r w : ℕ) → n < b → w < r → (b - (n + 1)) * r + w < (b - n) * r
use_falls b n r w p q =
    let k : suc (b - (n + 1)) ≡ b - n = omega arith in
    let h : suc (b - (n + 1)) * r ≡ (b - n) * r = ap (λ m. m * r) k in
    let m : suc (b - (n + 1)) * r ≡ (b - (n + 1)) * r + r = suc-mul (b - (n + 1)) r in
    omega arith

room_two : (rules : List Rule) → 2 ≤ room rules
room_two [] = omega arith
room_two (r ∷ rs) = omega (arith, room_two rs)

pub right_below_room : (rules : List Rule) (k : ℕ) (rule : Rule) → slice_get rules k ≡ Some rule →
    2 * weight rule.right + 1 < room rules
right_below_room [] k rule at = absurd (let q : None ≡ Some rule = at in cc)
right_below_room (r ∷ rs) zero rule at =
    let q : Some r ≡ Some rule = at in
    let e : r ≡ rule = cc in
    let h : weight r.right ≡ weight rule.right = ap (λ (x : Rule). weight x.right) e in
    omega (arith, h, room_two rs)
right_below_room (r ∷ rs) (suc k) rule at = omega (arith, right_below_room rs k rule at)
