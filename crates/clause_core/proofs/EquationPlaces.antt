-- An equation's place among its clause's is its number less one, and what is round it is the
-- list before that place and the list after it.
use Rattle.std.proofs.Common.{◌≡◌, ℕ, suc, ◌+◌, ◌-◌, ◌<◌, ◌≤◌, List, [], ◌∷◌, ◌++◌, length, take, drop, get_or}
use Rattle.std.proofs.Common.{append_assoc, refl, ap, sym, ◌∙◌, arith}
use Rattle.std.proofs.lemmas.List.{length-take, length-drop, take_all}
use Rattle.term_core.proofs.Items.{parted_at}
use Rattle.spec_core.specs.declared.records.Equation.{Equation}
use Rattle.clause_core.specs.NumberedEquations.{EquationAt}

-- the equation at a place has the next number
pub equation_at : (own : List Equation) (number place : ℕ) (e : Equation) → number ≡ place + 1 →
    place < length own → e ≡ get_or own place e → (at : EquationAt own number) × (at.equation ≡ e)
equation_at own number place e n lt is = (
  record {
    before = take place own;
    equation = e;
    after = drop (suc place) own;
    is = sym
        (parted_at own place e lt is);
    place = omega (arith, n, lt, length-take place own);
  },
  refl,
)

length_parted : (xs : List Equation) (e : Equation) (ys : List Equation) →
    length (xs ++ (e ∷ ys)) ≡ length xs + 1 + length ys
length_parted [] e ys = omega arith
length_parted (x ∷ xs) e ys = omega (arith, length_parted xs e ys)

-- an equation of a number is within the list
pub number_within : (own : List Equation) (number : ℕ) → EquationAt own number → (1 ≤ number) × (number ≤ length own)
number_within own number at =
    let long : length own ≡ length (at.before ++ (at.equation ∷ at.after)) = ap
    (λ (es : List Equation). length es) at.is in
    (omega (arith, at.place), omega (arith, at.place, long, length_parted at.before at.equation at.after))

pub no_number_past : (own : List Equation) (number place : ℕ) → number ≡ place + 1 → length own ≤ place →
    EquationAt own number → ⊥
no_number_past own number place n past at = let w = number_within own number at in omega (arith, n, past, w.1)

pub no_number_zero : (own : List Equation) (number : ℕ) → number < 1 → EquationAt own number → ⊥
no_number_zero own number n at = let w = number_within own number at in omega (arith, n, w.0)

cut_before : (xs : List Equation) (e : Equation) (ys : List Equation) → (take (length xs) (xs ++ (e ∷ ys)) ≡ xs)
    × (drop (suc (length xs)) (xs ++ (e ∷ ys)) ≡ ys)
cut_before [] e ys = (refl, refl)
cut_before (x ∷ xs) e ys = let r = cut_before xs e ys in (ap (λ zs. x ∷ zs) r.0, r.1)

-- what is round the equation of a number
pub round_equation : (own : List Equation) (number : ℕ) (at : EquationAt own number) →
    (take (number - 1) own ≡ at.before) × (drop (number - 1 + 1) own ≡ at.after)
round_equation own number at =
    let place : number - 1 ≡ length at.before = omega (arith, at.place) in
    let next : number - 1 + 1 ≡ suc (length at.before) = omega (arith, at.place) in
    let cut = cut_before at.before at.equation at.after in
    ((λ i. take (place i) (at.is i)) ∙ cut.0, (λ i. drop (next i) (at.is i)) ∙ cut.1)

-- the list with others in the place of the equation of a number
pub others_between :
    (own : List Equation) (number : ℕ) (at : EquationAt own number) (n : ℕ)
    (others first rest : List Equation) → n ≡ number →
    first ≡ take (n - 1) own → rest ≡ take (length own - (n - 1 + 1)) (drop (n - 1 + 1) own) →
    (first ++ others) ++ rest ≡ at.before ++ (others ++ at.after)
others_between own number at n others first rest e f r =
    let round = round_equation own number at in
    let before : first ≡ at.before = f ∙ ap (λ k. take (k - 1) own) e ∙ round.0 in
    let all : take (length own - (n - 1 + 1)) (drop (n - 1 + 1) own) ≡ drop (n - 1 + 1) own = take_all
    (length own - (n - 1 + 1)) (drop (n - 1 + 1) own) (omega (arith, length-drop (n - 1 + 1) own)) in
    let after : rest ≡ at.after = r ∙ all ∙ ap (λ k. drop (k - 1 + 1) own) e ∙ round.1 in
    (λ i. (before i ++ others) ++ after i) ∙ append_assoc at.before others at.after
