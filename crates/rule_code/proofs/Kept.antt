-- Instructions keep their slots when further slots are added.
use Rattle.std.proofs.Common.{◌≡◌, ℕ, ◌+◌, ◌≤◌, List, [], ◌∷◌, ◌++◌, Result, Ok, Err, refl, ap, ◌∙◌, arith, length}
use Rattle.std.proofs.Common.{length-append, length-drop, take, drop}
use Rattle.std.proofs.lemmas.List.{take-append-le, drop-append-le, map-append, take_all}
use Rattle.std.specs.Prelude.{OnErr}
use Rattle.term_core.proofs.Items.{all_append}
use Rattle.rule_code.specs.declared.instructions.Op.{Op}
use Rattle.rule_code.specs.Instructions.{instruction, instructions, AreInRange}

part_kept : (xs ys : List ℕ) (start count : ℕ) → start + count ≤ length xs →
    take count (drop start (xs ++ ys)) ≡ take count (drop start xs)
part_kept xs ys start count le = rw (drop-append-le start xs ys (omega (arith, le)))
    (take-append-le count (drop start xs) ys (omega (arith, le, length-drop start xs)))

pub instructions_kept : (ops : List Op) (xs ys : List ℕ) → AreInRange ops xs →
    instructions ops (xs ++ ys) ≡ instructions ops xs
instructions_kept [] xs ys h = refl
instructions_kept (o ∷ os) xs ys h =
    let one : instruction o.kind (take o.count (drop o.start (xs ++ ys))) ≡ instruction o.kind
    (take o.count (drop o.start xs)) = ap (λ ps. instruction o.kind ps) (part_kept xs ys o.start o.count h.0) in
    let rest = instructions_kept os xs ys h.1 in
    cc

pub range_kept : (ops : List Op) (xs ys : List ℕ) → AreInRange ops xs → AreInRange ops (xs ++ ys)
range_kept [] xs ys h = tt
range_kept (o ∷ os) xs ys h = (omega (arith, h.0, length-append xs ys), range_kept os xs ys h.1)

module _ (ops : List Op) (xs ys : List ℕ) (o : Op) (h : AreInRange ops xs) (start : o.start ≡ length xs)
    (count : o.count ≡ length ys) where
  pub range_more : AreInRange (ops ++ o ∷ []) (xs ++ ys)
  range_more = all_append (λ (o : Op). o.start + o.count ≤ length (xs ++ ys)) ops (o ∷ [])
      (range_kept ops xs ys h) (omega (arith, start, count, length-append xs ys), tt)

  here : take o.count (drop o.start (xs ++ ys)) ≡ ys
  here =
      let d : drop o.start (xs ++ ys) ≡ ys = rw start (drop_all xs ys) in
      rw (d, count) (take_all (length ys) ys (omega arith))
    where
      drop_all : (xs ys : List ℕ) → drop (length xs) (xs ++ ys) ≡ ys
      drop_all [] ys = refl
      drop_all (x ∷ xs) ys = drop_all xs ys

  pub instructions_more : instructions (ops ++ o ∷ []) (xs ++ ys) ≡ instructions ops xs ++ instruction o.kind ys ∷ []
  instructions_more =
      let one : instruction o.kind (take o.count (drop o.start (xs ++ ys))) ≡ instruction o.kind ys = ap
      (λ ps. instruction o.kind ps) here in
      map-append (λ (o : Op). instruction o.kind (take o.count (drop o.start (xs ++ ys)))) ops (o ∷ [])
      ∙ ap (λ cs. cs ++ instruction o.kind (take o.count (drop o.start (xs ++ ys))) ∷ [])
      (instructions_kept ops xs ys h) ∙ ap (λ c. instructions ops xs ++ c ∷ []) one

pub on_err : {T E : Type 0} (r : Result T E) (P : Type 0) → P → OnErr r P
on_err (Ok x) P p = tt
on_err (Err e) P p = p
