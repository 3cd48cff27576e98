-- A row that compares nothing and refers to nothing says in a block what it answers by itself.
use Rattle.std.proofs.Common.{◌≡◌, ◌+◌, ◌<◌, ◌≤◌, inl, inr, List, [], ◌∷◌, Result, Ok, Err, map, length, refl, ap, sym}
use Rattle.std.proofs.Common.{subst, arith}
use Rattle.std.specs.List.{AllByRecursion, AllZip}
use Rattle.std.proofs.lemmas.List.{length-map}
use Rattle.term_core.specs.Tree.{Tree}
use Rattle.spec_core.specs.declared.records.Rule.{Rule}
use Rattle.spec_core.specs.declared.records.Spec.{Spec}
use Rattle.clause_core.specs.declared.clauses.Clause.{Clause}
use Rattle.clause_core.specs.declared.clauses.Relation.TheVariants.{Less}
use Rattle.clause_core.specs.declared.answers.Child.{Child}
use Rattle.clause_core.specs.declared.answers.Why.{Why}
use Rattle.clause_core.specs.declared.answers.Why.TheVariants.{Limit}
use Rattle.clause_core.specs.Limits.{IsWithin}
use Rattle.clause_core.specs.declared.steps.Place.{Place}
use Rattle.clause_core.specs.Places.{TermAt}
use Rattle.clause_core.specs.RuleInstances.{group_of}
use Rattle.clause_core.specs.Rewriting.{rule_row}
use Rattle.clause_core.specs.CaseSplitting.{case_child, case_row}
use Rattle.clause_core.specs.Rows.{Made, Row, child, compared_child, needs, makes}
use Rattle.clause_core.specs.Says.{IsChild, IsReference, Says}
use Rattle.cond_rewrite.specs.RowAnswers.{clause_of, RowAnswers}
use Rattle.cond_rewrite.specs.Laws.{lesser, lesser_children, SaysInBlock, RowsInBlocks}

-- each child is less and none is compared
abbrev pub AreLesser : List Made → Type 0
AreLesser [] = Unit {0}
AreLesser (child relation d ∷ ms) = (relation ≡ Less) × AreLesser ms
AreLesser (compared_child d ∷ ms) = ⊥

-- whatever the conditions are met by, the row makes such children, and no references
abbrev pub MakesLesser : Row → Type 0
MakesLesser (needs P why rest) = (p : P) → MakesLesser (rest p)
MakesLesser (makes children refs) = AreLesser children × (refs ≡ [])

all_lesser : (ds : List Clause) → AllByRecursion IsWithin ds →
    AllByRecursion (λ (d : Child). IsWithin d.clause) (map lesser ds)
all_lesser [] h = tt
all_lesser (d ∷ ds) h = (h.0, all_lesser ds h.1)

all_clauses : (ds : List Clause) → AllByRecursion (λ (d : Child). IsWithin d.clause) (map lesser ds) →
    AllByRecursion IsWithin ds
all_clauses [] h = tt
all_clauses (d ∷ ds) h = (h.0, all_clauses ds h.1)

module _ (above : Tree → Tree → Type 0) (c : Clause) where
  children_are : (ms : List Made) → AreLesser ms → AllZip (IsChild above c) ms (map lesser (map clause_of ms))
  children_are [] h = tt
  children_are (child relation d ∷ ms) h = ((refl, sym h.0), children_are ms h.1)
  children_are (compared_child d ∷ ms) h = absurd h

  module _ (nodes : List Clause) where
    made_in_block : (row : Row) → MakesLesser row → (ds : List Clause) → RowAnswers row (Ok ds) →
        length nodes + length ds ≤ 10000 → Says above c nodes row (Ok (lesser_children ds))
    made_in_block (needs P why rest) h ds (inl a) few = inl (a.0, made_in_block (rest a.0) (h a.0) ds a.1 few)
    made_in_block (needs P why rest) h ds (inr a) few = absurd
        (let q : ◌≡◌ {A = Result (List Clause) Why} (Ok ds) (Err why) = a.1 in cc)
    made_in_block (makes ms refs) h ds (inl a) few =
        let e : ds ≡ map clause_of ms = (let q : ◌≡◌ {A = Result (List Clause) Why} (Ok ds)
        (Ok (map clause_of ms)) = a.1 in cc) in
        let long : length ds ≡ length (map clause_of ms) = ap (λ (xs : List Clause). length xs) e in (
          lesser_children (map clause_of ms),
          children_are ms h.0,
          subst (λ rs. AllZip (IsReference above c) rs []) (sym h.1) tt,
          inl (
            (
              all_lesser (map clause_of ms) a.0,
              omega (arith, few, long, length-map (map clause_of ms) lesser),
            ),
            ap (λ xs. Ok (lesser_children xs)) e,
          ),
        )
    made_in_block (makes ms refs) h ds (inr a) few = absurd
        (let q : ◌≡◌ {A = Result (List Clause) Why} (Ok ds) (Err Limit) = a.1 in cc)

    many_in_block : (row : Row) → MakesLesser row → (ds : List Clause) → RowAnswers row (Ok ds) →
        10000 < length nodes + length ds → Says above c nodes row (Err Limit)
    many_in_block (needs P why rest) h ds (inl a) many = inl (a.0, many_in_block (rest a.0) (h a.0) ds a.1 many)
    many_in_block (needs P why rest) h ds (inr a) many = absurd
        (let q : ◌≡◌ {A = Result (List Clause) Why} (Ok ds) (Err why) = a.1 in cc)
    many_in_block (makes ms refs) h ds (inl a) many =
        let e : ds ≡ map clause_of ms = (let q : ◌≡◌ {A = Result (List Clause) Why} (Ok ds)
        (Ok (map clause_of ms)) = a.1 in cc) in
        let long : length ds ≡ length (map clause_of ms) = ap (λ (xs : List Clause). length xs) e in (
          lesser_children (map clause_of ms),
          children_are ms h.0,
          subst (λ rs. AllZip (IsReference above c) rs []) (sym h.1) tt,
          inr (λ w. omega (arith, many, long, length-map (map clause_of ms) lesser, w.1), refl),
        )
    many_in_block (makes ms refs) h ds (inr a) many = absurd
        (let q : ◌≡◌ {A = Result (List Clause) Why} (Ok ds) (Err Limit) = a.1 in cc)

    refused_in_block : (row : Row) → MakesLesser row → (reason : Why) → RowAnswers row (Err reason) →
        Says above c nodes row (Err reason)
    refused_in_block (needs P why rest) h reason (inl a) = inl (a.0, refused_in_block (rest a.0) (h a.0) reason a.1)
    refused_in_block (needs P why rest) h reason (inr a) = inr (
      a.0,
      (let q : ◌≡◌ {A = Result (List Clause) Why} (Err reason) (Err why) = a.1 in let r : reason ≡ why = cc in
          ap (λ w. Err w) r),
    )
    refused_in_block (makes ms refs) h reason (inl a) = absurd
        (let q : ◌≡◌ {A = Result (List Clause) Why} (Err reason) (Ok (map clause_of ms)) = a.1 in cc)
    refused_in_block (makes ms refs) h reason (inr a) =
        let r : reason ≡ Limit = (let q : ◌≡◌ {A = Result (List Clause) Why} (Err reason) (Err Limit) = a.1 in cc) in (
          lesser_children (map clause_of ms),
          children_are ms h.0,
          subst (λ rs. AllZip (IsReference above c) rs []) (sym h.1) tt,
          inr (λ w. a.0 (all_clauses (map clause_of ms) w.0), ap (λ w. Err w) r),
        )

    pub says_in_block : (row : Row) → MakesLesser row → SaysInBlock above c nodes row
    says_in_block row h = record {
      made = made_in_block row h;
      too_many = many_in_block row h;
      refused = refused_in_block row h;
    }

each_is_less : (spec : Spec) (c : Clause) (place : Place) (p : TermAt c place) (terms : List Tree)
    (rules : List Rule) → AreLesser (map (case_child spec c p terms) rules)
each_is_less spec c place p terms [] = tt
each_is_less spec c place p terms (r ∷ rules) = (refl, each_is_less spec c place p terms rules)

-- the rows of `rule` and `case` do so, whatever relation on terms is the order
pub rows_in_blocks : (above : Tree → Tree → Type 0) → RowsInBlocks above
rows_in_blocks above spec c nodes place number = (
  says_in_block above c nodes (rule_row spec c place number) (λ p at m. ((refl, tt), refl)),
  says_in_block above c nodes (case_row spec c place number)
      (λ p at m. (each_is_less spec c place p m.terms (group_of spec at.rule.left), refl)),
)
