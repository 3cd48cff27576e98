-- The claims that commands begin with, one by one.
use Rattle.std.proofs.Common.{◌≡◌, ℕ, zero, suc, ◌+◌, ◌<◌, List, [], ◌∷◌, ◌++◌, refl, sym, ◌∙◌, ap, subst, arith}
use Rattle.std.proofs.Common.{length}
use Rattle.std.proofs.Common.{length-append, get_or, take, drop, append_assoc}
use Rattle.std.specs.Prelude.{flat_map}
use Rattle.std.proofs.lemmas.List.{append-nil, length-map}
use Rattle.std.proofs.Math.Seq.{drop-append_seam, take-append_seam}
use Rattle.clause_core.specs.declared.reports.Claim.{Claim}
use Rattle.clause_core.specs.declared.steps.Step.{Step}
use Rattle.session_core.specs.declared.commands.Command.{Command}
use Rattle.session_core.specs.declared.commands.Command.TheVariants.{Goal, Step as of_step}
use Rattle.session_core.specs.Kept.{Kept}
use Rattle.session_core.specs.States.{proves_named}
use Rattle.session_core.specs.Written.{AreWritten, BeginWithClaims, BeginsWithGoal, claim_commands, goal_commands}
use Rattle.session_core.specs.Written.{step_commands, steps_in}

-- commands tell their steps
pub same_steps : (xs ys : List Step) → step_commands xs ≡ step_commands ys → xs ≡ ys
same_steps [] [] e = refl
same_steps [] (y ∷ ys) e = absurd (let l : length (step_commands []) ≡ length (step_commands (y ∷ ys)) =
    ap (λ cs. length cs) e in omega (arith, l))
same_steps (x ∷ xs) [] e = absurd (let l : length (step_commands (x ∷ xs)) ≡ length (step_commands []) =
    ap (λ cs. length cs) e in omega (arith, l))
same_steps (x ∷ xs) (y ∷ ys) e =
    let h : of_step x ≡ of_step y = cc in
    let k : x ≡ y = cc in
    let q : step_commands xs ≡ step_commands ys = cc in
    let r = same_steps xs ys q in
    λ i. k i ∷ r i

-- each of them is a step
pub step_at : (steps : List Step) (commands : List Command) → commands ≡ step_commands steps → (i : ℕ) (x : Command) →
    i < length commands → x ≡ get_or commands i x → (s : Step) × (x ≡ of_step s)
step_at steps commands e i x lt is = by steps i x (omega (arith, lt, ap (λ cs. length cs) e)) (is ∙
    ap (λ cs. get_or cs i x) e)
  where
    by : (steps : List Step) (i : ℕ) (x : Command) → i < length (step_commands steps) →
        x ≡ get_or (step_commands steps) i x → (s : Step) × (x ≡ of_step s)
    by [] i x lt is = absurd (omega (arith, lt))
    by (s ∷ steps) zero x lt is = (s, is)
    by (s ∷ steps) (suc i) x lt is = by steps i x (omega (arith, lt)) is

-- the first command, and the steps after it
pub first_command : (commands : List Command) (count : ℕ) (b : BeginsWithGoal commands count) (x : Command)
    (others : List Command) → commands ≡ x ∷ others → (x ≡ Goal b.name) × (take count others ≡ step_commands b.steps)
first_command commands count b x others e =
    let f : x ∷ others ≡ Goal b.name ∷ (step_commands b.steps ++ b.others) = sym e ∙ b.is in
    let h : x ≡ Goal b.name = cc in
    let t : others ≡ step_commands b.steps ++ b.others = cc in
    let n : count ≡ length (step_commands b.steps) = omega (
      arith,
      b.counted,
      length-map b.steps (λ (s : Step). of_step s),
    ) in (
      h,
      ap (λ k. take k others) n ∙ ap (λ cs. take (length (step_commands b.steps)) cs) t ∙
          take-append_seam (step_commands b.steps) b.others,
    )

-- some claims are made, the others are on the goals that are left, and their commands are left too
pub record AreLeft {commands : List Command} {goals : List Kept} (b : BeginWithClaims commands goals) (made : List
    Claim) (left : List Kept) (rest : List Command) : Type 0 where
  pub others : List Claim
  pub is : b.claims ≡ made ++ others
  pub written : AreWritten others left
  pub commands_left : rest ≡ flat_map claim_commands others ++ b.others

pub all_left : {commands : List Command} {goals : List Kept} (b : BeginWithClaims commands goals) →
    AreLeft b [] goals commands
all_left b = record { others = b.claims; is = refl; written = b.written; commands_left = b.is }

module _ {commands : List Command} {goals : List Kept} (b : BeginWithClaims commands goals) (made : List Claim)
    (kept : Kept) (left : List Kept) (rest : List Command) (a : AreLeft b made (kept ∷ left) rest) where
  pub record NextClaim : Type 0 where
    pub claim : Claim
    pub others : List Claim
    pub is : a.others ≡ claim ∷ others
    pub says : claim ≡ proves_named claim.goal (steps_in claim.outcome)
    pub counted : length (steps_in claim.outcome) ≡ length kept.links
    pub written : AreWritten others left

  pub next_claim : NextClaim
  next_claim = by a.others refl a.written
    where
      by : (others : List Claim) → a.others ≡ others → AreWritten others (kept ∷ left) → NextClaim
      by [] e w = absurd w
      by (c ∷ cs) e w = record { claim = c; others = cs; is = e; says = w.0.0; counted = w.0.1; written = w.1 }

  rest_is : rest ≡ goal_commands next_claim.claim.goal (steps_in next_claim.claim.outcome) ++ (flat_map claim_commands
      next_claim.others ++ b.others)
  rest_is =
      a.commands_left ∙ ap (λ cs. flat_map claim_commands cs ++ b.others) next_claim.is
      ∙ append_assoc (claim_commands next_claim.claim) (flat_map claim_commands next_claim.others) b.others

  pub begins : (n : ℕ) → n ≡ length kept.links → BeginsWithGoal rest n
  begins n e = record {
    name = next_claim.claim.goal;
    steps = steps_in next_claim.claim.outcome;
    others = flat_map claim_commands next_claim.others ++ b.others;
    is = rest_is;
    counted = next_claim.counted ∙ sym e;
  }

  pub long_rest : length kept.links + 1 ≡ length (goal_commands next_claim.claim.goal
      (steps_in next_claim.claim.outcome))
  long_rest = omega (
    arith,
    next_claim.counted,
    length-map (steps_in next_claim.claim.outcome) (λ (s : Step). of_step
        s),
  )

  pub within_rest : length kept.links < length rest
  within_rest = omega (
    arith,
    long_rest,
    ap (λ cs. length cs) rest_is,
    length-append (goal_commands next_claim.claim.goal (steps_in next_claim.claim.outcome)) (flat_map claim_commands
        next_claim.others ++ b.others),
  )

  -- one claim more is made
  pub one_made : (n : ℕ) (e : n ≡ length kept.links) (claim : Claim) →
      claim ≡ proves_named (begins n e).name (begins n e).steps →
      AreLeft b (made ++ claim ∷ []) left (drop (n + 1) rest)
  unfolding next_claim begins
  one_made n e claim f =
      let long : n + 1 ≡ length (goal_commands next_claim.claim.goal (steps_in next_claim.claim.outcome)) =
      omega (arith, e, long_rest) in
      record {
        others = next_claim.others;
        is = a.is ∙ ap (λ cs. made ++ cs) next_claim.is ∙
            sym (append_assoc made (next_claim.claim ∷ []) next_claim.others) ∙
            ap (λ c. (made ++ c ∷ []) ++ next_claim.others) (next_claim.says ∙ sym f);
        written = next_claim.written;
        commands_left = ap (λ k. drop k rest) long ∙
            ap (λ cs. drop (length (goal_commands next_claim.claim.goal (steps_in next_claim.claim.outcome))) cs)
            rest_is ∙ drop-append_seam (goal_commands next_claim.claim.goal (steps_in next_claim.claim.outcome))
            (flat_map claim_commands next_claim.others ++ b.others);
      }

-- if no goal is left, all claims are made
pub all_made : {commands : List Command} {goals : List Kept} (b : BeginWithClaims commands goals) (made : List Claim)
    (left : List Kept) (rest : List Command) → AreLeft b made left rest → left ≡ [] → made ≡ b.claims
all_made b made left rest a e = by a.others refl (subst (λ ks. AreWritten a.others ks) e a.written)
  where
    by : (others : List Claim) → a.others ≡ others → AreWritten others [] → made ≡ b.claims
    by [] f w = sym (a.is ∙ ap (λ cs. made ++ cs) f ∙ append-nil made)
    by (c ∷ cs) f w = absurd w
