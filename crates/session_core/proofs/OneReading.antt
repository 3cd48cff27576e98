-- A text of commands has one list of commands or one faulty line.
use Rattle.std.proofs.Common.{◌≡◌, ◌⊎◌, ℕ, ◌≤◌, ◌<◌, List, [], ◌∷◌, ◌++◌, inl, inr, refl, sym, ◌∙◌, ap, subst, arith}
use Rattle.std.proofs.Common.{length, append_assoc}
use Rattle.std.specs.Prelude.{codes}
use Rattle.std.specs.List.{AllByRecursion, AllZip}
use Rattle.std.proofs.lemmas.List.{append-nil}
use Rattle.term_core.proofs.Numbers.{below_or_not}
use Rattle.spec_core.specs.Declarations.{IsDeclared}
use Rattle.spec_core.specs.Sig.{Sig}
use Rattle.clause_core.specs.declared.steps.Step.{Step}
use Rattle.clause_core.specs.declared.steps.Step.TheVariants.{Trivial, Match, Absurd, Subsume, ByLemma, Rule, Case}
use Rattle.clause_core.specs.declared.steps.Step.TheVariants.{Decompose, Clash, Drop}
use Rattle.clause_core.specs.declared.steps.Step.TheVariants.{Solve, Cover, Generalize, Context, Hyp, Lemma}
use Rattle.proof_script.specs.Faults.{IsOneLine, whole_lines}
use Rattle.proof_script.specs.LineWords.{IsStepLine}
use Rattle.proof_script.specs.Steps.{step_line}
use Rattle.proof_script.specs.Words.{line_text}
use Rattle.proof_script.proofs.SameTerms.{names_differ}
use Rattle.proof_script.proofs.StepReads.{step_reads}
use Rattle.session_core.specs.declared.commands.Command.{Command}
use Rattle.session_core.specs.declared.commands.Command.TheVariants.{Goal, Step as of_step, Undo}
use Rattle.session_core.specs.CommandText.{most_commands, Spells, SpellsSome, AreCommands, IsStuck, not_ended, strange}
use Rattle.session_core.specs.CommandText.{too_many}
use Rattle.session_core.specs.CommandText.{IsFaultyCommand}

-- the first line is one
pub line_one : (a b r s : List ℕ) → IsOneLine a → IsOneLine b → (a ++ codes "\n") ++ r ≡ (b ++ codes "\n") ++ s →
    (a ≡ b) × (r ≡ s)
line_one [] [] r s p q e = (refl, cc)
line_one [] (y ∷ b) r s p q e = absurd (q.0 (let k : ◌≡◌ {A = ℕ} 10 y = cc in sym k))
line_one (x ∷ a) [] r s p q e = absurd (p.0 (let k : ◌≡◌ {A = ℕ} x 10 = cc in k))
line_one (x ∷ a) (y ∷ b) r s p q e =
    let h : x ≡ y = cc in
    let t : (a ++ codes "\n") ++ r ≡ (b ++ codes "\n") ++ s = cc in
    let k = line_one a b r s p.1 q.1 t in
    ((λ i. h i ∷ k.0 i), k.1)

-- one line has no newline
no_newline : (a line after : List ℕ) → IsOneLine a → a ≡ (line ++ codes "\n") ++ after → ⊥
no_newline [] [] after p e = cc
no_newline [] (y ∷ line) after p e = cc
no_newline (x ∷ a) [] after p e = p.0 (let k : ◌≡◌ {A = ℕ} x 10 = cc in k)
no_newline (x ∷ a) (y ∷ line) after p e = let k : a ≡ (line ++ codes "\n") ++ after = cc in
    no_newline a line after p.1 k

not_empty : (line after : List ℕ) → [] ≡ (line ++ codes "\n") ++ after → ⊥
not_empty [] after e = cc
not_empty (y ∷ line) after e = cc

grouped : (line : List ℕ) (lines : List (List ℕ)) (rest : List ℕ) →
    whole_lines (line ∷ lines) ++ rest ≡ (line ++ codes "\n") ++ (whole_lines lines ++ rest)
grouped line lines rest = append_assoc (line ++ codes "\n") (whole_lines lines) rest

module _ (P : List ℕ → Type 0) where
  abbrev AreLines : List (List ℕ) → Type 0
  AreLines lines = AllByRecursion (λ line. IsOneLine line × P line) lines

  -- if fewer lines are taken, the next one is the first of the rest
  record Next (r : List ℕ) : Type 0 where
    line : List ℕ
    after : List ℕ
    is : r ≡ (line ++ codes "\n") ++ after
    plain : IsOneLine line
    holds : P line

  next_line : (bs cs : List (List ℕ)) (r s : List ℕ) → AreLines bs → AreLines cs →
      whole_lines bs ++ r ≡ whole_lines cs ++ s → length bs < length cs → Next r
  next_line bs [] r s p q e l = absurd (omega (arith, l))
  next_line [] (c ∷ cs) r s p q e l = record {
    line = c;
    after = whole_lines cs ++ s;
    is = e ∙ grouped c cs s;
    plain =
        q.0.0;
    holds = q.0.1;
  }
  next_line (b ∷ bs) (c ∷ cs) r s p q e l =
      let k = line_one b c (whole_lines bs ++ r) (whole_lines cs ++ s) p.0.0 q.0.0 (sym (grouped b bs r) ∙ e ∙
      grouped c cs s) in
      next_line bs cs r s p.1 q.1 k.1 (omega (arith, l))

  same_rest : (bs cs : List (List ℕ)) (r s : List ℕ) → AreLines bs → AreLines cs →
      whole_lines bs ++ r ≡ whole_lines cs ++ s → length bs ≡ length cs → r ≡ s
  same_rest [] [] r s p q e l = e
  same_rest [] (c ∷ cs) r s p q e l = absurd (omega (arith, l))
  same_rest (b ∷ bs) [] r s p q e l = absurd (omega (arith, l))
  same_rest (b ∷ bs) (c ∷ cs) r s p q e l =
      let k = line_one b c (whole_lines bs ++ r) (whole_lines cs ++ s) p.0.0 q.0.0 (sym (grouped b bs r) ∙ e ∙
      grouped c cs s) in
      same_rest bs cs r s p.1 q.1 k.1 (omega (arith, l))

module _ (sig : Sig) (declared : IsDeclared sig) where
  -- no step's line begins as a goal's, or is that of an undo
  not_goal : (name line : List ℕ) (step : Step) → line ≡ codes "goal " ++ name → IsStepLine sig line step → ⊥
  not_goal name line step e p = by_step step (subst (λ l. l ++ codes "\n" ≡ line_text sig (step_line step)) e p.is)
    where
      by_step : (step : Step) → (codes "goal " ++ name) ++ codes "\n" ≡ line_text sig (step_line step) → ⊥
      by_step (Trivial k) h = let n : ◌≡◌ {A = ℕ} 103 116 = cc in omega arith
      by_step (Match k j) h = let n : ◌≡◌ {A = ℕ} 103 109 = cc in omega arith
      by_step (Absurd j) h = let n : ◌≡◌ {A = ℕ} 103 97 = cc in omega arith
      by_step (Subsume j ts) h = let n : ◌≡◌ {A = ℕ} 103 115 = cc in omega arith
      by_step (ByLemma g ts) h = let n : ◌≡◌ {A = ℕ} 103 98 = cc in omega arith
      by_step (Rule p n) h = let n : ◌≡◌ {A = ℕ} 103 114 = cc in omega arith
      by_step (Case p n) h = let n : ◌≡◌ {A = ℕ} 103 99 = cc in omega arith
      by_step (Decompose k n) h = let n : ◌≡◌ {A = ℕ} 103 100 = cc in omega arith
      by_step (Clash k) h = let n : ◌≡◌ {A = ℕ} 103 99 = cc in omega arith
      by_step (Drop k n) h = let n : ◌≡◌ {A = ℕ} 103 100 = cc in omega arith
      by_step (Solve j) h = let n : ◌≡◌ {A = ℕ} 103 115 = cc in omega arith
      by_step (Cover x ps) h = let n : ◌≡◌ {A = ℕ} 103 99 = cc in omega arith
      by_step (Generalize t) h = let n : ◌≡◌ {A = ℕ} 111 101 = cc in omega arith
      by_step (Context p j l) h = let n : ◌≡◌ {A = ℕ} 103 99 = cc in omega arith
      by_step (Hyp j ts p l) h = let n : ◌≡◌ {A = ℕ} 103 104 = cc in omega arith
      by_step (Lemma g ts p l) h = let n : ◌≡◌ {A = ℕ} 103 108 = cc in omega arith

  not_undo : (line : List ℕ) (step : Step) → line ≡ codes "undo" → IsStepLine sig line step → ⊥
  not_undo line step e p = by_step step (subst (λ l. l ++ codes "\n" ≡ line_text sig (step_line step)) e p.is)
    where
      by_step : (step : Step) → codes "undo" ++ codes "\n" ≡ line_text sig (step_line step) → ⊥
      by_step (Trivial k) h = let n : ◌≡◌ {A = ℕ} 117 116 = cc in omega arith
      by_step (Match k j) h = let n : ◌≡◌ {A = ℕ} 117 109 = cc in omega arith
      by_step (Absurd j) h = let n : ◌≡◌ {A = ℕ} 117 97 = cc in omega arith
      by_step (Subsume j ts) h = let n : ◌≡◌ {A = ℕ} 117 115 = cc in omega arith
      by_step (ByLemma g ts) h = let n : ◌≡◌ {A = ℕ} 117 98 = cc in omega arith
      by_step (Rule p n) h = let n : ◌≡◌ {A = ℕ} 117 114 = cc in omega arith
      by_step (Case p n) h = let n : ◌≡◌ {A = ℕ} 117 99 = cc in omega arith
      by_step (Decompose k n) h = let n : ◌≡◌ {A = ℕ} 117 100 = cc in omega arith
      by_step (Clash k) h = let n : ◌≡◌ {A = ℕ} 117 99 = cc in omega arith
      by_step (Drop k n) h = let n : ◌≡◌ {A = ℕ} 117 100 = cc in omega arith
      by_step (Solve j) h = let n : ◌≡◌ {A = ℕ} 117 115 = cc in omega arith
      by_step (Cover x ps) h = let n : ◌≡◌ {A = ℕ} 117 99 = cc in omega arith
      by_step (Generalize t) h = let n : ◌≡◌ {A = ℕ} 117 103 = cc in omega arith
      by_step (Context p j l) h = let n : ◌≡◌ {A = ℕ} 117 99 = cc in omega arith
      by_step (Hyp j ts p l) h = let n : ◌≡◌ {A = ℕ} 117 104 = cc in omega arith
      by_step (Lemma g ts p l) h = let n : ◌≡◌ {A = ℕ} 117 108 = cc in omega arith

  -- a line spells one command
  spells_one : (line : List ℕ) (c d : Command) → Spells sig line c → Spells sig line d → c ≡ d
  spells_one line (Goal name) (Goal other) p q = let e : codes "goal " ++ name ≡ codes "goal " ++ other = sym p.0 ∙
      q.0 in let k : name ≡ other = cc in ap (λ n. Goal n) k
  spells_one line (Goal name) (of_step step) p q = absurd (not_goal name line step p.0 q)
  spells_one line (Goal name) Undo p q = absurd (let e : codes "goal " ++ name ≡ codes "undo" = sym p.0 ∙ q in
      let k : ◌≡◌ {A = ℕ} 103 117 = cc in omega arith)
  spells_one line (of_step step) (Goal name) p q = absurd (not_goal name line step q.0 p)
  spells_one line (of_step step) (of_step other) p q =
      let e : line_text sig (step_line step) ≡ line_text sig (step_line other) = sym p.is ∙ q.is in
      let f : line_text sig (step_line step) ++ [] ≡ line_text sig (step_line other) ++ [] = ap (λ t. t ++ []) e in
      ap (λ s. of_step s) (step_reads sig (names_differ sig declared) step other [] [] p.stands q.stands f).0
  spells_one line (of_step step) Undo p q = absurd (not_undo line step q p)
  spells_one line Undo (Goal name) p q = absurd (let e : codes "goal " ++ name ≡ codes "undo" = sym q.0 ∙ p in
      let k : ◌≡◌ {A = ℕ} 103 117 = cc in omega arith)
  spells_one line Undo (of_step step) p q = absurd (not_undo line step p q)
  spells_one line Undo Undo p q = refl

  abbrev Each : List (List ℕ) → List Command → Type 0
  Each lines commands = AllZip (λ line command. IsOneLine line × Spells sig line command) lines commands

  lists_one : (ls ks : List (List ℕ)) (cs ds : List Command) → Each ls cs → Each ks ds →
      whole_lines ls ≡ whole_lines ks → cs ≡ ds
  lists_one [] [] [] [] p q e = refl
  lists_one [] ks (c ∷ cs) ds p q e = absurd p
  lists_one (l ∷ ls) ks [] ds p q e = absurd p
  lists_one ls [] cs (d ∷ ds) p q e = absurd q
  lists_one ls (k ∷ ks) cs [] p q e = absurd q
  lists_one [] (k ∷ ks) [] (d ∷ ds) p q e = absurd (not_empty k (whole_lines ks) e)
  lists_one (l ∷ ls) [] (c ∷ cs) [] p q e = absurd (not_empty l (whole_lines ls) (sym e))
  lists_one (l ∷ ls) (k ∷ ks) (c ∷ cs) (d ∷ ds) p q e =
      let t = line_one l k (whole_lines ls) (whole_lines ks) p.0.0 q.0.0 e in
      let h : c ≡ d = spells_one l c d p.0.1 (subst (λ x. Spells sig x d) (sym t.0) q.0.1) in
      let r : cs ≡ ds = lists_one ls ks cs ds p.1 q.1 t.1 in
      λ i. h i ∷ r i

  -- the commands of a text are one list
  pub commands_one : (bytes : List ℕ) (cs ds : List Command) → AreCommands sig bytes cs → AreCommands sig bytes ds →
      cs ≡ ds
  commands_one bytes cs ds p q = lists_one p.lines q.lines cs ds p.each q.each (sym p.whole ∙ q.whole)

module _ (sig : Sig) where
  abbrev Plain : List (List ℕ) → Type 0
  Plain lines = AreLines (SpellsSome sig) lines

  -- what is stuck doesn't begin with a line that spells a command
  not_stuck : (before : List (List ℕ)) (r : List ℕ) → length before < most_commands → Next (SpellsSome sig) r →
      IsStuck sig before r → ⊥
  not_stuck before r l n (not_ended some plain) = no_newline r n.line n.after plain n.is
  not_stuck before r l n (strange line after is plain none) =
      let t = line_one n.line line n.after after n.plain plain (sym n.is ∙ is) in
      none (subst (λ x. SpellsSome sig x) t.0 n.holds)
  not_stuck before r l n (too_many some many) = omega (arith, l, many)

  fewer_not : (bytes : List ℕ) (m n : ℕ) (p : IsFaultyCommand sig bytes m) (q : IsFaultyCommand sig bytes n) →
      length p.before < length q.before → ⊥
  fewer_not bytes m n p q l = not_stuck p.before p.rest (omega (arith, l, q.few)) (next_line (SpellsSome sig) p.before
      q.before p.rest q.rest p.each q.each (sym p.whole ∙ q.whole) l) p.stuck

  -- the faulty line is one
  pub fault_one : (bytes : List ℕ) (m n : ℕ) → IsFaultyCommand sig bytes m → IsFaultyCommand sig bytes n → m ≡ n
  fault_one bytes m n p q = either (below_or_not (length p.before) (length q.before)) (below_or_not (length q.before)
      (length p.before))
    where
      either : (length p.before < length q.before) ⊎ (length q.before ≤ length p.before) →
          (length q.before < length p.before) ⊎ (length p.before ≤ length q.before) → m ≡ n
      either (inl l) h = absurd (fewer_not bytes m n p q l)
      either (inr l) (inl g) = absurd (fewer_not bytes n m q p g)
      either (inr l) (inr g) = omega (arith, l, g, p.place, q.place)

  plain_lines : (lines : List (List ℕ)) (commands : List Command) → AllZip (λ line command. IsOneLine line ×
      Spells sig line command) lines commands → Plain lines × (length lines ≡ length commands)
  plain_lines [] [] p = (tt, omega arith)
  plain_lines [] (c ∷ cs) p = absurd p
  plain_lines (l ∷ ls) [] p = absurd p
  plain_lines (l ∷ ls) (c ∷ cs) p = let r = plain_lines ls cs p.1 in (((p.0.0, (c, p.0.1)), r.0), omega (arith, r.1))

  -- and a text of commands has none
  pub no_fault : (bytes : List ℕ) (commands : List Command) (n : ℕ) → AreCommands sig bytes commands →
      IsFaultyCommand sig bytes n → ⊥
  no_fault bytes commands n p q = either (below_or_not (length q.before) (length p.lines)) (below_or_not
      (length p.lines) (length q.before))
    where
      lines : Plain p.lines × (length p.lines ≡ length commands)
      lines = plain_lines p.lines commands p.each

      same : whole_lines q.before ++ q.rest ≡ whole_lines p.lines ++ []
      same = sym q.whole ∙ p.whole ∙ sym (append-nil (whole_lines p.lines))

      empty_not : q.rest ≡ [] → IsStuck sig q.before q.rest → ⊥
      empty_not e (not_ended some plain) = some e
      empty_not e (strange line after is plain none) = not_empty line after (sym e ∙ is)
      empty_not e (too_many some many) = some e

      either : (length q.before < length p.lines) ⊎ (length p.lines ≤ length q.before) →
          (length p.lines < length q.before) ⊎ (length q.before ≤ length p.lines) → ⊥
      either (inl l) h = not_stuck q.before q.rest (omega (arith, l, lines.1, p.few)) (next_line (SpellsSome sig)
          q.before p.lines q.rest [] q.each lines.0 same l) q.stuck
      either (inr l) (inl g) = let n = next_line (SpellsSome sig) p.lines q.before [] q.rest lines.0 q.each (sym same)
          g in not_empty n.line n.after n.is
      either (inr l) (inr g) = empty_not (same_rest (SpellsSome sig) q.before p.lines q.rest [] q.each lines.0 same
          (omega (arith, l, g))) q.stuck
