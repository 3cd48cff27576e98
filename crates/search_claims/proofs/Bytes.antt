-- How many bytes the text of a claim has.
use Rattle.std.proofs.Common.{◌≡◌, ℕ, ◌+◌, ◌*◌, ◌≤◌, List, [], ◌∷◌, ◌++◌, Bool, true, false, Some, refl, ap, sym, ◌∙◌}
use Rattle.std.proofs.Common.{subst, length, length-append, arith}
use Rattle.std.specs.Prelude.{slice_get, option_map, map, codes}
use Rattle.std.specs.List.{flat_map, AllByRecursion}
use Rattle.std.specs.Fmt.{decimal}
use Rattle.std.proofs.lemmas.Fmt.{length-decimal-le}
use Rattle.std.proofs.lemmas.Option.{slice_get-map}
use Rattle.term_core.specs.Tree.{Tree, Trees, var, app, none, some, tree_size, sizes}
use Rattle.spec_core.specs.declared.records.SymInfo.{SymInfo}
use Rattle.spec_core.specs.Sig.{Sig, names_of}
use Rattle.spec_core.specs.TermText.{symbol_text, term_text, others_text}
use Rattle.clause_core.specs.declared.reports.Budget.{Budget}
use Rattle.clause_core.specs.declared.reports.Outcome.TheVariants.{Refuted, Open}
use Rattle.proof_script.specs.Claims.{yes_or_no, value_line, first_line, other_lines}
use Rattle.proof_script.specs.Names.{IsReportName}
use Rattle.proof_script.specs.Reports.{BudgetStands, OutcomeStands, ValueStands}
use Rattle.proof_script.specs.Standing.{IsShort, SymbolStands, SymbolsStand, AllSymbolsStand}
use Rattle.proof_script.specs.Words.{Word, Line, word_text, line_text, lines_text}

-- a number has at most nine digits
pub number_bytes : (n : ℕ) → IsShort n → length (decimal n) ≤ 9
number_bytes n h = length-decimal-le 9 n (omega arith) h (omega arith)

module _ (sig : Sig) where
  -- the words of a line, each after a blank
  abbrev pub words_length : List Word → ℕ
  words_length [] = 0
  words_length (w ∷ ws) = 1 + length (word_text sig w) + words_length ws

  words_are : (ws : List Word) → length (flat_map (λ w. codes " " ++ word_text sig w) ws) ≡ words_length ws
  words_are [] = refl
  words_are (w ∷ ws) = omega (
    arith,
    length-append (codes " " ++ word_text sig w) (flat_map (λ u. codes " " ++ word_text sig u) ws),
    words_are ws,
  )

  pub line_bytes : (l : Line) → length (line_text sig l) ≡ length l.head + words_length l.words + 1
  line_bytes l =
      let words = flat_map (λ w. codes " " ++ word_text sig w) l.words in
      omega (arith, length-append l.head (words ++ codes "\n"), length-append words (codes "\n"), words_are l.words)

  symbol_bytes : (f arity : ℕ) → SymbolStands sig f arity → length (symbol_text (slice_get (names_of sig) f)) ≤ 64
  symbol_bytes f arity h =
      let e : slice_get (names_of sig) f ≡ Some h.0 = slice_get-map (λ (x : List ℕ × SymInfo). x.0) sig.table f
      ∙ ap (λ x. option_map (λ (x : List ℕ × SymInfo). x.0) x) h.2 in
      subst (λ x. length (symbol_text x) ≤ 64) (sym e) h.4.short

  -- for each symbol its name, parentheses and what parts it from others: 68 bytes at most
  mutual
    term_bytes : (t : Tree) → SymbolsStand sig t → length (term_text sig [] t) + 2 ≤ 68 * tree_size t
    term_bytes (var n) h = omega (arith, number_bytes n h)
    term_bytes (app f none) h = omega (arith, symbol_bytes f _ h.0)
    term_bytes (app f (some t ts)) h =
        let name = symbol_text (slice_get (names_of sig) f) in
        let first = term_text sig [] t in
        let others = others_text sig [] ts in
        omega (
          arith,
          symbol_bytes f _ h.0,
          term_bytes t h.1.0,
          others_bytes ts h.1.1,
          length-append (((name ++ codes "(") ++ first) ++ others) (codes ")"),
          length-append ((name ++ codes "(") ++ first) others,
          length-append (name ++ codes "(") first,
          length-append name (codes "("),
        )

    others_bytes : (ts : Trees) → AllSymbolsStand sig ts → length (others_text sig [] ts) ≤ 68 * sizes ts
    others_bytes none h = omega arith
    others_bytes (some t ts) h =
        let first = term_text sig [] t in
        omega (
          arith,
          term_bytes t h.0,
          others_bytes ts h.1,
          length-append (codes ", " ++ first) (others_text sig [] ts),
          length-append (codes ", ") first,
        )

  value_bytes : (v : List ℕ × Tree) → ValueStands sig v → tree_size v.1 ≤ 255 →
      length (line_text sig (value_line v)) ≤ 17406
  value_bytes v h few = omega (arith, line_bytes (value_line v), h.name.short, term_bytes v.1 h.stands.symbols)

  values_bytes : (vs : List (List ℕ × Tree)) → AllByRecursion (ValueStands sig) vs →
      AllByRecursion (λ v. tree_size v.1 ≤ 255) vs → length (lines_text sig (map value_line vs)) ≤ 17406 * length vs
  values_bytes [] h few = omega arith
  values_bytes (v ∷ vs) h few = omega (
    arith,
    value_bytes v h.0 few.0,
    values_bytes vs h.1 few.1,
    length-append (line_text sig (value_line v)) (lines_text sig (map value_line vs)),
  )

  -- a refuted claim, if the values have at most 255 symbols
  pub refuted_bytes : (goal : List ℕ) (index : ℕ) (vs : List (List ℕ × Tree)) → IsReportName goal →
      OutcomeStands sig (Refuted index vs) → AllByRecursion (λ v. tree_size v.1 ≤ 255) vs →
      length (lines_text sig (first_line goal (Refuted index vs) ∷ other_lines (Refuted index vs))) ≤ 300000
  refuted_bytes goal index vs name h few =
      let first = first_line goal (Refuted index vs) in
      omega (
        arith,
        line_bytes first,
        length-append (line_text sig first) (lines_text sig (map value_line vs)),
        name.short,
        number_bytes index h.0,
        number_bytes (length vs) (omega (arith, h.1)),
        values_bytes vs h.2 few,
        h.1,
      )

  answer_bytes : (b : Bool) → length (yes_or_no b) ≤ 3
  answer_bytes true = omega arith
  answer_bytes false = omega arith

  -- an open claim
  pub open_bytes : (goal : List ℕ) (b : Budget) → IsReportName goal → BudgetStands b →
      length (lines_text sig (first_line goal (Open b) ∷ other_lines (Open b))) ≤ 300000
  open_bytes goal b name h =
      let first = first_line goal (Open b) in
      omega (
        arith,
        line_bytes first,
        length-append (line_text sig first) [],
        name.short,
        number_bytes b.depth (omega (arith, h.depth)),
        number_bytes b.tried h.tried,
        number_bytes b.skipped h.skipped,
        number_bytes b.plain h.plain,
        number_bytes b.nodes h.nodes,
        answer_bytes b.cut,
      )
